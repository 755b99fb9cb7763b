use Rattle.limbo_lexer.proofs.Cutting.{one_token_list}
use Rattle.limbo_lexer.proofs.laws.one_token_list.Goals as goal

pub returns : goal.returns
returns c = one_token_list
