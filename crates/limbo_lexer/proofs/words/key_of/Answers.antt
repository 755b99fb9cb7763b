use Rattle.limbo_lexer.specs.Words.{keywords}
use Rattle.limbo_lexer.proofs.words.key_of.Goals as goal

pub returns : goal.returns
unfolding keywords
returns c = c.listed.ensures
