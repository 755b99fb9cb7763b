use Rattle.limbo_lexer.specs.Words.{marks}
use Rattle.limbo_lexer.proofs.words.mark_of.Goals as goal

pub returns : goal.returns
unfolding marks
returns c = c.listed.ensures
