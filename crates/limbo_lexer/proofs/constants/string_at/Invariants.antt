use Rattle.std.proofs.Common.{length}
use Rattle.limbo_lexer.specs.Pieces.{GoesOn}
use Rattle.limbo_lexer.proofs.constants.string_at.Given as goal

abbrev pub invariant-loop-chars : goal.invariant-loop-chars
invariant-loop-chars l = GoesOn l.fn.text l.chars l.rest

abbrev pub decreases-loop-chars : goal.decreases-loop-chars
decreases-loop-chars l = length l.rest
