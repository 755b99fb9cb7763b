use Rattle.std.proofs.Common.{sym, subst}
use Rattle.limbo_lexer.specs.Pieces.{GoesOn}
use Rattle.limbo_lexer.proofs.Parts.{goes_more}
use Rattle.limbo_lexer.proofs.constants.string_at.Goals as goal

pub loop-chars-preserved : goal.loop-chars-preserved
loop-chars-preserved c =
    subst (λ x. GoesOn c.args.text.now x c.in-Some.after.now) (sym c.in_ok-push.ensures.ok)
    (goes_more c.args.text.now c.loop-chars.chars c.loop-chars.rest.now c.in-Some.c c.in-Some.after.now c.loop-chars.invariant (rw c.in-Some.is at c.in_ok-c.ensures.found))
