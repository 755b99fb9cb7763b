use Rattle.limbo_context.proofs.Variants.{NoneBefore}
use Rattle.limbo_context.proofs.looking.variant_named.Given as goal

abbrev pub invariant-loop-place : goal.invariant-loop-place
invariant-loop-place l = NoneBefore l.picks l.name l.place
