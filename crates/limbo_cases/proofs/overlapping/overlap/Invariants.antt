use Rattle.limbo_cases.specs.Keeping.{IsKept, held}
use Rattle.limbo_cases.proofs.overlapping.overlap.Given as goal

abbrev pub invariant-loop-later : goal.invariant-loop-later
invariant-loop-later g l = IsKept g.T.Ord.cmp l.labels l.later (held g.T.Ord.cmp l.kept)
