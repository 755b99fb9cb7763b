use Rattle.std.proofs.Common.{take}
use Rattle.limbo_defined.specs.Sets.{IsSetOf}
use Rattle.limbo_defined.proofs.sets.set_of.Given as goal

abbrev pub invariant-loop-number : goal.invariant-loop-number
invariant-loop-number l = IsSetOf l.set (take l.number l.labels)
