use Rattle.std.proofs.Common.{◌≡◌, length}
use Rattle.dis_values.specs.Arrays.{any_marked}
use Rattle.dis_values.proofs.arrays.has_mark.Given as goal

-- what is left has a mark exactly where the whole has
abbrev pub invariant-loop-rest : goal.invariant-loop-rest
invariant-loop-rest l = any_marked l.rest ≡ any_marked l.fn.marks

abbrev pub decreases-loop-rest : goal.decreases-loop-rest
decreases-loop-rest l = length l.rest
