use Rattle.std.proofs.Common.{◌≡◌, ℕ, ◌<◌, [], Some}
use Rattle.std.specs.Prelude.{slice_get}
use Rattle.dis_memory.specs.Step.{type_of_size}
use Rattle.dis_makings.proofs.types.plain_of.Given as goal

-- None of those that were looked at is it.
abbrev pub invariant-loop-k : goal.invariant-loop-k
invariant-loop-k l = (j : ℕ) → j < l.k → slice_get l.types j ≡ Some (type_of_size l.size []) → ⊥
