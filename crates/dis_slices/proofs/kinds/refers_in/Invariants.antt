use Rattle.std.proofs.Common.{◌≡◌, ℕ, ◌<◌, false}
use Rattle.dis_file.specs.References.{marks}
use Rattle.dis_slices.proofs.kinds.refers_in.Given as goal

abbrev pub invariant-loop-k : goal.invariant-loop-k
invariant-loop-k l = (j : ℕ) → j < l.k → marks l.desc.map j ≡ false
