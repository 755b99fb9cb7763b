use Rattle.std.proofs.Common.{◌≡◌, drop}
use Rattle.limbo_paths.specs.Walking.{has_number}
use Rattle.limbo_paths.proofs.taking.has_number.Given as goal

abbrev pub invariant-loop-n : goal.invariant-loop-n
invariant-loop-n l = has_number l.number (drop l.n-index l.numbers) ≡ has_number l.number l.numbers
