use Rattle.std.proofs.Common.{◌≡◌, ◌+◌, ◌-◌}
use Rattle.dis_format.specs.Loading.{all_plain}
use Rattle.dis_filling.proofs.filled.all_plain.Given as goal

abbrev pub invariant-loop-at : goal.invariant-loop-at
invariant-loop-at l = all_plain l.types l.block l.at (l.offset + l.count - l.at) ≡ all_plain l.types l.block l.offset l.count
