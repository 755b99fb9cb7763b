use Rattle.std.proofs.Common.{◌≡◌, length, reverse}
use Rattle.dis_format.specs.Loading.{array_at}
use Rattle.dis_filling.proofs.filled.array_at.Given as goal

abbrev pub decreases-loop-last : goal.decreases-loop-last
decreases-loop-last l = length l.older

abbrev pub invariant-loop-last : goal.invariant-loop-last
invariant-loop-last l = array_at (reverse l.older) l.block l.at ≡ array_at (reverse l.stands) l.block l.at
