use Rattle.std.proofs.Common.{◌≡◌, ◌++◌, take}
use Rattle.limbo_heads.specs.Singles.{singles}
use Rattle.limbo_heads.proofs.once.push_singles.Given as goal

abbrev pub invariant-loop-number : goal.invariant-loop-number
invariant-loop-number l = l.labels.items ≡ l.initial.labels.items ++ singles (take l.number-index l.numbers)
