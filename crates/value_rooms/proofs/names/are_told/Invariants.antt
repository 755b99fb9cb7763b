use Rattle.std.proofs.Common.{take}
use Rattle.limbo_layout.specs.Laying.{AllBelow}
use Rattle.value_rooms.specs.Cut.{most}
use Rattle.value_rooms.proofs.names.are_told.Given as goal

abbrev pub invariant-loop-name : goal.invariant-loop-name
invariant-loop-name l = AllBelow most (take l.name-index l.names)
