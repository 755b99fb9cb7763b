use Rattle.std.proofs.Common.{◌≡◌, ◌++◌, take}
use Rattle.value_rooms.specs.Names.{moved}
use Rattle.value_rooms.proofs.names.put_moved.Given as goal

abbrev pub invariant-loop-offset : goal.invariant-loop-offset
invariant-loop-offset l = l.names.items ≡ l.fn.names.items ++ moved l.at (take l.offset-index l.offsets)
