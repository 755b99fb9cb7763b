use Rattle.std.proofs.Common.{◌≡◌, take}
use Rattle.value_rooms.specs.Tables.{round, view_parts}
use Rattle.value_rooms.proofs.table.next_table.Given as goal

abbrev pub invariant-loop-parts : goal.invariant-loop-parts
invariant-loop-parts l = l.next.items ≡ round l.table (view_parts (take l.parts-index l.all))
