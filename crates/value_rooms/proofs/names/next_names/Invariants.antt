use Rattle.std.proofs.Common.{◌≡◌, take}
use Rattle.value_rooms.specs.Names.{names_round, view_names}
use Rattle.value_rooms.specs.Tables.{view_parts}
use Rattle.value_rooms.proofs.names.next_names.Given as goal

abbrev pub invariant-loop-parts : goal.invariant-loop-parts
invariant-loop-parts l =
    view_names l.next.items ≡ names_round l.table (view_parts (take l.parts-index l.all)) (view_names l.adts)
