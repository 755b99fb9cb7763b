use Rattle.std.proofs.Common.{◌≡◌}
use Rattle.value_rooms.specs.Names.{names_after, view_names}
use Rattle.value_rooms.specs.Tables.{view_parts}
use Rattle.value_rooms.proofs.names.names_of.Given as goal

abbrev pub invariant-loop : goal.invariant-loop
invariant-loop l = view_names l.names.items ≡ names_after l.table (view_parts l.all) l.counter
