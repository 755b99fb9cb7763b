use Rattle.std.proofs.Common.{◌≡◌}
use Rattle.value_rooms.specs.Tables.{table_after, view_parts}
use Rattle.value_rooms.proofs.table.table_of.Given as goal

abbrev pub invariant-loop : goal.invariant-loop
invariant-loop l = l.table.items ≡ table_after (view_parts l.all) l.counter
