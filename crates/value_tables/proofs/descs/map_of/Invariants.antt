use Rattle.std.proofs.Common.{◌≡◌, ◌++◌, ◌*◌, drop}
use Rattle.value_tables.proofs.Maps.{map_all}
use Rattle.value_tables.proofs.descs.map_of.Given as goal

-- The bytes so far and those of the marks that are left are the whole.
abbrev pub invariant-loop-number : goal.invariant-loop-number
invariant-loop-number l = l.map.items ++ map_all (drop (8 * l.number) l.marks) ≡ map_all l.marks
