use Rattle.std.proofs.Common.{◌≡◌, ◌++◌, ◌*◌, drop}
use Rattle.dis_objects.specs.Objects.{map_of}
use Rattle.dis_objects.proofs.types.map_of.Given as goal

-- The bytes so far and those of the marks that are left are the whole.
abbrev pub invariant-loop-number : goal.invariant-loop-number
invariant-loop-number l = l.map.items ++ map_of (drop (8 * l.number) l.marks) ≡ map_of l.marks
