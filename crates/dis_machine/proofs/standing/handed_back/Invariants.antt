use Rattle.std.proofs.Common.{◌≡◌, ◌++◌, ◌+◌, ◌≤◌, length}
use Rattle.std.specs.Vec.{vec_len, vec_capacity}
use Rattle.std.specs.Vec.Iter.{into_iter_items, into_iter_len}
use Rattle.dis_machine.specs.Standing.{objects_in}
use Rattle.dis_machine.proofs.standing.handed_back.Given as goal

-- Those that are back, and those that are left; and there is room for these.
abbrev pub invariant-loop-name : goal.invariant-loop-name
invariant-loop-name l =
    (l.back.items ++ objects_in (into_iter_items l.name-iterator) ≡ objects_in (into_iter_items l.initial.name-iterator))
    × (vec_len l.back + into_iter_len l.name-iterator ≤ vec_capacity l.back)
    × (into_iter_len l.name-iterator ≡ length (into_iter_items l.name-iterator))
