use Rattle.std.proofs.Common.{◌≡◌, drop}
use Rattle.limbo_types.specs.View.{view_tys}
use Rattle.value_rooms.specs.Cut.{all_behind, all_taken}
use Rattle.value_rooms.proofs.table.+putting.Given as goal

abbrev pub invariant-put_types-loop-t : goal.invariant-put_types-loop-t
invariant-put_types-loop-t l =
    all_behind l.whole (all_taken l.table (view_tys (drop l.t-index l.types))) ≡ all_behind l.fn.whole (all_taken l.table (view_tys l.types))
