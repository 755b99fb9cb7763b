use Rattle.std.proofs.Common.{◌≡◌, drop}
use Rattle.limbo_types.specs.View.{view_tys}
use Rattle.limbo_layout.specs.Layout.{all_behind, nothing}
use Rattle.limbo_layout.specs.Laying.{all_rooms}
use Rattle.limbo_layout.proofs.laying.+putting.Given as goal

abbrev pub invariant-tuple_room-loop-t : goal.invariant-tuple_room-loop-t
invariant-tuple_room-loop-t l = all_behind l.whole (all_rooms l.rooms (view_tys (drop l.t-index l.parts))) ≡ all_behind nothing (all_rooms l.rooms (view_tys l.parts))
