use Rattle.std.proofs.Common.{◌≡◌, drop}
use Rattle.limbo_types.specs.View.{view_ty}
use Rattle.limbo_layout.specs.View.{view_defs}
use Rattle.value_frames.specs.Frames.{type_within}
use Rattle.value_rooms.proofs.rooms.Rooms.type_within.Given as goal

abbrev pub invariant-loop-number : goal.invariant-loop-number
invariant-loop-number l =
    type_within (view_defs l.self) (view_ty l.whole) (drop l.number-index l.part) ≡ type_within (view_defs l.self) (view_ty l.fn.t) l.part
