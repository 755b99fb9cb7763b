use Rattle.std.proofs.Common.{◌≡◌, ◌+◌, ◌≤◌, drop}
use Rattle.limbo_types.specs.View.{view_ty}
use Rattle.limbo_layout.specs.Layout.{limit}
use Rattle.limbo_layout.specs.View.{view_defs}
use Rattle.value_frames.specs.Frames.{within}
use Rattle.value_rooms.proofs.rooms.Rooms.within.Given as goal

abbrev pub invariant-loop-number : goal.invariant-loop-number
invariant-loop-number l = record {
  small : l.at ≤ limit;
  left :
      l.at + within (view_defs l.self) (view_ty l.whole) (drop l.number-index l.part)
      ≡ within (view_defs l.self) (view_ty l.fn.t) l.part;
}
