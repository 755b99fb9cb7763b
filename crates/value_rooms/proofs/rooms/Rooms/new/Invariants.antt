use Rattle.std.proofs.Common.{ℕ, ◌<◌, ◌≤◌}
use Rattle.std.specs.Prelude.{slice_index_or}
use Rattle.limbo_layout.specs.Layout.{limit, nothing}
use Rattle.value_rooms.proofs.rooms.Rooms.new.Given as goal

abbrev pub invariant-loop-room : goal.invariant-loop-room
invariant-loop-room l = (k : ℕ) → k < l.room-index → (slice_index_or l.room-items k nothing).size ≤ limit
