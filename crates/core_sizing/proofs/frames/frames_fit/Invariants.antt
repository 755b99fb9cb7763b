use Rattle.std.proofs.Common.{ℕ, ◌<◌, ◌≤◌, ◌≡◌, Some}
use Rattle.std.specs.Prelude.{slice_get, map}
use Rattle.limbo_layout.specs.View.{view_defs}
use Rattle.limbo_typed.specs.Typed.{Function}
use Rattle.limbo_typed.specs.View.{view_function}
use Rattle.core_frames.specs.Sizes.{frame_size, largest_frame}
use Rattle.core_sizing.proofs.frames.frames_fit.Given as goal

abbrev pub invariant-loop-f : goal.invariant-loop-f
invariant-loop-f l = (k : ℕ) (g : Function) → k < l.f-index → slice_get (map view_function l.m.functions.items) k ≡ Some g
    → frame_size (view_defs l.extents) g ≤ largest_frame
