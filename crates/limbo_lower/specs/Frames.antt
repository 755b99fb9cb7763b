-- How large the frames of functions are.
use Rattle.std.specs.Prelude.{◌≡◌, ℕ, ◌≤◌, List, Some, map, slice_get}
use Rattle.limbo_layout.specs.Adts.{Def}
use Rattle.limbo_typed.specs.Typed.{Function}
use Rattle.limbo_typed.specs.View.{view_function}
use Rattle.limbo_typed.specs.declared.module.TFn.{TFn}
use Rattle.core_frames.specs.Sizes.{frame_size, largest_frame}

-- None is too large.
abbrev pub FramesFit : List Def → List TFn → Type 0
FramesFit defs fs = (n : ℕ) (f : Function) → slice_get (map view_function fs) n ≡ Some f → frame_size defs f ≤ largest_frame
