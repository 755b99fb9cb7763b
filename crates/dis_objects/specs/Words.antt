-- How large frames and data are at most.
use Rattle.std.specs.Prelude.{ℕ, ◌≤◌, ◌≡◌, List, Some, slice_get}
use Rattle.slot_code.specs.Code.{Function, Module}
use Rattle.dis_objects.specs.Frames.{room_of}
use Rattle.dis_objects.specs.Code.{globals_bytes}

-- The bytes of a frame.
abbrev pub frame_limit : ℕ
frame_limit = 65536

-- The bytes of the module's variables: four times those of a frame, since a byte takes a word here.
abbrev pub globals_limit : ℕ
globals_limit = 262144

-- The bytes of the module's data, so that a place of them is far below 2 ^ 31: code of 1,048,576 instructions has at most 16 for each.
abbrev pub data_limit : ℕ
data_limit = 33554432

-- A frame has at most so many.
abbrev pub SmallFrame : List Function → Function → Type 0
SmallFrame fs f = (room_of fs f).size ≤ frame_limit

abbrev pub AllSmallFrames : List Function → Type 0
AllSmallFrames fs = (n : ℕ) (f : Function) → slice_get fs n ≡ Some f → SmallFrame fs f

-- All frames of a module have, and its variables take at most four times as many. So does then the frame of each print, since the frame of
-- the function that prints has its arguments too.
pub record AllSmall (m : Module) : Type 0 where
  pub frames : AllSmallFrames m.functions
  pub globals : globals_bytes m.globals ≤ globals_limit
