-- Frames of the program, as the definitions have them, and how often a serial occurs among them.
use Rattle.std.specs.Prelude.{◌≡◌, ℕ, ◌+◌, Some, slice_get, List, [], ◌∷◌, map, nat_eq, if◌then◌else◌}
use Rattle.dis_meaning.specs.Process.{Frame}
use Rattle.dis_places.specs.declared.frame.Frame as code_frame
use Rattle.dis_places.specs.Words.{view_words}

abbrev pub view_frame : code_frame.Frame → Frame
view_frame f = record { serial = f.serial; instance = f.instance.serial; pc = f.pc; words = view_words f.words.items }

abbrev pub view_frames : List code_frame.Frame → List Frame
view_frames fs = map view_frame fs

-- Whether a frame has this serial, as a number.
abbrev pub one : (serial : ℕ) → Frame → ℕ
one n f = if nat_eq f.serial n then 1 else 0

abbrev pub count : (serial : ℕ) → List Frame → ℕ
count n [] = 0
count n (f ∷ fs) = one n f + count n fs

-- How often a serial occurs in a process: in the frame that runs, those below and those that are made.
abbrev pub occurs : (serial : ℕ) → Frame → List Frame → List Frame → ℕ
occurs n f below made = one n f + count n below + count n made

-- A frame of this serial stands at a place of a list.
pub record IsAt (serial : ℕ) (fs : List Frame) (place : ℕ) : Type 0 where
  pub frame : Frame
  pub there : slice_get fs place ≡ Some frame
  pub same : frame.serial ≡ serial
