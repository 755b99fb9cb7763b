-- Frames that are made and called.
use Rattle.std.specs.Prelude.{◌≡◌, ℕ, suc, ◌-◌, pos, List, [], ◌∷◌, ◌++◌, length, take, Some, slice_get}
use Rattle.dis_meaning.specs.Words.{InFrame, Word, Address, Access, Found, Wrong, ◌>>=◌, type_check}
use Rattle.dis_meaning.specs.Process.{Frame, Process, with_frames, at_pc}
use Rattle.dis_meaning.specs.Places.{Spot}
use Rattle.dis_meaning.specs.Step.{without}
use Rattle.dis_memory.specs.Blocks.{World}
use Rattle.dis_memory.specs.Control.{framed, next_frame}
use Rattle.dis_memory.specs.Places.{store}
use Rattle.dis_memory.specs.Process.{Does, next}
use Rattle.dis_places.specs.declared.process.Process as code_process
use Rattle.dis_places.specs.Frames.{view_frames}

-- The frame at a place among those that are made is the one that is found.
pub record Made (p : code_process.Process) (place : ℕ) (access : Access Frame) : Type 0 where
  pub frame : Frame
  pub there : slice_get (view_frames p.made.items) place ≡ Some frame
  pub found : access ≡ Found frame

-- The frame goes on there, and the frame that ran waits for it at its next instruction.
abbrev pub entered : Process → Frame → (pc : ℕ) → Process
entered p f pc = with_frames p (at_pc f pc) (at_pc p.frame (suc p.frame.pc) ∷ p.below) (without f.serial p.made)

-- No block is a frame.
abbrev pub no_frame : Access Frame
no_frame = Wrong type_check

-- A new frame, in an instance; a process in which one more is made; and one without the last that was.
abbrev pub blank_frame : (serial instance : ℕ) → List Word → Frame
blank_frame s n words = record { serial = s; instance = n; pc = 0; words = words }

abbrev pub with_made : Process → Frame → Process
with_made p f = record { number = p.number; frame = p.frame; below = p.below; made = p.made ++ f ∷ []; printing = p.printing }

abbrev pub without_last : Process → Process
without_last p =
    record { number = p.number; frame = p.frame; below = p.below; made = take (length p.made - 1) p.made; printing = p.printing }

-- The address of a new frame is stored, the frame of these words is made, and the next instruction follows.
abbrev pub frame_stored : World → Process → Spot → List Word → Access Does
frame_stored x p s words = store x p s (Address (InFrame (next_frame x)) (pos 0)) >>= λ m. Found (next (framed m words))
