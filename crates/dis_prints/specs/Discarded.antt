-- A frame that is made, and goes.
use Rattle.std.specs.Prelude.{ℕ, Bool, false, nat_eq}
use Rattle.dis_meaning.specs.Words.{Place, InBlock, InFrame}
use Rattle.dis_meaning.specs.Process.{Process, with_frames}
use Rattle.dis_meaning.specs.Step.{without}

-- The frame of this serial goes, where it is made.
abbrev pub discarded : Process → (serial : ℕ) → Process
discarded p s = with_frames p p.frame p.below (without s p.made)

-- Whether a place is the frame of this serial.
abbrev pub is_frame : Place → (serial : ℕ) → Bool
is_frame (InFrame t) s = nat_eq t s
is_frame (InBlock n) s = false
