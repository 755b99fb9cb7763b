-- Requests as they are sent.
use Rattle.std.specs.Prelude.{◌≡◌, ℕ, List, Bool, Option}
use Rattle.std.specs.Io.KnownBytes.{Appends}
use Rattle.styx_msg.specs.declared.message.Rmsg.{Rmsg}
use Rattle.styx_msg.specs.declared.message.Tmsg.{Tmsg}
use Rattle.styx_msg.specs.Styx.{t_row, r_row, spelling, Fits}
use Rattle.console_server.specs.Console.{Answers}

-- the frame is this request under this tag
pub record IsRequest (frame : List ℕ) (tag : ℕ) (m : Tmsg) : Type 0 where
  pub fits : Fits tag (t_row m)
  pub spelled : frame ≡ spelling tag (t_row m)

-- the console answered this request, and its sink took the bytes that it writes
pub record IsServed (before : Bool) (tag : ℕ) (m : Tmsg) (frame : List ℕ) (failed : Bool) (old new : Option (List ℕ)) : Type 0 where
  pub reply : Rmsg
  pub bytes : List ℕ
  pub frame_is : frame ≡ spelling tag (r_row reply)
  pub answers : Answers before m reply bytes failed
  pub grown : Appends old new bytes
