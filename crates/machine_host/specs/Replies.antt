-- Replies of the console that a print takes.
use Rattle.std.specs.Prelude.{ℕ, ◌≡◌, ◌≤◌, List}
use Rattle.styx_msg.specs.declared.message.Rmsg.{Rmsg}
use Rattle.styx_msg.specs.declared.message.Rmsg.TheVariants as r
use Rattle.styx_msg.specs.Styx.{spelling, r_row, Fits}

-- A count of at most the bytes that were asked to be written, or a refusal.
abbrev pub Answers : (asked : ℕ) → Rmsg → Type 0
Answers asked (r.Write count) = count ≤ asked
Answers asked (r.Error ename) = Unit {0}
Answers asked _ = ⊥

-- The frame is such a reply under this tag.
pub record IsReply (tag asked : ℕ) (frame : List ℕ) : Type 0 where
  pub reply : Rmsg
  pub fits : Fits tag (r_row reply)
  pub spelled : frame ≡ spelling tag (r_row reply)
  pub answers : Answers asked reply
