-- The request of a print that waits, as it is sent.
use Rattle.std.specs.Prelude.{ℕ, ◌≡◌, List, length}
use Rattle.styx_msg.specs.declared.message.Tmsg.TheVariants as t
use Rattle.styx_msg.specs.Styx.{spelling, t_row, Fits}
use Rattle.sys_print.specs.declared.prints.Printing as code_printing
use Rattle.sys_print.specs.declared.prints.Printing.TheVariants as printing

-- The frame spells a Twrite under this tag, of a piece of so many bytes.
pub record IsSent (frame : List ℕ) (tag asked : ℕ) : Type 0 where
  pub fid : ℕ
  pub offset : ℕ
  pub piece : List ℕ
  pub fits : Fits tag (t_row (t.Write fid offset piece))
  pub spelled : frame ≡ spelling tag (t_row (t.Write fid offset piece))
  pub long : asked ≡ length piece

-- Where a print asks, its request goes over link 1, under the tag and with the length that the waiting print knows.
abbrev pub Sent : code_printing.Printing → Type 0
Sent (printing.Requests w m k) = (m.link ≡ 1) × IsSent m.frame.items k.tag k.asked
Sent _ = Unit {0}
