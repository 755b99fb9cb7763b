-- How the block of a value of the heap is laid out.
use Rattle.std.specs.Prelude.{ℕ, Option, None, Some}
use Rattle.limbo_types.specs.Types as ty
use Rattle.limbo_types.specs.Types.{Ty}

-- Of which form a block is that stands for a value of the heap: so many elements of a type, a cell of a list of a type, an adt, a
-- channel, the module's instance; and of one that a frame has as its own, which the frame is, by its serial.
pub data Form : Type 0 where
  Elements : (item : Ty) → (long : ℕ) → Form
  Cells : (item : Ty) → Form
  Adts : (adt : ℕ) → Form
  Channels : (item : Ty) → Form
  Instances : Form
  OwnedBy : (frame : ℕ) → Form

-- The form of the block that a value of a type names; of other types, and of those whose only value is `nil`, there is none.
abbrev pub form_of : Ty → Option Form
form_of (ty.ListOf t) = Some (Cells t)
form_of (ty.ChanOf t) = Some (Channels t)
form_of (ty.RefAdt n) = Some (Adts n)
form_of (ty.RefPick n k) = Some (Adts n)
form_of t = None
