-- Instructions by their families: which is which, and that each family's do what the table of all says.
use Rattle.std.specs.Prelude.{◌≡◌, ℕ, Option, Some, None}
use Rattle.dis_isa.specs.declared.inst.Inst.{Inst}
use Rattle.dis_isa.specs.declared.op.Op.{Op}
use Rattle.dis_isa.specs.declared.op.Op.TheVariants as op
use Rattle.dis_file.specs.declared.object.Object.{Object}
use Rattle.limbo_values.specs.declared.number.Kind.TheVariants as kind
use Rattle.limbo_values.specs.declared.operator.Comparison.{Comparison}
use Rattle.dis_meaning.specs.Words.{Access, Wrong, type_check}
use Rattle.dis_meaning.specs.Numbers.{Row, Calculates, Shifts, Converts, Moves, Branches, number_row}
use Rattle.dis_meaning.specs.Process.{Process}
use Rattle.dis_memory.specs.Blocks.{World}
use Rattle.dis_memory.specs.Process.{Does}
use Rattle.dis_memory.specs.Data as data_ops
use Rattle.dis_memory.specs.Arrays as arrays
use Rattle.dis_memory.specs.Strings as strings
use Rattle.dis_memory.specs.Strings.{text_row}
use Rattle.dis_memory.specs.Lists as lists
use Rattle.dis_memory.specs.Numbers as numbers
use Rattle.dis_memory.specs.Control as control
use Rattle.dis_memory.specs.Step.{obey}
use Rattle.dis_makings.specs.declared.channels.Carried.TheVariants as carried
use Rattle.dis_makings.specs.Carried.{type_carried}
use Rattle.dis_numbers.specs.declared.table.Row as code_row
use Rattle.dis_numbers.specs.declared.table.Row.TheVariants as row
use Rattle.dis_numbers.specs.Rows.{view_row}
use Rattle.dis_steps.specs.declared.forms.Moving.{Moving}
use Rattle.dis_steps.specs.declared.forms.Moving.TheVariants as moving
use Rattle.dis_steps.specs.declared.forms.Arraying.{Arraying}
use Rattle.dis_steps.specs.declared.forms.Arraying.TheVariants as arraying
use Rattle.dis_steps.specs.declared.forms.Texting.{Texting}
use Rattle.dis_steps.specs.declared.forms.Texting.TheVariants as texting
use Rattle.dis_steps.specs.declared.forms.Listing.{Listing}
use Rattle.dis_steps.specs.declared.forms.Listing.TheVariants as listing
use Rattle.dis_steps.specs.declared.forms.Channelling.{Channelling}
use Rattle.dis_steps.specs.declared.forms.Channelling.TheVariants as channelling
use Rattle.dis_steps.specs.declared.forms.Control as code_control
use Rattle.dis_steps.specs.declared.forms.Control.TheVariants as control_form
use Rattle.dis_steps.specs.declared.forms.Form.{Form}
use Rattle.dis_steps.specs.declared.forms.Form.TheVariants as form

-- A row of the table of operations on numbers, as the program has it.
abbrev pub row_of : Row → code_row.Row
row_of (Calculates kind operator) = row.Calculates kind operator
row_of (Shifts kind shift) = row.Shifts kind shift
row_of (Converts from to) = row.Converts from to
row_of (Moves kind) = row.Moves kind
row_of (Branches kind comparison) = row.Branches kind comparison

abbrev pub by_texts : Option Comparison → Form
by_texts (Some c) = form.Compare c
by_texts None = form.Unknown

abbrev pub by_rows : Option Row → Option Comparison → Form
by_rows (Some r) t = form.Number (row_of r)
by_rows None t = by_texts t

-- The family of each operation. Those on numbers, and comparisons of strings, have tables of their own.
abbrev pub form_of : Op → Form
form_of op.Movw = form.Moves moving.Word
form_of op.Movp = form.Moves moving.Reference
form_of op.Movm = form.Moves moving.Bytes
form_of op.Movmp = form.Moves moving.Value
form_of op.Lea = form.Moves moving.Address
form_of op.New = form.Arrays arraying.Record
form_of op.Newz = form.Arrays arraying.Record
form_of op.Newa = form.Arrays arraying.Array
form_of op.Newaz = form.Arrays arraying.Array
form_of op.Indx = form.Arrays arraying.Index
form_of op.Indb = form.Arrays (arraying.IndexOf 1)
form_of op.Indw = form.Arrays (arraying.IndexOf 4)
form_of op.Indl = form.Arrays (arraying.IndexOf 8)
form_of op.Lena = form.Arrays arraying.Length
form_of op.Slicea = form.Arrays arraying.Part
form_of op.Slicela = form.Arrays arraying.Copy
form_of op.Addc = form.Texts texting.Join
form_of op.Lenc = form.Texts texting.Length
form_of op.Indc = form.Texts texting.Character
form_of op.Insc = form.Texts texting.Insert
form_of op.Slicec = form.Texts texting.Part
form_of op.Cvtwc = form.Texts (texting.OfNumber kind.Int)
form_of op.Cvtlc = form.Texts (texting.OfNumber kind.Big)
form_of op.Cvtcw = form.Texts (texting.ToNumber kind.Int)
form_of op.Cvtcl = form.Texts (texting.ToNumber kind.Big)
form_of op.Cvtca = form.Texts texting.ToBytes
form_of op.Cvtac = form.Texts texting.OfBytes
form_of op.Consb = form.Lists (listing.Number kind.Byte)
form_of op.Consw = form.Lists (listing.Number kind.Int)
form_of op.Consl = form.Lists (listing.Number kind.Big)
form_of op.Consp = form.Lists listing.Reference
form_of op.Consm = form.Lists listing.Bytes
form_of op.Consmp = form.Lists listing.Value
form_of op.Headb = form.Lists (listing.HeadNumber kind.Byte)
form_of op.Headw = form.Lists (listing.HeadNumber kind.Int)
form_of op.Headl = form.Lists (listing.HeadNumber kind.Big)
form_of op.Headp = form.Lists listing.HeadReference
form_of op.Headm = form.Lists listing.HeadBytes
form_of op.Headmp = form.Lists listing.HeadValue
form_of op.Tail = form.Lists listing.Rest
form_of op.Lenl = form.Lists listing.Length
form_of op.Newcb = form.Channels (channelling.Of carried.Byte)
form_of op.Newcw = form.Channels (channelling.Of carried.Word)
form_of op.Newcl = form.Channels (channelling.Of carried.Big)
form_of op.Newcp = form.Channels (channelling.Of carried.Reference)
form_of op.Newcm = form.Channels channelling.Bytes
form_of op.Newcmp = form.Channels channelling.Value
form_of op.Jmp = form.Controls control_form.Jump
form_of op.Frame = form.Controls control_form.Frame
form_of op.Call = form.Controls control_form.Call
form_of op.Ret = form.Controls control_form.Return
form_of op.Load = form.Controls control_form.Load
form_of op.Mcall = form.Controls control_form.CallModule
form_of operation = by_rows (number_row operation) (text_row operation)

-- What the instructions of each family do.
module _ (limit : ℕ) (o : Object) (x : World) (p : Process) (i : Inst) where
  abbrev pub moves : Moving → Access Does
  moves moving.Word = data_ops.movw o x p i
  moves moving.Reference = data_ops.movp o x p i
  moves moving.Bytes = data_ops.movm o x p i
  moves moving.Value = data_ops.movmp o x p i
  moves moving.Address = data_ops.lea o x p i

  abbrev pub on_arrays : Arraying → Access Does
  on_arrays arraying.Record = arrays.new o x p i
  on_arrays arraying.Array = arrays.newa o x p i
  on_arrays arraying.Index = arrays.indx o x p i
  on_arrays (arraying.IndexOf size) = arrays.ind_of o x p i size
  on_arrays arraying.Length = arrays.lena o x p i
  on_arrays arraying.Part = arrays.slicea o x p i
  on_arrays arraying.Copy = arrays.slicela o x p i

  abbrev pub on_texts : Texting → Access Does
  on_texts texting.Join = strings.addc o x p i
  on_texts texting.Length = strings.lenc o x p i
  on_texts texting.Character = strings.indc o x p i
  on_texts texting.Insert = strings.insc o x p i
  on_texts texting.Part = strings.slicec o x p i
  on_texts (texting.OfNumber kind) = strings.text_of_number o x p i kind
  on_texts (texting.ToNumber kind) = strings.number_of_text o x p i kind
  on_texts texting.ToBytes = strings.cvtca o x p i
  on_texts texting.OfBytes = strings.cvtac o x p i

  abbrev pub on_lists : Listing → Access Does
  on_lists (listing.Number kind) = lists.cons_number o x p i kind
  on_lists listing.Reference = lists.consp o x p i
  on_lists listing.Bytes = lists.consm o x p i
  on_lists listing.Value = lists.consmp o x p i
  on_lists (listing.HeadNumber kind) = lists.head_number o x p i kind
  on_lists listing.HeadReference = lists.headp o x p i
  on_lists listing.HeadBytes = lists.headm o x p i
  on_lists listing.HeadValue = lists.headmp o x p i
  on_lists listing.Rest = lists.tail o x p i
  on_lists listing.Length = lists.lenl o x p i

  abbrev pub on_channels : Channelling → Access Does
  on_channels (channelling.Of carried) = lists.newc o x p i (type_carried carried)
  on_channels channelling.Bytes = lists.newcm o x p i
  on_channels channelling.Value = lists.newcmp o x p i

  abbrev pub controls : code_control.Control → Access Does
  controls control_form.Jump = control.jmp limit o x p i
  controls control_form.Frame = control.frame limit o x p i
  controls control_form.Call = control.call limit o x p i
  controls control_form.Return = control.ret limit o x p i
  controls control_form.Load = control.load limit o x p i
  controls control_form.CallModule = control.mcall limit o x p i

  abbrev pub obeyed : Form → Access Does
  obeyed (form.Number r) = numbers.by_row o x p i (view_row r)
  obeyed (form.Compare c) = strings.compares o x p i c
  obeyed (form.Moves f) = moves f
  obeyed (form.Arrays f) = on_arrays f
  obeyed (form.Texts f) = on_texts f
  obeyed (form.Lists f) = on_lists f
  obeyed (form.Channels f) = on_channels f
  obeyed (form.Controls f) = controls f
  obeyed form.Unknown = Wrong type_check

-- Each operation does what its family says.
abbrev pub FormsObey : Type 0
FormsObey = (limit : ℕ) (o : Object) (x : World) (p : Process) (i : Inst) (c : Op) → obey limit o x p i c ≡ obeyed limit o x p i (form_of c)
