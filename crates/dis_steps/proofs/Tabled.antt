-- Operations by their families.
use Rattle.std.proofs.Common.{◌≡◌, ℕ, Option, Some, None, refl, sym, ap, ◌∙◌}
use Rattle.limbo_values.specs.declared.operator.Comparison.{Comparison}
use Rattle.dis_isa.specs.declared.inst.Inst.{Inst}
use Rattle.dis_isa.specs.declared.op.Op.{Op}
use Rattle.dis_isa.specs.declared.op.Op.TheVariants as op
use Rattle.dis_file.specs.declared.object.Object.{Object}
use Rattle.dis_meaning.specs.Numbers.{Row, Calculates, Shifts, Converts, Moves, Branches, number_row}
use Rattle.dis_meaning.specs.Process.{Process}
use Rattle.dis_memory.specs.Blocks.{World}
use Rattle.dis_memory.specs.Strings.{text_row}
use Rattle.dis_memory.specs.Step.{obey, by_texts, by_numbers}
use Rattle.dis_steps.specs.Forms.{by_rows, form_of, obeyed}

module _ (limit : ℕ) (o : Object) (x : World) (p : Process) (i : Inst) where
  texts : (t : Option Comparison) → by_texts limit o x p i t ≡ obeyed limit o x p i (by_rows None t)
  texts (Some c) = refl
  texts None = refl

  tables : (c : Op) (r : Option Row) (t : Option Comparison) → t ≡ text_row c → by_numbers limit o x p i c r ≡ obeyed limit o x p i (by_rows r t)
  tables c (Some (Calculates kind operator)) t e = refl
  tables c (Some (Shifts kind shift)) t e = refl
  tables c (Some (Converts from to)) t e = refl
  tables c (Some (Moves kind)) t e = refl
  tables c (Some (Branches kind comparison)) t e = refl
  tables c None t e = ap (by_texts limit o x p i) (sym e) ∙ texts t

  pub forms_obey : (c : Op) → obey limit o x p i c ≡ obeyed limit o x p i (form_of c)
  forms_obey op.Movw = refl
  forms_obey op.Movp = refl
  forms_obey op.Movm = refl
  forms_obey op.Movmp = refl
  forms_obey op.Lea = refl
  forms_obey op.New = refl
  forms_obey op.Newz = refl
  forms_obey op.Newa = refl
  forms_obey op.Newaz = refl
  forms_obey op.Indx = refl
  forms_obey op.Indb = refl
  forms_obey op.Indw = refl
  forms_obey op.Indl = refl
  forms_obey op.Lena = refl
  forms_obey op.Slicea = refl
  forms_obey op.Slicela = refl
  forms_obey op.Addc = refl
  forms_obey op.Lenc = refl
  forms_obey op.Indc = refl
  forms_obey op.Insc = refl
  forms_obey op.Slicec = refl
  forms_obey op.Cvtwc = refl
  forms_obey op.Cvtlc = refl
  forms_obey op.Cvtcw = refl
  forms_obey op.Cvtcl = refl
  forms_obey op.Cvtca = refl
  forms_obey op.Cvtac = refl
  forms_obey op.Consb = refl
  forms_obey op.Consw = refl
  forms_obey op.Consl = refl
  forms_obey op.Consp = refl
  forms_obey op.Consm = refl
  forms_obey op.Consmp = refl
  forms_obey op.Headb = refl
  forms_obey op.Headw = refl
  forms_obey op.Headl = refl
  forms_obey op.Headp = refl
  forms_obey op.Headm = refl
  forms_obey op.Headmp = refl
  forms_obey op.Tail = refl
  forms_obey op.Lenl = refl
  forms_obey op.Newcb = refl
  forms_obey op.Newcw = refl
  forms_obey op.Newcl = refl
  forms_obey op.Newcp = refl
  forms_obey op.Newcm = refl
  forms_obey op.Newcmp = refl
  forms_obey op.Jmp = refl
  forms_obey op.Frame = refl
  forms_obey op.Call = refl
  forms_obey op.Ret = refl
  forms_obey op.Load = refl
  forms_obey op.Mcall = refl
  forms_obey c = tables c (number_row c) (text_row c) refl
