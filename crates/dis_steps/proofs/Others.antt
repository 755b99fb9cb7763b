-- Operations that have no form but by the tables.
use Rattle.std.proofs.Common.{◌≡◌, refl}
use Rattle.dis_isa.specs.declared.op.Op.{Op}
use Rattle.dis_isa.specs.declared.op.Op.TheVariants as op
use Rattle.dis_meaning.specs.Numbers.{number_row}
use Rattle.dis_memory.specs.Strings.{text_row}
use Rattle.dis_steps.specs.declared.forms.Form.{Form}
use Rattle.dis_steps.specs.Forms.{by_rows, form_of}

-- The operation is none that has a form of its own.
pub record IsOther (c : Op) : Type 0 where
  pub not-Movw : c ≡ op.Movw → ⊥
  pub not-Movp : c ≡ op.Movp → ⊥
  pub not-Movm : c ≡ op.Movm → ⊥
  pub not-Movmp : c ≡ op.Movmp → ⊥
  pub not-Lea : c ≡ op.Lea → ⊥
  pub not-New : c ≡ op.New → ⊥
  pub not-Newz : c ≡ op.Newz → ⊥
  pub not-Newa : c ≡ op.Newa → ⊥
  pub not-Newaz : c ≡ op.Newaz → ⊥
  pub not-Indx : c ≡ op.Indx → ⊥
  pub not-Indb : c ≡ op.Indb → ⊥
  pub not-Indw : c ≡ op.Indw → ⊥
  pub not-Indl : c ≡ op.Indl → ⊥
  pub not-Lena : c ≡ op.Lena → ⊥
  pub not-Slicea : c ≡ op.Slicea → ⊥
  pub not-Slicela : c ≡ op.Slicela → ⊥
  pub not-Addc : c ≡ op.Addc → ⊥
  pub not-Lenc : c ≡ op.Lenc → ⊥
  pub not-Indc : c ≡ op.Indc → ⊥
  pub not-Insc : c ≡ op.Insc → ⊥
  pub not-Slicec : c ≡ op.Slicec → ⊥
  pub not-Cvtwc : c ≡ op.Cvtwc → ⊥
  pub not-Cvtlc : c ≡ op.Cvtlc → ⊥
  pub not-Cvtcw : c ≡ op.Cvtcw → ⊥
  pub not-Cvtcl : c ≡ op.Cvtcl → ⊥
  pub not-Cvtca : c ≡ op.Cvtca → ⊥
  pub not-Cvtac : c ≡ op.Cvtac → ⊥
  pub not-Consb : c ≡ op.Consb → ⊥
  pub not-Consw : c ≡ op.Consw → ⊥
  pub not-Consl : c ≡ op.Consl → ⊥
  pub not-Consp : c ≡ op.Consp → ⊥
  pub not-Consm : c ≡ op.Consm → ⊥
  pub not-Consmp : c ≡ op.Consmp → ⊥
  pub not-Headb : c ≡ op.Headb → ⊥
  pub not-Headw : c ≡ op.Headw → ⊥
  pub not-Headl : c ≡ op.Headl → ⊥
  pub not-Headp : c ≡ op.Headp → ⊥
  pub not-Headm : c ≡ op.Headm → ⊥
  pub not-Headmp : c ≡ op.Headmp → ⊥
  pub not-Tail : c ≡ op.Tail → ⊥
  pub not-Lenl : c ≡ op.Lenl → ⊥
  pub not-Newcb : c ≡ op.Newcb → ⊥
  pub not-Newcw : c ≡ op.Newcw → ⊥
  pub not-Newcl : c ≡ op.Newcl → ⊥
  pub not-Newcp : c ≡ op.Newcp → ⊥
  pub not-Newcm : c ≡ op.Newcm → ⊥
  pub not-Newcmp : c ≡ op.Newcmp → ⊥
  pub not-Jmp : c ≡ op.Jmp → ⊥
  pub not-Frame : c ≡ op.Frame → ⊥
  pub not-Call : c ≡ op.Call → ⊥
  pub not-Ret : c ≡ op.Ret → ⊥
  pub not-Load : c ≡ op.Load → ⊥
  pub not-Mcall : c ≡ op.Mcall → ⊥

pub other_form : (c : Op) (f : Form) → f ≡ by_rows (number_row c) (text_row c) → IsOther c → f ≡ form_of c
other_form op.Movw f e n = absurd (n.not-Movw refl)
other_form op.Movp f e n = absurd (n.not-Movp refl)
other_form op.Movm f e n = absurd (n.not-Movm refl)
other_form op.Movmp f e n = absurd (n.not-Movmp refl)
other_form op.Lea f e n = absurd (n.not-Lea refl)
other_form op.New f e n = absurd (n.not-New refl)
other_form op.Newz f e n = absurd (n.not-Newz refl)
other_form op.Newa f e n = absurd (n.not-Newa refl)
other_form op.Newaz f e n = absurd (n.not-Newaz refl)
other_form op.Indx f e n = absurd (n.not-Indx refl)
other_form op.Indb f e n = absurd (n.not-Indb refl)
other_form op.Indw f e n = absurd (n.not-Indw refl)
other_form op.Indl f e n = absurd (n.not-Indl refl)
other_form op.Lena f e n = absurd (n.not-Lena refl)
other_form op.Slicea f e n = absurd (n.not-Slicea refl)
other_form op.Slicela f e n = absurd (n.not-Slicela refl)
other_form op.Addc f e n = absurd (n.not-Addc refl)
other_form op.Lenc f e n = absurd (n.not-Lenc refl)
other_form op.Indc f e n = absurd (n.not-Indc refl)
other_form op.Insc f e n = absurd (n.not-Insc refl)
other_form op.Slicec f e n = absurd (n.not-Slicec refl)
other_form op.Cvtwc f e n = absurd (n.not-Cvtwc refl)
other_form op.Cvtlc f e n = absurd (n.not-Cvtlc refl)
other_form op.Cvtcw f e n = absurd (n.not-Cvtcw refl)
other_form op.Cvtcl f e n = absurd (n.not-Cvtcl refl)
other_form op.Cvtca f e n = absurd (n.not-Cvtca refl)
other_form op.Cvtac f e n = absurd (n.not-Cvtac refl)
other_form op.Consb f e n = absurd (n.not-Consb refl)
other_form op.Consw f e n = absurd (n.not-Consw refl)
other_form op.Consl f e n = absurd (n.not-Consl refl)
other_form op.Consp f e n = absurd (n.not-Consp refl)
other_form op.Consm f e n = absurd (n.not-Consm refl)
other_form op.Consmp f e n = absurd (n.not-Consmp refl)
other_form op.Headb f e n = absurd (n.not-Headb refl)
other_form op.Headw f e n = absurd (n.not-Headw refl)
other_form op.Headl f e n = absurd (n.not-Headl refl)
other_form op.Headp f e n = absurd (n.not-Headp refl)
other_form op.Headm f e n = absurd (n.not-Headm refl)
other_form op.Headmp f e n = absurd (n.not-Headmp refl)
other_form op.Tail f e n = absurd (n.not-Tail refl)
other_form op.Lenl f e n = absurd (n.not-Lenl refl)
other_form op.Newcb f e n = absurd (n.not-Newcb refl)
other_form op.Newcw f e n = absurd (n.not-Newcw refl)
other_form op.Newcl f e n = absurd (n.not-Newcl refl)
other_form op.Newcp f e n = absurd (n.not-Newcp refl)
other_form op.Newcm f e n = absurd (n.not-Newcm refl)
other_form op.Newcmp f e n = absurd (n.not-Newcmp refl)
other_form op.Jmp f e n = absurd (n.not-Jmp refl)
other_form op.Frame f e n = absurd (n.not-Frame refl)
other_form op.Call f e n = absurd (n.not-Call refl)
other_form op.Ret f e n = absurd (n.not-Ret refl)
other_form op.Load f e n = absurd (n.not-Load refl)
other_form op.Mcall f e n = absurd (n.not-Mcall refl)
other_form c f e n = e
