-- The equations of the view, one for each variant.
use Rattle.std.proofs.Common.{◌≡◌, ℕ, Vec, Box, Global, sym, ap, ◌∙◌}
use Rattle.limbo_types.specs.declared.ty.Ty as code_ty
use Rattle.limbo_types.specs.declared.ty.Ty.{Ty-F, fold-roll-Ty}
use Rattle.limbo_types.specs.declared.ty.Ty.TheVariants as make
use Rattle.limbo_types.specs.Types as ty
use Rattle.limbo_types.specs.View.{ty_step, view_ty, view_tys}

pub view_ty-Byte : view_ty make.Byte ≡ ty.Byte
unfolding view_ty
view_ty-Byte = ap view_ty (sym make.rolls-Byte) ∙ fold-roll-Ty ty.Ty ty_step Ty-F.Byte

pub view_ty-Int : view_ty make.Int ≡ ty.Int
unfolding view_ty
view_ty-Int = ap view_ty (sym make.rolls-Int) ∙ fold-roll-Ty ty.Ty ty_step Ty-F.Int

pub view_ty-Big : view_ty make.Big ≡ ty.Big
unfolding view_ty
view_ty-Big = ap view_ty (sym make.rolls-Big) ∙ fold-roll-Ty ty.Ty ty_step Ty-F.Big

pub view_ty-Chars : view_ty make.Chars ≡ ty.Chars
unfolding view_ty
view_ty-Chars = ap view_ty (sym make.rolls-Chars) ∙ fold-roll-Ty ty.Ty ty_step Ty-F.Chars

pub view_ty-Nothing : view_ty make.Nothing ≡ ty.Nothing
unfolding view_ty
view_ty-Nothing = ap view_ty (sym make.rolls-Nothing) ∙ fold-roll-Ty ty.Ty ty_step Ty-F.Nothing

pub view_ty-Nil : view_ty make.Nil ≡ ty.Nil
unfolding view_ty
view_ty-Nil = ap view_ty (sym make.rolls-Nil) ∙ fold-roll-Ty ty.Ty ty_step Ty-F.Nil

pub view_ty-Array : (t : Box code_ty.Ty Global) → view_ty (make.Array t) ≡ ty.ArrayOf (view_ty t.value)
unfolding view_ty
view_ty-Array t = ap view_ty (sym (make.rolls-Array t)) ∙ fold-roll-Ty ty.Ty ty_step (Ty-F.Array t)

pub view_ty-List : (t : Box code_ty.Ty Global) → view_ty (make.List t) ≡ ty.ListOf (view_ty t.value)
unfolding view_ty
view_ty-List t = ap view_ty (sym (make.rolls-List t)) ∙ fold-roll-Ty ty.Ty ty_step (Ty-F.List t)

pub view_ty-Chan : (t : Box code_ty.Ty Global) → view_ty (make.Chan t) ≡ ty.ChanOf (view_ty t.value)
unfolding view_ty
view_ty-Chan t = ap view_ty (sym (make.rolls-Chan t)) ∙ fold-roll-Ty ty.Ty ty_step (Ty-F.Chan t)

pub view_ty-Tuple : (ts : Vec code_ty.Ty Global) → view_ty (make.Tuple ts) ≡ ty.Tuple (view_tys ts.items)
unfolding view_ty
view_ty-Tuple ts = ap view_ty (sym (make.rolls-Tuple ts)) ∙ fold-roll-Ty ty.Ty ty_step (Ty-F.Tuple ts)

pub view_ty-Adt : (n : ℕ) → view_ty (make.Adt n) ≡ ty.Adt n
unfolding view_ty
view_ty-Adt n = ap view_ty (sym (make.rolls-Adt n)) ∙ fold-roll-Ty ty.Ty ty_step (Ty-F.Adt n)

pub view_ty-RefAdt : (n : ℕ) → view_ty (make.RefAdt n) ≡ ty.RefAdt n
unfolding view_ty
view_ty-RefAdt n = ap view_ty (sym (make.rolls-RefAdt n)) ∙ fold-roll-Ty ty.Ty ty_step (Ty-F.RefAdt n)

pub view_ty-RefPick : (n v : ℕ) → view_ty (make.RefPick n v) ≡ ty.RefPick n v
unfolding view_ty
view_ty-RefPick n v = ap view_ty (sym (make.rolls-RefPick n v)) ∙ fold-roll-Ty ty.Ty ty_step (Ty-F.RefPick n v)

pub view_ty-Module : (n : ℕ) → view_ty (make.Module n) ≡ ty.Module n
unfolding view_ty
view_ty-Module n = ap view_ty (sym (make.rolls-Module n)) ∙ fold-roll-Ty ty.Ty ty_step (Ty-F.Module n)

pub ruleset the_types = (view_ty-Byte, view_ty-Int, view_ty-Big, view_ty-Chars, view_ty-Nothing, view_ty-Nil, view_ty-Array, view_ty-List, view_ty-Chan, view_ty-Tuple, view_ty-Adt, view_ty-RefAdt, view_ty-RefPick, view_ty-Module)
