-- How a type of the code is built, told by its view.
use Rattle.std.proofs.Common.{◌≡◌, ℕ, Bool, true, false, Vec, Box, Global, refl, sym, ap, ◌∙◌, subst}
use Rattle.limbo_types.specs.declared.ty.Ty as code_ty
use Rattle.limbo_types.specs.declared.ty.Ty.{Ty-F, out-Ty, roll-Ty, roll-out-Ty}
use Rattle.limbo_types.specs.declared.ty.Ty.TheVariants as make
use Rattle.limbo_types.specs.Types as ty
use Rattle.limbo_types.specs.View.{view_ty}
use Rattle.limbo_types.specs.Same.{same}
use Rattle.limbo_types.proofs.Same.{only}
use Rattle.limbo_types.proofs.View.{view_ty-Byte, view_ty-Int, view_ty-Big, view_ty-Chars, view_ty-Nothing, view_ty-Nil, view_ty-Array}
use Rattle.limbo_types.proofs.View.{view_ty-List}
use Rattle.limbo_types.proofs.View.{view_ty-Chan, view_ty-Tuple, view_ty-Adt, view_ty-RefAdt, view_ty-RefPick, view_ty-Module}

-- a type of the code is of the form that this type has
abbrev pub HasForm : code_ty.Ty → ty.Ty → Type 0
HasForm u ty.Byte = u ≡ make.Byte
HasForm u ty.Int = u ≡ make.Int
HasForm u ty.Big = u ≡ make.Big
HasForm u ty.Chars = u ≡ make.Chars
HasForm u ty.Nothing = u ≡ make.Nothing
HasForm u ty.Nil = u ≡ make.Nil
HasForm u (ty.ArrayOf t) = (b : Box code_ty.Ty Global) × (u ≡ make.Array b)
HasForm u (ty.ListOf t) = (b : Box code_ty.Ty Global) × (u ≡ make.List b)
HasForm u (ty.ChanOf t) = (b : Box code_ty.Ty Global) × (u ≡ make.Chan b)
HasForm u (ty.Tuple ts) = (vs : Vec code_ty.Ty Global) × (u ≡ make.Tuple vs)
HasForm u (ty.Adt n) = (m : ℕ) × (u ≡ make.Adt m)
HasForm u (ty.RefAdt n) = (m : ℕ) × (u ≡ make.RefAdt m)
HasForm u (ty.RefPick n v) = (m : ℕ) × (w : ℕ) × (u ≡ make.RefPick m w)
HasForm u (ty.Module n) = (m : ℕ) × (u ≡ make.Module m)

pub has_form : (u : code_ty.Ty) → HasForm u (view_ty u)
has_form u = go (out-Ty u) (sym (roll-out-Ty u))
  where
    is : (v : code_ty.Ty) (t : ty.Ty) → u ≡ v → view_ty v ≡ t → HasForm u t → HasForm u (view_ty u)
    is v t at f h = subst (λ z. HasForm u z) (sym (ap view_ty at ∙ f)) h

    go : (y : Ty-F code_ty.Ty) → u ≡ roll-Ty y → HasForm u (view_ty u)
    go Ty-F.Byte at = let p : u ≡ make.Byte = at ∙ make.rolls-Byte in is _ _ p view_ty-Byte p
    go Ty-F.Int at = let p : u ≡ make.Int = at ∙ make.rolls-Int in is _ _ p view_ty-Int p
    go Ty-F.Big at = let p : u ≡ make.Big = at ∙ make.rolls-Big in is _ _ p view_ty-Big p
    go Ty-F.Chars at = let p : u ≡ make.Chars = at ∙ make.rolls-Chars in is _ _ p view_ty-Chars p
    go Ty-F.Nothing at = let p : u ≡ make.Nothing = at ∙ make.rolls-Nothing in is _ _ p view_ty-Nothing p
    go Ty-F.Nil at = let p : u ≡ make.Nil = at ∙ make.rolls-Nil in is _ _ p view_ty-Nil p
    go (Ty-F.Array b) at = let p : u ≡ make.Array b = at ∙ make.rolls-Array b in is _ _ p (view_ty-Array b) (b, p)
    go (Ty-F.List b) at = let p : u ≡ make.List b = at ∙ make.rolls-List b in is _ _ p (view_ty-List b) (b, p)
    go (Ty-F.Chan b) at = let p : u ≡ make.Chan b = at ∙ make.rolls-Chan b in is _ _ p (view_ty-Chan b) (b, p)
    go (Ty-F.Tuple vs) at = let p : u ≡ make.Tuple vs = at ∙ make.rolls-Tuple vs in is _ _ p (view_ty-Tuple vs) (vs, p)
    go (Ty-F.Adt n) at = let p : u ≡ make.Adt n = at ∙ make.rolls-Adt n in is _ _ p (view_ty-Adt n) (n, p)
    go (Ty-F.RefAdt n) at = let p : u ≡ make.RefAdt n = at ∙ make.rolls-RefAdt n in is _ _ p (view_ty-RefAdt n) (n, p)
    go (Ty-F.RefPick n v) at = let p : u ≡ make.RefPick n v = at ∙ make.rolls-RefPick n v in is _ _ p (view_ty-RefPick n v) (n, v, p)
    go (Ty-F.Module n) at = let p : u ≡ make.Module n = at ∙ make.rolls-Module n in is _ _ p (view_ty-Module n) (n, p)

-- a type isn't the same as one of another form
pub other_form :
    {v w : code_ty.Ty} {t : ty.Ty} (u : code_ty.Ty) → v ≡ w → view_ty w ≡ t → (HasForm u t → ⊥)
    → false ≡ same (view_ty v) (view_ty u)
other_form {v} {w} {t} u e f never = go (same t (view_ty u)) refl
  where
    go : (b : Bool) → same t (view_ty u) ≡ b → false ≡ same (view_ty v) (view_ty u)
    go true h = absurd (never (subst (λ z. HasForm u z) (sym (only t (view_ty u) h)) (has_form u)))
    go false h = sym (ap (λ z. same (view_ty z) (view_ty u)) e ∙ ap (λ z. same z (view_ty u)) f ∙ h)
