-- What is absent where a type of the code has another form.
use Rattle.std.proofs.Common.{◌≡◌, ℕ, Bool, true, false, None, Box, Vec, Global, refl, sym, ap, ◌∙◌}
use Rattle.limbo_types.specs.declared.ty.Ty as code_ty
use Rattle.limbo_types.specs.declared.ty.Ty.TheVariants as make
use Rattle.limbo_types.specs.Types as ty
use Rattle.limbo_types.specs.View.{view_ty}
use Rattle.limbo_types.specs.Same.{same}
use Rattle.limbo_types.proofs.Same.{only, itself}
use Rattle.limbo_types.proofs.Forms.{HasForm, has_form}
use Rattle.limbo_forms.specs.Forms as forms

-- a test that tells whether two types are the same
pub told : (t u : ty.Ty) (r : Bool) → (r ≡ true → t ≡ u) → (t ≡ u → r ≡ true) → r ≡ same t u
told t u true k l = sym (ap (λ z. same t z) (sym (k refl)) ∙ itself t)
told t u false k l = go (same t u) refl
  where
    go : (b : Bool) → same t u ≡ b → false ≡ same t u
    go true e = absurd (let f : false ≡ true = l (only t u e) in cc)
    go false e = sym e

-- ---- other forms

pub no_kind : (u : code_ty.Ty) → (u ≡ make.Byte → ⊥) → (u ≡ make.Int → ⊥) → (u ≡ make.Big → ⊥) → None ≡ forms.kind_of (view_ty u)
no_kind u p0 p1 p2 = go (view_ty u) (has_form u)
  where
    go : (t : ty.Ty) → HasForm u t → None ≡ forms.kind_of t
    go ty.Byte h = absurd (p0 h)
    go ty.Int h = absurd (p1 h)
    go ty.Big h = absurd (p2 h)
    go _ h = refl

pub not_int : (u : code_ty.Ty) → (u ≡ make.Int → ⊥) → false ≡ forms.is_int (view_ty u)
not_int u p0 = go (view_ty u) (has_form u)
  where
    go : (t : ty.Ty) → HasForm u t → false ≡ forms.is_int t
    go ty.Int h = absurd (p0 h)
    go _ h = refl

pub not_nil : (u : code_ty.Ty) → (u ≡ make.Nil → ⊥) → false ≡ forms.is_nil (view_ty u)
not_nil u p0 = go (view_ty u) (has_form u)
  where
    go : (t : ty.Ty) → HasForm u t → false ≡ forms.is_nil t
    go ty.Nil h = absurd (p0 h)
    go _ h = refl

pub not_text : (u : code_ty.Ty) → (u ≡ make.Chars → ⊥) → (u ≡ make.Nil → ⊥) → false ≡ forms.is_text (view_ty u)
not_text u p0 p1 = go (view_ty u) (has_form u)
  where
    go : (t : ty.Ty) → HasForm u t → false ≡ forms.is_text t
    go ty.Chars h = absurd (p0 h)
    go ty.Nil h = absurd (p1 h)
    go _ h = refl

pub not_reference :
    (u : code_ty.Ty)
    → ((b : Box code_ty.Ty Global) → u ≡ make.Array b → ⊥)
    → ((b : Box code_ty.Ty Global) → u ≡ make.List b → ⊥)
    → ((b : Box code_ty.Ty Global) → u ≡ make.Chan b → ⊥)
    → ((n : ℕ) → u ≡ make.RefAdt n → ⊥)
    → ((n v : ℕ) → u ≡ make.RefPick n v → ⊥)
    → ((n : ℕ) → u ≡ make.Module n → ⊥)
    → false ≡ forms.is_reference (view_ty u)
not_reference u p0 p1 p2 p3 p4 p5 = go (view_ty u) (has_form u)
  where
    go : (t : ty.Ty) → HasForm u t → false ≡ forms.is_reference t
    go (ty.ArrayOf t) h = absurd (p0 h.0 h.1)
    go (ty.ListOf t) h = absurd (p1 h.0 h.1)
    go (ty.ChanOf t) h = absurd (p2 h.0 h.1)
    go (ty.RefAdt n) h = absurd (p3 h.0 h.1)
    go (ty.RefPick n v) h = absurd (p4 h.0 h.1 h.2)
    go (ty.Module n) h = absurd (p5 h.0 h.1)
    go _ h = refl

pub not_channel : (u : code_ty.Ty) → ((b : Box code_ty.Ty Global) → u ≡ make.Chan b → ⊥) → false ≡ forms.is_channel (view_ty u)
not_channel u p0 = go (view_ty u) (has_form u)
  where
    go : (t : ty.Ty) → HasForm u t → false ≡ forms.is_channel t
    go (ty.ChanOf t) h = absurd (p0 h.0 h.1)
    go _ h = refl

pub no_ref :
    (u : code_ty.Ty)
    → ((n : ℕ) → u ≡ make.RefAdt n → ⊥)
    → ((n v : ℕ) → u ≡ make.RefPick n v → ⊥)
    → None ≡ forms.ref_of (view_ty u)
no_ref u p0 p1 = go (view_ty u) (has_form u)
  where
    go : (t : ty.Ty) → HasForm u t → None ≡ forms.ref_of t
    go (ty.RefAdt n) h = absurd (p0 h.0 h.1)
    go (ty.RefPick n v) h = absurd (p1 h.0 h.1 h.2)
    go _ h = refl

pub no_item :
    (u : code_ty.Ty)
    → ((b : Box code_ty.Ty Global) → u ≡ make.List b → ⊥)
    → (u ≡ make.Nil → ⊥)
    → None ≡ forms.item_of (view_ty u)
no_item u p0 p1 = go (view_ty u) (has_form u)
  where
    go : (t : ty.Ty) → HasForm u t → None ≡ forms.item_of t
    go (ty.ListOf t) h = absurd (p0 h.0 h.1)
    go ty.Nil h = absurd (p1 h)
    go _ h = refl

pub no_sequence :
    (u : code_ty.Ty)
    → (u ≡ make.Chars → ⊥)
    → ((b : Box code_ty.Ty Global) → u ≡ make.Array b → ⊥)
    → ((b : Box code_ty.Ty Global) → u ≡ make.List b → ⊥)
    → None ≡ forms.sequence_of (view_ty u)
no_sequence u p0 p1 p2 = go (view_ty u) (has_form u)
  where
    go : (t : ty.Ty) → HasForm u t → None ≡ forms.sequence_of t
    go ty.Chars h = absurd (p0 h)
    go (ty.ArrayOf t) h = absurd (p1 h.0 h.1)
    go (ty.ListOf t) h = absurd (p2 h.0 h.1)
    go _ h = refl

pub not_byte : (u : code_ty.Ty) → (u ≡ make.Byte → ⊥) → false ≡ forms.is_byte (view_ty u)
not_byte u p0 = go (view_ty u) (has_form u)
  where
    go : (t : ty.Ty) → HasForm u t → false ≡ forms.is_byte t
    go ty.Byte h = absurd (p0 h)
    go _ h = refl

pub not_bytes :
    (u : code_ty.Ty)
    → ((b : Box code_ty.Ty Global) → u ≡ make.Array b → ⊥)
    → (u ≡ make.Nil → ⊥)
    → false ≡ forms.is_bytes (view_ty u)
not_bytes u p0 p1 = go (view_ty u) (has_form u)
  where
    go : (t : ty.Ty) → HasForm u t → false ≡ forms.is_bytes t
    go (ty.ArrayOf t) h = absurd (p0 h.0 h.1)
    go ty.Nil h = absurd (p1 h)
    go _ h = refl

pub settled_form :
    (u : code_ty.Ty)
    → (u ≡ make.Nil → ⊥)
    → ((b : Box code_ty.Ty Global) → u ≡ make.Array b → ⊥)
    → ((b : Box code_ty.Ty Global) → u ≡ make.List b → ⊥)
    → ((b : Box code_ty.Ty Global) → u ≡ make.Chan b → ⊥)
    → ((vs : Vec code_ty.Ty Global) → u ≡ make.Tuple vs → ⊥)
    → true ≡ forms.is_settled (view_ty u)
settled_form u p0 p1 p2 p3 p4 = go (view_ty u) (has_form u)
  where
    go : (t : ty.Ty) → HasForm u t → true ≡ forms.is_settled t
    go ty.Nil h = absurd (p0 h)
    go (ty.ArrayOf t) h = absurd (p1 h.0 h.1)
    go (ty.ListOf t) h = absurd (p2 h.0 h.1)
    go (ty.ChanOf t) h = absurd (p3 h.0 h.1)
    go (ty.Tuple ts) h = absurd (p4 h.0 h.1)
    go _ h = refl

pub no_element : (u : code_ty.Ty) → ((b : Box code_ty.Ty Global) → u ≡ make.Array b → ⊥) → None ≡ forms.element_of (view_ty u)
no_element u p0 = go (view_ty u) (has_form u)
  where
    go : (t : ty.Ty) → HasForm u t → None ≡ forms.element_of t
    go (ty.ArrayOf t) h = absurd (p0 h.0 h.1)
    go _ h = refl
