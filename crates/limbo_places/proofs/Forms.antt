-- What is absent where a type of the code has another form.
use Rattle.std.proofs.Common.{◌≡◌, ℕ, false, None, Box, Global, refl}
use Rattle.limbo_types.specs.declared.ty.Ty as code_ty
use Rattle.limbo_types.specs.declared.ty.Ty.TheVariants as make
use Rattle.limbo_types.specs.Types as ty
use Rattle.limbo_types.specs.View.{view_ty}
use Rattle.limbo_types.proofs.Forms.{HasForm, has_form}
use Rattle.limbo_places.specs.Choosing.{is_string, settled_element, sequence_of, adt_of}

pub no_string : (u : code_ty.Ty) → (u ≡ make.Chars → ⊥) → false ≡ is_string (view_ty u)
no_string u never = go (view_ty u) (has_form u)
  where
    go : (t : ty.Ty) → HasForm u t → false ≡ is_string t
    go ty.Chars h = absurd (never h)
    go _ h = refl

pub no_element : (u : code_ty.Ty) → ((b : Box code_ty.Ty Global) → u ≡ make.Array b → ⊥) → None ≡ settled_element (view_ty u)
no_element u never = go (view_ty u) (has_form u)
  where
    go : (t : ty.Ty) → HasForm u t → None ≡ settled_element t
    go (ty.ArrayOf t) h = absurd (never h.0 h.1)
    go _ h = refl

pub no_sequence : (u : code_ty.Ty) → (u ≡ make.Chars → ⊥) → ((b : Box code_ty.Ty Global) → u ≡ make.Array b → ⊥)
    → None ≡ sequence_of (view_ty u)
no_sequence u never other = go (view_ty u) (has_form u)
  where
    go : (t : ty.Ty) → HasForm u t → None ≡ sequence_of t
    go ty.Chars h = absurd (never h)
    go (ty.ArrayOf t) h = absurd (other h.0 h.1)
    go _ h = refl

pub no_adt : (u : code_ty.Ty) → ((n : ℕ) → u ≡ make.Adt n → ⊥) → None ≡ adt_of (view_ty u)
no_adt u never = go (view_ty u) (has_form u)
  where
    go : (t : ty.Ty) → HasForm u t → None ≡ adt_of t
    go (ty.Adt n) h = absurd (never h.0 h.1)
    go _ h = refl
