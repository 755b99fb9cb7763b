-- Types that are made of no other.
use Rattle.std.proofs.Common.{◌≡◌, ℕ, Box, Global, refl}
use Rattle.limbo_types.specs.declared.ty.Ty as code_ty
use Rattle.limbo_types.specs.declared.ty.Ty.TheVariants as make
use Rattle.limbo_types.specs.Types as ty
use Rattle.limbo_types.specs.View.{view_ty}
use Rattle.limbo_types.proofs.Forms.{HasForm, has_form}
use Rattle.limbo_meaning.specs.Operations.{item_of}

pub no_item : (t : code_ty.Ty) → ((b : Box code_ty.Ty Global) → t ≡ make.Array b → ⊥) → ((b : Box code_ty.Ty Global) → t ≡ make.List b → ⊥)
    → ((n : ℕ) → t ≡ make.RefAdt n → ⊥) → ((n v : ℕ) → t ≡ make.RefPick n v → ⊥) → item_of (view_ty t) ≡ view_ty t
no_item t p q r s = go (view_ty t) (has_form t)
  where
    go : (v : ty.Ty) → HasForm t v → item_of v ≡ v
    go (ty.ArrayOf u) h = absurd (p h.0 h.1)
    go (ty.ListOf u) h = absurd (q h.0 h.1)
    go (ty.RefAdt n) h = absurd (r h.0 h.1)
    go (ty.RefPick n v) h = absurd (s h.0 h.1 h.2)
    go _ h = refl
