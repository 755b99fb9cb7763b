-- Types that aren't tuples.
use Rattle.std.proofs.Common.{◌≡◌, false, None, Vec, Global, refl}
use Rattle.limbo_types.specs.declared.ty.Ty as code_ty
use Rattle.limbo_types.specs.declared.ty.Ty.TheVariants as make_ty
use Rattle.limbo_types.specs.Types as ty
use Rattle.limbo_types.specs.View.{view_ty}
use Rattle.limbo_types.proofs.Forms.{HasForm, has_form}
use Rattle.limbo_typed.specs.Typed as tree
use Rattle.limbo_assigning.specs.Choosing.{takes_parts, asked_parts}

pub takes_no_parts : (ps : tree.Patterns) (u : code_ty.Ty) → ((vs : Vec code_ty.Ty Global) → u ≡ make_ty.Tuple vs → ⊥)
    → false ≡ takes_parts ps (view_ty u)
takes_no_parts ps u never = go (view_ty u) (has_form u)
  where
    go : (t : ty.Ty) → HasForm u t → false ≡ takes_parts ps t
    go (ty.Tuple ts) h = absurd (never h.0 h.1)
    go _ h = refl

pub asks_no_parts : (ps : tree.Patterns) (u : code_ty.Ty) → ((vs : Vec code_ty.Ty Global) → u ≡ make_ty.Tuple vs → ⊥)
    → asked_parts ps (view_ty u) ≡ None
asks_no_parts ps u never = go (view_ty u) (has_form u)
  where
    go : (t : ty.Ty) → HasForm u t → asked_parts ps t ≡ None
    go (ty.Tuple ts) h = absurd (never h.0 h.1)
    go _ h = refl
