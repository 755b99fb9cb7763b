-- What is counted and tested of a type of the code that has another form.
use Rattle.std.proofs.Common.{◌≡◌, true, Box, Vec, Global, refl}
use Rattle.limbo_types.specs.declared.ty.Ty as code_ty
use Rattle.limbo_types.specs.declared.ty.Ty.TheVariants as make
use Rattle.limbo_types.specs.Types as ty
use Rattle.limbo_types.specs.View.{view_ty}
use Rattle.limbo_types.proofs.Forms.{HasForm, has_form}
use Rattle.limbo_permits.specs.Permits.{nodes}
use Rattle.limbo_permits.specs.Counting.{is_some_type}

pub one_node :
    (u : code_ty.Ty)
    → ((b : Box code_ty.Ty Global) → u ≡ make.Array b → ⊥)
    → ((b : Box code_ty.Ty Global) → u ≡ make.List b → ⊥)
    → ((b : Box code_ty.Ty Global) → u ≡ make.Chan b → ⊥)
    → ((vs : Vec code_ty.Ty Global) → u ≡ make.Tuple vs → ⊥)
    → nodes (view_ty u) ≡ 1
one_node u p0 p1 p2 p3 = go (view_ty u) (has_form u)
  where
    go : (t : ty.Ty) → HasForm u t → nodes t ≡ 1
    go (ty.ArrayOf t) h = absurd (p0 h.0 h.1)
    go (ty.ListOf t) h = absurd (p1 h.0 h.1)
    go (ty.ChanOf t) h = absurd (p2 h.0 h.1)
    go (ty.Tuple ts) h = absurd (p3 h.0 h.1)
    go _ h = refl

pub some_type : (u : code_ty.Ty) → (u ≡ make.Nothing → ⊥) → true ≡ is_some_type (view_ty u)
some_type u p0 = go (view_ty u) (has_form u)
  where
    go : (t : ty.Ty) → HasForm u t → true ≡ is_some_type t
    go ty.Nothing h = absurd (p0 h)
    go _ h = refl
