-- What is absent where a type of the code has another form.
use Rattle.std.proofs.Common.{◌≡◌, ℕ, None, refl, ap}
use Rattle.limbo_types.specs.declared.ty.Ty as code_ty
use Rattle.limbo_types.specs.declared.ty.Ty.TheVariants as make
use Rattle.limbo_types.specs.Types as ty
use Rattle.limbo_types.specs.View.{view_ty}
use Rattle.limbo_types.proofs.Forms.{HasForm, has_form}
use Rattle.limbo_typed.specs.declared.expr.TExpr as code_expr
use Rattle.limbo_typed.specs.Sound.{type_of}
use Rattle.limbo_typed.specs.View.{view_expr}
use Rattle.limbo_typed.proofs.View.{view_expr-out}
use Rattle.limbo_things.specs.Things.{adt_of}
use Rattle.limbo_things.specs.Choosing.{module_of, own_adt}

-- the type of an expression of the code
pub type_is : (e : code_expr.TExpr) → type_of (view_expr e) ≡ view_ty e.ty
type_is e = ap type_of (view_expr-out e)

pub no_module : (u : code_ty.Ty) → ((n : ℕ) → u ≡ make.Module n → ⊥) → None ≡ module_of (view_ty u)
no_module u p0 = go (view_ty u) (has_form u)
  where
    go : (t : ty.Ty) → HasForm u t → None ≡ module_of t
    go (ty.Module n) h = absurd (p0 h.0 h.1)
    go _ h = refl

pub no_own_adt : (u : code_ty.Ty) → ((n : ℕ) → u ≡ make.Adt n → ⊥) → None ≡ own_adt (view_ty u)
no_own_adt u p0 = go (view_ty u) (has_form u)
  where
    go : (t : ty.Ty) → HasForm u t → None ≡ own_adt t
    go (ty.Adt n) h = absurd (p0 h.0 h.1)
    go _ h = refl

pub no_adt : (u : code_ty.Ty) → ((n : ℕ) → u ≡ make.Adt n → ⊥) → ((n : ℕ) → u ≡ make.RefAdt n → ⊥)
    → ((n v : ℕ) → u ≡ make.RefPick n v → ⊥) → None ≡ adt_of (view_ty u)
no_adt u p0 p1 p2 = go (view_ty u) (has_form u)
  where
    go : (t : ty.Ty) → HasForm u t → None ≡ adt_of t
    go (ty.Adt n) h = absurd (p0 h.0 h.1)
    go (ty.RefAdt n) h = absurd (p1 h.0 h.1)
    go (ty.RefPick n v) h = absurd (p2 h.0 h.1 h.2)
    go _ h = refl
