-- What is told of types by their forms.
use Rattle.std.proofs.Common.{◌≡◌, ◌↔◌, ℕ, IsTrue, Bool, true, false, None, Vec, Global, refl, sym, ap, ◌∙◌}
use Rattle.std.proofs.lemmas.Bool.{false≢true}
use Rattle.limbo_types.specs.declared.ty.Ty as code_ty
use Rattle.limbo_types.specs.declared.ty.Ty.TheVariants as make
use Rattle.limbo_types.specs.Types as ty
use Rattle.limbo_types.specs.Types.{Ty}
use Rattle.limbo_types.specs.View.{view_ty}
use Rattle.limbo_types.specs.Same.{same}
use Rattle.limbo_types.proofs.Same.{itself, only}
use Rattle.limbo_types.proofs.Forms.{HasForm, has_form}
use Rattle.limbo_typed.specs.declared.expr.TExpr as code_expr
use Rattle.limbo_typed.specs.declared.expr.Place as code_place
use Rattle.limbo_typed.specs.Sound.{type_of, type_at}
use Rattle.limbo_typed.specs.View.{view_expr, view_place}
use Rattle.limbo_typed.proofs.View.{view_expr-out, view_place-out, view_boxed-None, view_boxed-Some}
use Rattle.typed_lower.specs.Statements.{number_kind}
use Rattle.typed_part.specs.Part as part

-- a test that is true where types are the same, and only there
pub same_told : (b : Bool) (t u : Ty) → IsTrue b ↔ (t ≡ u) → b ≡ same t u
same_told true t u h = sym (ap (λ v. same t v) (sym (h.0 refl)) ∙ itself t)
same_told false t u h = go (same t u) refl
  where
    go : (c : Bool) → same t u ≡ c → false ≡ same t u
    go false e = sym e
    go true e = absurd (false≢true (h.1 (only t u e)))

pub no_number : (u : code_ty.Ty) → (u ≡ make.Byte → ⊥) → (u ≡ make.Int → ⊥) → (u ≡ make.Big → ⊥) → None ≡ number_kind (view_ty u)
no_number u p q r = go (view_ty u) (has_form u)
  where
    go : (t : Ty) → HasForm u t → None ≡ number_kind t
    go ty.Byte h = absurd (p h)
    go ty.Int h = absurd (q h)
    go ty.Big h = absurd (r h)
    go _ h = refl

pub other_word : (u : code_ty.Ty) → (u ≡ make.Nothing → ⊥) → (u ≡ make.Nil → ⊥)
    → ((ts : Vec code_ty.Ty Global) → u ≡ make.Tuple ts → ⊥) → ((n : ℕ) → u ≡ make.Adt n → ⊥) → true ≡ part.is_word (view_ty u)
other_word u p q r s = go (view_ty u) (has_form u)
  where
    go : (t : Ty) → HasForm u t → true ≡ part.is_word t
    go ty.Nothing h = absurd (p h)
    go ty.Nil h = absurd (q h)
    go (ty.Tuple ts) h = absurd (r h.0 h.1)
    go (ty.Adt n) h = absurd (s h.0 h.1)
    go _ h = refl

pub expr_type : (e : code_expr.TExpr) → view_ty e.ty ≡ type_of (view_expr e)
expr_type e = sym (ap type_of (view_expr-out e))

pub place_type : (p : code_place.Place) → view_ty p.ty ≡ type_at (view_place p)
place_type p = sym (ap type_at (view_place-out p))

pub ruleset the_boxed = (view_boxed-None, view_boxed-Some)
