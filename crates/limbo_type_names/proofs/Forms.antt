-- Types by their forms.
use Rattle.std.proofs.Common.{◌≡◌, ℕ, List, refl, subst}
use Rattle.limbo_types.specs.declared.ty.Ty as code_ty
use Rattle.limbo_types.specs.declared.ty.Ty.TheVariants as make
use Rattle.limbo_types.specs.Types.{Ty}
use Rattle.limbo_types.specs.View.{view_ty}
use Rattle.limbo_types.proofs.Forms.{HasForm, has_form}
use Rattle.limbo_entries.specs.Entries.{Entry}
use Rattle.limbo_type_names.specs.Sizes.{size}
use Rattle.limbo_type_names.specs.Means.{RefersTo, of_adt, of_variant, IsNoAdt}

-- a type of the code that is no adt
pub no_adt : (u : code_ty.Ty) → ((n : ℕ) → u ≡ make.Adt n → ⊥) → IsNoAdt (view_ty u)
no_adt u never = λ n e. let h = subst (λ (z : Ty). HasForm u z) e (has_form u) in never h.0 h.1

-- a `ref` is one node
pub ref_is_one : (es : List Entry) (m k : ℕ) (u : Ty) → RefersTo es m k u → size u ≡ 1
ref_is_one es m _ _ (of_adt k n s) = refl
ref_is_one es m _ _ (of_variant k a v w) = refl
