-- What the rest of the types have.
use Rattle.std.proofs.Common.{◌≡◌, ℕ, ℤ, Bool, [], ◌∷◌, refl, Vec, Global}
use Rattle.limbo_types.specs.declared.ty.Ty as code_ty
use Rattle.limbo_types.specs.declared.ty.Ty.TheVariants as make
use Rattle.limbo_types.specs.Types as ty
use Rattle.limbo_types.specs.Types.{Ty}
use Rattle.limbo_types.specs.View.{view_ty}
use Rattle.limbo_types.proofs.Forms.{HasForm, has_form}
use Rattle.limbo_typed.specs.Typed.{Module}
use Rattle.limbo_typed.specs.declared.stmt.Constant.TheVariants as constant
use Rattle.dis_isa.specs.declared.op.Op.{Op}
use Rattle.dis_objects.specs.Objects.{word_item}
use Rattle.value_code.specs.Data.{Word}
use Rattle.value_code.specs.Code.{constant_data}
use Rattle.value_code.specs.Works.{by_type}
use Rattle.value_code.specs.Objects.{initial_items}

pub is_reference : (b w l p m z : Op) (r : Bool) (t : code_ty.Ty) → (t ≡ make.Byte → ⊥) → (t ≡ make.Int → ⊥) → (t ≡ make.Big → ⊥)
    → (t ≡ make.Nothing → ⊥) → ((ts : Vec code_ty.Ty Global) → t ≡ make.Tuple ts → ⊥) → ((n : ℕ) → t ≡ make.Adt n → ⊥)
    → p ≡ by_type b w l p m z r (view_ty t)
is_reference b w l p m z r t byte int big nothing tuple adt = go (view_ty t) (has_form t)
  where
    go : (v : Ty) → HasForm t v → p ≡ by_type b w l p m z r v
    go ty.Byte h = absurd (byte h)
    go ty.Int h = absurd (int h)
    go ty.Big h = absurd (big h)
    go ty.Nothing h = absurd (nothing h)
    go (ty.Tuple ts) h = absurd (tuple h.0 h.1)
    go (ty.Adt n) h = absurd (adt h.0 h.1)
    go _ h = refl

pub is_word : (t : code_ty.Ty) (z : ℤ) → (t ≡ make.Big → ⊥) → Word z ∷ [] ≡ constant_data (view_ty t) (constant.Number z)
is_word t z big = go (view_ty t) (has_form t)
  where
    go : (v : Ty) → HasForm t v → Word z ∷ [] ≡ constant_data v (constant.Number z)
    go ty.Big h = absurd (big h)
    go _ h = refl

pub begins_in_word : (m : Module) (t : code_ty.Ty) (at : ℕ) (z : ℤ) → (t ≡ make.Byte → ⊥) → (t ≡ make.Big → ⊥) →
    word_item at z ∷ [] ≡ initial_items m (view_ty t) at (constant.Number z)
begins_in_word m t at z byte big = go (view_ty t) (has_form t)
  where
    go : (v : Ty) → HasForm t v → word_item at z ∷ [] ≡ initial_items m v at (constant.Number z)
    go ty.Byte h = absurd (byte h)
    go ty.Big h = absurd (big h)
    go _ h = refl
