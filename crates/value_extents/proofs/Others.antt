-- What the rest of the types have.
use Rattle.std.proofs.Common.{◌≡◌, ℕ, zero, suc, List, [], take, refl, Vec, Global}
use Rattle.limbo_types.specs.declared.ty.Ty as code_ty
use Rattle.limbo_types.specs.declared.ty.Ty.TheVariants as make
use Rattle.limbo_types.specs.Types as ty
use Rattle.limbo_types.specs.Types.{Ty}
use Rattle.limbo_types.specs.View.{view_ty}
use Rattle.limbo_types.proofs.Forms.{HasForm, has_form}
use Rattle.limbo_layout.specs.Adts.{Def}
use Rattle.core_code.specs.Terms.{part_types}
use Rattle.value_extents.specs.Extent.{Extent, all_behind, empty, extent, extents_of, reference}

pub is_reference : (table : List Extent) (t : code_ty.Ty) → (t ≡ make.Byte → ⊥) → (t ≡ make.Int → ⊥) → (t ≡ make.Big → ⊥)
    → (t ≡ make.Chars → ⊥) → (t ≡ make.Nothing → ⊥) → ((ts : Vec code_ty.Ty Global) → t ≡ make.Tuple ts → ⊥)
    → ((n : ℕ) → t ≡ make.Adt n → ⊥) → reference ≡ extent table (view_ty t)
is_reference table t byte int big chars nothing tuple adt = go (view_ty t) (has_form t)
  where
    go : (v : Ty) → HasForm t v → reference ≡ extent table v
    go ty.Byte h = absurd (byte h)
    go ty.Int h = absurd (int h)
    go ty.Big h = absurd (big h)
    go ty.Chars h = absurd (chars h)
    go ty.Nothing h = absurd (nothing h)
    go (ty.Tuple ts) h = absurd (tuple h.0 h.1)
    go (ty.Adt n) h = absurd (adt h.0 h.1)
    go _ h = refl

pub no_parts : (table : List Extent) (n : ℕ) → empty ≡ all_behind empty (extents_of table (take n []))
no_parts table zero = refl
no_parts table (suc n) = refl

pub has_no_parts : (table : List Extent) (defs : List Def) (n : ℕ) (t : code_ty.Ty)
    → ((ts : Vec code_ty.Ty Global) → t ≡ make.Tuple ts → ⊥) → ((n : ℕ) → t ≡ make.Adt n → ⊥)
    → empty ≡ all_behind empty (extents_of table (take n (part_types defs (view_ty t))))
has_no_parts table defs n t tuple adt = go (view_ty t) (has_form t)
  where
    go : (v : Ty) → HasForm t v → empty ≡ all_behind empty (extents_of table (take n (part_types defs v)))
    go (ty.Tuple ts) h = absurd (tuple h.0 h.1)
    go (ty.Adt n) h = absurd (adt h.0 h.1)
    go _ h = no_parts table n
