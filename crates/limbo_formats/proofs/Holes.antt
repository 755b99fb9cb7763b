-- What no argument of a type stands in for.
use Rattle.std.proofs.Common.{◌≡◌, None, refl}
use Rattle.limbo_types.specs.declared.ty.Ty as code_ty
use Rattle.limbo_types.specs.declared.ty.Ty.TheVariants as make
use Rattle.limbo_types.specs.Types as ty
use Rattle.limbo_types.specs.View.{view_ty}
use Rattle.limbo_types.proofs.Forms.{HasForm, has_form}
use Rattle.limbo_typed.specs.declared.print.Hole.{Hole}
use Rattle.limbo_formats.specs.FormatReading as reading

pub no_decimal : (u : code_ty.Ty) → (u ≡ make.Int → ⊥) → (u ≡ make.Byte → ⊥) → None ≡ reading.decimal_for (view_ty u)
no_decimal u i b = go (view_ty u) (has_form u)
  where
    go : (t : ty.Ty) → HasForm u t → None ≡ reading.decimal_for t
    go ty.Int h = absurd (i h)
    go ty.Byte h = absurd (b h)
    go _ h = refl

pub no_big : (u : code_ty.Ty) → (u ≡ make.Big → ⊥) → None ≡ reading.big_for (view_ty u)
no_big u b = go (view_ty u) (has_form u)
  where
    go : (t : ty.Ty) → HasForm u t → None ≡ reading.big_for t
    go ty.Big h = absurd (b h)
    go _ h = refl

pub no_chars : (u : code_ty.Ty) → (u ≡ make.Chars → ⊥) → (u ≡ make.Nil → ⊥) → None ≡ reading.chars_for (view_ty u)
no_chars u c n = go (view_ty u) (has_form u)
  where
    go : (t : ty.Ty) → HasForm u t → None ≡ reading.chars_for t
    go ty.Chars h = absurd (c h)
    go ty.Nil h = absurd (n h)
    go _ h = refl

pub no_int : (u : code_ty.Ty) (i : Hole) → (u ≡ make.Int → ⊥) → None ≡ reading.int_for i (view_ty u)
no_int u i never = go (view_ty u) (has_form u)
  where
    go : (t : ty.Ty) → HasForm u t → None ≡ reading.int_for i t
    go ty.Int h = absurd (never h)
    go _ h = refl

pub ruleset the_holes = (no_decimal, no_big, no_chars, no_int)
