-- Operators that mean something else.
use Rattle.std.proofs.Common.{◌≡◌, List, false, None, refl}
use Rattle.limbo_tree.specs.declared.operators.UnaryOp.{UnaryOp}
use Rattle.limbo_tree.specs.declared.operators.UnaryOp.TheVariants as before
use Rattle.limbo_types.specs.Types.{Ty}
use Rattle.limbo_layout.specs.Adts.{Def}
use Rattle.limbo_values.specs.declared.number.Kind.{Kind}
use Rattle.limbo_values.specs.declared.number.Kind.TheVariants as kind
use Rattle.limbo_prefixes.specs.Rows.{altering, converting}
use Rattle.limbo_prefixes.specs.Choosing.{is_byte_kind, other_row}

pub not_altering :
    (o : UnaryOp) → (o ≡ before.Plus → ⊥) → (o ≡ before.Minus → ⊥) → (o ≡ before.Complement → ⊥) → (o ≡ before.Increment → ⊥)
    → (o ≡ before.Decrement → ⊥) → None ≡ altering o
not_altering before.Plus p m c i d = absurd (p refl)
not_altering before.Minus p m c i d = absurd (m refl)
not_altering before.Complement p m c i d = absurd (c refl)
not_altering before.Increment p m c i d = absurd (i refl)
not_altering before.Decrement p m c i d = absurd (d refl)
not_altering _ p m c i d = refl

pub not_converting :
    (o : UnaryOp) → (o ≡ before.Byte → ⊥) → (o ≡ before.Int → ⊥) → (o ≡ before.Big → ⊥) → None ≡ converting o
not_converting before.Byte y i b = absurd (y refl)
not_converting before.Int y i b = absurd (i refl)
not_converting before.Big y i b = absurd (b refl)
not_converting _ y i b = refl

pub not_byte_kind : (k : Kind) → (k ≡ kind.Byte → ⊥) → false ≡ is_byte_kind k
not_byte_kind kind.Byte never = absurd (never refl)
not_byte_kind _ never = refl

pub no_other :
    (defs : List Def) (o : UnaryOp) (t : Ty) → (o ≡ before.Not → ⊥) → (o ≡ before.Hd → ⊥) → (o ≡ before.Tl → ⊥) → (o ≡ before.Len → ⊥)
    → (o ≡ before.Tagof → ⊥) → (o ≡ before.String → ⊥) → None ≡ other_row defs o t
no_other defs before.Not t n h l e g s = absurd (n refl)
no_other defs before.Hd t n h l e g s = absurd (h refl)
no_other defs before.Tl t n h l e g s = absurd (l refl)
no_other defs before.Len t n h l e g s = absurd (e refl)
no_other defs before.Tagof t n h l e g s = absurd (g refl)
no_other defs before.String t n h l e g s = absurd (s refl)
no_other defs _ t n h l e g s = refl
