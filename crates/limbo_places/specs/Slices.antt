-- `base[from:to]` (Limbo Language Reference, expressions).
use Rattle.std.specs.Prelude.{◌≡◌, Bool, true, false}
use Rattle.limbo_types.specs.Types.{Ty, Int}
use Rattle.limbo_typed.specs.declared.operation.Sequence.{Sequence}
use Rattle.limbo_typed.specs.declared.operation.Operation.TheVariants as op
use Rattle.limbo_typed.specs.Typed.{Expr, Of, Apply, Exprs, NoExprs, MoreExprs, Optional, Absent, Present}
use Rattle.limbo_typed.specs.Fitting.{IsSliced}
use Rattle.limbo_typed.specs.Sound.{type_of, IsSettled}

abbrev pub is_present : Optional → Bool
is_present Absent = false
is_present (Present e) = true

-- the operand, if it is there, before these
abbrev pub with_bound : Optional → Exprs → Exprs
with_bound Absent es = es
with_bound (Present e) es = MoreExprs e es

-- the part of a string or an array between two bounds, of which either may be absent
abbrev pub slice : Sequence → Expr → (from to : Optional) → Expr
slice s base from to =
    Of (type_of base) (Apply (op.Slice s (is_present from) (is_present to)) (MoreExprs base (with_bound from (with_bound to NoExprs))))

-- A bound that is there is an int.
abbrev pub IsBound : Optional → Type 0
IsBound Absent = Unit {0}
IsBound (Present e) = type_of e ≡ Int

-- Values of this type are strings or arrays, and it is settled.
pub record CanSlice (s : Sequence) (t : Ty) : Type 0 where
  pub sliced : IsSliced s t
  pub settled : IsSettled t

pub data Slices : (base : Expr) → (from to : Optional) → Expr → Type 0 where
  slices : (s : Sequence) (base : Expr) (from to : Optional) → CanSlice s (type_of base) → IsBound from → IsBound to
      → Slices base from to (slice s base from to)

-- The type that keeps `base[from:to]` from being a slice: the base's, where that can't be sliced, or else that of the first bound that
-- is no int.
pub data Hinders (base : Expr) (from to : Optional) : Ty → Type 0 where
  of_base : ((s : Sequence) → CanSlice s (type_of base) → ⊥) → Hinders base from to (type_of base)
  of_from : (s : Sequence) (e : Expr) → CanSlice s (type_of base) → from ≡ Present e → (type_of e ≡ Int → ⊥)
      → Hinders base from to (type_of e)
  of_to : (s : Sequence) (e : Expr) → CanSlice s (type_of base) → IsBound from → to ≡ Present e → (type_of e ≡ Int → ⊥)
      → Hinders base from to (type_of e)
