-- Rows that give a value which has a record of its own, a big, a tuple or an adt, and rows that read a big.
use Rattle.std.specs.Prelude.{ℕ, ℤ, ◌≡◌, ◌≤◌, false, List}
use Rattle.limbo_types.specs.Types as ty
use Rattle.limbo_types.specs.Types.{Ty}
use Rattle.limbo_layout.specs.Layout.{limit}
use Rattle.limbo_values.specs.declared.number.Kind.{Kind}
use Rattle.limbo_values.specs.declared.number.Kind.TheVariants.{Big}
use Rattle.limbo_values.specs.declared.operator.Comparison.{Comparison}
use Rattle.limbo_values.specs.declared.operator.Operator.{Operator}
use Rattle.limbo_values.specs.declared.operator.Shift.{Shift}
use Rattle.limbo_values.specs.declared.operator.Unary.{Unary}
use Rattle.limbo_typed.specs.Typed as typed
use Rattle.limbo_typed.specs.declared.operation.Operation.TheVariants.{Arithmetic, Alter, Compare, Convert, Head, NumberText, ReadNumber}
use Rattle.limbo_typed.specs.declared.operation.Operation.TheVariants.{Shift as OfShift}
use Rattle.limbo_typed.specs.declared.stmt.Constant.TheVariants as constant
use Rattle.limbo_meaning.specs.Places.{Local, Global, Way}
use Rattle.limbo_meaning.specs.Trees.{Literal, Operate, Read}
use Rattle.core_code.specs.Code as core
use Rattle.value_frames.specs.Frames.{Boxed, form_of, room_for}
use Rattle.value_follows.specs.Rows.{Base, InstrGoes}

-- A constant that is a big comes into a slot.
abbrev pub BigLiteralsGo : Type 0
BigLiteralsGo =
    (m : typed.Module) → Base m → (t : Ty) (z : ℤ) (into : ℕ) (from : List ℕ) → t ≡ ty.Big →
    InstrGoes m (core.Give t (Literal (constant.Number z)) into from)

-- What is calculated from two bigs does, or both processes end as broken.
abbrev pub BigArithmeticGoes : Type 0
BigArithmeticGoes =
    (m : typed.Module) → Base m → (t : Ty) (o : Operator) (into : ℕ) (from : List ℕ) →
    InstrGoes m (core.Give t (Operate (Arithmetic o Big)) into from)

-- So does a big that is shifted by an int, one that is altered, and a number of any kind that becomes a big.
abbrev pub BigShiftsGo : Type 0
BigShiftsGo =
    (m : typed.Module) → Base m → (t : Ty) (h : Shift) (into : ℕ) (from : List ℕ) →
    InstrGoes m (core.Give t (Operate (OfShift h Big)) into from)

abbrev pub BigAltersGo : Type 0
BigAltersGo =
    (m : typed.Module) → Base m → (t : Ty) (u : Unary) (into : ℕ) (from : List ℕ) →
    InstrGoes m (core.Give t (Operate (Alter u Big)) into from)

abbrev pub BigConvertsGo : Type 0
BigConvertsGo =
    (m : typed.Module) → Base m → (t : Ty) (j : Kind) (into : ℕ) (from : List ℕ) →
    InstrGoes m (core.Give t (Operate (Convert j Big)) into from)

-- ---- parts of variables: of a type that takes no more bytes than a type may, so that their number is an int

abbrev pub IsSmall : typed.Module → Ty → Type 0
IsSmall m t = (room_for m.adts t).size ≤ limit

-- The way to a part of a variable of the function, and of one of the module.
abbrev pub of_local : (variable : ℕ) → (part : List ℕ) → Way
of_local v part = record { root = Local v; parts = part; character = false }

abbrev pub of_global : (variable : ℕ) → (part : List ℕ) → Way
of_global v part = record { root = Global v; parts = part; character = false }

-- A big, a tuple or an adt is read from there, and comes into a slot.
abbrev pub BoxReadsGo : Type 0
BoxReadsGo =
    (m : typed.Module) → Base m → (t : Ty) (v : ℕ) (part : List ℕ) (into : ℕ) (from : List ℕ) → form_of t ≡ Boxed → IsSmall m t →
    InstrGoes m (core.Give t (Read (of_local v part)) into from)

abbrev pub BoxGlobalsGo : Type 0
BoxGlobalsGo =
    (m : typed.Module) → Base m → (t : Ty) (v : ℕ) (part : List ℕ) (into : ℕ) (from : List ℕ) → form_of t ≡ Boxed → IsSmall m t →
    InstrGoes m (core.Give t (Read (of_global v part)) into from)

-- ---- other rows of bigs

-- The number that a text begins with comes into a slot, as a big.
abbrev pub BigNumbersReadGo : Type 0
BigNumbersReadGo =
    (m : typed.Module) → Base m → (t : Ty) (into : ℕ) (from : List ℕ) →
    InstrGoes m (core.Give t (Operate (ReadNumber Big)) into from)

-- A big becomes a byte or an int.
abbrev pub BigsShortenGo : Type 0
BigsShortenGo =
    (m : typed.Module) → Base m → (t : Ty) (j : Kind) (into : ℕ) (from : List ℕ) → (j ≡ Big → ⊥) →
    InstrGoes m (core.Give t (Operate (Convert Big j)) into from)

-- How two bigs compare comes into a slot.
abbrev pub BigComparesGo : Type 0
BigComparesGo =
    (m : typed.Module) → Base m → (t : Ty) (c : Comparison) (into : ℕ) (from : List ℕ) →
    InstrGoes m (core.Give t (Operate (Compare c Big)) into from)

-- A big as a text comes into a slot.
abbrev pub BigTextsGo : Type 0
BigTextsGo =
    (m : typed.Module) → Base m → (t : Ty) (into : ℕ) (from : List ℕ) → InstrGoes m (core.Give t (Operate (NumberText Big)) into from)

-- A byte or an int is altered.
abbrev pub AltersGo : Type 0
AltersGo =
    (m : typed.Module) → Base m → (t : Ty) (u : Unary) (j : Kind) (into : ℕ) (from : List ℕ) → (j ≡ Big → ⊥) →
    InstrGoes m (core.Give t (Operate (Alter u j)) into from)

-- The first item of a list comes into a slot, where it is a big, a tuple or an adt; or both processes end as broken.
abbrev pub BoxHeadsGo : Type 0
BoxHeadsGo =
    (m : typed.Module) → Base m → (t : Ty) (into : ℕ) (from : List ℕ) → form_of t ≡ Boxed → IsSmall m t →
    InstrGoes m (core.Give t (Operate Head) into from)
