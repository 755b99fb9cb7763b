-- Rows of strings: what they give comes into a slot, or both processes end as broken.
use Rattle.std.specs.Prelude.{ℕ, ◌≡◌, Bool, List}
use Rattle.limbo_types.specs.Types.{Ty}
use Rattle.limbo_values.specs.declared.number.Kind.{Kind}
use Rattle.limbo_values.specs.declared.number.Kind.TheVariants.{Big}
use Rattle.limbo_values.specs.declared.operator.Comparison.{Comparison}
use Rattle.limbo_typed.specs.Typed as typed
use Rattle.limbo_typed.specs.declared.operation.Operation.TheVariants.{Join, Length, Character, ReadNumber, NumberText, CompareChars, Slice}
use Rattle.limbo_typed.specs.declared.operation.Operation.TheVariants.{BytesText, TextBytes}
use Rattle.limbo_typed.specs.declared.operation.Sequence.TheVariants.{Chars}
use Rattle.limbo_meaning.specs.Trees.{Operate}
use Rattle.core_code.specs.Code as core
use Rattle.value_follows.specs.Rows.{Base, InstrGoes}

-- One string behind another comes into a slot, or they are too long.
abbrev pub JoinsGo : Type 0
JoinsGo = (m : typed.Module) → Base m → (t : Ty) (into : ℕ) (from : List ℕ) → InstrGoes m (core.Give t (Operate Join) into from)

-- How many characters a string has.
abbrev pub LengthsGo : Type 0
LengthsGo = (m : typed.Module) → Base m → (t : Ty) (into : ℕ) (from : List ℕ) → InstrGoes m (core.Give t (Operate (Length Chars)) into from)

-- A character of a string at an index, or there is none.
abbrev pub CharactersGo : Type 0
CharactersGo = (m : typed.Module) → Base m → (t : Ty) (into : ℕ) (from : List ℕ) → InstrGoes m (core.Give t (Operate Character) into from)

-- The byte or int that a string begins with.
abbrev pub ReadingsGo : Type 0
ReadingsGo =
    (m : typed.Module) → Base m → (t : Ty) (j : Kind) (into : ℕ) (from : List ℕ) → (j ≡ Big → ⊥) →
    InstrGoes m (core.Give t (Operate (ReadNumber j)) into from)

-- A byte or an int as a string.
abbrev pub NumberTextsGo : Type 0
NumberTextsGo =
    (m : typed.Module) → Base m → (t : Ty) (j : Kind) (into : ℕ) (from : List ℕ) → (j ≡ Big → ⊥) →
    InstrGoes m (core.Give t (Operate (NumberText j)) into from)

-- How two strings compare.
abbrev pub TextComparesGo : Type 0
TextComparesGo =
    (m : typed.Module) → Base m → (t : Ty) (c : Comparison) (into : ℕ) (from : List ℕ) →
    InstrGoes m (core.Give t (Operate (CompareChars c)) into from)

-- Part of a string, or both processes end as broken. The length is looked up where the bound behind isn't written.
abbrev pub SlicesGo : Type 0
SlicesGo =
    (m : typed.Module) → Base m → (t : Ty) (lo hi : Bool) (into : ℕ) (from : List ℕ) →
    InstrGoes m (core.Give t (Operate (Slice Chars lo hi)) into from)

-- Bytes of an array as a string, or both processes end as broken.
abbrev pub BytesTextsGo : Type 0
BytesTextsGo = (m : typed.Module) → Base m → (t : Ty) (into : ℕ) (from : List ℕ) → InstrGoes m (core.Give t (Operate BytesText) into from)

-- The bytes of a string as a new array.
abbrev pub TextBytesGo : Type 0
TextBytesGo = (m : typed.Module) → Base m → (t : Ty) (into : ℕ) (from : List ℕ) → InstrGoes m (core.Give t (Operate TextBytes) into from)
