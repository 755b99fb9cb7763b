-- Rows of one instruction that move a value within a frame, or from the module's data to a frame, and change nothing else.
use Rattle.std.specs.Prelude.{ℕ, ◌≡◌, ◌⊎◌, false, List}
use Rattle.limbo_types.specs.Types.{Ty}
use Rattle.limbo_typed.specs.Typed as typed
use Rattle.limbo_meaning.specs.Places.{Local, Global, Way}
use Rattle.limbo_meaning.specs.Trees.{Nil, Read}
use Rattle.core_code.specs.Code as core
use Rattle.value_frames.specs.Frames.{AsNumber, AsReference, form_of}
use Rattle.value_follows.specs.Rows.{Base, InstrGoes}

-- `nil` comes into a slot, as a value of a type whose values are references.
abbrev pub NilsGo : Type 0
NilsGo =
    (m : typed.Module) → Base m → (t : Ty) (into : ℕ) (from : List ℕ) → form_of t ≡ AsReference → InstrGoes m (core.Give t Nil into from)

-- A value of such a type stands in the words of its slot, a number or a reference, and one instruction moves it.
abbrev pub IsSimple : Ty → Type 0
IsSimple t = (form_of t ≡ AsNumber) ⊎ (form_of t ≡ AsReference)

-- The way to a part of a variable of the function.
abbrev pub of_local : (variable : ℕ) → (part : List ℕ) → Way
of_local v part = record { root = Local v; parts = part; character = false }

-- Part of a variable is read, and comes into a slot.
abbrev pub ReadsGo : Type 0
ReadsGo =
    (m : typed.Module) → Base m → (t : Ty) (v : ℕ) (part : List ℕ) (into : ℕ) (from : List ℕ) → IsSimple t →
    InstrGoes m (core.Give t (Read (of_local v part)) into from)

-- The way to a part of a variable of the module; which is read, too.
abbrev pub of_global : (variable : ℕ) → (part : List ℕ) → Way
of_global v part = record { root = Global v; parts = part; character = false }

abbrev pub GlobalsGo : Type 0
GlobalsGo =
    (m : typed.Module) → Base m → (t : Ty) (v : ℕ) (part : List ℕ) (into : ℕ) (from : List ℕ) → IsSimple t →
    InstrGoes m (core.Give t (Read (of_global v part)) into from)

-- Part of a variable is written, with what a slot has or with part of that; or with zero, where the slot has a value without parts.
abbrev pub WritesGo : Type 0
WritesGo =
    (m : typed.Module) → Base m → (t : Ty) (v : ℕ) (part operands taken : List ℕ) (from : ℕ) → IsSimple t →
    InstrGoes m (core.Write t (of_local v part) operands taken from)
