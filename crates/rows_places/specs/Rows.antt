-- Rows that read and write places in blocks: variables of the module, elements of arrays, and what references name.
use Rattle.std.specs.Prelude.{ℕ, ℤ, ◌≡◌, ◌≤◌, ◌⊎◌, true, false, List}
use Rattle.limbo_types.specs.Types.{Ty}
use Rattle.limbo_layout.specs.Adts.{Def}
use Rattle.limbo_layout.specs.Layout.{limit}
use Rattle.limbo_typed.specs.Typed as typed
use Rattle.limbo_meaning.specs.Places.{Root, Local, Global, Element, Target, Way}
use Rattle.limbo_meaning.specs.Trees.{Read}
use Rattle.core_code.specs.Code as core
use Rattle.core_code.specs.Code.{Instr}
use Rattle.value_frames.specs.Frames.{AsNumber, AsReference, Boxed, form_of, room_for}
use Rattle.value_follows.specs.Rows.{Base, InstrGoes}

-- A value of such a type stands in the words of its slot, a number or a reference, and one instruction moves it.
abbrev pub IsSimple : Ty → Type 0
IsSimple t = (form_of t ≡ AsNumber) ⊎ (form_of t ≡ AsReference)

-- A value of such a type has a record of its own in a slot, and takes no more bytes than a type may. One instruction moves it, or two,
-- where its size comes first.
abbrev pub IsWhole : List Def → Ty → Type 0
IsWhole defs t = (form_of t ≡ Boxed) × ((room_for defs t).size ≤ limit)

-- The way to a part of what stands where a place begins.
abbrev pub way_from : Root → (part : List ℕ) → Way
way_from root part = record { root = root; parts = part; character = false }

-- The way to a character of the string there.
abbrev pub character_from : Root → (part : List ℕ) → Way
character_from root part = record { root = root; parts = part; character = true }

-- ---- rows

-- Part of what a `ref` names is read, and comes into a slot; of `nil` there is none, and both processes end as broken.
abbrev pub TargetsGo : Type 0
TargetsGo =
    (m : typed.Module) → Base m → (t : Ty) (part : List ℕ) (into : ℕ) (from : List ℕ) → IsSimple t →
    InstrGoes m (core.Give t (Read (way_from Target part)) into from)

-- So is part of an element of an array; or there is none at that index, and both processes end as broken.
abbrev pub ElementsGo : Type 0
ElementsGo =
    (m : typed.Module) → Base m → (t : Ty) (part : List ℕ) (into : ℕ) (from : List ℕ) → IsSimple t →
    InstrGoes m (core.Give t (Read (way_from Element part)) into from)

-- A write to a place, also of zero.
abbrev pub WriteGoes : typed.Module → Ty → Root → (part operands taken : List ℕ) → (from : ℕ) → Type 0
WriteGoes m t root part operands taken from = InstrGoes m (core.Write t (way_from root part) operands taken from)

-- Part of a variable of the module is written.
abbrev pub GlobalWritesGo : Type 0
GlobalWritesGo =
    (m : typed.Module) → Base m → (t : Ty) (v : ℕ) (part operands taken : List ℕ) (from : ℕ) → IsSimple t →
    WriteGoes m t (Global v) part operands taken from

-- So is part of what a `ref` names, or both processes end as broken.
abbrev pub TargetWritesGo : Type 0
TargetWritesGo =
    (m : typed.Module) → Base m → (t : Ty) (part operands taken : List ℕ) (from : ℕ) → IsSimple t →
    WriteGoes m t Target part operands taken from

-- And part of an element of an array.
abbrev pub ElementWritesGo : Type 0
ElementWritesGo =
    (m : typed.Module) → Base m → (t : Ty) (part operands taken : List ℕ) (from : ℕ) → IsSimple t →
    WriteGoes m t Element part operands taken from

-- An element of a new array is stored, a number or a reference; or there is no array, or none at that index, and both processes end as
-- broken.
abbrev pub ElementGoes : Type 0
ElementGoes =
    (m : typed.Module) → Base m → (t : Ty) (array : ℕ) (index : ℤ) (from : ℕ) → IsSimple t →
    InstrGoes m (core.Element t array index from)

-- So is the element of the turn that a loop is in.
abbrev pub OtherGoes : Type 0
OtherGoes =
    (m : typed.Module) → Base m → (t : Ty) (array loop from : ℕ) → IsSimple t →
    InstrGoes m (core.Other t array loop from)

-- A character of a string comes into a slot, wherever the string stands; or there is none at that index, or no string, and both processes
-- end as broken.
abbrev pub CharactersGo : Type 0
CharactersGo =
    (m : typed.Module) → Base m → (t : Ty) (root : Root) (part : List ℕ) (into : ℕ) (from : List ℕ) →
    InstrGoes m (core.Give t (Read (character_from root part)) into from)

-- A character is written into a string, wherever that stands, or behind its end; or both processes end as broken: where there is no such
-- index, where the string would be too long, and where the place begins with what isn't there.
abbrev pub CharacterWritesGo : Type 0
CharacterWritesGo =
    (m : typed.Module) → Base m → (t : Ty) (root : Root) (part operands taken : List ℕ) (from : ℕ) →
    InstrGoes m (core.Write t (character_from root part) operands taken from)

-- A whole value of parts, or a big, or the zero of such a type, is written to a variable of the function,
abbrev pub LocalWholesGo : Type 0
LocalWholesGo =
    (m : typed.Module) → Base m → (t : Ty) (v : ℕ) (part operands taken : List ℕ) (from : ℕ) → IsWhole m.adts t →
    WriteGoes m t (Local v) part operands taken from

-- to one of the module,
abbrev pub GlobalWholesGo : Type 0
GlobalWholesGo =
    (m : typed.Module) → Base m → (t : Ty) (v : ℕ) (part operands taken : List ℕ) (from : ℕ) → IsWhole m.adts t →
    WriteGoes m t (Global v) part operands taken from

-- to what a `ref` names,
abbrev pub TargetWholesGo : Type 0
TargetWholesGo =
    (m : typed.Module) → Base m → (t : Ty) (part operands taken : List ℕ) (from : ℕ) → IsWhole m.adts t →
    WriteGoes m t Target part operands taken from

-- and to an element of an array.
abbrev pub ElementWholesGo : Type 0
ElementWholesGo =
    (m : typed.Module) → Base m → (t : Ty) (part operands taken : List ℕ) (from : ℕ) → IsWhole m.adts t →
    WriteGoes m t Element part operands taken from

-- Whole elements are stored so, too, by their numbers and by the turns of a loop.
abbrev pub ElementWholeGoes : Type 0
ElementWholeGoes =
    (m : typed.Module) → Base m → (t : Ty) (array : ℕ) (index : ℤ) (from : ℕ) → IsWhole m.adts t →
    InstrGoes m (core.Element t array index from)

abbrev pub OtherWholeGoes : Type 0
OtherWholeGoes =
    (m : typed.Module) → Base m → (t : Ty) (array loop from : ℕ) → IsWhole m.adts t →
    InstrGoes m (core.Other t array loop from)

-- ---- values that have a record of their own, read into slots

-- Part of what a `ref` names is read where it is a big, a tuple or an adt, of a type that takes no more bytes than a type may; of `nil`
-- there is none, and both processes end as broken.
abbrev pub BoxTargetsGo : Type 0
BoxTargetsGo =
    (m : typed.Module) → Base m → (t : Ty) (part : List ℕ) (into : ℕ) (from : List ℕ) → form_of t ≡ Boxed →
    (room_for m.adts t).size ≤ limit → InstrGoes m (core.Give t (Read (way_from Target part)) into from)

-- So is part of an element of an array.
abbrev pub BoxElementsGo : Type 0
BoxElementsGo =
    (m : typed.Module) → Base m → (t : Ty) (part : List ℕ) (into : ℕ) (from : List ℕ) → IsWhole m.adts t →
    InstrGoes m (core.Give t (Read (way_from Element part)) into from)
