-- What a process names as references go, are kept for later, and move.
use Rattle.std.specs.Prelude.{◌≡◌, ◌≢◌, ℕ, suc, ◌+◌, ◌<◌, ◌≤◌, List, [], ◌∷◌, length, Option, None}
use Rattle.std.specs.Prelude.{◌⊎◌, Some, slice_get, slice_index_or}
use Rattle.process_model.specs.Process.{Went}
use Rattle.limbo_types.specs.Types.{Ty, Tys, Tuple, Adt}
use Rattle.limbo_layout.specs.Adts.{Def, listed, parts}
use Rattle.limbo_layout.specs.Layout.{Room, Laid}
use Rattle.limbo_typed.specs.declared.operation.Operation.TheVariants as operation
use Rattle.limbo_meaning.specs.Values.{Value, Values, Parts, nothing, references, one, fitted}
use Rattle.limbo_meaning.specs.Operations.{adt_parts}
use Rattle.limbo_meaning.specs.Places.{value_part}
use Rattle.limbo_meaning.specs.Trees.{Operate}
use Rattle.limbo_meaning.specs.Process.{Shared}
use Rattle.core_code.specs.Slots.{Slot, Holds, Forms, Turns, Region, NoSlot, MoreSlots, Regions, MoreRegions, empty, slot, value_of}
use Rattle.core_code.specs.Slots.{operands_of, region, slot_names, region_names}
use Rattle.core_code.specs.Code.{Program, Drop, Keep, Take, Pick, Place, Gather}
use Rattle.core_code.specs.Machine.{Process, does, process_names}

-- The reference of this number of a slot's value; nothing where there is none.
abbrev pub reference : ℕ → Slot → Option ℕ
reference k s = slice_index_or (references (value_of s)) k None

-- how many slots a region has
abbrev pub size : Region → ℕ
size NoSlot = 0
size (MoreSlots s g) = suc (size g)

-- Values are of these types, or nothing, as the parts of other variants are.
abbrev pub AreOf : List Def → List Ty → List Value → Type 0
AreOf defs ts [] = Unit {0}
AreOf defs [] (v ∷ vs) = ⊥
AreOf defs (t ∷ ts) (v ∷ vs) = ((fitted defs t v ≡ v) ⊎ (v ≡ nothing)) × AreOf defs ts vs

-- A slot has what is put together so far, or is empty.
abbrev pub IsForming : Slot → Type 0
IsForming s = (s ≡ Forms (operands_of s)) ⊎ (s ≡ empty)

-- A process goes on in the same world, and names what it named.
pub record NamesTheSame (w v : Shared) (p q : Process) : Type 0 where
  pub world : v ≡ w
  pub names : (n : ℕ) → process_names q n ≡ process_names p n

-- It names what it named but for one reference.
pub record NamesOneLess (w v : Shared) (p q : Process) (r : Option ℕ) : Type 0 where
  pub world : v ≡ w
  pub names : (n : ℕ) → process_names q n + one n r ≡ process_names p n

module _ (limit : ℕ) (program : Program) where
  -- A drop lets one reference of a slot go.
  abbrev pub DropsOne : Type 0
  DropsOne =
      (w v : Shared) (p q : Process) (s k : ℕ) → does limit program w p (Drop s k) ≡ Went v q → s < length p.frame.slots →
      NamesOneLess w v p q (reference k (slot p.frame.slots s))

  -- What the turns of an initialiser held stays named while it is in the chain in front of their slots.
  abbrev pub KeepsAll : Type 0
  KeepsAll =
      (w v : Shared) (p q : Process) (loop from words next : ℕ) (rs : Regions) → does limit program w p (Keep loop from words) ≡ Went v q →
      slot p.frame.slots loop ≡ Turns next rs → loop < from → from + words ≤ length p.frame.slots → NamesTheSame w v p q

  -- And as it comes back, into slots that name nothing.
  abbrev pub TakesAll : Type 0
  TakesAll =
      (w v : Shared) (p q : Process) (loop from words passes next : ℕ) (g : Region) (rs : Regions) →
      does limit program w p (Take loop from words passes) ≡ Went v q → slot p.frame.slots loop ≡ Turns next (MoreRegions g rs) →
      loop < from → from + size g ≤ length p.frame.slots → ((n : ℕ) → region_names (region p.frame.slots from (size g)) n ≡ 0) →
      NamesTheSame w v p q

  -- A part that is taken out of a value, into a slot that names nothing, is named once, as before.
  abbrev pub MovesParts : Type 0
  MovesParts =
      (w v : Shared) (p q : Process) (t : Ty) (part into from : ℕ) (vs : Values) →
      does limit program w p (Pick t part into from) ≡ Went v q → slot p.frame.slots from ≡ Holds (Parts vs) →
      fitted program.adts t (value_part part vs) ≡ value_part part vs → into ≢ from → into < length p.frame.slots →
      from < length p.frame.slots → ((n : ℕ) → slot_names (slot p.frame.slots into) n ≡ 0) → NamesTheSame w v p q

  -- So is an operand that moves to what is put together in another slot.
  abbrev pub PlacesOperands : Type 0
  PlacesOperands =
      (w v : Shared) (p q : Process) (t : Ty) (variant : Option ℕ) (operand part into from : ℕ) →
      does limit program w p (Place t variant operand part into from) ≡ Went v q →
      slot p.frame.slots from ≡ Holds (value_of (slot p.frame.slots from)) → IsForming (slot p.frame.slots into) → into ≢ from →
      into < length p.frame.slots → from < length p.frame.slots → NamesTheSame w v p q

  -- So are the operands that a tuple and an adt's value are made of, which are of its types.
  abbrev pub GathersTuples : Type 0
  GathersTuples =
      (w v : Shared) (p q : Process) (ts : Tys) (into count : ℕ) →
      does limit program w p (Gather (Tuple ts) (Operate operation.Tuple) into count) ≡ Went v q →
      IsForming (slot p.frame.slots into) → into < length p.frame.slots →
      AreOf program.adts (listed ts) (operands_of (slot p.frame.slots into)) → NamesTheSame w v p q

  abbrev pub GathersAdts : Type 0
  GathersAdts =
      (w v : Shared) (p q : Process) (n : ℕ) (variant : Option ℕ) (d : Def) (r : Room) (into count : ℕ) →
      does limit program w p (Gather (Adt n) (Operate (operation.Adt n variant)) into count) ≡ Went v q →
      slice_get program.adts n ≡ Some d → Laid program.adts (Adt n) r → IsForming (slot p.frame.slots into) →
      into < length p.frame.slots →
      AreOf program.adts (parts d) (adt_parts (Some d) variant (operands_of (slot p.frame.slots into))) → NamesTheSame w v p q

pub record ReferencesGoSo : Type 0 where
  pub drops : (limit : ℕ) (program : Program) → DropsOne limit program
  pub keeps : (limit : ℕ) (program : Program) → KeepsAll limit program
  pub takes : (limit : ℕ) (program : Program) → TakesAll limit program
  pub moves : (limit : ℕ) (program : Program) → MovesParts limit program
  pub places : (limit : ℕ) (program : Program) → PlacesOperands limit program
  pub gathers : (limit : ℕ) (program : Program) → GathersTuples limit program
  pub gathers_adts : (limit : ℕ) (program : Program) → GathersAdts limit program
