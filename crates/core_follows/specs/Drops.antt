-- What the drops at the end of a statement let go, read off the slots.
use Rattle.std.specs.Prelude.{◌≡◌, ℕ, suc, pos, ◌+◌, ◌-◌, ◌<◌, ◌≤◌, ◌⊎◌, List, [], ◌∷◌, ◌++◌, length, Option, Some, None, slice_get}
use Rattle.limbo_meaning.specs.Values.{Num, among}
use Rattle.core_code.specs.Slots.{Slot, Holds, Turns, Region, NoSlot, MoreSlots, Regions, NoRegion, MoreRegions, Slots, slot, placed}
use Rattle.core_code.specs.Slots.{region, operands_of, slot_names, region_names}
use Rattle.core_code.specs.Code.{Instr, Drop, Mirror, Take, Back}
use Rattle.core_code.specs.Naming.{reference, size}

-- No operands are there of anything that is put together in a slot; in none of a region.
abbrev pub IsWhole : Slot → Type 0
IsWhole s = operands_of s ≡ []

abbrev pub AllWhole : Region → Type 0
AllWhole NoSlot = Unit {0}
AllWhole (MoreSlots s g) = IsWhole s × AllWhole g

-- No slot from one on, and below another, names anything, nor is anything put together there.
abbrev pub Clean : Slots → (from to : ℕ) → Type 0
Clean slots a b = (s : ℕ) → a ≤ s → s < b → ((n : ℕ) → slot_names (slot slots s) n ≡ 0) × IsWhole (slot slots s)

-- These slots name what is held, each as often.
abbrev pub Name : Slots → (from to : ℕ) → List (Option ℕ) → Type 0
Name slots a b held = (n : ℕ) → region_names (region slots a (b - a)) n ≡ among n held

-- These instructions stand in the code from a place on.
abbrev pub HasAt : List Instr → (pc : ℕ) → List Instr → Type 0
HasAt code pc [] = Unit {0}
HasAt code pc (i ∷ is) = (slice_get code pc ≡ Some i) × HasAt code (suc pc) is

-- From one slot on and below another; and not so.
abbrev pub Between : (from to : ℕ) → ℕ → Type 0
Between a b s = (a ≤ s) × (s < b)

abbrev pub Beside : (from to : ℕ) → ℕ → Type 0
Beside a b s = (s < a) ⊎ (b ≤ s)

-- Neither the loop's slot nor one of so many slots of its turns.
abbrev pub Apart : (loop from words : ℕ) → ℕ → Type 0
Apart c from words s = (s ≡ c → ⊥) × (from ≤ s → s < from + words → ⊥)

-- A drop reads and changes only slots of these; a loop's slot stands below the region of its turns.
abbrev pub Touches : (ℕ → Type 0) → Instr → Type 0
Touches own (Drop s k) = own s
Touches own (Mirror d n) = own d
Touches own (Take c from words n) = own c × (c < from) × ((s : ℕ) → from ≤ s → s < from + words → own s)
Touches own i = Unit {0}

abbrev pub AllTouch : (ℕ → Type 0) → List Instr → Type 0
AllTouch own [] = Unit {0}
AllTouch own (i ∷ is) = Touches own i × AllTouch own is

-- None of them drops this reference of a slot.
abbrev pub Misses : (s k : ℕ) → Instr → Type 0
Misses s k (Drop r j) = r ≡ s → j ≡ k → ⊥
Misses s k i = Unit {0}

abbrev pub AllMiss : (s k : ℕ) → List Instr → Type 0
AllMiss s k [] = Unit {0}
AllMiss s k (i ∷ is) = Misses s k i × AllMiss s k is

-- No drop of these brings a value back into a slot, or reads it again as what was decided.
abbrev pub Spares : (s : ℕ) → Instr → Type 0
Spares s (Take c from words n) = Apart c from words s
Spares s (Mirror d n) = s ≡ d → ⊥
Spares s i = Unit {0}

abbrev pub AllSpare : (s : ℕ) → List Instr → Type 0
AllSpare s [] = Unit {0}
AllSpare s (i ∷ is) = Spares s i × AllSpare s is

mutual
  -- Drops in a row let these go, in this order: a reference of a slot; nothing, where it is read again what was decided, whether the drops
  -- behind follow or are passed; what the turns held that a loop's chain has.
  pub data Dropping : Slots → List Instr → List (Option ℕ) → Type 0 where
    none : {slots : Slots} → Dropping slots [] []
    one : {slots : Slots} {is : List Instr} {held : List (Option ℕ)} (s k : ℕ) (r : Option ℕ) → reference k (slot slots s) ≡ r
        → AllMiss s k is → Dropping slots is held → Dropping slots (Drop s k ∷ is) (r ∷ held)
    enters : {slots : Slots} {is : List Instr} {held : List (Option ℕ)} (d n : ℕ) → slot slots d ≡ Holds (Num (pos 0))
        → Dropping slots is held → Dropping slots (Mirror d n ∷ is) (None ∷ held)
    passes : {slots : Slots} {rest : List Instr} {held : List (Option ℕ)} (d n : ℕ) (skipped is : List Instr)
        → slot slots d ≡ Holds (Num (pos 1)) → rest ≡ skipped ++ is → n ≡ length skipped → Dropping slots is held
        → Dropping slots (Mirror d n ∷ rest) (None ∷ held)
    takes : {slots : Slots} {rest : List Instr} {held : List (Option ℕ)} (c from words n next : ℕ) (es is : List Instr)
        (rs : Regions) (turned later : List (Option ℕ)) → slot slots c ≡ Turns next rs → c < from → 0 < words
        → Clean slots from (from + words) → AllTouch (Between from (from + words)) es → AllTouch (Apart c from words) is
        → HasTurns from words es rs turned → Dropping slots is later → rest ≡ es ++ (Back (suc (length es)) ∷ is)
        → n ≡ suc (length es) → held ≡ turned ++ later
        → Dropping slots (Take c from words n ∷ rest) held

  -- A chain has these turns: wherever a region of it comes back into the slots, the drops of a turn let go what that held. That there is
  -- one turn more, or none, is told in front of each.
  pub data HasTurns : (from words : ℕ) → List Instr → Regions → List (Option ℕ) → Type 0 where
    last : {from words : ℕ} {es : List Instr} → HasTurns from words es NoRegion (None ∷ [])
    more : {from words : ℕ} {es : List Instr} {g : Region} {rs : Regions} (held turned : List (Option ℕ)) → size g ≡ words
        → ((slots : Slots) → from + words ≤ length slots → Dropping (placed slots from g) es held)
        → ((n : ℕ) → region_names g n ≡ among n held) → AllWhole g → HasTurns from words es rs turned
        → HasTurns from words es (MoreRegions g rs) (None ∷ (held ++ turned))

-- What an evaluation left in its slots, from one on and below another: as many slots as before, all others as they were, nothing that isn't
-- whole where all was whole, and drops for all that these name.
pub record Holding (before slots : Slots) (lo hi : ℕ) (drops : List Instr) (held : List (Option ℕ)) : Type 0 where
  pub long : length slots ≡ length before
  pub same : (s : ℕ) → Beside lo hi s → slot slots s ≡ slot before s
  pub whole : (s : ℕ) → IsWhole (slot before s) → IsWhole (slot slots s)
  pub dropping : Dropping slots drops held
  pub within : AllTouch (Between lo hi) drops
  pub names : Name slots lo hi held
