-- Slots: where the values of a statement's nodes stand while it is evaluated.
use Rattle.std.specs.Prelude.{ℕ, ℤ, pos, negsuc, zero, suc, ◌+◌, ◌-◌, List, [], ◌∷◌, length, nat_lt, None}
use Rattle.std.specs.Prelude.{slice_set, slice_index_or, if◌then◌else◌}
use Rattle.limbo_meaning.specs.Values.{Value, Num, Chars, Ref, Array, Parts, Values, NoValues, MoreValues, nothing, references}
use Rattle.limbo_meaning.specs.Values.{references_in, among}

-- A slot has a whole value; or the operands that are there so far of what is put together in it, in order; or a loop of an initialiser:
-- which index comes next, and the chain of what its turns held, the oldest first, each as a region of slots.
mutual
  pub data Slot : Type 0 where
    Holds : Value → Slot
    Forms : List Value → Slot
    Turns : (next : ℕ) → Regions → Slot

  pub data Region : Type 0 where
    NoSlot : Region
    MoreSlots : Slot → Region → Region

  pub data Regions : Type 0 where
    NoRegion : Regions
    MoreRegions : Region → Regions → Regions

abbrev pub Slots : Type 0
Slots = List Slot

abbrev pub empty : Slot
empty = Holds nothing

abbrev pub slot : Slots → ℕ → Slot
slot slots s = slice_index_or slots s empty

abbrev pub put : Slots → ℕ → Slot → Slots
put slots s v = slice_set slots s v

abbrev pub value_of : Slot → Value
value_of (Holds v) = v
value_of (Forms vs) = nothing
value_of (Turns n rs) = nothing

abbrev pub operands_of : Slot → List Value
operands_of (Forms vs) = vs
operands_of s = []

abbrev pub chain_of : Slot → Regions
chain_of (Holds v) = NoRegion
chain_of (Forms vs) = NoRegion
chain_of (Turns n rs) = rs

-- The index that comes next in a loop, and the one that its turn is at, which is in front of that: no index, where none began.
abbrev pub next_of : Slot → ℕ
next_of (Holds v) = 0
next_of (Forms vs) = 0
next_of (Turns n rs) = n

abbrev pub index_of : Slot → ℤ
index_of (Holds v) = negsuc 0
index_of (Forms vs) = negsuc 0
index_of (Turns zero rs) = negsuc 0
index_of (Turns (suc n) rs) = pos n

abbrev pub values_of : Slots → List ℕ → List Value
values_of slots [] = []
values_of slots (s ∷ ss) = value_of (slot slots s) ∷ values_of slots ss

-- ---- one reference of a value goes

-- The value whose reference of this number, in order, is nothing.
abbrev mutual
  pub without : ℕ → Value → Value
  without k (Num z) = Num z
  without k (Chars s) = Chars s
  without zero (Ref r) = Ref None
  without (suc k) (Ref r) = Ref r
  without zero (Array p) = Array None
  without (suc k) (Array p) = Array p
  without k (Parts vs) = Parts (all_without k vs)

  pub all_without : ℕ → Values → Values
  all_without k NoValues = NoValues
  all_without k (MoreValues v vs) =
      if nat_lt k (length (references v))
      then MoreValues (without k v) vs
      else MoreValues v (all_without (k - length (references v)) vs)

abbrev pub dropped : ℕ → Slot → Slot
dropped k (Holds v) = Holds (without k v)
dropped k (Forms vs) = Forms vs
dropped k (Turns n rs) = Turns n rs

-- ---- regions

-- So many slots from one on; a region in their place.
abbrev pub region : Slots → (from words : ℕ) → Region
region slots from zero = NoSlot
region slots from (suc n) = MoreSlots (slot slots from) (region slots (suc from) n)

abbrev pub cleared : Slots → (from words : ℕ) → Slots
cleared slots from zero = slots
cleared slots from (suc n) = put (cleared slots (suc from) n) from empty

abbrev pub placed : Slots → (from : ℕ) → Region → Slots
placed slots from NoSlot = slots
placed slots from (MoreSlots s g) = put (placed slots (suc from) g) from s

abbrev pub chained : Regions → Region → Regions
chained NoRegion g = MoreRegions g NoRegion
chained (MoreRegions h rs) g = MoreRegions h (chained rs g)

-- ---- how often slots name n

abbrev mutual
  pub slot_names : Slot → ℕ → ℕ
  slot_names (Holds v) n = among n (references v)
  slot_names (Forms vs) n = among n (references_in vs)
  slot_names (Turns i rs) n = regions_name rs n

  pub region_names : Region → ℕ → ℕ
  region_names NoSlot n = 0
  region_names (MoreSlots s g) n = slot_names s n + region_names g n

  pub regions_name : Regions → ℕ → ℕ
  regions_name NoRegion n = 0
  regions_name (MoreRegions g rs) n = region_names g n + regions_name rs n

abbrev pub slots_name : Slots → ℕ → ℕ
slots_name [] n = 0
slots_name (s ∷ ss) n = slot_names s n + slots_name ss n
