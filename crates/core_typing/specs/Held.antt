-- What is known of slots while code runs, whatever values come: of which type a slot's value is and which of its references may name
-- something, what is put together there, how a connective was decided, and what the turns of a loop of an initialiser left in its chain.
use Rattle.std.specs.Prelude.{ℕ, zero, suc, ◌+◌, ◌-◌, ◌≡◌, ◌⊎◌, List, [], ◌∷◌, ◌++◌, Bool, Option, None, Some, nat_eq, if◌then◌else◌}
use Rattle.std.specs.Prelude.{slice_set, slice_index_or}
use Rattle.limbo_types.specs.Types as ty
use Rattle.limbo_types.specs.Types.{Ty}
use Rattle.core_code.specs.Terms.{Moved, is_moved}

mutual
  pub data Held : Type 0 where
    -- a value of a type, of whose references, by their numbers in order, these alone may name something; they go in no fixed order, as a
    -- part may be nil and others may have moved away
    Of : Ty → (live : List ℕ) → Held
    -- what is put together as a value of a type, of this variant of an adt: operands of these types are there, in order, at the parts of
    -- these numbers; of the whole value's references, by their numbers in order, these alone may name something
    Forming : Ty → (variant : Option ℕ) → (parts : List ℕ) → (types : List Ty) → (live : List ℕ) → Held
    -- an int that tells whether the left operand of a connective decided
    Decided : Bool → Held
    Turns : Regions → Held

  pub data Region : Type 0 where
    NoSlot : Region
    MoreSlots : Held → Region → Region

  pub data Regions : Type 0 where
    NoRegion : Regions
    MoreRegions : Region → Regions → Regions

abbrev pub Slots : Type 0
Slots = List Held

-- An empty slot has a value without parts.
abbrev pub empty : Held
empty = Of ty.Nothing []

abbrev pub slot : Slots → ℕ → Held
slot slots s = slice_index_or slots s empty

abbrev pub put : Slots → ℕ → Held → Slots
put slots s h = slice_set slots s h

-- Of which type a slot's value is, and which of its references may name something.
abbrev pub type_held : Held → Option Ty
type_held (Of t ns) = Some t
type_held h = None

-- Of which type that is which is put together in a slot.
abbrev pub type_forming : Held → Option Ty
type_forming (Forming t v ks us ns) = Some t
type_forming h = None

abbrev pub or_nothing : Option Ty → Ty
or_nothing None = ty.Nothing
or_nothing (Some t) = t

abbrev pub live_in : Held → List ℕ
live_in (Of t ns) = ns
live_in (Forming t v ks us ns) = ns
live_in h = []

abbrev pub chain_of : Held → Regions
chain_of (Turns rs) = rs
chain_of h = NoRegion

-- ---- regions, as the machine of three-address code keeps them and takes them back

abbrev pub region : Slots → (from words : ℕ) → Region
region slots from zero = NoSlot
region slots from (suc n) = MoreSlots (slot slots from) (region slots (suc from) n)

abbrev pub cleared : Slots → (from words : ℕ) → Slots
cleared slots from zero = slots
cleared slots from (suc n) = put (cleared slots (suc from) n) from empty

abbrev pub placed : Slots → (from : ℕ) → Region → Slots
placed slots from NoSlot = slots
placed slots from (MoreSlots h g) = put (placed slots (suc from) g) from h

abbrev pub chained : Regions → Region → Regions
chained NoRegion g = MoreRegions g NoRegion
chained (MoreRegions h rs) g = MoreRegions h (chained rs g)

-- How many slots a region has.
abbrev pub slots_in : Region → ℕ
slots_in NoSlot = 0
slots_in (MoreSlots h g) = suc (slots_in g)

-- Each region of a chain has so many.
abbrev pub EachHas : (words : ℕ) → Regions → Type 0
EachHas n NoRegion = Unit {0}
EachHas n (MoreRegions g rs) = (slots_in g ≡ n) × EachHas n rs

-- ---- what is put together

-- The parts at which operands are, of what is put together.
abbrev pub parts_in : Held → List ℕ
parts_in (Forming t v ks us ns) = ks
parts_in h = []

-- An operand of a type more is there, at the part of a number, and of its references these come along.
abbrev pub with_operand : Ty → (variant : Option ℕ) → (part : ℕ) → (type : Ty) → (live : List ℕ) → Held → Held
with_operand t v k u ms (Forming w x ks us ns) = Forming t v (ks ++ k ∷ []) (us ++ u ∷ []) (ns ++ ms)
with_operand t v k u ms h = Forming t v (k ∷ []) (u ∷ []) ms

-- Which references of the whole value may name something, and the whole value.
abbrev pub live_formed : Held → List ℕ
live_formed (Forming t v ks us ns) = ns
live_formed h = []

abbrev pub formed : Held → Held
formed (Forming t v ks us ns) = Of t ns
formed h = h

-- The operands of a call and of a print stay in their slot as a whole value, where there are any.
abbrev pub together : Slots → Option ℕ → Slots
together slots None = slots
together slots (Some a) = put slots a (formed (slot slots a))

-- A slot that tells a decision, where there is one.
abbrev pub noted : Slots → Option ℕ → Bool → Slots
noted slots None b = slots
noted slots (Some d) b = put slots d (Decided b)

-- ---- references that go, and that move

-- The reference of this number is one of those that may name something.
abbrev pub Has : List ℕ → ℕ → Type 0
Has [] k = ⊥
Has (n ∷ ns) k = (n ≡ k) ⊎ Has ns k

abbrev pub without : ℕ → List ℕ → List ℕ
without k [] = []
without k (n ∷ ns) = if nat_eq k n then without k ns else n ∷ without k ns

-- The reference of this number is nothing.
abbrev pub dropped : ℕ → Held → Held
dropped k (Of t ns) = Of t (without k ns)
dropped k h = h

-- Those that move, by their numbers where they come to, and those that stay.
abbrev pub moved : Moved → List ℕ → List ℕ
moved v [] = []
moved v (k ∷ ks) = if is_moved v v.slot k then (v.at + (k - v.first)) ∷ moved v ks else moved v ks

abbrev pub staying : Moved → List ℕ → List ℕ
staying v [] = []
staying v (k ∷ ks) = if is_moved v v.slot k then staying v ks else k ∷ staying v ks

abbrev pub left_by : Moved → Held → Held
left_by v (Of t ns) = Of t (staying v ns)
left_by v h = h
