-- How many bytes the slots of a function take, where each has room for what is put into it.
use Rattle.std.specs.Prelude.{◌≡◌, ℕ, zero, suc, ◌+◌, ◌<◌, ◌≤◌, max, List, Option, Some, None, slice_get, if◌then◌else◌, ◌⊎◌}
use Rattle.std.specs.Int.{next_multiple_of}
use Rattle.limbo_types.specs.Types as ty
use Rattle.limbo_types.specs.Types.{Ty}
use Rattle.limbo_layout.specs.Adts.{Def}
use Rattle.limbo_typed.specs.Typed.{Function}
use Rattle.limbo_meaning.specs.Operations.{item_of}
use Rattle.limbo_meaning.specs.Evaluation.{may_hold}
use Rattle.limbo_meaning.specs.Trees as tree
use Rattle.limbo_meaning.specs.Trees.{Work, Term, Evaluated, Node, Lazy, Update, Fill, Terms, NoTerms, MoreTerms, Items, NoItems, MoreItems}
use Rattle.limbo_meaning.specs.Trees.{Stm, Eval, If, While, Enter, Loop, Looping, Block, Done, Then, Turn, Again}
use Rattle.limbo_meaning.specs.Program.{Routine, routine_of}
use Rattle.core_code.specs.Code.{Instr, Give, Place, Gather, Pick, Known, Cell, Call, Print, Skip, Truth, Start}
use Rattle.core_code.specs.Terms.{lower}
use Rattle.core_code.specs.Statements.{function_of}
use Rattle.core_frames.specs.Sizes.{value_size, frame_size, laid_size}

-- What a slot has: a value of a type, or a word: a decision, a loop of an initialiser, a value that is known from the start, or where the
-- operands of a call or a print are put together.
pub data Slot : Type 0 where
  Value : Ty → Slot
  Word : Slot

-- Slots: none, one, some and others behind them, or some in the place of others, which aren't used at one time.
pub data Slots : Type 0 where
  NoSlots : Slots
  One : Slot → Slots
  Both : Slots → Slots → Slots
  Either : Slots → Slots → Slots

-- how many there are
abbrev pub number : Slots → ℕ
number NoSlots = 0
number (One s) = 1
number (Both a b) = number a + number b
number (Either a b) = max (number a) (number b)

-- ---- which slots there are

-- how many operands there are
abbrev pub count : Terms → ℕ
count NoTerms = 0
count (MoreTerms t ts) = suc (count ts)

-- the cells of a list, which are references
abbrev pub cells : Ty → ℕ → Slots
cells t zero = NoSlots
cells t (suc k) = Both (One (Value (ty.ListOf (item_of t)))) (cells t k)

-- A list without items is nothing, which is known.
abbrev pub list_slots : Ty → (items : ℕ) → Slots
list_slots t zero = One Word
list_slots t (suc k) = cells t (suc k)

-- A call and a print have a slot for their operands, where there are any, and behind it that of the value.
abbrev pub called_slots : (value : Slot) → (operands : ℕ) → Slots
called_slots s zero = One s
called_slots s (suc k) = Both (One Word) (One s)

-- The slots of a node itself, behind those of so many operands. An assignment and a copy have none.
abbrev pub own_slots : Ty → Work → (operands : ℕ) → Slots
own_slots t (tree.Assign aims) n = NoSlots
own_slots t tree.Copy n = NoSlots
own_slots t tree.Link n = list_slots t n
own_slots t (tree.Call f) n = called_slots (Value t) n
own_slots t (tree.Print ps) n = called_slots (Value ty.Int) n
own_slots t o n = One (Value t)

module _ (defs : List Def) where
  -- The slots of a tree, in their order. Elements of an initialiser that hold nothing have theirs in one place.
  abbrev mutual
    pub slots_of : Term → Slots
    slots_of (Evaluated v) = One Word
    slots_of (Node t o ts) = Both (all_slots ts) (own_slots t o (count ts))
    slots_of (Lazy c l r) = Both (slots_of l) (Both (One Word) (Both (slots_of r) (One (Value ty.Int))))
    slots_of (Update o g t w ts us) = Both (all_slots ts) (Both (One (Value t)) (Both (all_slots us) (One (Value t))))
    slots_of (Fill t l is rest) =
        Both (slots_of l) (Both (One (Value (ty.ArrayOf t))) (Both (Either (alone_slots is) (rest_alone rest))
        (Both (held_slots is) (rest_slots rest))))
    -- nothing is put into the slot of what isn't of this part of the language
    slots_of t = One (Value ty.Nothing)

    pub all_slots : Terms → Slots
    all_slots NoTerms = NoSlots
    all_slots (MoreTerms t ts) = Both (slots_of t) (all_slots ts)

    pub held_slots : Items → Slots
    held_slots NoItems = NoSlots
    held_slots (MoreItems i e is) = Both (if may_hold defs e then slots_of e else NoSlots) (held_slots is)

    pub alone_slots : Items → Slots
    alone_slots NoItems = NoSlots
    alone_slots (MoreItems i e is) = Either (if may_hold defs e then NoSlots else slots_of e) (alone_slots is)

    -- The element of `*`, with the slot of its loop in front.
    pub rest_slots : Terms → Slots
    rest_slots NoTerms = NoSlots
    rest_slots (MoreTerms e es) = Both (One Word) (if may_hold defs e then slots_of e else NoSlots)

    pub rest_alone : Terms → Slots
    rest_alone NoTerms = NoSlots
    rest_alone (MoreTerms e es) = if may_hold defs e then NoSlots else slots_of e

  abbrev pub slots_if : Option Term → Slots
  slots_if None = NoSlots
  slots_if (Some t) = slots_of t

  -- Each statement has its slots in one place with those of the others.
  abbrev mutual
    pub stm_slots : Stm → Slots
    stm_slots (Eval t) = slots_of t
    stm_slots (If t a b) = Either (slots_of t) (Either (block_slots a) (block_slots b))
    stm_slots (While t l) = loop_slots l
    stm_slots (Enter l) = loop_slots l
    stm_slots (tree.Return t) = slots_of t
    stm_slots s = NoSlots

    pub loop_slots : Loop → Slots
    loop_slots (Looping c n body) = Either (Either (slots_if c) (slots_if n)) (block_slots body)

    pub block_slots : Block → Slots
    block_slots Done = NoSlots
    block_slots (Then s b) = Either (stm_slots s) (block_slots b)
    block_slots (Turn l b) = block_slots b
    block_slots (Again l b) = block_slots b

  -- ---- how many bytes they take

  -- Slots are laid one behind the other, at multiples of 8.
  abbrev pub room_for : Slot → ℕ
  room_for (Value t) = value_size defs t
  room_for Word = 8

  abbrev pub bytes : Slots → ℕ
  bytes NoSlots = 0
  bytes (One s) = room_for s
  bytes (Both a b) = bytes a + bytes b
  bytes (Either a b) = max (bytes a) (bytes b)

  abbrev pub slot_bytes : Routine → ℕ
  slot_bytes r = bytes (block_slots r.body)

-- The variables and the slots of each function fit into the frame that its nodes count.
abbrev pub SlotsFit : Type 0
SlotsFit =
    (defs : List Def) (f : Function) →
    40 + laid_size defs (routine_of f).variables + slot_bytes defs (routine_of f) ≤ frame_size defs f

-- Also where they begin at the next multiple of 8 behind the variables.
abbrev pub SlotsFitAligned : Type 0
SlotsFitAligned =
    (defs : List Def) (f : Function) → 0 < slot_bytes defs (routine_of f) →
    next_multiple_of (40 + laid_size defs (routine_of f).variables) 8 + slot_bytes defs (routine_of f) ≤ frame_size defs f

-- ---- that the code uses these slots

-- Among slots that are numbered from one on, there is one of this number with room for that.
abbrev pub HasSlot : (lo : ℕ) → Slots → (number : ℕ) → Slot → Type 0
HasSlot lo NoSlots n s = ⊥
HasSlot lo (One r) n s = (n ≡ lo) × (s ≡ r)
HasSlot lo (Both a b) n s = HasSlot lo a n s ⊎ HasSlot (lo + number a) b n s
HasSlot lo (Either a b) n s = HasSlot lo a n s ⊎ HasSlot lo b n s

-- A slot, where there is one, has room for that.
abbrev pub IfHas : (has : ℕ → Slot → Type 0) → Option ℕ → Slot → Type 0
IfHas has None s = Unit {0}
IfHas has (Some d) s = has d s

-- Each slot into which an instruction puts something has room for it. A slot to which operands move has room for the value that they make,
-- or is the word of a call or a print. Parts that move and references that go leave what they come from as large as it was, and what a turn
-- of a loop held comes back to where it was put before.
abbrev pub PutsInto : (has : ℕ → Slot → Type 0) → Instr → Type 0
PutsInto has (Give t o into from) = has into (Value t)
PutsInto has (Place t v j k into from) = has into (Value t) ⊎ has into Word
PutsInto has (Gather t o into n) = has into (Value t)
PutsInto has (Pick t k into from) = has into (Value t)
PutsInto has (Known v into) = has into Word
PutsInto has (Cell t into item behind) = has into (Value (ty.ListOf t))
PutsInto has (Call t f into o) = has into (Value t) × IfHas has o Word
PutsInto has (Print ps into o) = has into (Value ty.Int) × IfHas has o Word
PutsInto has (Skip c into d from passes) = has into (Value ty.Int) × IfHas has d Word
PutsInto has (Truth into from) = has into (Value ty.Int)
PutsInto has (Start loop) = has loop Word
PutsInto has i = Unit {0}

abbrev pub AllPutInto : (has : ℕ → Slot → Type 0) → List Instr → Type 0
AllPutInto has is = (pc : ℕ) (i : Instr) → slice_get is pc ≡ Some i → PutsInto has i

-- The code of a tree, and of a function, uses as many slots as are listed, and puts into each what has room there.
pub record SlotsAreListed : Type 0 where
  pub numbers : (defs : List Def) (lo : ℕ) (t : Term) → (lower defs lo t).free ≡ lo + number (slots_of defs t)
  pub puts : (defs : List Def) (lo : ℕ) (t : Term) → AllPutInto (HasSlot lo (slots_of defs t)) (lower defs lo t).code
  pub functions : (defs : List Def) (r : Routine) → (function_of defs r).slots ≡ max 1 (number (block_slots defs r.body))
  pub function_puts : (defs : List Def) (r : Routine) → AllPutInto (HasSlot 0 (block_slots defs r.body)) (function_of defs r).code
