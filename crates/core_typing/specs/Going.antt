-- Where code goes on, and what is known of its slots then; and that wherever it comes to, each instruction finds what it needs, and
-- the code in front tells of which type a value is whose part is taken, whose reference is dropped, or in which a place begins, and of
-- which type the operands of a call and of a print are put together; and that what a loop's turn keeps are values.
use Rattle.std.specs.Prelude.{ℕ, zero, suc, pos, ◌+◌, ◌-◌, ◌≡◌, ◌<◌, ◌⊎◌, Bool, true, false, List, [], ◌∷◌, Option, None, Some, slice_get}
use Rattle.std.specs.Prelude.{if◌then◌else◌, slice_index_or, take}
use Rattle.std.specs.List.{All}
use Rattle.limbo_types.specs.Types as ty
use Rattle.limbo_types.specs.Types.{Ty}
use Rattle.limbo_layout.specs.Adts.{Def}
use Rattle.limbo_meaning.specs.Places.{Root, Local, Global}
use Rattle.limbo_values.specs.declared.number.Kind.TheVariants as kind
use Rattle.limbo_values.specs.Numbers.{InRange}
use Rattle.limbo_typed.specs.Fitting.{HasPart}
use Rattle.limbo_typed.specs.declared.operation.Operation.{Operation}
use Rattle.limbo_typed.specs.declared.operation.Operation.TheVariants as operation
use Rattle.limbo_meaning.specs.Trees.{Work, Literal, Nil, Operate, Read, NewChannel}
use Rattle.limbo_meaning.specs.Evaluation.{work_refers, passes_on}
use Rattle.limbo_kept.specs.Trees.{Scope}
use Rattle.core_code.specs.Code.{Instr, Give, Place, Gather, Pick, Known, Write, CopyInto, Cell, Call, Print, Skip, Truth, Element, Start}
use Rattle.core_code.specs.Code.{Next}
use Rattle.core_code.specs.Code.{Other, Keep, Take, Drop, Mirror, Unless, Jump, Back, Return}
use Rattle.core_code.specs.Terms.{Moved, count_of, count_all, numbers_from, part_types, moves_out, slot_at}
use Rattle.core_typing.specs.Held.{Held, Of, Decided, Turns, Regions, NoRegion, MoreRegions, Slots, empty, slot, put}
use Rattle.core_typing.specs.Held.{chain_of, region, cleared, placed, chained, noted, type_held, type_forming, live_in, dropped, moved}
use Rattle.core_typing.specs.Held.{left_by, with_operand, live_formed, together, or_nothing, Has, EachHas, parts_in}
use Rattle.core_typing.specs.Needs.{Finds, IsClean, AreBare, variant_made}
use Rattle.core_typing.specs.Written.{type_known, told}

-- A place in the code, and what is known of the slots there.
pub record Stand : Type 0 where
  pub pc : ℕ
  pub slots : Slots

abbrev pub stand : ℕ → Slots → Stand
stand pc slots = record { pc = pc; slots = slots }

-- The drops behind a decision are passed where that was so.
abbrev pub mirrored : (pc passes : ℕ) → Slots → Held → List Stand
mirrored pc n slots (Decided true) = stand (suc pc + n) slots ∷ []
mirrored pc n slots h = stand (suc pc) slots ∷ []

-- The oldest region of a chain comes back; or there is none, and the loop's slot is empty.
abbrev pub taken : (pc passes : ℕ) → Slots → (loop from : ℕ) → Regions → List Stand
taken pc n slots loop from NoRegion = stand (suc pc + n) (put slots loop empty) ∷ []
taken pc n slots loop from (MoreRegions g rs) = stand (suc pc) (put (placed slots from g) loop (Turns rs)) ∷ []

-- ---- which references of a value may name something

module _ (defs : List Def) where
  -- All that values of a type have, by their numbers.
  abbrev pub all_of : Ty → List ℕ
  all_of t = numbers_from defs 0 (count_of defs t)

  -- Those of what a node gives: none, where a node of its kind gets no reference, as `nil` doesn't.
  abbrev pub got_by : Ty → Work → List ℕ
  got_by t o = if work_refers defs t o then all_of t else []

  -- What moves with an operand that comes to a part of what is put together as a value of a type.
  abbrev pub into_part : Ty → (part into from : ℕ) → Moved
  into_part t k into from = record {
    slot = from;
    first = 0;
    count = count_of defs (slice_index_or (part_types defs t) k ty.Int);
    into = into;
    at = count_all defs (take k (part_types defs t));
  }

  -- What moves with a part that is taken out of a slot.
  abbrev pub out_of : Option Ty → (part from into : ℕ) → Moved
  out_of None n from into = moves_out defs ty.Nothing n from into
  out_of (Some v) n from into = moves_out defs v n from into

module _ (defs : List Def) (pc : ℕ) (slots : Slots) where
  abbrev pub on : Slots → List Stand
  on after = stand (suc pc) after ∷ []

  -- The references of a part move with it, and the others stay where they are.
  abbrev pub picked : Ty → (into from : ℕ) → Moved → List Stand
  picked t into from v = on (put (put slots from (left_by v (slot slots from))) into (Of t (moved v (live_in (slot slots from)))))

  -- An operand of a type is put to the others, and the slot that it comes from is empty.
  abbrev pub placing : Ty → (variant : Option ℕ) → (part into from : ℕ) → Ty → List Stand
  placing t v k into from u =
      on (put (put slots from empty) into
      (with_operand t v k u (moved (into_part defs t k into from) (live_in (slot slots from))) (slot slots into)))

  -- Where it may stand behind an instruction, whatever the values are.
  abbrev pub behind : Instr → List Stand
  behind (Give t o into from) = on (put slots into (Of t (got_by defs t o)))
  behind (Place t v j k into from) = placing t v k into from (or_nothing (type_held (slot slots from)))
  behind (Gather t o into n) = on (put slots into (Of t (live_formed (slot slots into))))
  behind (Pick t n into from) = picked t into from (out_of defs (type_held (slot slots from)) n from into)
  behind (Known v into) = on (put slots into (Of (type_known v) []))
  behind (Write t way operands part from) = on slots
  behind (CopyInto array start from) = on slots
  behind (Cell t into item back) = on (put slots into (Of (ty.ListOf t) (all_of defs (ty.ListOf t))))
  behind (Call t f into o) = on (put (together slots o) into (Of t (all_of defs t)))
  behind (Print ps into o) = on (put (together slots o) into (Of ty.Int []))
  behind (Skip c into decision from n) =
      stand (suc pc + n) (put (noted slots decision true) into (Of ty.Int [])) ∷ stand (suc pc) (noted slots decision false) ∷ []
  behind (Truth into from) = on (put slots into (Of ty.Int []))
  behind (Element t array index from) = on slots
  behind (Start loop) = on (put slots loop (Turns NoRegion))
  behind (Next array loop named n) = stand (suc pc + n) slots ∷ stand (suc pc) slots ∷ []
  behind (Other t array loop from) = on slots
  behind (Keep loop from words) =
      on (put (cleared slots from words) loop (Turns (chained (chain_of (slot slots loop)) (region slots from words))))
  behind (Take loop from words n) = taken pc n slots loop from (chain_of (slot slots loop))
  behind (Drop r k) = on (put slots r (dropped k (slot slots r)))
  behind (Mirror d n) = mirrored pc n slots (slot slots d)
  behind (Unless c n) = stand (suc pc + n) slots ∷ stand (suc pc) slots ∷ []
  behind (Jump n) = stand (suc pc + n) slots ∷ []
  behind (Back n) = stand (pc - n) slots ∷ []
  behind (Return from) = []

-- Of a slot's value the type is told that it is of.
abbrev pub IsTold : (told : ℕ → Option Ty) → Slots → (slot : ℕ) → Type 0
IsTold tells slots r = (u : Ty) × (type_held (slot slots r) ≡ Some u) × (tells r ≡ Some u)

-- So it is of the first operand of a place that is an element of an array, or part of one, or of what a reference names.
abbrev pub RootIsTold : (told : ℕ → Option Ty) → Slots → Root → (operands : List ℕ) → Type 0
RootIsTold tells slots (Local x) ss = Unit {0}
RootIsTold tells slots (Global x) ss = Unit {0}
RootIsTold tells slots r ss = IsTold tells slots (slot_at 0 ss)

-- So it is of what is put together in a slot, where there is one.
abbrev pub FormsAsTold : (told : ℕ → Option Ty) → Slots → Option ℕ → Type 0
FormsAsTold tells slots None = Unit {0}
FormsAsTold tells slots (Some a) = (u : Ty) × (type_forming (slot slots a) ≡ Some u) × (tells a ≡ Some u)

-- ---- references that are compared

-- A slot has an array.
abbrev pub HasArray : Slots → (slot : ℕ) → Type 0
HasArray slots r = (t : Ty) × (type_held (slot slots r) ≡ Some (ty.ArrayOf t))

-- Neither of two slots has one; or both do, one of which names nothing: an array is compared with `nil` alone.
abbrev pub MayCompare : Slots → (first second : ℕ) → Type 0
MayCompare slots a c =
    ((HasArray slots a → ⊥) × (HasArray slots c → ⊥))
    ⊎ (HasArray slots a × HasArray slots c × (IsClean (slot slots a) ⊎ IsClean (slot slots c)))

abbrev pub ComparesSo : Slots → Operation → (from : List ℕ) → Type 0
ComparesSo slots operation.Identical from = MayCompare slots (slot_at 0 from) (slot_at 1 from)
ComparesSo slots operation.Distinct from = MayCompare slots (slot_at 0 from) (slot_at 1 from)
ComparesSo slots o from = Unit {0}

-- ---- values that are put together

-- The number of a variant is an int, and comes to an int in front.
abbrev pub IsTagged : List Def → Ty → Option ℕ → Type 0
IsTagged defs t None = Unit {0}
IsTagged defs t (Some v) = HasPart defs t 0 ty.Int × InRange kind.Int (pos v)

-- Where no operand is there yet, nothing is put together in the slot.
abbrev pub IsFirst : (operands : ℕ) → Held → Type 0
IsFirst zero h = IsClean h
IsFirst (suc j) h = Unit {0}

-- A tuple or an adt is put together, and no other value.
abbrev pub Passes : Work → Type 0
Passes (Operate o) = passes_on o ≡ true
Passes o = ⊥

-- ---- characters, and loops

-- A slot has a value.
abbrev pub HasSome : Slots → (slot : ℕ) → Type 0
HasSome slots r = type_held (slot slots r) ≡ Some ty.Nothing → ⊥

abbrev pub IfCharacter : (character : Bool) → Type 0 → Type 0
IfCharacter true A = A
IfCharacter false A = Unit {0}

-- The turns of a loop keep so many slots behind the loop's, one at least.
abbrev pub TurnsHave : Slots → (loop from words : ℕ) → Type 0
TurnsHave slots loop from words = (loop < from) × (0 < words) × EachHas words (chain_of (slot slots loop))

module _ (s : Scope) (answer : Ty) (code : List Instr) where
  -- What a node gives of operands in slots: no tuple and no adt, which are put together, and no text by a format; two references only where
  -- they may be compared.
  abbrev pub WorkAgrees : (pc : ℕ) → Slots → Work → (from : List ℕ) → Type 0
  WorkAgrees pc slots (Literal c) from = Unit {0}
  WorkAgrees pc slots Nil from = Unit {0}
  WorkAgrees pc slots NewChannel from = Unit {0}
  WorkAgrees pc slots (Read way) from = RootIsTold (told code pc) slots way.root from
  WorkAgrees pc slots (Operate o) from = (passes_on o ≡ false) × ComparesSo slots o from
  WorkAgrees pc slots o from = ⊥

  -- Where an instruction takes a part of a slot's value, drops a reference of it, or comes to a place in it, the code in front tells of
  -- which type that is; so it does of which type the operands of a call and of a print are put together. An operand comes to a part where
  -- none is yet. What a turn of a loop keeps are values: nothing is put together there, and no other loop's turns held anything.
  abbrev pub Agrees : (pc : ℕ) → Slots → Instr → Type 0
  Agrees pc slots (Pick t n into from) = IsTold (told code pc) slots from
  Agrees pc slots (Give t o into from) = WorkAgrees pc slots o from
  Agrees pc slots (Place t v j k into from) =
      (Has (parts_in (slot slots into)) k → ⊥) × IsFirst j (slot slots into) × IsTagged s.adts t v
  Agrees pc slots (Gather t o into n) = Passes o × IsFirst n (slot slots into) × IsTagged s.adts t (variant_made s.adts o)
  Agrees pc slots (Write t way operands part from) =
      IsTold (told code pc) slots from × RootIsTold (told code pc) slots way.root operands × IfCharacter way.character (HasSome slots from)
  Agrees pc slots (Call t f into o) = FormsAsTold (told code pc) slots o
  Agrees pc slots (Print ps into o) = FormsAsTold (told code pc) slots o
  Agrees pc slots (Keep loop from words) = TurnsHave slots loop from words × AreBare slots from words
  Agrees pc slots (Take loop from words passes) = TurnsHave slots loop from words
  Agrees pc slots (Drop r k) = IsTold (told code pc) slots r
  Agrees pc slots i = Unit {0}

  -- In so many instructions, whichever way it goes, each is there, finds what it needs, and agrees with what is told.
  abbrev pub Goes : ℕ → (pc : ℕ) → Slots → Type 0
  Goes zero pc slots = Unit {0}
  Goes (suc n) pc slots =
      (i : Instr) × (slice_get code pc ≡ Some i) × Finds s answer slots i × Agrees pc slots i
      × All (λ (a : Stand). Goes n a.pc a.slots) (behind s.adts pc slots i)
