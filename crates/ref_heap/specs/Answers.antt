-- What the calls of a heap answer.
use Rattle.std.specs.Prelude.{◌≡◌, ◌⊎◌, ℕ, Bool, true, false, cond, eqb, Option, Some, None, Result, Ok, Err, slice_get}
use Rattle.ref_heap.specs.declared.kind.HeapFault.{HeapFault}
use Rattle.ref_heap.specs.declared.kind.HeapFault.TheVariants.{Dead, NoMemory, Full, OutOfBlock, NotPointer, NotData}
use Rattle.ref_heap.specs.declared.kind.Freed.{Freed}
use Rattle.ref_heap.specs.declared.kind.Freed.TheVariants.{Yes, No}
use Rattle.ref_heap.specs.declared.word.Word.{Word}
use Rattle.ref_heap.specs.Words.{Cell, cell_of, is_reference}
use Rattle.ref_heap.specs.Store.{Block, Store, at, count, words_of}

-- how many blocks may be made, and how many references to one there may be
abbrev pub most : ℕ
most = 18446744073709551615

-- The number of a refusal; want of memory has none.
abbrev pub refusal_number : HeapFault → Option ℕ
refusal_number NoMemory = None
refusal_number Dead = Some 90
refusal_number NotPointer = Some 91
refusal_number NotData = Some 92
refusal_number OutOfBlock = Some 93
refusal_number Full = Some 94

-- 90 exactly where no block is live there
abbrev pub answer_for : {A : Type 0} → (Block → A) → Option Block → Result A HeapFault
answer_for f None = Err Dead
answer_for f (Some b) = Ok (f b)

-- why a block isn't made: 94 exactly where all serials are used
abbrev pub make_fault : Store → HeapFault
make_fault h = cond (eqb h.made most) Full NoMemory

-- Yes exactly where the reference is the last one
abbrev pub drop_answer : Block → Freed
drop_answer b = cond (eqb b.count 1) Yes No

abbrev pub hold_answer : Option Block → Result (Unit {0}) HeapFault
hold_answer None = Err Dead
hold_answer (Some b) = cond (eqb b.count most) (Err Full) (Ok tt)

abbrev pub found : Option Cell → Result Cell HeapFault
found None = Err OutOfBlock
found (Some c) = Ok c

abbrev pub get_answer : Option Block → ℕ → Result Cell HeapFault
get_answer None i = Err Dead
get_answer (Some b) i = found (slice_get (words_of b) i)

abbrev pub as_cell : Result Word HeapFault → Result Cell HeapFault
as_cell (Ok w) = Ok (cell_of w)
as_cell (Err e) = Err e

-- whether a word may stand where another stands, told by which of them are reference words
abbrev pub fits : Bool → Bool → Result (Unit {0}) HeapFault
fits true true = Ok tt
fits false false = Ok tt
fits false true = Err NotPointer
fits true false = Err NotData

abbrev pub fits_there : Option Cell → Cell → Result (Unit {0}) HeapFault
fits_there None c = Err OutOfBlock
fits_there (Some a) c = fits (is_reference a) (is_reference c)

abbrev pub set_answer : Option Block → ℕ → Cell → Result (Unit {0}) HeapFault
set_answer None i c = Err Dead
set_answer (Some b) i c = fits_there (slice_get (words_of b) i) c

-- why a block isn't given more room
abbrev pub extend_fault : Option Block → HeapFault
extend_fault None = Dead
extend_fault (Some b) = NoMemory

-- why a block that refers to block k isn't made: 94 only where all serials are used, or the count of k is the greatest
abbrev pub IsRefFault : Store → ℕ → HeapFault → Type 0
IsRefFault h k NoMemory = Unit {0}
IsRefFault h k Full = (h.made ≡ most) ⊎ (count (at h) k ≡ most)
IsRefFault h k Dead = ⊥
IsRefFault h k NotPointer = ⊥
IsRefFault h k NotData = ⊥
IsRefFault h k OutOfBlock = ⊥
