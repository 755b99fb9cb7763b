-- What the words of two processes that stand for one another hold: all that they refer to is accounted for, and they lead to all that the
-- process of the source names.
use Rattle.std.specs.Prelude.{ℕ, pos, ◌≡◌, ◌<◌, true, List, Option}
use Rattle.heap_model.specs.Heap.{Heap, at, there, graph}
use Rattle.heap_model.specs.Alike.{Holds}
use Rattle.heap_model.specs.Worlds.{WorldsAlike}
use Rattle.limbo_layout.specs.Adts.{Has}
use Rattle.limbo_typed.specs.Typed as typed
use Rattle.limbo_meaning.specs.Memory.{HeapValue}
use Rattle.core_code.specs.Machine as code
use Rattle.core_code.specs.Machine.{process_names}
use Rattle.core_code.specs.Slots.{slot, slot_names}
use Rattle.dis_meaning.specs.Words.{Word, Refer, Found, word_at}
use Rattle.dis_meaning.specs.Process.{Frame, Process}
use Rattle.dis_memory.specs.Blocks.{World}
use Rattle.dis_memory.specs.Naming as machine
use Rattle.dis_memory.specs.Naming.{inside}
use Rattle.value_words.specs.Facts.{Facts}
use Rattle.value_heaps.proofs.Contents.{contents}
use Rattle.value_frames.specs.Frames.{reference_place}
use Rattle.value_roots.specs.Accounts.{Accounted, AllAccounted, LeadTo, all_words, process_words}
use Rattle.value_code.specs.Objects.{globals, constants}
use Rattle.value_follows.specs.Stands.{types_of, spare_of, Answer, Awaited, Referred, Filled, Stands, Ready, Asking}

module _ (m : typed.Module) (k : Facts) (i : ℕ) (x : World) where
  -- The two heaps stand for one another, and what the words of a process refer to is there.
  pub record IsAmong (w : Heap HeapValue) (q : Process) : Type 0 where
    pub alike : WorldsAlike (contents m.adts (globals m) (constants m)) k w x.heap
    pub live : (b : ℕ) → 0 < machine.names q b → there (at x.heap b) ≡ true

  module _ (names : ℕ → ℕ) where
    abbrev pub AreAccounted : List Word → Type 0
    AreAccounted words = AllAccounted k i x.heap names words

    -- A reference in a frame's word at a place is accounted for.
    abbrev pub PlaceAccounted : Frame → (place : ℕ) → Type 0
    PlaceAccounted f place = (r : Option ℕ) → word_at f.words (pos place) ≡ Found (Refer r) → Accounted k i x.heap names (Refer r)

    -- An answer that is in its place already is accounted for.
    abbrev pub AnswerAccounted : Answer → Type 0
    AnswerAccounted Awaited = Unit {0}
    AnswerAccounted (Referred r) = Accounted k i x.heap names (Refer r)
    AnswerAccounted (Filled words) = AreAccounted words

    -- So are the references on their way: those of busy slots, that of the spare word, those of frames that are made, and of an answer.
    pub record OnTheWay (busy : List ℕ) (a : Answer) (q : Process) (function : typed.Function) : Type 0 where
      pub slots : (s : ℕ) → Has busy s → PlaceAccounted q.frame (reference_place m.adts (types_of m function) s)
      pub spare : PlaceAccounted q.frame (spare_of m k i x function)
      pub made : AreAccounted (all_words q.made)
      pub answer : AnswerAccounted a

  -- What busy slots name the words of the process lead to.
  abbrev pub BusyLead : (busy : List ℕ) → code.Process → Process → Type 0
  BusyLead busy p q =
      (s n : ℕ) → Has busy s → 0 < slot_names (slot p.frame.slots s) n → LeadTo k x.heap n (process_words q)

module _ (m : typed.Module) where
  pub record StandsRooted : Type 0 where
    -- what the process of the machine refers to is accounted for by what the other names
    pub accounted : (k : Facts) (i : ℕ) (w : Heap HeapValue) (x : World) (busy : List ℕ) (a : Answer) (p : code.Process) (q : Process)
        (s : Stands m k i x busy a p q) → IsAmong m k i x w q → OnTheWay m k i x (process_names p) busy a q s.is.function →
        AllAccounted k i x.heap (process_names p) (process_words q)
    -- and its words lead to all that the other names
    pub leads : (k : Facts) (i : ℕ) (w : Heap HeapValue) (x : World) (busy : List ℕ) (a : Answer) (p : code.Process) (q : Process)
        (s : Stands m k i x busy a p q) → IsAmong m k i x w q → BusyLead m k i x busy p q → (n : ℕ) → 0 < process_names p n →
        LeadTo k x.heap n (process_words q)
    -- so it holds what the other names
    pub holds : (k : Facts) (i : ℕ) (w : Heap HeapValue) (x : World) (busy : List ℕ) (a : Answer) (p : code.Process) (q : Process)
        (s : Stands m k i x busy a p q) → IsAmong m k i x w q → OnTheWay m k i x (process_names p) busy a q s.is.function →
        BusyLead m k i x busy p q → Holds k (λ j. j ≡ i) (graph inside x.heap) (process_names p) (machine.names q)
    -- at the begin of an instruction nothing is on its way
    pub ready_holds : (k : Facts) (i : ℕ) (w : Heap HeapValue) (x : World) (p : code.Process) (q : Process) → Ready m k i x p q →
        IsAmong m k i x w q → Holds k (λ j. j ≡ i) (graph inside x.heap) (process_names p) (machine.names q)
    -- nor is it while a reply to a print is waited for
    pub asking_holds : (k : Facts) (i : ℕ) (w : Heap HeapValue) (x : World) (p : code.Process) (q : Process) → Asking m k i x p q →
        IsAmong m k i x w q → Holds k (λ j. j ≡ i) (graph inside x.heap) (process_names p) (machine.names q)

abbrev pub StandsAreRooted : Type 0
StandsAreRooted = (m : typed.Module) → StandsRooted m
