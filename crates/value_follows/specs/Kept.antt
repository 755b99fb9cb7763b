-- Processes that stand for one another do so while others step, with the same blocks as their own, and these blocks are reached from the
-- words of the process. And what many processes ask of the two sides that doesn't depend on the code.
use Rattle.std.specs.Prelude.{ℕ, pos, ◌≡◌, ◌≤◌, ◌<◌, ◌⊎◌, true, List, None, Some, slice_get}
use Rattle.process_model.specs.Process.{Branch, both_wake, fits}
use Rattle.process_model.specs.Renaming.{SameTable}
use Rattle.process_model.specs.Follows.{Who, Heaps, Losing, GoneOn}
use Rattle.process_ways.specs.Ways.{with_ways}
use Rattle.heap_model.specs.Kept.{IsClosed}
use Rattle.heap_model.specs.Heap.{at, there, graph}
use Rattle.heap_model.specs.Facts.{Free}
use Rattle.heap_model.specs.Alike.{Holds}
use Rattle.heap_model.specs.Worlds.{Leaves}
use Rattle.limbo_types.specs.Types.{Ty}
use Rattle.limbo_layout.specs.Adts.{Has}
use Rattle.limbo_typed.specs.Typed as typed
use Rattle.system_model.specs.Values as system
use Rattle.limbo_meaning.specs.Values as source
use Rattle.limbo_meaning.specs.Process.{Shared}
use Rattle.core_code.specs.Machine as code
use Rattle.dis_meaning.specs.Words.{Word, word_at}
use Rattle.dis_meaning.specs.Process.{Frame, Process}
use Rattle.dis_memory.specs.Blocks.{Record, World}
use Rattle.dis_memory.specs.Naming as machine
use Rattle.dis_memory.specs.Naming.{inside}
use Rattle.value_words.specs.Forms.{OwnedBy}
use Rattle.value_words.specs.Facts.{Facts, Grows}
use Rattle.value_roots.specs.Accounts.{InnerOf, process_words}
use Rattle.value_frames.specs.Frames.{Form, Nowhere, AsNumber, AsReference, Boxed, form_of, answer_place}
use Rattle.value_frames.specs.Slots.{IsKept}
use Rattle.value_follows.specs.Stands.{types_of, Answer, FrameIs, AnswerGoes, AllWait, none_waits, waits_below, Stands, Ready, Asking}
use Rattle.value_follows.specs.Sides.{sides}

-- The same blocks are owned before and after.
abbrev pub SameOwn : (before after : ℕ → Type 0) → Type 0
SameOwn before after = (b : ℕ) → (before b → after b) × (after b → before b)

module _ (m : typed.Module) where
  -- ---- what is a process's own

  module _ (k : Facts) (i : ℕ) (x : World) where
    abbrev pub FrameOwns : {busy : List ℕ} {g : code.Frame} {f : Frame} → FrameIs m k i x busy g f → ℕ → Type 0
    FrameOwns is b = (s : ℕ) × Has (is.words.own s) b

    -- The record that is to be the box of an answer.
    abbrev pub IsAnswerBox : (a : Answer) (form : Form) (t : Ty) (f : Frame) (types : List Ty) (into : ℕ) (callee : Frame)
        (own : ℕ → List ℕ) → AnswerGoes m k i x a form t f types into callee own → ℕ → Type 0
    IsAnswerBox a Nowhere t f types into callee own goes b = ⊥
    IsAnswerBox a AsNumber t f types into callee own goes b = ⊥
    IsAnswerBox a AsReference t f types into callee own goes b = ⊥
    IsAnswerBox a Boxed t f types into callee own goes b = goes.0 ≡ b

    -- What the frames that wait have: each what its slots have, and the record for its answer.
    abbrev pub WaitingOwn : {a : Answer} {t : Ty} {callee : Frame} {gs : List code.Frame} {fs : List Frame}
        → AllWait m k i x a t callee gs fs → ℕ → Type 0
    WaitingOwn (none_waits a callee) b = ⊥
    WaitingOwn (waits_below a t callee g f gs fs w ws) b =
        FrameOwns w.is b
        ⊎ IsAnswerBox a (form_of t) t f (types_of m w.is.function) g.into callee w.is.words.own w.answer b
        ⊎ WaitingOwn ws b

    abbrev pub OwnedIn : {busy : List ℕ} {a : Answer} {p : code.Process} {q : Process} → Stands m k i x busy a p q → ℕ → Type 0
    OwnedIn s b = FrameOwns s.is b ⊎ WaitingOwn s.waits b

    abbrev pub OwnedAsking : {p : code.Process} {q : Process} → Asking m k i x p q → ℕ → Type 0
    OwnedAsking a b = FrameOwns a.is b ⊎ WaitingOwn a.waits b

    -- Block b is a record that process i made for the frame of this serial, and stands for nothing.
    pub record IsMine (serial b : ℕ) : Type 0 where
      pub there : (inner : List Word) × (at x.heap b ≡ Some (Record inner))
      pub free : Free k b
      pub made : k.maker b ≡ Some i
      pub formed : k.form b ≡ Some (OwnedBy serial)

  -- ---- while something happens elsewhere

  module _ (k k' : Facts) (i : ℕ) (x x' : World) where
    -- A frame is of the same function, of whose slots the same is known, and each slot has the same blocks.
    pub record SameFrame {busy : List ℕ} {g : code.Frame} {f : Frame} (before : FrameIs m k i x busy g f)
        (after : FrameIs m k' i x' busy g f) : Type 0 where
      pub number : after.number ≡ before.number
      pub function : after.function ≡ before.function
      pub known : after.known ≡ before.known
      pub own : after.words.own ≡ before.words.own

    pub record StandsStill {busy : List ℕ} {a : Answer} {p : code.Process} {q : Process} (s : Stands m k i x busy a p q) : Type 0 where
      pub after : Stands m k' i x' busy a p q
      pub frame : SameFrame s.is after.is
      pub own : SameOwn (OwnedIn k i x s) (OwnedIn k' i x' after)

    pub record ReadyStill {p : code.Process} {q : Process} (r : Ready m k i x p q) : Type 0 where
      pub after : Ready m k' i x' p q
      pub frame : SameFrame r.stands.is after.stands.is
      pub own : SameOwn (OwnedIn k i x r.stands) (OwnedIn k' i x' after.stands)

    pub record AskingStill {p : code.Process} {q : Process} (a : Asking m k i x p q) : Type 0 where
      pub after : Asking m k' i x' p q
      pub frame : SameFrame a.is after.is
      pub own : SameOwn (OwnedAsking k i x a) (OwnedAsking k' i x' after)

  pub record StandsKept : Type 0 where
    -- ---- the blocks that a process has as its own
    -- they are records, made for the frame or for an older one
    pub frame_owned : (k : Facts) (i : ℕ) (x : World) (busy : List ℕ) (g : code.Frame) (f : Frame) (is : FrameIs m k i x busy g f)
        (b : ℕ) → FrameOwns k i x is b → IsMine k i x f.serial b
    pub waiting_owned : (k : Facts) (i : ℕ) (x : World) (a : Answer) (t : Ty) (callee : Frame) (gs : List code.Frame)
        (fs : List Frame) (ws : AllWait m k i x a t callee gs fs) (b : ℕ) → WaitingOwn k i x ws b →
        (serial : ℕ) × (serial < callee.serial) × IsMine k i x serial b
    -- they are reached from the words of the process
    pub owned_reached : (k : Facts) (i : ℕ) (x : World) (busy : List ℕ) (a : Answer) (p : code.Process) (q : Process)
        (s : Stands m k i x busy a p q) (b : ℕ) → OwnedIn k i x s b → InnerOf k x.heap (process_words q) b
    pub asking_reached : (k : Facts) (i : ℕ) (x : World) (p : code.Process) (q : Process)
        (a : Asking m k i x p q) (b : ℕ) → OwnedAsking k i x a b → InnerOf k x.heap (process_words q) b
    -- where process i is left what is its own, they are among what it holds then; so they are there where all that it holds is
    pub owned_held : (k k' : Facts) (i : ℕ) (x x' : World) (busy : List ℕ) (a : Answer) (p : code.Process) (q : Process)
        (s : Stands m k i x busy a p q) → Leaves i k k' x.heap x'.heap → (names : ℕ → ℕ)
        (h : Holds k' (λ j. j ≡ i) (graph inside x'.heap) names (machine.names q)) →
        ((b : ℕ) → 0 < h.same.own b → there (at x'.heap b) ≡ true) → (b : ℕ) → OwnedIn k i x s b → at x'.heap b ≡ None → ⊥
    pub asking_held : (k k' : Facts) (i : ℕ) (x x' : World) (p : code.Process) (q : Process)
        (a : Asking m k i x p q) → Leaves i k k' x.heap x'.heap → (names : ℕ → ℕ)
        (h : Holds k' (λ j. j ≡ i) (graph inside x'.heap) names (machine.names q)) →
        ((b : ℕ) → 0 < h.same.own b → there (at x'.heap b) ≡ true) → (b : ℕ) → OwnedAsking k i x a b → at x'.heap b ≡ None → ⊥
    -- and where all that its words refer to is there, and no reference in the heap names what isn't there
    pub owned_there : (k k' : Facts) (i : ℕ) (x x' : World) (busy : List ℕ) (a : Answer) (p : code.Process) (q : Process)
        (s : Stands m k i x busy a p q) → Leaves i k k' x.heap x'.heap → IsClosed (graph inside x'.heap) →
        ((b : ℕ) → 0 < machine.names q b → there (at x'.heap b) ≡ true) → (b : ℕ) → OwnedIn k i x s b → at x'.heap b ≡ None → ⊥
    pub asking_there : (k k' : Facts) (i : ℕ) (x x' : World) (p : code.Process) (q : Process)
        (a : Asking m k i x p q) → Leaves i k k' x.heap x'.heap → IsClosed (graph inside x'.heap) →
        ((b : ℕ) → 0 < machine.names q b → there (at x'.heap b) ≡ true) → (b : ℕ) → OwnedAsking k i x a b → at x'.heap b ≡ None → ⊥
    -- ---- two processes stand for one another while others step
    pub later : (k k' : Facts) (i : ℕ) (x x' : World) (busy : List ℕ) (a : Answer) (p : code.Process) (q : Process)
        (s : Stands m k i x busy a p q) → Leaves i k k' x.heap x'.heap → x.outside.frames ≤ x'.outside.frames →
        ((b : ℕ) → OwnedIn k i x s b → at x'.heap b ≡ None → ⊥) → StandsStill k k' i x x' s
    pub ready_later : (k k' : Facts) (i : ℕ) (x x' : World) (p : code.Process) (q : Process)
        (r : Ready m k i x p q) → Leaves i k k' x.heap x'.heap → x.outside.frames ≤ x'.outside.frames →
        ((b : ℕ) → OwnedIn k i x r.stands b → at x'.heap b ≡ None → ⊥) → ReadyStill k k' i x x' r
    pub asking_later : (k k' : Facts) (i : ℕ) (x x' : World) (p : code.Process) (q : Process)
        (a : Asking m k i x p q) → Leaves i k k' x.heap x'.heap → x.outside.frames ≤ x'.outside.frames →
        ((b : ℕ) → OwnedAsking k i x a b → at x'.heap b ≡ None → ⊥) → AskingStill k k' i x x' a
    -- ---- frames stand for the same while more is known and each block of their own is as it was, whoever steps
    pub frame_later : (k k' : Facts) (i : ℕ) (x x' : World) (busy : List ℕ) (g : code.Frame) (f : Frame)
        (is : FrameIs m k i x busy g f) → Grows k k' → x.outside.frames ≤ x'.outside.frames →
        ((b : ℕ) → FrameOwns k i x is b → IsKept k' x.heap x'.heap b) →
        (after : FrameIs m k' i x' busy g f) × SameFrame k k' i x x' is after
    -- so do frames that wait; the one that they called may have changed too, but not its serial, nor where its answer goes
    pub waits_later : (k k' : Facts) (i : ℕ) (x x' : World) (a : Answer) (t : Ty) (callee changed : Frame)
        (gs : List code.Frame) (fs : List Frame) (ws : AllWait m k i x a t callee gs fs) → Grows k k' →
        x.outside.frames ≤ x'.outside.frames →
        ((b : ℕ) → WaitingOwn k i x ws b → IsKept k' x.heap x'.heap b) → changed.serial ≡ callee.serial →
        word_at changed.words (pos answer_place) ≡ word_at callee.words (pos answer_place) →
        (after : AllWait m k' i x' a t changed gs fs) × SameOwn (WaitingOwn k i x ws) (WaitingOwn k' i x' after)
    -- ---- what many processes ask of the two sides
    -- a step that leaves the heap and what is known as they are changes nothing of others
    pub changes_same : (these : Who) (k : Facts) (x x' : World) → x'.heap ≡ x.heap → x.outside.frames ≤ x'.outside.frames →
        (sides m).changes these k k x x'
    pub leaves_same : (i : ℕ) (k : Facts) (x : World) → (sides m).leaves i k k x x
    pub leaves_on : (i : ℕ) (a b c : Facts) (x y z : World) → (sides m).leaves i a b x y → (sides m).leaves i b c y z →
        (sides m).leaves i a c x z
    pub heaps : Heaps (sides m)
    -- none waits with a table, and no link is lost
    pub table : (k : Facts) (i : ℕ) (x : World) (bs : List (Branch source.Value)) (cs : List (Branch system.Value)) (p : code.Process)
        (q : Process) → (sides m).waiting k i x bs cs p q → SameTable (sides m).map k bs cs
    pub no_downs : (l : ℕ) (x x' : World) → (sides m).code.down l x ≡ Some x' → ⊥
    pub downs : (k : Facts) (l : ℕ) (w : Shared) (x x' : World) → (sides m).worlds k w x → (sides m).code.down l x ≡ Some x' →
        Losing (sides m) k l w x x'
    pub meets : (place : Process → ℕ) (k : Facts) (i j : ℕ) (w : Shared) (x : World)
        (bs : List (Branch source.Value)) (cs : List (Branch system.Value)) (p : code.Process) (q : Process) (n : ℕ)
        (a : Branch source.Value) (a' : Branch system.Value)
        (bs' : List (Branch source.Value)) (cs' : List (Branch system.Value)) (p' : code.Process) (q' : Process) (l : ℕ)
        (b : Branch source.Value) (b' : Branch system.Value) →
        (j ≡ i → ⊥) → (sides m).waiting k i x bs cs p q → slice_get bs n ≡ Some a → slice_get cs n ≡ Some a' →
        (sides m).waiting k j x bs' cs' p' q' → slice_get bs' l ≡ Some b → slice_get cs' l ≡ Some b' → fits a b ≡ true →
        (sides m).worlds k w x →
        GoneOn (with_ways (sides m) place) k i j x (both_wake (sides m).program w n a p l b p')
        (both_wake (sides m).code x n a' q l b' q')

-- For every module.
abbrev pub StandsKeep : Type 0
StandsKeep = (m : typed.Module) → StandsKept m
