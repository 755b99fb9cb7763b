-- What holds of words that are accounted for, and of what processes name.
use Rattle.std.specs.Prelude.{ℕ, ◌≡◌, ◌<◌, true, List, ◌++◌, Some}
use Rattle.process_model.specs.Process.{Went}
use Rattle.heap_model.specs.Kept.{IsClosed}
use Rattle.heap_model.specs.Heap.{Heap, at, there, graph}
use Rattle.heap_model.specs.Facts.{Carrier, Free}
use Rattle.heap_model.specs.Alike.{Holds}
use Rattle.heap_model.specs.Contents.{Contents}
use Rattle.heap_model.specs.Worlds.{WorldsAlike, Leaves}
use Rattle.dis_file.specs.declared.object.Object.{Object}
use Rattle.dis_meaning.specs.Words.{Word}
use Rattle.dis_meaning.specs.Counts.{in_words}
use Rattle.dis_meaning.specs.Process.{Process}
use Rattle.dis_memory.specs.Blocks.{Block, World}
use Rattle.dis_memory.specs.Naming as machine
use Rattle.dis_memory.specs.Naming.{inside}
use Rattle.dis_memory.specs.Step.{step}
use Rattle.value_words.specs.Facts.{Facts, Grows}
use Rattle.value_words.specs.Forms.{Form}
use Rattle.value_roots.specs.Accounts.{AllAccounted, LeadTo, InnerOf, process_words}

pub record AccountsHold : Type 0 where
  -- Where no reference names a block that isn't there, words of process i that are accounted for, lead to all that is named and refer
  -- to what is there hold what is named.
  pub roots : (k : Facts) (i : ℕ) (x : Heap Block) (names : ℕ → ℕ) (words : List Word) → AllAccounted k i x names words →
      ((m : ℕ) → 0 < names m → LeadTo k x m words) → IsClosed (graph inside x) →
      ((q : ℕ) → 0 < in_words q words → there (at x q) ≡ true) → Holds k (λ j. j ≡ i) (graph inside x) names (λ q. in_words q words)
  -- so does the process, where they are all its words
  pub process : (k : Facts) (i : ℕ) (x : Heap Block) (names : ℕ → ℕ) (p : Process) → AllAccounted k i x names (process_words p) →
      ((m : ℕ) → 0 < names m → LeadTo k x m (process_words p)) → IsClosed (graph inside x) →
      ((q : ℕ) → 0 < machine.names p q → there (at x q) ≡ true) → Holds k (λ j. j ≡ i) (graph inside x) names (machine.names p)
  -- Where more is known and as much is named, they stay accounted for while the inner blocks that they reach are as they were, and
  -- those that stand for nothing still do.
  pub later : (k k' : Facts) (i : ℕ) (x x' : Heap Block) (names names' : ℕ → ℕ) (words : List Word) → Grows k k' →
      ((m : ℕ) → 0 < names m → 0 < names' m) →
      ((b : ℕ) → InnerOf k x words b → Free k b → Free k' b × (at x' b ≡ at x b)) →
      ((b : ℕ) (d : Block) → InnerOf k x words b → k.fact b ≡ Some (Carrier d) → at x' b ≡ at x b) →
      AllAccounted k i x names words → AllAccounted k' i x' names' words
  -- Two lists of words that are accounted for are so together, and each is where both together are. Together they lead to what either
  -- leads to, and reach the inner blocks that either reaches.
  pub several : (k : Facts) (i : ℕ) (x : Heap Block) (names : ℕ → ℕ) (first second : List Word) → AllAccounted k i x names first →
      AllAccounted k i x names second → AllAccounted k i x names (first ++ second)
  pub first_accounted : (k : Facts) (i : ℕ) (x : Heap Block) (names : ℕ → ℕ) (first second : List Word) →
      AllAccounted k i x names (first ++ second) → AllAccounted k i x names first
  pub second_accounted : (k : Facts) (i : ℕ) (x : Heap Block) (names : ℕ → ℕ) (first second : List Word) →
      AllAccounted k i x names (first ++ second) → AllAccounted k i x names second
  pub first_leads : (k : Facts) (x : Heap Block) (m : ℕ) (first second : List Word) → LeadTo k x m first → LeadTo k x m (first ++ second)
  pub second_leads : (k : Facts) (x : Heap Block) (m : ℕ) (first second : List Word) → LeadTo k x m second →
      LeadTo k x m (first ++ second)
  pub first_reaches : (k : Facts) (x : Heap Block) (b : ℕ) (first second : List Word) → InnerOf k x first b →
      InnerOf k x (first ++ second) b
  pub second_reaches : (k : Facts) (x : Heap Block) (b : ℕ) (first second : List Word) → InnerOf k x second b →
      InnerOf k x (first ++ second) b

-- Where worlds stand alike, by contents whose words are those of blocks, before a step of other processes or a cut and behind it, words
-- that are accounted for stay so: each of them must refer to what is still there, and all that was named must be named.
abbrev pub LeftAccounted : {V : Type 0} → Contents V Block Form → Type 0
LeftAccounted {V = V} c =
    c.words ≡ inside → (k k' : Facts) (i : ℕ) (w w' : Heap V) (x x' : Heap Block) (names names' : ℕ → ℕ) (words : List Word) →
    WorldsAlike c k w x → WorldsAlike c k' w' x' → Leaves i k k' x x' → ((q : ℕ) → 0 < in_words q words → there (at x' q) ≡ true) →
    ((m : ℕ) → 0 < names m → 0 < names' m) → AllAccounted k i x names words → AllAccounted k' i x' names' words

-- Where no reference names a block that isn't there, each block that a process names when it went a step is there.
abbrev pub StillThere : Type 0
StillThere =
    (limit : ℕ) (objects : List Object) (x y : World) (q r : Process) → IsClosed (graph inside x.heap) →
    ((n : ℕ) → 0 < machine.names q n → there (at x.heap n) ≡ true) → step limit objects x q ≡ Went y r →
    (n : ℕ) → 0 < machine.names r n → there (at y.heap n) ≡ true
