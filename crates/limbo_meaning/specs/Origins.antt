-- Where the names come from that a process comes to name: a step names what was named, or is there in the heap, or what is new.
use Rattle.std.specs.Prelude.{ℕ, ◌≡◌, ◌<◌, ◌≤◌, ◌⊎◌, List, [], ◌∷◌, ◌++◌, length, Option, Some, if◌then◌else◌}
use Rattle.process_model.specs.Process.{Went}
use Rattle.heap_model.specs.Heap.{at}
use Rattle.limbo_layout.specs.Adts.{Def}
use Rattle.limbo_meaning.specs.Values.{references, references_in, among}
use Rattle.limbo_meaning.specs.Memory.{HeapValue, inside, Memory}
use Rattle.limbo_meaning.specs.Trees.{Pending, Term, Evaluated, Awaiting, Missing, Node, Lazy, Deciding, Update, Change, Put, Linking}
use Rattle.limbo_meaning.specs.Trees.{Fill, Filling, Turning, Repeating, Terms, NoTerms, MoreTerms, Items, NoItems, MoreItems}
use Rattle.limbo_meaning.specs.Trees.{Stm, Eval, If, While, Return, Block, Then}
use Rattle.limbo_meaning.specs.Evaluation.{Stepped, next}
use Rattle.limbo_meaning.specs.Program.{Program}
use Rattle.limbo_meaning.specs.Process.{Shared, Process, process_names}
use Rattle.limbo_meaning.specs.Step.{step}
use Rattle.limbo_meaning.specs.Holding.{is_at_end}

-- These words name n.
abbrev pub Name : List (Option ℕ) → ℕ → Type 0
Name rs n = 0 < among n rs

-- ---- the names in a tree: those of its parts that are values

abbrev pub pending_references : List Pending → List (Option ℕ)
pending_references [] = []
pending_references (p ∷ ps) = references_in p.place.operands ++ (references p.value ++ pending_references ps)

abbrev mutual
  pub term_references : Term → List (Option ℕ)
  term_references (Evaluated v) = references v
  term_references Awaiting = []
  term_references Missing = []
  term_references (Node t o ts) = terms_references ts
  term_references (Lazy c l r) = term_references l ++ term_references r
  term_references (Deciding r) = term_references r
  term_references (Update o g t w ts us) = terms_references ts ++ terms_references us
  term_references (Change o g p ts) = references_in p.operands ++ terms_references ts
  term_references (Put ps v) = pending_references ps ++ references v
  term_references (Linking t vs r) = references_in vs ++ r ∷ []
  term_references (Fill t l is rest) = term_references l ++ (items_references is ++ terms_references rest)
  term_references (Filling t p is ns rest) = Some p.array ∷ items_references is ++ terms_references rest
  term_references (Turning t p ns e) = Some p.array ∷ term_references e
  term_references (Repeating t p i ns e now) = Some p.array ∷ term_references e ++ term_references now

  pub terms_references : Terms → List (Option ℕ)
  terms_references NoTerms = []
  terms_references (MoreTerms t ts) = term_references t ++ terms_references ts

  pub items_references : Items → List (Option ℕ)
  items_references NoItems = []
  items_references (MoreItems i t is) = term_references t ++ items_references is

-- ---- one step of a tree

-- The variables of the frame name n, or a value that is there in the heap does.
abbrev pub InMemory : Memory → ℕ → Type 0
InMemory m n = Name (references_in m.variables) n ⊎ ((a : ℕ) × (u : HeapValue) × (at m.heap a ≡ Some u) × (0 < inside u n))

-- Each name that the step gets is in the tree, in the memory, or new; each in the tree behind it was in the tree or is got; each in the
-- memory behind it was in the memory or in the tree.
pub record NamesComeFrom (m : Memory) (t : Term) (m' : Memory) (got : List (Option ℕ)) (u : Term) : Type 0 where
  pub in_got : (n : ℕ) → Name got n → Name (term_references t) n ⊎ (InMemory m n ⊎ (length m.heap ≤ n))
  pub in_tree : (n : ℕ) → Name (term_references u) n → Name (term_references t) n ⊎ Name got n
  pub in_memory : (n : ℕ) → InMemory m' n → InMemory m n ⊎ Name (term_references t) n

abbrev pub TreesNameSo : Type 0
TreesNameSo =
    (defs : List Def) (m m' : Memory) (t u : Term) (got : List (Option ℕ)) → next defs m t ≡ Stepped m' got u → NamesComeFrom m t m' got u

-- ---- one step of a process

abbrev pub stm_references : Stm → List (Option ℕ)
stm_references (Eval t) = term_references t
stm_references (If t a b) = term_references t
stm_references (While t l) = term_references t
stm_references (Return t) = term_references t
stm_references _ = []

-- The names in the first statement, which is in evaluation. At its end no reference of its value is used any more.
abbrev pub statement_references : Block → List (Option ℕ)
statement_references (Then s rest) = if is_at_end s then [] else stm_references s
statement_references _ = []

-- All that the values in a frame's statement name is held.
abbrev pub TreeIsHeld : Process → Type 0
TreeIsHeld p = (n : ℕ) → Name (statement_references p.frame.todo) n → Name p.frame.held n

-- n is named inside the heap.
abbrev pub InHeap : Shared → ℕ → Type 0
InHeap w n = (a : ℕ) × (u : HeapValue) × (at w.heap a ≡ Some u) × (0 < inside u n)

-- A process in whose frame the tree names only what is held comes to name only what it named, what is in the heap, and what is new.
abbrev pub ProcessesNameSo : Type 0
ProcessesNameSo =
    (limit : ℕ) (program : Program) (w v : Shared) (p q : Process) → TreeIsHeld p → step limit program w p ≡ Went v q →
    (n : ℕ) → 0 < process_names q n → (0 < process_names p n) ⊎ (InHeap w n ⊎ (length w.heap ≤ n))
