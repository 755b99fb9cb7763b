-- Rings of values of the heap.
use Rattle.std.specs.Prelude.{ℕ, ◌≡◌, ◌<◌, true}
use Rattle.heap_model.specs.Kept.{Graph, Reached}
use Rattle.heap_model.specs.Heap.{Heap, graph}
use Rattle.heap_model.specs.Laws.{staying}

-- References lead from one value of a heap to another, one or more.
pub data Leads (g : Graph) : ℕ → ℕ → Type 0 where
  at_once : (a b : ℕ) → 0 < g.uses a b → Leads g a b
  further : (a b c : ℕ) → 0 < g.uses a b → Leads g b c → Leads g a c

-- No value names itself, through any number of references.
abbrev pub HasNoRing : Graph → Type 0
HasNoRing g = (n : ℕ) → Leads g n n → ⊥

-- Where no value names itself, what stays of a heap is reached from what names it from outside: nothing that is out of reach stays.
abbrev pub NoRingsNoneLost : Type 0 → Type 0
NoRingsNoneLost A =
    (inside : A → ℕ → ℕ) (roots : ℕ → ℕ) (h : Heap A) → HasNoRing (graph inside h) → (n : ℕ) → staying inside roots h n ≡ true →
    Reached (graph inside h) roots n
