-- A source and a machine with a heap each, as two sides of many processes. Beside its heap a world has an outside, which may have
-- more in the machine than in the source.
use Rattle.std.specs.Prelude.{ℕ, ◌≡◌, List, None}
use Rattle.process_model.specs.Process.{Branch, Rules}
use Rattle.process_model.specs.Naming.{Naming}
use Rattle.process_model.specs.Renaming.{Renaming}
use Rattle.process_model.specs.Follows.{Among, Sides}
use Rattle.heap_model.specs.Heap.{Heap, stays, gone}
use Rattle.heap_model.specs.Facts.{Facts, Grows, Is}
use Rattle.heap_model.specs.Alike.{Holds}
use Rattle.heap_model.specs.Contents.{Contents}
use Rattle.heap_model.specs.Worlds.{blocks, WorldsAlike, Changes, Leaves}

-- What processes share: a heap, and all else.
pub record World (A O : Type 0) : Type 0 where
  pub heap : Heap A
  pub outside : O

-- A language with such a heap: what stays is what is named, and the rest goes.
abbrev pub heap_naming : {A O P D : Type 0} → (A → ℕ → ℕ) → (P → ℕ → ℕ) → (List (Branch D) → ℕ → ℕ) → Naming (World A O) P D
heap_naming inside names table = record {
  names = names;
  holds = table;
  trim = λ named w. record { heap = stays inside named w.heap; outside = w.outside };
  gone = λ named w. gone inside named w.heap;
}

-- A block is known once it has a fact. What it is that a value passes as another is told by facts alone.
abbrev pub heap_map : {B F D U : Type 0} → (Facts B F → D → U → Type 0) → Renaming (Facts B F) D U
heap_map value = record { grows = Grows; name = Is; known = λ k n. k.fact n ≡ None → ⊥; value = value }

-- What two languages say for themselves: their rules, what they name, when a value passes as another, when the outside of the
-- machine stands for that of the source, what it may become while a process stays where it is, and how processes are related.
pub record Parts (V B F O N P Q D U M A H : Type 0) : Type 1 where
  pub contents : Contents V B F
  pub program : Rules (World V O) P D M A H
  pub code : Rules (World B N) Q U M A H
  pub names : P → ℕ → ℕ
  pub table : List (Branch D) → ℕ → ℕ
  pub words : Q → ℕ → ℕ
  pub table_words : List (Branch U) → ℕ → ℕ
  pub value : Facts B F → D → U → Type 0
  pub outsides : O → N → Type 0
  pub later : N → N → Type 0
  pub ready : Facts B F → ℕ → World B N → P → Q → Type 0
  pub asking : Facts B F → ℕ → World B N → P → Q → Type 0
  pub waiting : Facts B F → ℕ → World B N → List (Branch D) → List (Branch U) → P → Q → Type 0

abbrev pub sides : {V B F O N P Q D U M A H : Type 0} →
    Parts V B F O N P Q D U M A H → Sides (Facts B F) (World V O) (World B N) P Q D U M A H
sides a = record {
  map = heap_map a.value;
  program = a.program;
  naming = heap_naming a.contents.inside a.names a.table;
  code = a.code;
  code_naming = heap_naming a.contents.words a.words a.table_words;
  ready = λ k i x p q. a.ready k i x p q;
  asking = λ k i x p q. a.asking k i x p q;
  waiting = λ k i x bs cs p q. a.waiting k i x bs cs p q;
  worlds = λ k w x. WorldsAlike a.contents k w.heap x.heap × a.outsides w.outside x.outside;
  holds = λ k these x f g. Holds k (Among these) (blocks a.contents x.heap) f g;
  changes = λ these k now x x'. Changes (Among these) k now x.heap x'.heap × a.later x.outside x'.outside;
  leaves = λ j k now x x'. Leaves j k now x.heap x'.heap × a.later x.outside x'.outside;
}
