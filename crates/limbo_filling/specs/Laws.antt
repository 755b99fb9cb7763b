-- How arrays that are filled stay apart, step by step of a tree.
use Rattle.std.specs.Prelude.{ℕ, ◌≡◌, ◌<◌, ◌≤◌, ◌⊎◌, List, length, Option}
use Rattle.limbo_layout.specs.Adts.{Def}
use Rattle.limbo_types.specs.Types.{Ty}
use Rattle.limbo_meaning.specs.Values.{Value, references, references_in}
use Rattle.limbo_meaning.specs.Memory.{Memory}
use Rattle.limbo_meaning.specs.Trees.{Term}
use Rattle.limbo_meaning.specs.Evaluation.{Stepped, Calls, Prints, next, fill}
use Rattle.limbo_meaning.specs.Origins.{Name, InMemory}
use Rattle.limbo_meaning.specs.Owning.{IsFresh}
use Rattle.limbo_filling.specs.Filling.{Fills, FillsApart}

-- What the memory names is taken.
abbrev pub IsBounded : Memory → Type 0
IsBounded m = (n : ℕ) → InMemory m n → n < length m.heap

-- These words name no array that the tree fills.
abbrev pub AreApart : Term → List (Option ℕ) → Type 0
AreApart t words = (n : ℕ) → Fills t n → Name words n → ⊥

pub record FillsStayApart : Type 0 where
  -- what isn't begun fills nothing
  pub fresh : (m : Memory) (t : Term) → IsFresh t → FillsApart m t
  pub fills_none : (t : Term) (n : ℕ) → IsFresh t → Fills t n → ⊥
  -- what is filled is taken, and the memory doesn't name it
  pub apart : (m : Memory) (t : Term) (n : ℕ) → FillsApart m t → Fills t n → (n < length m.heap) × (InMemory m n → ⊥)
  -- a step: what is filled behind it was filled before, or is new
  pub steps : (defs : List Def) (m m' : Memory) (t u : Term) (got : List (Option ℕ)) → IsBounded m → FillsApart m t →
      next defs m t ≡ Stepped m' got u → FillsApart m' u
  pub fills_more : (defs : List Def) (m m' : Memory) (t u : Term) (got : List (Option ℕ)) (n : ℕ) → FillsApart m t →
      next defs m t ≡ Stepped m' got u → Fills u n → Fills t n ⊎ (length m.heap ≤ n)
  -- a call: its arguments name nothing that is filled
  pub calls : (defs : List Def) (m : Memory) (t u : Term) (a : Ty) (f : ℕ) (args : List Value) → FillsApart m t →
      next defs m t ≡ Calls a f args u → FillsApart m u × AreApart u (references_in args)
  -- a print
  pub prints : (defs : List Def) (m : Memory) (t u : Term) (text : List ℕ) → FillsApart m t → next defs m t ≡ Prints text u → FillsApart m u
  -- an answer that names nothing that is filled
  pub answers : (m : Memory) (t : Term) (v : Value) → FillsApart m t → AreApart t (references v) → FillsApart m (fill v t)
  pub fills_as_before : (t : Term) (v : Value) (n : ℕ) → Fills (fill v t) n → Fills t n
  -- another memory, which has come to name nothing that is filled
  pub elsewhere : (m m' : Memory) (t : Term) → length m.heap ≤ length m'.heap →
      ((n : ℕ) → Fills t n → InMemory m' n → InMemory m n) → FillsApart m t → FillsApart m' t
