-- How many references a value has is told by its type, and whether a tree may get any by the tree.
use Rattle.std.specs.Prelude.{ℕ, ◌≡◌, false, List, [], length, Option}
use Rattle.limbo_layout.specs.Adts.{Def}
use Rattle.limbo_types.specs.Types.{Ty}
use Rattle.limbo_meaning.specs.Values.{Value, fitted, references}
use Rattle.limbo_meaning.specs.Memory.{Memory}
use Rattle.limbo_meaning.specs.Trees.{Term}
use Rattle.limbo_meaning.specs.Evaluation.{Stepped, Calls, Prints, next, fill, refers, may_hold}

pub record KindsAreStatic : Type 0 where
  -- each value of a type has as many references as any other
  pub values : (defs : List Def) (t : Ty) (v u : Value) → length (references (fitted defs t v)) ≡ length (references (fitted defs t u))
  -- a tree that may hold no reference gets none, however far it is evaluated, calls of functions whose answers may hold none, and may hold
  -- none when it is answered
  pub steps : (defs : List Def) (m m' : Memory) (t u : Term) (got : List (Option ℕ)) →
      may_hold defs t ≡ false → next defs m t ≡ Stepped m' got u → (got ≡ []) × (may_hold defs u ≡ false)
  pub calls : (defs : List Def) (m : Memory) (t u : Term) (a : Ty) (f : ℕ) (args : List Value) →
      may_hold defs t ≡ false → next defs m t ≡ Calls a f args u → (refers defs a ≡ false) × (may_hold defs u ≡ false)
  pub prints : (defs : List Def) (m : Memory) (t u : Term) (text : List ℕ) →
      may_hold defs t ≡ false → next defs m t ≡ Prints text u → may_hold defs u ≡ false
  pub answers : (defs : List Def) (v : Value) (t : Term) → may_hold defs (fill v t) ≡ may_hold defs t
