-- What a run begins with: nothing is in the heap that nobody names.
use Rattle.std.specs.Prelude.{ℕ, ◌≡◌, List, ◌∷◌}
use Rattle.process_model.specs.Naming.{Still}
use Rattle.limbo_types.specs.Types.{Ty, ListOf}
use Rattle.limbo_typed.specs.Typed.{Module}
use Rattle.limbo_meaning.specs.Program.{Routine}
use Rattle.limbo_meaning.specs.Process.{process_names}
use Rattle.limbo_meaning.specs.Rules.{naming}
use Rattle.limbo_meaning.specs.Runs.{first_world, first_process}

-- A function whose second parameter is a list, as `init` has one.
pub record TakesWords (r : Routine) : Type 0 where
  pub first : Ty
  pub item : Ty
  pub more : List Ty
  pub variables : r.variables ≡ first ∷ ListOf item ∷ more

-- The first process names the instance and the list of words, and the cells name each other; so nothing goes before the first step.
abbrev pub OpeningIsStill : Type 0
OpeningIsStill =
    (m : Module) (words : List (List ℕ)) (r : Routine) → TakesWords r →
    Still naming (process_names (first_process m words r)) (first_world m words)
