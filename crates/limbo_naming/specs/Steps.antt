-- Steps of the search for what declarations lead to.
use Rattle.std.specs.Prelude.{◌≡◌, ◌<◌, ℕ, List, [], ◌∷◌, ◌++◌, Option, slice_set}
use Rattle.limbo_entries.specs.Entries.{Entry}
use Rattle.limbo_naming.specs.declared.state.State.{State}
use Rattle.limbo_naming.specs.declared.state.State.TheVariants.{NotYet, Entered, Done}
use Rattle.limbo_naming.specs.declared.search.Step.{Step}
use Rattle.limbo_naming.specs.declared.search.Step.TheVariants.{Known, On}
use Rattle.limbo_naming.specs.Depth.{GoesThrough}
use Rattle.limbo_naming.specs.Search.{HasState, IsSearch, LeadsTo, left}

-- What a step says of the last one on the path.
abbrev pub StepSays : List Entry → (m : ℕ) → List State → (top : ℕ) → Step → Type 0
StepSays es m states top (Known to) = LeadsTo es m top to
StepSays es m states top (On next) = GoesThrough es m top next × HasState states next NotYet

-- The last one on the path is done, and leaves it.
pub record Settles (states : List State) (path : List ℕ) (to : Option ℕ) (after : List State) (rest : List ℕ) : Type 0 where
  pub top : ℕ
  pub apart : path ≡ rest ++ top ∷ []
  pub done : after ≡ slice_set states top (Done to)

-- One more is entered.
pub record Enters (states : List State) (path : List ℕ) (next : ℕ) (after : List State) (longer : List ℕ) : Type 0 where
  pub path_is : longer ≡ path ++ next ∷ []
  pub entered : after ≡ slice_set states next Entered

-- what was looked at stays so
abbrev pub NoneForgotten : List State → List State → Type 0
NoneForgotten states after = (j : ℕ) → HasState after j NotYet → HasState states j NotYet

-- The search goes on, and less is left to do.
pub record Advances (es : List Entry) (m : ℕ) (states : List State) (path : List ℕ) (after : List State) (new : List ℕ) : Type 0 where
  pub search : IsSearch es m after new
  pub seen : NoneForgotten states after
  pub less : left after new < left states path
