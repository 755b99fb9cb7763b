-- What holds of scopes.
use Rattle.std.specs.Prelude.{◌≡◌, ◌≢◌, ℕ, List, [], ◌∷◌, Some}
use Rattle.limbo_scope.specs.declared.meaning.Meaning.{Meaning}
use Rattle.limbo_scope.specs.Scopes.{Scope, seen, entered, declared, left}

-- Names declared one after the other.
abbrev pub declared_all : List (List ℕ × Meaning) → List Scope → List Scope
declared_all [] scopes = scopes
declared_all (d ∷ ds) scopes = declared_all ds (declared d.0 d.1 scopes)

-- Who enters a scope, declares anything in it and leaves it has the scopes that there were.
abbrev pub GivesBack : Type 0
GivesBack =
    (declarations : List (List ℕ × Meaning)) (scope : Scope) (outer : List Scope)
    → left (declared_all declarations (entered (scope ∷ outer))) ≡ scope ∷ outer

-- The innermost declaration of a name counts, and hides no other name. A scope without declarations hides none.
pub record InnermostCounts : Type 0 where
  pub counts :
      (name : List ℕ) (meaning : Meaning) (scope : Scope) (outer : List Scope)
      → seen name (declared name meaning (scope ∷ outer)) ≡ Some meaning
  pub others :
      (name other : List ℕ) (meaning : Meaning) (scopes : List Scope) → other ≢ name
      → seen other (declared name meaning scopes) ≡ seen other scopes
  pub fresh : (name : List ℕ) (scopes : List Scope) → seen name (entered scopes) ≡ seen name scopes
