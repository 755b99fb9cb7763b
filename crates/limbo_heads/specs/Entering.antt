-- Where an arm begins.
use Rattle.std.specs.Prelude.{◌≡◌, ℕ, List, None}
use Rattle.limbo_scope.specs.Scopes.{Scope, declared_here}

-- The innermost scope declares nothing yet, as where it has just been entered.
abbrev pub DeclaresNothing : List Scope → Type 0
DeclaresNothing scopes = (name : List ℕ) → declared_here name scopes ≡ None
