-- Scopes, one in the other, and what a name means in them (Limbo Language Reference, scope).
use Rattle.std.specs.Prelude.{ℕ, List, [], ◌∷◌, Option, None}
use Rattle.std.specs.Option.{option_or}
use Rattle.std.specs.Ordering.{nat_cmp}
use Rattle.std.specs.Cmp.Lexicographic.{slice_cmp}
use Rattle.std.specs.FinMap.{FinMap, empty, get, insert}
use Rattle.limbo_scope.specs.declared.meaning.Meaning.{Meaning}

-- A scope: the names that it declares, and what each means. Scopes that lie in one another are a list, the innermost first.
abbrev pub Scope : Type 0
Scope = FinMap (slice_cmp nat_cmp) Meaning

-- What a name means: what the innermost scope says that declares it.
abbrev pub seen : List ℕ → List Scope → Option Meaning
seen name [] = None
seen name (scope ∷ outer) = option_or (get scope name) (seen name outer)

-- What the innermost scope itself says.
abbrev pub declared_here : List ℕ → List Scope → Option Meaning
declared_here name [] = None
declared_here name (scope ∷ outer) = get scope name

-- A scope is entered: it declares nothing yet.
abbrev pub entered : List Scope → List Scope
entered scopes = empty ∷ scopes

-- A name is declared in the innermost scope.
abbrev pub declared : List ℕ → Meaning → List Scope → List Scope
declared name meaning [] = []
declared name meaning (scope ∷ outer) = insert scope name meaning ∷ outer

-- The innermost scope is left. The outermost scope stays.
abbrev pub left : List Scope → List Scope
left [] = []
left (scope ∷ []) = scope ∷ []
left (scope ∷ next ∷ outer) = next ∷ outer
