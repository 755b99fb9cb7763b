-- What the maps of the code stand for.
use Rattle.std.specs.Prelude.{ℕ, List, map, reverse}
use Rattle.std.specs.BTreeMap.{BTreeMap}
use Rattle.std.specs.FinMap.{from_entries}
use Rattle.limbo_scope.specs.declared.meaning.Meaning.{Meaning}
use Rattle.limbo_scope.specs.Scopes.{Scope}

abbrev pub Names : Type 0
Names = BTreeMap (List ℕ) Meaning

abbrev pub scope_of : Names → Scope
scope_of names = from_entries names.entries

-- scopes of which the innermost stands last
abbrev pub scopes_of : List Names → List Scope
scopes_of scopes = reverse (map scope_of scopes)
