-- The scopes that the code keeps.
use Rattle.std.specs.Prelude.{List, ◌∷◌}
use Rattle.limbo_scope.specs.declared.scopes.Scopes.TheInside.{Inside}
use Rattle.limbo_scope.specs.Scopes.{Scope}
use Rattle.limbo_scope.specs.Maps.{scope_of, scopes_of}

abbrev pub view_scopes : Inside → List Scope
view_scopes a = scope_of a.inner ∷ scopes_of a.outer.items
