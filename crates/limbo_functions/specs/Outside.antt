-- Where the checking stands outside of all functions.
use Rattle.std.specs.Prelude.{◌≡◌, List, []}
use Rattle.limbo_scope.specs.Scopes.{Scope}
use Rattle.limbo_context.specs.Context.{Context}
use Rattle.limbo_stmt_values.specs.limbo_local.Points.{Point}
use Rattle.limbo_stmt_values.specs.limbo_stating.Functions.{outside}

-- There are no variables of a function, and no handlers.
pub record StandsOutside (p : Point) : Type 0 where
  pub variables : p.body.variables ≡ []
  pub catches : p.catches ≡ 0

abbrev pub outside_of : Context → List Scope → Point
outside_of c scopes = record { context = c; body = outside scopes; catches = 0 }
