-- Of the functions of a module the first that fails.
use Rattle.std.specs.Prelude.{◌≡◌, ℕ, List, take, Some, slice_get}
use Rattle.limbo_typed.specs.Typed.{Function}
use Rattle.limbo_scope.specs.Scopes.{Scope}
use Rattle.limbo_context.specs.Context.{Context, Callee}
use Rattle.limbo_stmt_values.specs.limbo_stating.Reasons.{Reason}
use Rattle.limbo_stmt_values.specs.limbo_stating.Functions.{Definition, FailsFunction, AreFunctions}

-- The definition of this number fails, behind those before it, which are functions.
pub record FailsFirst (m : List ℕ) (scopes : List Scope) (fs : List Callee) (ds : List Definition) (c : Context) (n : ℕ) (k : Reason)
    : Type 0 where
  pub callee : Callee
  pub declared : slice_get fs n ≡ Some callee
  pub definition : Definition
  pub there : slice_get ds n ≡ Some definition
  pub before : List Function
  pub behind : Context
  pub are : AreFunctions m scopes (take n fs) (take n ds) c before behind
  pub fails : FailsFunction m scopes callee definition behind k
