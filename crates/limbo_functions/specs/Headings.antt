-- What a definition writes before its block (Limbo Language Reference, functions).
use Rattle.std.specs.Prelude.{◌≡◌, ◌≢◌, ◌<◌, List, length}
use Rattle.limbo_tree.specs.Decls as decls
use Rattle.limbo_types.specs.Types.{FnTy}
use Rattle.limbo_scope.specs.Scopes.{Scope}
use Rattle.limbo_declarations.specs.Scopes.{FnIsOnce}
use Rattle.limbo_causes.specs.Causes.{Cause, Twice, nothing}
use Rattle.limbo_context.specs.Context.{Context, Body}
use Rattle.limbo_stmt_values.specs.limbo_local.Points.{Point}
use Rattle.limbo_stmt_values.specs.limbo_local.Local.{IsHeader}
use Rattle.limbo_stmt_values.specs.limbo_local.Failing.{FailsHeader}
use Rattle.limbo_stmt_values.specs.limbo_stating.Reasons.{Reason, ByPart}
use Rattle.limbo_stmt_values.specs.limbo_stating.Functions.{Definition, outside, begins}

-- The block of a definition begins here, which is one of a function that is declared so. There is a scope around it.
pub record Begins (c : Context) (scopes : List Scope) (d : Definition) (of : FnTy) (p : Point) : Type 0 where
  pub once : FnIsOnce d.of
  pub header : IsHeader c (outside scopes) d.of of
  pub there : 0 < length scopes
  pub here : p ≡ begins c scopes d of

-- A parameter's name stands twice, a type fails, or the types are others than the declared ones.
pub data FailsHeading (c : Context) (b : Body) (f : decls.FnType) (of : FnTy) : Reason → Type 0 where
  again : (FnIsOnce f → ⊥) → FailsHeading c b f of (ByPart Twice)
  a_type : (k : Cause) → FailsHeader c b f k → FailsHeading c b f of (ByPart k)
  unlike : (other : FnTy) → IsHeader c b f other → other ≢ of → FailsHeading c b f of (ByPart nothing)
