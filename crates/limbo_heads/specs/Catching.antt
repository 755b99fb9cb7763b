-- The variable that the name of a handler is in an arm.
use Rattle.std.specs.Prelude.{◌≡◌, ℕ, List, length}
use Rattle.limbo_types.specs.Types.{Ty}
use Rattle.limbo_typed.specs.declared.stmt.HandlerPattern.{HandlerPattern}
use Rattle.limbo_refusals.specs.Refusals.{Refusal}
use Rattle.limbo_causes.specs.Causes.{Cause, Refused}
use Rattle.limbo_context.specs.Context.{Context, Body, with_variable}
use Rattle.limbo_permits.specs.Permits.{Permits, ForbidsType}
use Rattle.limbo_stmt_values.specs.limbo_stating.Handlers.{IsCaught}

-- It has what is caught, whose type is permitted.
pub record IsVariable (c : Context) (zs : List HandlerPattern) (name : List ℕ) (number : ℕ) (b d : Body) : Type 0 where
  pub ty : Ty
  pub caught : IsCaught c zs ty
  pub permitted : Permits c ty
  pub numbered : number ≡ length b.variables
  pub declared : d ≡ with_variable name ty b

-- That type isn't.
pub record FailsVariable (c : Context) (zs : List HandlerPattern) (k : Cause) : Type 0 where
  pub ty : Ty
  pub refusal : Refusal
  pub caught : IsCaught c zs ty
  pub forbidden : ForbidsType c ty refusal
  pub told : k ≡ Refused refusal
