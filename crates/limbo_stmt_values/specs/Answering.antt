-- A value where a type is asked for, and why it is none.
use Rattle.limbo_tree.specs.Exprs as tree
use Rattle.limbo_types.specs.Types.{Ty}
use Rattle.limbo_typed.specs.Typed.{Expr}
use Rattle.limbo_standing.specs.Standing.{Settles}
use Rattle.limbo_refusals.specs.Refusals.{Refusal}
use Rattle.limbo_arguments.specs.Failing.{FailsAt}
use Rattle.limbo_causes.specs.Causes.{Cause, Refused}
use Rattle.limbo_exprs.specs.limbo_typing.Failing.{FailsValue}
use Rattle.limbo_stating.specs.limbo_local.Points.{Point, ValueAt}

pub record Answers (asked : Ty) (p : Point) (e : tree.Expr) (y : Expr) (q : Point) : Type 0 where
  pub value : Expr
  pub has : ValueAt p e value q
  pub settles : Settles asked value y

pub data FailsToAnswer (asked : Ty) (p : Point) (e : tree.Expr) : Cause → Type 0 where
  no_value : (k : Cause) → FailsValue p.context p.body e k → FailsToAnswer asked p e k
  unfit : (x : Expr) (q : Point) (r : Refusal) → ValueAt p e x q → FailsAt asked x r → FailsToAnswer asked p e (Refused r)
