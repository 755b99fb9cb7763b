-- What loops repeat, and what stands in the head of a `for`.
use Rattle.std.specs.Prelude.{ℕ, List, Option}
use Rattle.limbo_tree.specs.Exprs as exprs
use Rattle.limbo_tree.specs.Stmts as tree
use Rattle.limbo_typed.specs.Typed.{Expr}
use Rattle.limbo_typed.specs.View.{view_stmt}
use Rattle.limbo_typed.specs.declared.stmt.TStmt as code_stmt
use Rattle.limbo_causes.specs.Causes.{Cause}
use Rattle.limbo_stmt_values.specs.limbo_local.Points.{Point}
use Rattle.limbo_stmt_values.specs.limbo_stating.Around.{in_loop, MayEvaluate, MayFailToEvaluate, MayTest, MayFailToTest}
use Rattle.limbo_stmt_values.specs.limbo_stating.Stating.{States}
use Rattle.limbo_stmt_values.specs.limbo_stating.FailsToState.{FailsToState}
use Rattle.limbo_stmt_values.specs.Whys.{FailsFor}
use Rattle.limbo_stmt_values.specs.declared.fault.Why.{Why}
use Rattle.limbo_heads.specs.Around.{view_around}
use Rattle.limbo_heads.specs.declared.around.Around as code_around
use Rattle.limbo_stmts.specs.View.{view_point}
use Rattle.limbo_stmts.specs.declared.point.Point as code_point

-- A statement in a loop with such a label.
abbrev pub IsRepeated : Option (List ℕ) → code_around.Around → code_point.Point → tree.Stmt → code_stmt.TStmt → code_point.Point → Type 0
IsRepeated l v p s z q = States (in_loop l (view_around v)) (view_point p) s (view_stmt z) (view_point q)

abbrev pub RepeatsNot : Option (List ℕ) → code_around.Around → code_point.Point → tree.Stmt → Why → Type 0
RepeatsNot l v p s w = FailsFor w (FailsToState (in_loop l (view_around v)) (view_point p) s)

-- The head of a `for`: what it begins with, its condition, and its step.
pub record HasForHead (p : Point) (a c b : Option exprs.Expr) (x y z : Option Expr) (q : Point) : Type 0 where
  pub begun : Point
  pub tested : Point
  pub first : MayEvaluate p a x begun
  pub condition : MayTest begun c y tested
  pub next : MayEvaluate tested b z q

pub data FailsForHead (p : Point) (a c b : Option exprs.Expr) : Cause → Type 0 where
  begins : (k : Cause) → MayFailToEvaluate p a k → FailsForHead p a c b k
  tested : (q : Point) (x : Option Expr) (k : Cause) → MayEvaluate p a x q → MayFailToTest q c k → FailsForHead p a c b k
  steps : (q r : Point) (x y : Option Expr) (k : Cause) → MayEvaluate p a x q → MayTest q c y r → MayFailToEvaluate r b k
      → FailsForHead p a c b k
