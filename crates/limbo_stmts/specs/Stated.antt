-- What the checker answers for statements, and for the arms of branches.
use Rattle.std.specs.Prelude.{◌≡◌}
use Rattle.limbo_tree.specs.Stmts as tree
use Rattle.limbo_tree.specs.View as source
use Rattle.limbo_typed.specs.Typed.{Stmts}
use Rattle.limbo_typed.specs.View.{view_stmt}
use Rattle.limbo_typed.specs.View as typed
use Rattle.limbo_typed.specs.declared.stmt.TStmt as code_stmt
use Rattle.limbo_stmt_values.specs.limbo_local.Points.{Point, enter, leave}
use Rattle.limbo_stmt_values.specs.limbo_stating.Reasons.{Reason}
use Rattle.limbo_stmt_values.specs.limbo_stating.Around.{Around}
use Rattle.limbo_stmt_values.specs.limbo_stating.Stating.{Branch, HeadOf, IsHead, States, StatesAll}
use Rattle.limbo_stmt_values.specs.limbo_stating.FailsToState.{FailsToState, FailsAll, FailsHead}
use Rattle.limbo_stmt_values.specs.Whys.{FailsFor}
use Rattle.limbo_stmt_values.specs.declared.fault.Why.{Why}
use Rattle.limbo_heads.specs.Around.{view_around}
use Rattle.limbo_heads.specs.declared.around.Around as code_around
use Rattle.limbo_stmts.specs.View.{view_point}
use Rattle.limbo_stmts.specs.declared.point.Point as code_point

-- A statement is this typed one, where the checking has come to, and leads there; or it is none, and this is told of it.
abbrev pub IsStated : code_around.Around → code_point.Point → tree.Stmt → code_stmt.TStmt → code_point.Point → Type 0
IsStated v p s z q = States (view_around v) (view_point p) s (view_stmt z) (view_point q)

abbrev pub IsNone : code_around.Around → code_point.Point → tree.Stmt → Why → Type 0
IsNone v p s w = FailsFor w (FailsToState (view_around v) (view_point p) s)

-- The statements of a block are a scope.
pub record StatesInside (v : Around) (p : Point) (ss : tree.Stmts) (zs : Stmts) (q : Point) : Type 0 where
  pub behind : Point
  pub states : StatesAll v (enter p) ss zs behind
  pub goes_on : q ≡ leave behind

-- An arm is a scope, its head in it: the head, and the statements behind it.
pub record StatesArm (o : Branch) (v : Around) (p : Point) (a : source.Arm) (x : typed.Arm (HeadOf o)) (q : Point) : Type 0 where
  pub begun : Point
  pub behind : Point
  pub head : IsHead o (enter p) a.head x.head begun
  pub body : StatesAll v begun a.body x.body behind
  pub goes_on : q ≡ leave behind

-- Its head is none, or one of its statements.
pub data FailsArm (o : Branch) (v : Around) (p : Point) (a : source.Arm) : Reason → Type 0 where
  in_head : (k : Reason) → FailsHead o (enter p) a.head k → FailsArm o v p a k
  in_body : (q : Point) (x : HeadOf o) (k : Reason) → IsHead o (enter p) a.head x q → FailsAll v q a.body k → FailsArm o v p a k
