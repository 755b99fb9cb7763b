-- Exceptions that are raised.
use Rattle.std.specs.Prelude.{◌≡◌, ◌≢◌, ℕ, List, [], Option, None, Some}
use Rattle.limbo_tree.specs.Exprs as tree
use Rattle.limbo_tree.specs.Parts.{call_in}
use Rattle.limbo_types.specs.Types.{Ty, Nothing}
use Rattle.limbo_typed.specs.Typed.{Exprs, NoExprs, Stmt, RaiseDeclared}
use Rattle.limbo_standing.specs.Standing.{SettleEach}
use Rattle.limbo_refusals.specs.Refusals.{Refusal}
use Rattle.limbo_arguments.specs.Failing.{FailsEach}
use Rattle.limbo_causes.specs.Causes.{Cause, Refused, nothing}
use Rattle.limbo_context.specs.Context.{Context, Body}
use Rattle.limbo_things.specs.Things.{Thing, AnException}
use Rattle.limbo_stmt_values.specs.limbo_typing.Typing.{HaveValues}
use Rattle.limbo_stmt_values.specs.limbo_typing.Failing.{FailsSome}

-- the exception that a thing is
abbrev pub exception_in : Thing → Option ℕ
exception_in (AnException n) = Some n
exception_in _ = None

-- An exception with values of these types is raised with these expressions.
pub record IsRaisedWith (c : Context) (b : Body) (es : tree.Exprs) (ts : List Ty) (number : ℕ) (s : Stmt) (d : Body) : Type 0 where
  pub values : Exprs
  pub settled : Exprs
  pub have : HaveValues c b es values d
  pub settle : SettleEach ts values settled
  pub gives : s ≡ RaiseDeclared number settled

-- It isn't: a value fails, or they are others.
pub data FailsWith (c : Context) (b : Body) (es : tree.Exprs) (ts : List Ty) : Cause → Type 0 where
  a_value : (k : Cause) → FailsSome c b es k → FailsWith c b es ts k
  unfit : (xs : Exprs) (d : Body) (r : Refusal) → HaveValues c b es xs d → FailsEach Nothing ts xs r → FailsWith c b es ts (Refused r)

-- The same of an expression: alone where it is no call, and the exception has no values.
pub data RaisesException (c : Context) (b : Body) (e : tree.Expr) (ts : List Ty) (i : ℕ) (s : Stmt) (d : Body) : Type 0 where
  alone : call_in e ≡ None → ts ≡ [] → s ≡ RaiseDeclared i NoExprs → d ≡ b → RaisesException c b e ts i s d
  with_values : (f : tree.Expr) (es : tree.Exprs) → call_in e ≡ Some (f, es) → IsRaisedWith c b es ts i s d
      → RaisesException c b e ts i s d

pub data FailsException (c : Context) (b : Body) (e : tree.Expr) (ts : List Ty) : Cause → Type 0 where
  lacks : call_in e ≡ None → ts ≢ [] → FailsException c b e ts nothing
  by_values : (f : tree.Expr) (es : tree.Exprs) (k : Cause) → call_in e ≡ Some (f, es) → FailsWith c b es ts k → FailsException c b e ts k
