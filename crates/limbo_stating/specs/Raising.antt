-- What is raised (Limbo Language Reference, exceptions).
use Rattle.std.specs.Prelude.{◌≡◌, ◌≢◌, ℕ, List, [], Option, None, Some, slice_get}
use Rattle.limbo_tree.specs.Exprs as tree
use Rattle.limbo_types.specs.Types.{Chars, Nothing}
use Rattle.limbo_typed.specs.Typed.{Expr, Exprs, NoExprs, Stmt, Raise, RaiseDeclared, Exception}
use Rattle.limbo_standing.specs.Standing.{Settles, SettleEach}
use Rattle.limbo_refusals.specs.Refusals.{Refusal}
use Rattle.limbo_arguments.specs.Failing.{FailsAt, FailsEach}
use Rattle.limbo_causes.specs.Causes.{Cause, Refused, nothing}
use Rattle.limbo_context.specs.Context.{Context, Body}
use Rattle.limbo_things.specs.Things.{AnException, NameIs}
use Rattle.limbo_local.specs.limbo_typing.Typing.{HaveValues}
use Rattle.limbo_local.specs.limbo_typing.Failing.{FailsValue, FailsSome}
use Rattle.limbo_local.specs.Points.{Point, ValueAt, with_body}

-- A name is that of a declared exception.
pub record NamesException (c : Context) (b : Body) (name : List ℕ) (number : ℕ) (exception : Exception) : Type 0 where
  pub is : NameIs c b name (AnException number)
  pub there : slice_get c.exceptions number ≡ Some exception

-- A string is raised, for which `nil` stands too; or a declared exception, alone where it has no values, or with them.
pub data Raises (p : Point) : tree.Expr → Stmt → Point → Type 0 where
  a_string : (e : tree.Expr) (x y : Expr) (q : Point) → ValueAt p e x q → Settles Chars x y → Raises p e (Raise y) q
  alone : (n : List ℕ) (i : ℕ) (x : Exception) → NamesException p.context p.body n i x → x.values ≡ []
      → Raises p (tree.Name n) (RaiseDeclared i NoExprs) p
  with_values : (n : List ℕ) (es : tree.Exprs) (i : ℕ) (x : Exception) (xs ys : Exprs) (b : Body)
      → NamesException p.context p.body n i x → HaveValues p.context p.body es xs b → SettleEach x.values xs ys
      → Raises p (tree.Call (tree.Name n) es) (RaiseDeclared i ys) (with_body b p)

-- the name that an exception would have which is raised
abbrev pub raised_name : tree.Expr → Option (List ℕ)
raised_name (tree.Name n) = Some n
raised_name (tree.Call (tree.Name n) es) = Some n
raised_name _ = None

-- No declared exception is raised.
abbrev pub RaisesNone : Point → tree.Expr → Type 0
RaisesNone p e = (n : List ℕ) (i : ℕ) (x : Exception) → raised_name e ≡ Some n → NamesException p.context p.body n i x → ⊥

-- No exception is raised, and the expression has no value or is no string; an exception lacks its values; its values fail, or are others.
pub data FailsToRaise (p : Point) : tree.Expr → Cause → Type 0 where
  no_value : (e : tree.Expr) (k : Cause) → RaisesNone p e → FailsValue p.context p.body e k → FailsToRaise p e k
  no_string : (e : tree.Expr) (x : Expr) (q : Point) (r : Refusal) → ValueAt p e x q → FailsAt Chars x r → FailsToRaise p e (Refused r)
  lacks_values : (n : List ℕ) (i : ℕ) (x : Exception) → NamesException p.context p.body n i x → x.values ≢ []
      → FailsToRaise p (tree.Name n) nothing
  a_value : (n : List ℕ) (es : tree.Exprs) (i : ℕ) (x : Exception) (k : Cause) → NamesException p.context p.body n i x
      → FailsSome p.context p.body es k → FailsToRaise p (tree.Call (tree.Name n) es) k
  values_unfit : (n : List ℕ) (es : tree.Exprs) (i : ℕ) (x : Exception) (xs : Exprs) (b : Body) (r : Refusal)
      → NamesException p.context p.body n i x → HaveValues p.context p.body es xs b → FailsEach Nothing x.values xs r
      → FailsToRaise p (tree.Call (tree.Name n) es) (Refused r)
