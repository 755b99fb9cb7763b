-- What stands before `(` and what is passed to it, as one expression (Limbo Language Reference, expressions).
use Rattle.std.specs.Prelude.{ℕ, ◌≡◌, Bool, true, false, Some, None, slice_get}
use Rattle.limbo_types.specs.Types.{Adt}
use Rattle.limbo_typed.specs.Typed.{Expr, Exprs, MoreExprs, Optional, Absent, Present, Interface, Signature}
use Rattle.limbo_context.specs.Context.{Context, Callee}
use Rattle.limbo_calls.specs.Calls.{Calls, CallsThrough, Constructs}
use Rattle.limbo_things.specs.Things.{Thing, AType, AVariant, AFunction, AMethod, AMember}

abbrev pub before : Optional → Exprs → Exprs
before Absent args = args
before (Present e) args = MoreExprs e args

-- An object is passed where the function takes `self`, and else isn't evaluated.
abbrev pub with_object : (takes_self : Bool) → Optional → Exprs → Exprs
with_object true object args = before object args
with_object false object args = args

-- A call of a function of the module, with the object before its `.`, where there is one.
pub record CallsFunction (c : Context) (function : ℕ) (object : Optional) (args : Exprs) (e : Expr) : Type 0 where
  pub callee : Callee
  pub there : slice_get c.functions function ≡ Some callee
  pub calls : Calls function callee.of (with_object callee.takes_self object args) e

-- A module type declares a function of this number.
pub record Declares (c : Context) (interface function : ℕ) (member : Signature) : Type 0 where
  pub of : Interface
  pub there : slice_get c.interfaces interface ≡ Some of
  pub declared : slice_get of.functions function ≡ Some member

-- A call of it through the value of a module.
pub record CallsMember (c : Context) (instance : Expr) (interface function : ℕ) (args : Exprs) (e : Expr) : Type 0 where
  pub member : Signature
  pub declares : Declares c interface function member
  pub calls : CallsThrough c.system instance interface function member.of args e

-- `thing(args)`: a call, or a value of an adt or of a variant of one. A print takes a literal format, and is none of these.
abbrev pub Applies : Context → Thing → Exprs → Expr → Type 0
Applies c (AFunction n) args e = CallsFunction c n Absent args e
Applies c (AMethod n object) args e = CallsFunction c n object args e
Applies c (AMember instance i j) args e = CallsMember c instance i j args e
Applies c (AType (Adt a)) args e = Constructs c.adts a None args e
Applies c (AVariant a v) args e = Constructs c.adts a (Some v) args e
Applies c _ args e = ⊥
