-- Why there is no `thing(args)` (Limbo Language Reference, expressions).
use Rattle.std.specs.Prelude.{ℕ, ◌≡◌, Some, None, slice_get}
use Rattle.limbo_types.specs.Types.{Nothing, Adt}
use Rattle.limbo_typed.specs.Typed.{Expr, Exprs, Optional, Absent, Signature}
use Rattle.limbo_refusals.specs.Refusals.{Refusal, Clash, NoneIs}
use Rattle.limbo_context.specs.Context.{Context, Callee}
use Rattle.limbo_calls.specs.limbo_arguments.Failing.{FailsEach}
use Rattle.limbo_calls.specs.Refusing.{RefusesThrough, RefusesConstruct}
use Rattle.limbo_things.specs.Things.{Thing, AType, AVariant, AFunction, AMethod, AMember, type_named}
use Rattle.limbo_applying.specs.Applying.{Declares, with_object}

-- Of a function: there is none of this number, or the arguments fail.
pub data RefusesFunction (c : Context) (function : ℕ) (object : Optional) (args : Exprs) (r : Refusal) : Type 0 where
  no_function : slice_get c.functions function ≡ None → r ≡ Clash Nothing Nothing → RefusesFunction c function object args r
  arguments : (callee : Callee) → slice_get c.functions function ≡ Some callee
      → FailsEach callee.of.answer callee.of.args (with_object callee.takes_self object args) r → RefusesFunction c function object args r

-- Of a function of a module's type: it declares none of this number, or the call is refused.
pub data RefusesMember (c : Context) (instance : Expr) (interface function : ℕ) (args : Exprs) (r : Refusal) : Type 0 where
  no_member : NoneIs (Declares c interface function) → r ≡ Clash Nothing Nothing → RefusesMember c instance interface function args r
  through : (member : Signature) → Declares c interface function member → RefusesThrough c.system instance interface member.of args r
      → RefusesMember c instance interface function args r

-- Of anything that is neither called nor made: the type that it names.
abbrev pub RefusesApply : Context → Thing → Exprs → Refusal → Type 0
RefusesApply c (AFunction n) args r = RefusesFunction c n Absent args r
RefusesApply c (AMethod n object) args r = RefusesFunction c n object args r
RefusesApply c (AMember instance i j) args r = RefusesMember c instance i j args r
RefusesApply c (AType (Adt a)) args r = RefusesConstruct c.adts a None args r
RefusesApply c (AVariant a v) args r = RefusesConstruct c.adts a (Some v) args r
RefusesApply c thing args r = r ≡ Clash (type_named thing) (type_named thing)
