-- A call, once it is known what stands before `(`.
use Rattle.std.specs.Prelude.{◌≡◌, ℕ, List, None, Some}
use Rattle.limbo_tree.specs.Exprs as tree
use Rattle.limbo_typed.specs.declared.print.Printed.{Printed}
use Rattle.limbo_typed.specs.Typed.{Expr, Exprs}
use Rattle.limbo_refusals.specs.Refusals.{Refusal, BadFormat, NoneIs}
use Rattle.limbo_causes.specs.Causes.{Cause, Refused}
use Rattle.limbo_context.specs.Context.{Context, Body}
use Rattle.limbo_calls.specs.Prints.{Prints, Output}
use Rattle.limbo_calls.specs.Refusing.{RefusesPrint}
use Rattle.limbo_things.specs.Things.{Thing, APrint}
use Rattle.limbo_typing.specs.limbo_applying.Applying.{Applies}
use Rattle.limbo_typing.specs.limbo_applying.Refusing.{RefusesApply}
use Rattle.limbo_typing.specs.Typing.{format_in, OutputIs, HaveValues}
use Rattle.limbo_typing.specs.Failing.{IsNoPrint, FailsSome}
use Rattle.limbo_typed.specs.View.{view_expr}
use Rattle.limbo_things.specs.ThingView.{view_thing}
use Rattle.limbo_exprs.specs.declared.calling.Callee as code
use Rattle.limbo_exprs.specs.declared.calling.Callee.TheVariants as callee

-- A thing is applied to arguments.
pub data IsApplied (c : Context) (b : Body) (t : Thing) (es : tree.Exprs) (z : Expr) (b' : Body) : Type 0 where
  applied : (xs : Exprs) → HaveValues c b es xs b' → Applies c t xs z → IsApplied c b t es z b'

pub data FailsApplied (c : Context) (b : Body) (t : Thing) (es : tree.Exprs) : Cause → Type 0 where
  an_argument : (k : Cause) → FailsSome c b es k → FailsApplied c b t es k
  not_applied : (b' : Body) (xs : Exprs) (r : Refusal) → HaveValues c b es xs b' → RefusesApply c t xs r → NoneIs (Applies c t xs)
      → FailsApplied c b t es (Refused r)

-- A print of arguments, through a value of `Sys`.
pub data IsPrinted (c : Context) (b : Body) (p : Printed) (m : Expr) (es : tree.Exprs) (z : Expr) (b' : Body) : Type 0 where
  printed : (text : List ℕ) (others : tree.Exprs) (xs ys : Exprs) (o : Output) → format_in p es ≡ Some (text, others)
      → HaveValues c b others xs b' → OutputIs p xs o ys → Prints c.fd o m text ys z → IsPrinted c b p m es z b'

pub data FailsPrinted (c : Context) (b : Body) (p : Printed) (m : Expr) (es : tree.Exprs) : Cause → Type 0 where
  no_format : format_in p es ≡ None → FailsPrinted c b p m es (Refused BadFormat)
  a_value : (text : List ℕ) (others : tree.Exprs) (k : Cause) → format_in p es ≡ Some (text, others) → FailsSome c b others k
      → FailsPrinted c b p m es k
  no_print : (b' : Body) (text : List ℕ) (others : tree.Exprs) (xs ys : Exprs) (o : Output) (r : Refusal)
      → format_in p es ≡ Some (text, others) → HaveValues c b others xs b' → OutputIs p xs o ys → RefusesPrint c.fd o text ys r
      → NoneIs (Prints c.fd o m text ys) → FailsPrinted c b p m es (Refused r)

-- What is called: a print through a value, or any other thing.
abbrev pub IsCallee : Thing → code.Callee → Type 0
IsCallee t (callee.Other thing) = (view_thing thing.value ≡ t) × IsNoPrint t
IsCallee t (callee.Print p instance) = t ≡ APrint p (view_expr instance.value)
