use Rattle.std.proofs.Common.{List, map, subst}
use Rattle.std.proofs.lemmas.Result.{err_from_is_err_and}
use Rattle.limbo_types.specs.declared.ty.Ty as code_ty
use Rattle.limbo_types.specs.View.{view_ty, view_fn}
use Rattle.limbo_typed.specs.View.{view_exprs}
use Rattle.limbo_refusals.specs.Refusals.{Refuses, NoneIs}
use Rattle.limbo_arguments.specs.Failing.{FailsEach}
use Rattle.limbo_arguments.proofs.Faults.{refuses_weaker}
use Rattle.limbo_calls.specs.Calls.{Calls}
use Rattle.limbo_calls.proofs.Calls.{call_none}
use Rattle.limbo_calls.proofs.calling.call.Goals as goal

pub returns-in_err-values-clause-refused : goal.returns-in_err-values-clause-refused
returns-in_err-values-clause-refused c =
    let p = err_from_is_err_and c.from_residual.result c.from_residual.ensures.1 in
    let of = view_fn c.args.of.now in
    let es = view_exprs c.args.args.items in
    let f = c.in_err-values.field-0.0 in
    rw (p.1, p.2)
    (refuses_weaker f (FailsEach of.answer of.args es) (λ r. FailsEach of.answer of.args es r × NoneIs (Calls c.args.function of es))
    (λ r h. call_none c.args.function of es r h)
    (subst (λ (ts : List code_ty.Ty). Refuses f (FailsEach of.answer
    (map view_ty ts) es)) c.deref.ensures.value c.in_err-values.ensures.refused))
