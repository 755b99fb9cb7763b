use Rattle.std.proofs.Common.{List, map, subst}
use Rattle.std.proofs.lemmas.Result.{err_from_is_err_and}
use Rattle.limbo_types.specs.declared.ty.Ty as code_ty
use Rattle.limbo_types.specs.View.{view_ty, view_fn}
use Rattle.limbo_refusals.specs.Refusals.{Refuses}
use Rattle.limbo_context.specs.View.{view_context}
use Rattle.limbo_permits.specs.Permits.{ForbidsType}
use Rattle.limbo_declared_types.specs.Permitted.{ForbidsFunction, an_argument, an_answer}
use Rattle.limbo_declared_types.specs.Asked.{ForbidsOne}
use Rattle.limbo_declared_types.proofs.Lists.{refuses_weaker}
use Rattle.limbo_declared_types.proofs.asking.permit_function.Goals as goal

pub returns-in_err-permit_each-clause-refused : goal.returns-in_err-permit_each-clause-refused
returns-in_err-permit_each-clause-refused c =
    let k = view_context c.args.context.now in
    let of = view_fn c.args.of.now in
    let f = c.in_err-permit_each.field-0.0 in
    let p = err_from_is_err_and c.from_residual.result c.from_residual.ensures.1 in
    rw (p.1, p.2)
    (refuses_weaker f (ForbidsOne k of.args) (ForbidsFunction k of) (λ r h. an_argument h.0 h.1 h.2)
    (subst (λ (z : List code_ty.Ty). Refuses f (ForbidsOne k (map view_ty z))) c.deref.ensures.value c.in_err-permit_each.ensures.refused))

pub returns-in_err-permit_type-clause-refused : goal.returns-in_err-permit_type-clause-refused
returns-in_err-permit_type-clause-refused c =
    let k = view_context c.args.context.now in
    let of = view_fn c.args.of.now in
    let p = err_from_is_err_and c.from_residual-in_err-permit_type.result c.from_residual-in_err-permit_type.ensures.1 in
    rw (p.1, p.2)
    (refuses_weaker c.in_err-permit_type.field-0.0 (ForbidsType k of.answer) (ForbidsFunction k of) (λ r h. an_answer h)
    c.in_err-permit_type.ensures.refused)
