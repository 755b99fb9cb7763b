use Rattle.std.proofs.lemmas.Result.{err_from_is_err_and, IfOk-weaker, IfErr-weaker}
use Rattle.limbo_typed.specs.View.{view_expr, view_node}
use Rattle.limbo_refusals.specs.Refusals.{Refuses, NoneIs}
use Rattle.limbo_stores.specs.Stores.{RefusesStore}
use Rattle.limbo_context.specs.View.{view_context}
use Rattle.limbo_permits.specs.Permits.{IsPermitted, Forbids}
use Rattle.limbo_permits.proofs.Told.{refused_type, refused_store, permitted}
use Rattle.limbo_permits.proofs.permitting.permit.Goals as goal

pub returns-in_err-permit_type-clause-refused : goal.returns-in_err-permit_type-clause-refused
returns-in_err-permit_type-clause-refused c =
    let p = err_from_is_err_and c.from_residual.result c.from_residual.ensures.1 in
    rw (p.1, p.2)
    (refused_type (view_context c.args.context.now) c.args.e.now c.in_err-permit_type.field-0.0 c.in_err-permit_type.ensures.refused)

pub returns-clause-permitted : goal.returns-clause-permitted
returns-clause-permitted c =
    let k = view_context c.args.context.now in
    let e = c.args.e.now in
    IfOk-weaker c.permit_store.result (λ _. NoneIs (RefusesStore k.adts k.fd (view_node e.node))) (λ _. IsPermitted k (view_expr e))
    (λ _ s. permitted k e c.in_ok-permit_type.ensures.permitted s)
    c.permit_store.ensures.permitted

pub returns-clause-refused : goal.returns-clause-refused
returns-clause-refused c =
    let k = view_context c.args.context.now in
    let e = c.args.e.now in
    IfErr-weaker c.permit_store.result (λ f. Refuses f (RefusesStore k.adts k.fd (view_node e.node)))
    (λ f. Refuses f (Forbids k (view_expr e)))
    (λ f h. refused_store k e f h)
    c.permit_store.ensures.refused
