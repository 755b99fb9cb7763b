use Rattle.std.proofs.lemmas.Result.{IfOk-weaker}
use Rattle.limbo_types.specs.View.{view_ty}
use Rattle.limbo_typed.specs.View.{view_expr}
use Rattle.limbo_standing.specs.Standing.{Settles}
use Rattle.limbo_literals.proofs.Elements.{rest_settles, no_rest_settles}
use Rattle.limbo_literals.proofs.element.settle_rest.Goals as goal

pub returns-in-Some-clause-settled : goal.returns-in-Some-clause-settled
returns-in-Some-clause-settled c =
    let t = view_ty c.args.asked.now in
    IfOk-weaker c.settle_or_clash.result (λ _. Settles t (view_expr c.deref_mut.result.now) (view_expr c.settle_or_clash.new.value)) _
    (λ x h. rest_settles t c.args.rest.now _ c.in-Some.value c.deref_mut.result.now c.settle_or_clash.new.value c.in-Some.is
    c.in-Some.value-is
    c.deref_mut.ensures.value h)
    c.settle_or_clash.ensures.settled

pub returns-in-None-clause-settled : goal.returns-in-None-clause-settled
returns-in-None-clause-settled c = no_rest_settles (view_ty c.args.asked.now) c.args.rest.now c.in-None.is
