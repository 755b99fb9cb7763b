use Rattle.std.proofs.Common.{◌≡◌, ◌<◌, ◌∙◌, List, length, get_or, sym, subst, arith}
use Rattle.std.proofs.lemmas.Result.{err_from_is_err_and}
use Rattle.std.proofs.lemmas.List.{with_items_is}
use Rattle.limbo_types.specs.View.{view_ty}
use Rattle.limbo_typed.specs.View.{view_expr, view_exprs}
use Rattle.limbo_standing.specs.Standing.{SettleAll}
use Rattle.limbo_arguments.specs.Failing.{FailsAt, FailsAll}
use Rattle.limbo_arguments.proofs.Each.{Value, all_stop, all_next, all_done}
use Rattle.limbo_arguments.proofs.Faults.{refuses_weaker}
use Rattle.limbo_arguments.proofs.argument.settle_all.Goals as goal

pub returns-in_err-settle_or_clash-clause-refused : goal.returns-in_err-settle_or_clash-clause-refused
returns-in_err-settle_or_clash-clause-refused c =
    let p = err_from_is_err_and c.from_residual.result c.from_residual.ensures.1 in
    let l : c.loop-value.value-index < length c.loop-value.value-items = omega arith in
    let t = view_ty c.args.asked.now in
    let old = view_exprs c.args.values.items in
    rw (p.1, p.2)
    (refuses_weaker c.in_err-settle_or_clash.field-0.0
    (FailsAt t (view_expr (get_or c.loop-value.value-items c.loop-value.value-index c.value-item.result))) (FailsAll t old)
    (λ r h. all_stop t old c.loop-value.value-items c.loop-value.value-index c.value-item.result r l c.loop-value.invariant h)
    c.in_err-settle_or_clash.ensures.refused)

pub loop-value-preserved : goal.loop-value-preserved
loop-value-preserved c =
    let l : c.loop-value.value-index < length c.loop-value.value-items = omega arith in
    all_next (view_ty c.args.asked.now) (view_exprs c.args.values.items) c.loop-value.value-items c.loop-value.value-index
    c.value-item.result
    c.settle_or_clash.new.value l c.in_ok-settle_or_clash.ensures.settled c.loop-value.invariant

pub returns-clause-settled : goal.returns-clause-settled
returns-clause-settled c =
    let t = view_ty c.args.asked.now in
    let old = view_exprs c.args.values.items in
    let n : length c.loop-value.value-items ≡ c.args.values.len = c.loop-value.auto.value-items ∙ c.deref_mut-value-items.ensures.len in
    subst (λ (xs : List Value). SettleAll t old (view_exprs xs)) (sym (with_items_is c.args.values c.loop-value.value-items n))
    (all_done t old c.loop-value.value-items c.loop-value.value-index (omega arith) c.loop-value.invariant)
