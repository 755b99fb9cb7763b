use Rattle.std.proofs.Common.{◌≡◌, ◌<◌, ◌∙◌, List, length, get_or, refl, sym, subst, arith}
use Rattle.std.proofs.lemmas.Result.{err_from_is_err_and}
use Rattle.std.proofs.lemmas.List.{with_items_is}
use Rattle.limbo_types.specs.View.{view_ty}
use Rattle.limbo_typed.specs.View.{view_expr}
use Rattle.limbo_standing.specs.Standing.{SettleItems}
use Rattle.limbo_arguments.specs.Failing.{FailsAt}
use Rattle.limbo_arguments.proofs.Faults.{refuses_weaker}
use Rattle.limbo_literals.specs.Refusing.{FailsItems}
use Rattle.limbo_literals.proofs.Elements.{Element, left, items_stop, items_next, items_done}
use Rattle.limbo_literals.proofs.element.settle_items.Goals as goal

pub returns-in_err-settle_or_clash-clause-refused : goal.returns-in_err-settle_or_clash-clause-refused
returns-in_err-settle_or_clash-clause-refused c =
    let p = err_from_is_err_and c.from_residual.result c.from_residual.ensures.1 in
    let l : c.loop-item.item-index < length c.loop-item.item-items = omega arith in
    let t = view_ty c.args.asked.now in
    let old = left c.args.items.items in
    rw (p.1, p.2)
    (refuses_weaker c.in_err-settle_or_clash.field-0.0
    (FailsAt t (view_expr (get_or c.loop-item.item-items c.loop-item.item-index c.item-item.result).value)) (FailsItems t old)
    (λ r h. items_stop t old c.loop-item.item-items c.loop-item.item-index c.item-item.result r l c.loop-item.invariant h)
    c.in_err-settle_or_clash.ensures.refused)

pub loop-item-preserved : goal.loop-item-preserved
loop-item-preserved c =
    let l : c.loop-item.item-index < length c.loop-item.item-items = omega arith in
    items_next (view_ty c.args.asked.now) (left c.args.items.items) c.loop-item.item-items c.loop-item.item-index c.item-item.result _
    l refl
    c.in_ok-settle_or_clash.ensures.settled c.loop-item.invariant

pub returns-clause-settled : goal.returns-clause-settled
returns-clause-settled c =
    let t = view_ty c.args.asked.now in
    let old = left c.args.items.items in
    let n : length c.loop-item.item-items ≡ c.args.items.len = c.loop-item.auto.item-items ∙ c.deref_mut-item-items.ensures.len in
    subst (λ (xs : List Element). SettleItems t old (left xs)) (sym (with_items_is c.args.items c.loop-item.item-items n))
    (items_done t old c.loop-item.item-items c.loop-item.item-index (omega arith) c.loop-item.invariant)
