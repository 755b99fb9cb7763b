use Rattle.std.proofs.Common.{◌≡◌, ◌<◌, ◌∙◌, List, length, get_or, map, sym, subst, arith, rules}
use Rattle.std.proofs.lemmas.Result.{err_from_is_err_and}
use Rattle.std.proofs.lemmas.List.{with_items_is}
use Rattle.limbo_types.specs.View.{view_ty}
use Rattle.limbo_typed.specs.View.{view_expr, view_exprs}
use Rattle.limbo_refusals.specs.Refusals.{Clash}
use Rattle.limbo_standing.specs.Standing.{SettleEach}
use Rattle.limbo_arguments.specs.Failing.{FailsAt, FailsEach}
use Rattle.limbo_arguments.proofs.Each.{Value, each_over, each_stops, each_next, each_short, each_done}
use Rattle.limbo_arguments.proofs.Faults.{refuses_weaker, refuses_that}
use Rattle.limbo_arguments.proofs.argument.settle_each.Goals as goal

pub returns-in_default-clause-refused : goal.returns-in_default-clause-refused
returns-in_default-clause-refused c =
    let l : c.loop-value.value-index < length c.loop-value.value-items = omega arith in
    let whole = view_ty c.args.whole.now in
    let asked = map view_ty c.args.asked.now in
    let old = view_exprs c.args.values.items in
    refuses_that c.clash_of.result (Clash whole whole) (FailsEach whole asked old)
    (each_over whole asked old c.loop-value.rest.now c.loop-value.value-items c.loop-value.value-index c.value-item.result l
    c.in_default.ensures.cases c.loop-value.invariant)
    c.clash_of.ensures

pub returns-in_err-settle_or_clash-clause-refused : goal.returns-in_err-settle_or_clash-clause-refused
returns-in_err-settle_or_clash-clause-refused c =
    let p = err_from_is_err_and c.from_residual.result c.from_residual.ensures.1 in
    let l : c.loop-value.value-index < length c.loop-value.value-items = omega arith in
    let whole = view_ty c.args.whole.now in
    let asked = map view_ty c.args.asked.now in
    let old = view_exprs c.args.values.items in
    rw (p.1, p.2)
    (refuses_weaker c.in_err-settle_or_clash.field-0.0
    (FailsAt (view_ty c.in-Some.t.now) (view_expr (get_or c.loop-value.value-items c.loop-value.value-index c.value-item.result)))
    (FailsEach whole asked old)
    (λ r h. each_stops whole asked old c.loop-value.rest.now c.in-Some.t.now c.in-Some.more.now c.loop-value.value-items
    c.loop-value.value-index
    c.value-item.result r l (search rules) c.loop-value.invariant h)
    c.in_err-settle_or_clash.ensures.refused)

pub loop-value-preserved : goal.loop-value-preserved
loop-value-preserved c =
    let l : c.loop-value.value-index < length c.loop-value.value-items = omega arith in
    each_next (view_ty c.args.whole.now) (map view_ty c.args.asked.now)
    (view_exprs c.args.values.items) c.loop-value.rest.now c.in-Some.t.now
    c.in-Some.more.now c.loop-value.value-items c.loop-value.value-index c.value-item.result c.settle_or_clash.new.value l (search rules)
    c.in_ok-settle_or_clash.ensures.settled c.loop-value.invariant

pub returns-then-not-is_empty-clause-refused : goal.returns-then-not-is_empty-clause-refused
returns-then-not-is_empty-clause-refused c =
    let whole = view_ty c.args.whole.now in
    let asked = map view_ty c.args.asked.now in
    let old = view_exprs c.args.values.items in
    refuses_that c.clash_of-then-not-is_empty.result (Clash whole whole) (FailsEach whole asked old)
    (each_short whole asked old c.loop-value.rest.now c.is_empty.result c.loop-value.value-items c.loop-value.value-index (omega arith)
    c.is_empty.ensures (search rules) c.loop-value.invariant)
    c.clash_of-then-not-is_empty.ensures

pub returns-clause-settled : goal.returns-clause-settled
returns-clause-settled c =
    let whole = view_ty c.args.whole.now in
    let asked = map view_ty c.args.asked.now in
    let old = view_exprs c.args.values.items in
    let n : length c.loop-value.value-items ≡ c.args.values.len = c.loop-value.auto.value-items ∙ c.deref_mut-value-items.ensures.len in
    subst (λ (xs : List Value). SettleEach asked old (view_exprs xs)) (sym (with_items_is c.args.values c.loop-value.value-items n))
    (each_done whole asked old c.loop-value.rest.now c.is_empty.result c.loop-value.value-items c.loop-value.value-index (omega arith)
    c.is_empty.ensures (search rules) c.loop-value.invariant)
