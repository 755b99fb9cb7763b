use Rattle.std.proofs.Common.{◌≡◌, ◌∙◌, ◌<◌, length, map, get_or, sym, ap, subst, arith, rules, refl}
use Rattle.limbo_types.specs.View.{view_ty}
use Rattle.limbo_standing.proofs.Runs.{all_next, all_stops, all_done, items_next, items_stop, items_done, stands, stands_not, unvisited_next}
use Rattle.limbo_standing.proofs.Runs.{each_next_at, each_stops_at, each_over_at, each_told, pair_next, pair_stops, pair_done, pair_only, pair_at_next}
use Rattle.limbo_typed.specs.View.{view_expr, view_exprs, view_item, items_of}
use Rattle.std.proofs.lemmas.List.{with_items_is}
use Rattle.limbo_standing.specs.Settling.{Tells, settled, settled_args, settled_items}
use Rattle.limbo_standing.proofs.Nodes.{applied_at, element_is, filled, filled_not_items, filled_not_rest, not_filled}
use Rattle.limbo_standing.proofs.standing.+settling.Goals as goal

pub settle_all-returns-then-not-branch : goal.settle_all-returns-then-not-branch
settle_all-returns-then-not-branch t c =
    let l : c.loop-value.value-index < length c.loop-value.values = omega arith in
    c.loop-value.invariant.told
    ∙ all_stops (view_ty c.args.asked.now) c.loop-value.values c.loop-value.value-index c.value-item.result l
    (stands_not _ c.in_ok-settle_value.field-0 _ c.in_ok-settle_value.ensures (search rules))

pub settle_all-loop-value-preserved : goal.settle_all-loop-value-preserved
settle_all-loop-value-preserved t c =
    let l : c.loop-value.value-index < length c.loop-value.values = omega arith in
    record {
      told = c.loop-value.invariant.told
          ∙ all_next (view_ty c.args.asked.now) c.loop-value.values c.loop-value.value-index c.value-item.result c.settle_value.new.value l
          (stands _ c.in_ok-settle_value.field-0 _ c.in_ok-settle_value.ensures (search rules));
      unvisited = unvisited_next c.args.values.now c.loop-value.values c.loop-value.value-index c.settle_value.new.value c.loop-value.invariant.unvisited;
    }

pub settle_all-returns : goal.settle_all-returns
settle_all-returns t c =
    c.loop-value.invariant.told
    ∙ all_done (view_ty c.args.asked.now) c.loop-value.values c.loop-value.value-index (omega arith)

pub settle_each-returns-in_default : goal.settle_each-returns-in_default
settle_each-returns-in_default t c =
    let l : c.loop-value.value-index < length c.loop-value.values = omega arith in
    c.loop-value.invariant.told
    ∙ each_over_at c.loop-value.rest.now c.loop-value.values c.loop-value.value-index c.value-item.result l
    c.in_default.ensures.cases

pub settle_each-returns-then-not-branch : goal.settle_each-returns-then-not-branch
settle_each-returns-then-not-branch t c =
    let l : c.loop-value.value-index < length c.loop-value.values = omega arith in
    c.loop-value.invariant.told
    ∙ each_stops_at c.loop-value.rest.now c.in-Some.t.now c.in-Some.more.now c.loop-value.values c.loop-value.value-index c.value-item.result l
    (search rules)
    (stands_not _ c.in_ok-settle_value.field-0 _ c.in_ok-settle_value.ensures (search rules))

pub settle_each-loop-value-preserved : goal.settle_each-loop-value-preserved
settle_each-loop-value-preserved t c =
    let l : c.loop-value.value-index < length c.loop-value.values = omega arith in
    record {
      told = c.loop-value.invariant.told
          ∙ each_next_at c.loop-value.rest.now c.in-Some.t.now c.in-Some.more.now c.loop-value.values c.loop-value.value-index c.value-item.result
          c.settle_value.new.value l (search rules)
          (stands _ c.in_ok-settle_value.field-0 _ c.in_ok-settle_value.ensures (search rules));
      unvisited = unvisited_next c.args.values.now c.loop-value.values c.loop-value.value-index c.settle_value.new.value c.loop-value.invariant.unvisited;
    }

pub settle_each-returns : goal.settle_each-returns
settle_each-returns t c =
    each_told c.loop-value.rest.now c.loop-value.values c.loop-value.value-index c.is_empty.result _ (omega arith) c.is_empty.ensures
    c.loop-value.invariant.told

pub settle_pair-returns-then-values-ne2 : goal.settle_pair-returns-then-values-ne2
settle_pair-returns-then-values-ne2 t c = pair_only (view_ty c.args.item.now) (view_ty c.args.list.now) c.args.values.now c.if-values-ne2.true

pub settle_pair-loop-value-preserved : goal.settle_pair-loop-value-preserved
settle_pair-loop-value-preserved t c =
    let l : c.loop-value.value-index < length c.loop-value.values = omega arith in
    let m : length c.loop-value.values ≡ 2 = omega (arith, c.loop-value.invariant.two) in
    record {
      told = c.loop-value.invariant.told
          ∙ pair_next (view_ty c.args.item.now) (view_ty c.args.list.now) c.loop-value.values c.loop-value.value-index c.value-item.result
          c.settle_value.new.value l m
          (ap (λ z. settled z (view_expr (get_or c.loop-value.values c.loop-value.value-index c.value-item.result))) (sym c.loop-value.invariant.asked)
          ∙ stands _ c.in_ok-settle_value.field-0 _ c.in_ok-settle_value.ensures (search rules));
      asked = pair_at_next (view_ty c.args.item.now) (view_ty c.args.list.now) c.loop-value.value-index;
      two = c.loop-value.invariant.two;
      unvisited = unvisited_next c.args.values.now c.loop-value.values c.loop-value.value-index c.settle_value.new.value c.loop-value.invariant.unvisited;
    }

pub settle_pair-returns-then-not-branch : goal.settle_pair-returns-then-not-branch
settle_pair-returns-then-not-branch t c =
    let l : c.loop-value.value-index < length c.loop-value.values = omega arith in
    let m : length c.loop-value.values ≡ 2 = omega (arith, c.loop-value.invariant.two) in
    c.loop-value.invariant.told
    ∙ pair_stops (view_ty c.args.item.now) (view_ty c.args.list.now) c.loop-value.values c.loop-value.value-index c.value-item.result l m
    (ap (λ z. settled z (view_expr (get_or c.loop-value.values c.loop-value.value-index c.value-item.result))) (sym c.loop-value.invariant.asked)
    ∙ stands_not _ c.in_ok-settle_value.field-0 _ c.in_ok-settle_value.ensures (search rules))

pub settle_pair-returns : goal.settle_pair-returns
settle_pair-returns t c =
    let m : length c.loop-value.values ≡ 2 = omega (arith, c.loop-value.invariant.two) in
    c.loop-value.invariant.told
    ∙ pair_done (view_ty c.args.item.now) (view_ty c.args.list.now) c.loop-value.values c.loop-value.value-index m (omega arith)

pub settle_items-returns-then-not-branch : goal.settle_items-returns-then-not-branch
settle_items-returns-then-not-branch t c =
    let l : c.loop-item.item-index < length c.loop-item.items = omega arith in
    c.loop-item.invariant.told
    ∙ items_stop (view_ty c.args.asked.now) c.loop-item.items c.loop-item.item-index c.item-item.result l
    (stands_not _ c.in_ok-settle_value.field-0 _ c.in_ok-settle_value.ensures (search rules))

pub settle_items-loop-item-preserved : goal.settle_items-loop-item-preserved
settle_items-loop-item-preserved t c =
    let l : c.loop-item.item-index < length c.loop-item.items = omega arith in
    record {
      told = c.loop-item.invariant.told
          ∙ items_next (view_ty c.args.asked.now) c.loop-item.items c.loop-item.item-index c.item-item.result _ l refl
          (stands _ c.in_ok-settle_value.field-0 _ c.in_ok-settle_value.ensures (search rules));
      unvisited = unvisited_next c.args.items.now c.loop-item.items c.loop-item.item-index _ c.loop-item.invariant.unvisited;
    }

pub settle_items-returns : goal.settle_items-returns
settle_items-returns t c =
    c.loop-item.invariant.told ∙ items_done (view_ty c.args.asked.now) c.loop-item.items c.loop-item.item-index (omega arith)

pub settle_node-returns-in_ok-settle_args-in-Apply : goal.settle_node-returns-in_ok-settle_args-in-Apply
settle_node-returns-in_ok-settle_args-in-Apply t c =
    applied_at (view_ty c.args.asked.now) c.args.node.now c.in-Apply.operation _ c.in-Apply.args _ c.deref_mut.result.now c.settle_args.new.args
    c.in_ok-settle_args-in-Apply.field-0 c.in-Apply.is c.in-Apply.operation-is c.in-Apply.args-is c.deref_mut.ensures.value
    (c.settle_args.auto.args ∙ c.deref_mut.ensures.len)
    (subst (λ o. Tells (settled_args (view_ty c.args.asked.now) o (view_exprs c.deref_mut.result.now)) c.in_ok-settle_args-in-Apply.field-0 (view_exprs c.settle_args.new.args))
    c.in-Apply.operation-is c.in_ok-settle_args-in-Apply.ensures)

pub settle_filled-returns-in_default-replace : goal.settle_filled-returns-in_default-replace
settle_filled-returns-in_default-replace t c =
    not_filled (view_ty c.args.asked.now) c.args.node.now
    (λ k is rest e. c.in_default-replace.not-Filled k is rest (c.replace.ensures.value ∙ e))

pub settle_filled-returns-then-not-branch : goal.settle_filled-returns-then-not-branch
settle_filled-returns-then-not-branch t c =
    let u = view_ty c.in-Some.element.now in
    filled_not_items (view_ty c.args.asked.now) u c.args.node.now c.in-Filled.length c.in-Filled.rest c.in-Filled.items
    (sym c.replace.ensures.value ∙ c.in-Filled.is)
    (element_is (view_ty c.args.asked.now) c.element_of.result c.in-Some.element c.element_of.ensures c.in-Some.is)
    (ap (λ xs. settled_items u (items_of (map view_item xs))) (sym c.deref_mut.ensures.value)
    ∙ stands_not _ c.in_ok-settle_items.field-0 _ c.in_ok-settle_items.ensures (search rules))

pub settle_filled-returns-then-not-branch-2 : goal.settle_filled-returns-then-not-branch-2
settle_filled-returns-then-not-branch-2 t c =
    let u = view_ty c.in-Some.element.now in
    filled_not_rest (view_ty c.args.asked.now) u c.args.node.now c.in-Filled.length c.in-Filled.rest c.in-Filled.items
    (items_of (map view_item c.settle_items.new.items))
    (sym c.replace.ensures.value ∙ c.in-Filled.is)
    (element_is (view_ty c.args.asked.now) c.element_of.result c.in-Some.element c.element_of.ensures c.in-Some.is)
    (ap (λ xs. settled_items u (items_of (map view_item xs))) (sym c.deref_mut.ensures.value)
    ∙ stands _ c.in_ok-settle_items.field-0 _ c.in_ok-settle_items.ensures (search rules))
    (stands_not _ c.in_ok-settle_rest.field-0 _ c.in_ok-settle_rest.ensures (search rules))

pub settle_filled-returns : goal.settle_filled-returns
settle_filled-returns t c =
    let u = view_ty c.in-Some.element.now in
    filled (view_ty c.args.asked.now) u c.args.node.now c.in-Filled.length c.in-Filled.rest c.settle_rest.new.rest c.in-Filled.items
    _ c.settle_items.new.items (sym c.replace.ensures.value ∙ c.in-Filled.is)
    (with_items_is c.in-Filled.items c.settle_items.new.items (c.settle_items.auto.items ∙ c.deref_mut.ensures.len))
    (element_is (view_ty c.args.asked.now) c.element_of.result c.in-Some.element c.element_of.ensures c.in-Some.is)
    (ap (λ xs. settled_items u (items_of (map view_item xs))) (sym c.deref_mut.ensures.value)
    ∙ stands _ c.in_ok-settle_items.field-0 _ c.in_ok-settle_items.ensures (search rules))
    (stands _ c.in_ok-settle_rest.field-0 _ c.in_ok-settle_rest.ensures (search rules))
