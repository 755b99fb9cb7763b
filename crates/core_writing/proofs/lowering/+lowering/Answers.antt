use Rattle.std.proofs.Common.{arith, ◌∙◌, ap, ◌+◌, List, ◌∷◌, [], length, length-append, add-one}
use Rattle.limbo_types.specs.View.{view_ty}
use Rattle.limbo_layout.specs.View.{view_defs}
use Rattle.limbo_typed.specs.declared.expr.TExpr.{TExpr}
use Rattle.limbo_typed.specs.declared.expr.Place.{Place}
use Rattle.limbo_typed.specs.View.{view_node, view_expr, view_place, view_place_node}
use Rattle.limbo_typed.proofs.View.{view_node-Lazy, view_node-Update, view_node-Step, view_expr-out, view_place-out}
use Rattle.limbo_meaning.specs.Program.{operands_at, way_of}
use Rattle.core_code.specs.Terms.{Lowered, LoweredAll, lower, items_end}
use Rattle.core_frames.specs.Sizes.{expr_size, place_size}
use Rattle.core_parts.specs.Lowered.{view_lowered, view_lowered_all}
use Rattle.core_writing.specs.declared.operands.Operand.{Operand}
use Rattle.core_writing.specs.Operands.{terms_in, operands_size}
use Rattle.core_writing.proofs.Forms.{seen, no_own}
use Rattle.core_writing.proofs.Small.{size_small}
use Rattle.core_writing.proofs.Typing.{size_behind}
use Rattle.core_writing.proofs.Lowerings.{operands_on, room_on, widen_is, update_made, few, few_as, operands_least}
use Rattle.std.proofs.Common.{◌≤◌, drop}
use Rattle.std.specs.Prelude.{max, if◌then◌else◌}
use Rattle.std.proofs.lemmas.List.{drop_all}
use Rattle.limbo_layout.specs.Layout.{limit}
use Rattle.limbo_typed.specs.View.{view_optional}
use Rattle.limbo_typed.proofs.View.{view_node-Filled, view_optional-None, view_optional-Some}
use Rattle.limbo_meaning.specs.Evaluation.{may_hold}
use Rattle.limbo_meaning.specs.Program.{items_of, length_term, term_of, terms_if}
use Rattle.core_frames.specs.Sizes.{held_size}
use Rattle.core_writing.specs.Initialisers.{view_items, filled_size, held, alone}
use Rattle.core_writing.proofs.Stored.{ends_begin, ends_on, greatest_next, greatest_all, held_next, held_all, either, place_fits, free_fits}
use Rattle.core_writing.proofs.Stored.{stored_on, others_held, others_alone, fill_made, length_free, end_free, items_free}
use Rattle.core_writing.proofs.lowering.+lowering.Goals as goal

-- ---- an expression

pub lower_expr-lower_lazy-requires : goal.lower_expr-lower_lazy-requires
lower_expr-lower_lazy-requires t c =
    let defs = view_defs c.args.extents.now in
    let form = ap (expr_size defs) (seen c.args.e.now _ (ap view_node c.in-Lazy.is ∙ view_node-Lazy _ _ _)) in
    let l = ap (λ (x : TExpr). expr_size defs (view_expr x)) c.deref.ensures in
    let r = ap (λ (x : TExpr). expr_size defs (view_expr x)) c.deref-in-Lazy.ensures in
    (omega (arith, form, l, r), omega (arith, form, l, r))

pub lower_expr-lower_update-requires : goal.lower_expr-lower_update-requires
lower_expr-lower_update-requires t c =
    let defs = view_defs c.args.extents.now in
    let form = ap (expr_size defs) (seen c.args.e.now _ (ap view_node c.in-Update.is ∙ view_node-Update _ _ _)) in
    let l = ap (λ (x : Place). place_size defs (view_place x)) c.deref-in-Update-2.ensures in
    let r = ap (λ (x : TExpr). expr_size defs (view_expr x)) c.deref-in-Update.ensures in
    (omega (arith, form, l, r), omega (arith, form, l, r))

pub lower_expr-lower_update-requires-in-Step : goal.lower_expr-lower_update-requires-in-Step
lower_expr-lower_update-requires-in-Step t c =
    let defs = view_defs c.args.extents.now in
    let form = ap (expr_size defs) (seen c.args.e.now _ (ap view_node c.in-Step.is ∙ view_node-Step _ _ _)) in
    let l = ap (λ (x : Place). place_size defs (view_place x)) c.deref-in-Step.ensures in
    (omega (arith, form, l), omega (arith, form, l))

pub lower_expr-returns-in_ok-l-in-Lazy : goal.lower_expr-returns-in_ok-l-in-Lazy
lower_expr-returns-in_ok-l-in-Lazy t c =
    rw (seen c.args.e.now _ (ap view_node c.in-Lazy.is ∙ view_node-Lazy _ _ _), ← c.deref.ensures, ← c.deref-in-Lazy.ensures)
    (c.in_ok-l-in-Lazy.ensures {u = tt})

pub lower_expr-returns-in_ok-l-in-Update : goal.lower_expr-returns-in_ok-l-in-Update
lower_expr-returns-in_ok-l-in-Update t c =
    rw (
      seen c.args.e.now _ (ap view_node c.in-Update.is ∙ view_node-Update _ _ _),
      ← c.deref-in-Update.ensures,
      ← c.deref-in-Update-2.ensures,
      view_place-out c.deref-in-Update-2.result.now,
    )
    (c.in_ok-l-in-Update.ensures {u = tt})

pub lower_expr-returns-in_ok-l-in-Step : goal.lower_expr-returns-in_ok-l-in-Step
lower_expr-returns-in_ok-l-in-Step t c =
    rw (
      seen c.args.e.now _ (ap view_node c.in-Step.is ∙ view_node-Step _ _ _),
      ← c.deref-in-Step.ensures,
      view_place-out c.deref-in-Step.result.now,
    )
    (c.in_ok-l-in-Step.ensures {u = tt})

pub lower_expr-returns-in_ok-l-in_default : goal.lower_expr-returns-in_ok-l-in_default
lower_expr-returns-in_ok-l-in_default t c =
    let d = c.in_default in
    (c.in_ok-l-in_default.ensures {u = tt})
    ∙ no_own (view_defs c.args.extents.now) c.args.lo c.args.e.now d.not-Lazy d.not-Update d.not-Step d.not-Filled

-- ---- `&&` and `||`

pub lower_lazy-overflow_add-first : goal.lower_lazy-overflow_add-first
lower_lazy-overflow_add-first t c =
    let defs = view_defs c.args.extents.now in
    let l = few defs c.args.lo (view_expr c.args.left.now) (view_lowered c.in_ok-first.first) (c.in_ok-first.ensures {u = tt}) in
    omega (arith, l)

pub lower_lazy-lower_expr-requires-2 : goal.lower_lazy-lower_expr-requires-2
lower_lazy-lower_expr-requires-2 t c =
    let defs = view_defs c.args.extents.now in
    let l = few defs c.args.lo (view_expr c.args.left.now) (view_lowered c.in_ok-first.first) (c.in_ok-first.ensures {u = tt}) in
    (omega arith, omega (arith, l))

pub lower_lazy-connect-requires : goal.lower_lazy-connect-requires
lower_lazy-connect-requires t c =
    let defs = view_defs c.args.extents.now in
    let l = few defs c.args.lo (view_expr c.args.left.now) (view_lowered c.in_ok-first.first) (c.in_ok-first.ensures {u = tt}) in
    let r = few defs (c.in_ok-first.first.free + 1) (view_expr c.args.right.now) (view_lowered c.in_ok-second.second)
    (c.in_ok-second.ensures {u = tt}) in
    omega (arith, l, r)

-- ---- operands

pub lower_operand-widen-requires : goal.lower_operand-widen-requires
lower_operand-widen-requires t c =
    let l = few (view_defs c.args.extents.now) c.args.lo (view_expr c.args.operand.expr.now) (view_lowered c.in_ok-l.l)
    (c.in_ok-l.ensures {u = tt}) in
    omega (arith, l)

pub lower_operand-returns-in_ok-w : goal.lower_operand-returns-in_ok-w
lower_operand-returns-in_ok-w t c =
    let e = c.args.operand.expr.now in
    let told = rw (view_expr-out e) at (c.in_ok-l.ensures {u = tt}) in
    let made = rw told at (c.in_ok-w.ensures {u = tt}) in
    rw (c.if-operand.true, view_expr-out e)
    (made ∙ widen_is (view_defs c.args.extents.now) c.args.lo (view_ty e.ty) (view_node e.node))

pub lower_operands-lower_operand-requires : goal.lower_operands-lower_operand-requires
lower_operands-lower_operand-requires t c =
    let defs = view_defs c.args.extents.now in
    let os = c.args.operands.now in
    let i = c.loop-operand.operand-index in
    let next = room_on defs os i c.operand-item.result c.loop-operand-test.true c.operand-item.is in
    let all = size_behind defs i os in
    (omega (arith, next, all), omega (arith, next, c.loop-operand.invariant.room))

pub lower_operands-loop-operand-preserved : goal.lower_operands-loop-operand-preserved
lower_operands-loop-operand-preserved t c =
    let defs = view_defs c.args.extents.now in
    let os = c.args.operands.now in
    let i = c.loop-operand.operand-index in
    let o = c.operand-item.result in
    let l = c.in_ok-l.l in
    let before = view_lowered_all c.loop-operand.all in
    let told = c.in_ok-l.ensures {u = tt} in
    let made = c.in_ok-add.ensures {u = tt} in
    let next = room_on defs os i o c.loop-operand-test.true c.operand-item.is in
    let slots = few_as defs before.free o.printed (view_expr o.expr.now) (view_lowered l) told in
    let free = ap (λ (x : LoweredAll). x.free) made in
    let long = ap (λ (x : LoweredAll). length x.values) made ∙ length-append before.values (l.value ∷ []) in
    record {
      told = operands_on defs os i o before _ (view_lowered l) c.loop-operand-test.true c.operand-item.is told made
          ∙ c.loop-operand.invariant.told;
      room = omega (arith, next, slots, free, c.loop-operand.invariant.room);
      count = omega (arith, long, c.loop-operand.invariant.count);
    }

-- ---- nodes

pub lower_node-complete-requires-clause-room : goal.lower_node-complete-requires-clause-room
lower_node-complete-requires-clause-room t c =
    let defs = view_defs c.args.extents.now in
    let os = c.in_ok-operands.operands.items in
    let all = c.in_ok-all.ensures {u = tt} in
    let size = (c.in_ok-operands.ensures {u = tt}).size defs in
    let same = ap (operands_size defs) c.deref.ensures.value in
    let long = ap (λ (xs : List Operand). length xs) c.deref.ensures.value in
    let least = operands_least defs os in
    omega (arith, all.free, all.count, size, same, long, least, c.in_ok-all.all.values.ok.0)

-- ---- updates

pub lower_update-lower_operands-requires : goal.lower_update-lower_operands-requires
lower_update-lower_operands-requires t c =
    let defs = view_defs c.args.extents.now in
    let size = (c.in_ok-operands.ensures {u = tt}).size defs in
    let same = ap (operands_size defs) c.deref.ensures.value in
    let place = ap (place_size defs) (view_place-out c.args.place.now) in
    (omega (arith, size, same, place), omega (arith, size, same, place))

pub lower_update-overflow_add-first : goal.lower_update-overflow_add-first
lower_update-overflow_add-first t c =
    let defs = view_defs c.args.extents.now in
    let size = (c.in_ok-operands.ensures {u = tt}).size defs in
    let same = ap (operands_size defs) c.deref.ensures.value in
    let place = ap (place_size defs) (view_place-out c.args.place.now) in
    let first = c.in_ok-first.ensures {u = tt} in
    omega (arith, size, same, place, first.free)

pub lower_update-lower_operands-requires-2 : goal.lower_update-lower_operands-requires-2
lower_update-lower_operands-requires-2 t c =
    let defs = view_defs c.args.extents.now in
    let size = (c.in_ok-operands.ensures {u = tt}).size defs in
    let same = ap (operands_size defs) c.deref.ensures.value in
    let place = ap (place_size defs) (view_place-out c.args.place.now) in
    let first = c.in_ok-first.ensures {u = tt} in
    (omega arith, omega (arith, size, same, place, first.free))

pub lower_update-count-requires : goal.lower_update-count-requires
lower_update-count-requires t c =
    let defs = view_defs c.args.extents.now in
    let place = ap (place_size defs) (view_place-out c.args.place.now) in
    let small = size_small defs (view_ty c.args.place.now.ty) in
    omega (arith, place, small)

pub lower_update-references_got-requires : goal.lower_update-references_got-requires
lower_update-references_got-requires t c =
    let defs = view_defs c.args.extents.now in
    let place = ap (place_size defs) (view_place-out c.args.place.now) in
    let small = size_small defs (view_ty c.args.place.now.ty) in
    omega (arith, place, small)

pub lower_update-update-requires : goal.lower_update-update-requires
lower_update-update-requires t c =
    let defs = view_defs c.args.extents.now in
    let size = (c.in_ok-operands.ensures {u = tt}).size defs in
    let same = ap (operands_size defs) c.deref.ensures.value in
    let place = ap (place_size defs) (view_place-out c.args.place.now) in
    let first = c.in_ok-first.ensures {u = tt} in
    let second = c.in_ok-second.ensures {u = tt} in
    omega (arith, size, same, place, first.free, second.free)

pub lower_update-returns : goal.lower_update-returns
lower_update-returns t c =
    let defs = view_defs c.args.extents.now in
    let place = c.args.place.now in
    let os = c.in_ok-operands.operands.items in
    let there = (c.in_ok-operands.ensures {u = tt}).terms in
    let told = rw (c.deref.ensures.value, there) at ((c.in_ok-first.ensures {u = tt}).told) in
    let made = rw (c.in_ok-way.ensures {u = tt}) at (c.in_ok-l.ensures {u = tt}) in
    made ∙ update_made defs c.args.lo c.args.operation c.args.given (view_ty place.ty) (way_of (view_place_node place.at))
    (operands_at (view_place_node place.at)) (terms_in c.args.others.now) (view_lowered_all c.in_ok-first.first)
    (view_lowered_all c.in_ok-second.second) _ _ (c.in_ok-first.first.free + 1) told (add-one c.in_ok-first.first.free)
    (c.in_ok-second.ensures {u = tt}).told c.count.ensures.count c.references_got.ensures

-- ---- initialisers

pub lower_expr-lower_filled-requires : goal.lower_expr-lower_filled-requires
lower_expr-lower_filled-requires t c =
    let defs = view_defs c.args.extents.now in
    let form = ap (expr_size defs) (seen c.args.e.now _ (ap view_node c.in-Filled.is ∙ view_node-Filled _ _ _)) in
    let same = ap (λ is. filled_size defs (view_optional c.in-Filled.length) (view_items is) (view_optional c.in-Filled.rest))
    c.deref-in-Filled.ensures.value in
    (omega (arith, form, same), omega (arith, form, same))

pub lower_expr-returns-in_ok-l-in-Filled : goal.lower_expr-returns-in_ok-l-in-Filled
lower_expr-returns-in_ok-l-in-Filled t c =
    rw (seen c.args.e.now _ (ap view_node c.in-Filled.is ∙ view_node-Filled _ _ _), ← c.deref-in-Filled.ensures.value)
    (c.in_ok-l-in-Filled.ensures {u = tt})

pub lower_length-returns-in_ok-l-in-None : goal.lower_length-returns-in_ok-l-in-None
lower_length-returns-in_ok-l-in-None t c =
    rw (c.in-None.is, view_optional-None) (c.in_ok-l-in-None.ensures {u = tt} (view_defs c.args.extents.now))

pub shared_end-loop-item-init : goal.shared_end-loop-item-init
shared_end-loop-item-init t c = record {
  told = ends_begin (view_defs c.args.extents.now) c.args.shared (view_items c.args.items.now);
  least = omega arith;
}

pub shared_end-loop-item-preserved : goal.shared_end-loop-item-preserved
shared_end-loop-item-preserved t c =
    let defs = view_defs c.args.extents.now in
    let end = c.loop-item.end in
    record {
      told = ends_on defs c.args.shared c.args.items.now c.loop-item.item-index c.item-item.result end _ c.loop-item-test.true
          c.item-item.is (c.max-end.ensures ∙ ap (λ n. max end n) (c.in_ok-own.ensures {u = tt})) ∙ c.loop-item.invariant.told;
      least = omega (arith, c.max-end.ensures, c.loop-item.invariant.least);
    }

pub shared_end-element_end-requires : goal.shared_end-element_end-requires
shared_end-element_end-requires t c =
    let defs = view_defs c.args.extents.now in
    let is = c.args.items.now in
    let i = c.loop-item.item-index in
    let a = greatest_next defs is i c.item-item.result c.loop-item-test.true c.item-item.is in
    let b = greatest_all defs is i in
    (omega (arith, a, b), omega (arith, a, b))

pub shared_end-returns-in-None : goal.shared_end-returns-in-None
shared_end-returns-in-None t c =
    let defs = view_defs c.args.extents.now in
    let none = ap (λ is. items_end defs c.args.shared (items_of (view_items is)))
    (drop_all c.loop-item.item-index c.args.items.now c.loop-item-test.false) in
    rw (c.in-None.is, view_optional-None) (omega (arith, none, c.loop-item.invariant.told, c.loop-item.invariant.least))

pub shared_end-returns-in_ok-own-in-Some : goal.shared_end-returns-in_ok-own-in-Some
shared_end-returns-in_ok-own-in-Some t c =
    let defs = view_defs c.args.extents.now in
    let none = ap (λ is. items_end defs c.args.shared (items_of (view_items is)))
    (drop_all c.loop-item.item-index c.args.items.now c.loop-item-test.false) in
    let own = c.in_ok-own-in-Some.ensures {u = tt} in
    rw (c.in-Some.is, view_optional-Some c.in-Some.e, ← c.deref.ensures, ← own)
    (omega (arith, none, c.max.ensures, c.loop-item.invariant.told, c.loop-item.invariant.least))

pub lower_items-lower_expr-requires : goal.lower_items-lower_expr-requires
lower_items-lower_expr-requires t c =
    let defs = view_defs c.args.extents.now in
    let is = c.args.items.now in
    let i = c.loop-item.item-index in
    let x = c.item-item.result in
    let e = view_expr x.value in
    let next = held_next defs is i x c.loop-item-test.true c.item-item.is in
    let all = held_all defs is i in
    let great = greatest_next defs is i x c.loop-item-test.true c.item-item.is in
    let most = greatest_all defs is i in
    let two = either defs e in
    let own : c.loop-item.sum.free + held defs e ≤ limit = omega (arith, next, c.loop-item.invariant.room) in
    let shared : c.args.shared + alone defs e ≤ limit = omega (arith, great, most) in
    let fits = place_fits (may_hold defs (term_of e)) c.loop-item.sum.free c.args.shared (expr_size defs e) limit own shared in
    let from = rw c.may_hold-held.ensures at c.slots_from-from.ensures in
    (omega (arith, two, next, all, great, most), omega (arith, fits, from))

pub lower_items-loop-item-preserved : goal.lower_items-loop-item-preserved
lower_items-loop-item-preserved t c =
    let defs = view_defs c.args.extents.now in
    let is = c.args.items.now in
    let i = c.loop-item.item-index in
    let x = c.item-item.result in
    let e = view_expr x.value in
    let held = c.may_hold-held.result in
    let sum = view_lowered c.loop-item.sum in
    let told = c.in_ok-element.ensures {u = tt} ∙ ap (λ n. lower defs n (term_of e)) c.slots_from-from.ensures in
    let made = c.in_ok-store_element.ensures {u = tt} in
    let slots = few defs c.slots_from-from.result e (view_lowered c.in_ok-element.element) (c.in_ok-element.ensures {u = tt}) in
    let within : c.in_ok-element.element.free ≤ (if held then sum.free else c.args.shared) + expr_size defs e =
    omega (arith, slots, c.slots_from-from.ensures) in
    let rest = held_size defs (view_items (drop (i + 1) is)) in
    let fits = rw c.may_hold-held.ensures at (free_fits held sum.free c.args.shared
    (expr_size defs e) c.in_ok-element.element.free rest within) in
    let free = rw c.may_hold-held.ensures at (ap (λ (l : Lowered). l.free) made) in
    let next = held_next defs is i x c.loop-item-test.true c.item-item.is in
    record {
      told = stored_on defs (view_ty c.args.ty.now) c.args.shared is i x held sum _ (view_lowered c.in_ok-element.element)
          c.loop-item-test.true c.item-item.is c.may_hold-held.ensures told made ∙ c.loop-item.invariant.told;
      room = omega (arith, fits, free, next, c.loop-item.invariant.room);
    }

pub lower_others-returns-then-may_hold : goal.lower_others-returns-then-may_hold
lower_others-returns-then-may_hold t c =
    let defs = view_defs c.args.extents.now in
    let e = c.in-Some.e in
    let held = c.if-may_hold.ensures
    ∙ ap (λ (x : TExpr). may_hold defs (term_of (view_expr x))) c.deref.ensures in
    let told = c.in_ok-element.ensures {u = tt}
    ∙ ap (λ (x : TExpr). lower defs (c.args.lo + 1) (term_of (view_expr x))) c.deref-then-may_hold.ensures in
    rw (c.in-Some.is, view_optional-Some e)
    (others_held defs (view_ty c.args.ty.now) c.args.array c.args.indices.items c.args.shared c.args.lo (term_of (view_expr e.value))
    (view_lowered c.in_ok-element.element) _ held told (c.in_ok-l.ensures {u = tt} defs))

pub lower_others-returns : goal.lower_others-returns
lower_others-returns t c =
    let defs = view_defs c.args.extents.now in
    let e = c.in-Some.e in
    let held = c.if-may_hold.ensures
    ∙ ap (λ (x : TExpr). may_hold defs (term_of (view_expr x))) c.deref.ensures in
    let told = c.in_ok-element-2.ensures {u = tt}
    ∙ ap (λ (x : TExpr). lower defs c.args.shared (term_of (view_expr x))) c.deref-2.ensures in
    rw (c.in-Some.is, view_optional-Some e)
    (others_alone defs (view_ty c.args.ty.now) c.args.array c.args.indices.items c.args.shared c.args.lo (term_of (view_expr e.value))
    (view_lowered c.in_ok-element-2.element) _ held told (c.in_ok-l-2.ensures {u = tt} defs))

pub lower_filled-overflow_add-array : goal.lower_filled-overflow_add-array
lower_filled-overflow_add-array t c =
    let defs = view_defs c.args.extents.now in
    let n = length_free defs c.args.lo (view_optional c.args.length.now) (view_items c.args.items.now) (view_lowered c.in_ok-size.size)
    (c.in_ok-size.ensures {u = tt}) in
    omega (arith, n)

pub lower_filled-shared_end-requires : goal.lower_filled-shared_end-requires
lower_filled-shared_end-requires t c =
    let defs = view_defs c.args.extents.now in
    let n = length_free defs c.args.lo (view_optional c.args.length.now) (view_items c.args.items.now) (view_lowered c.in_ok-size.size)
    (c.in_ok-size.ensures {u = tt}) in
    (omega arith, omega (arith, n))

pub lower_filled-overflow_add-array-2 : goal.lower_filled-overflow_add-array-2
lower_filled-overflow_add-array-2 t c =
    let defs = view_defs c.args.extents.now in
    let n = length_free defs c.args.lo (view_optional c.args.length.now) (view_items c.args.items.now) (view_lowered c.in_ok-size.size)
    (c.in_ok-size.ensures {u = tt}) in
    omega (arith, n)

pub lower_filled-lower_items-requires : goal.lower_filled-lower_items-requires
lower_filled-lower_items-requires t c =
    let defs = view_defs c.args.extents.now in
    let is = view_items c.args.items.now in
    let n = length_free defs c.args.lo (view_optional c.args.length.now) is (view_lowered c.in_ok-size.size)
    (c.in_ok-size.ensures {u = tt}) in
    let e = end_free defs (c.in_ok-size.size.free + 1) is (view_optional c.args.rest.now) c.in_ok-end.end (c.in_ok-end.ensures {u = tt}) in
    (omega arith, (omega (arith, n, e), omega (arith, n)))

pub lower_filled-overflow_add-array-3 : goal.lower_filled-overflow_add-array-3
lower_filled-overflow_add-array-3 t c =
    let defs = view_defs c.args.extents.now in
    let n = length_free defs c.args.lo (view_optional c.args.length.now) (view_items c.args.items.now) (view_lowered c.in_ok-size.size)
    (c.in_ok-size.ensures {u = tt}) in
    omega (arith, n)

pub lower_filled-lower_others-requires : goal.lower_filled-lower_others-requires
lower_filled-lower_others-requires t c =
    let defs = view_defs c.args.extents.now in
    let is = view_items c.args.items.now in
    let n = length_free defs c.args.lo (view_optional c.args.length.now) is (view_lowered c.in_ok-size.size)
    (c.in_ok-size.ensures {u = tt}) in
    let e = end_free defs (c.in_ok-size.size.free + 1) is (view_optional c.args.rest.now) c.in_ok-end.end (c.in_ok-end.ensures {u = tt}) in
    let f = items_free defs (view_ty c.in_ok-ty.ty) c.in_ok-size.size.free (c.in_ok-size.size.free + 1) c.in_ok-end.end is
    (view_lowered c.in_ok-elements.elements) (c.in_ok-elements.ensures {u = tt}) in
    (omega arith, (omega (arith, n, e, f), omega (arith, n)))

pub lower_filled-returns : goal.lower_filled-returns
lower_filled-returns t c =
    let defs = view_defs c.args.extents.now in
    let size = view_lowered c.in_ok-size.size in
    rw (← c.in_ok-ty.ensures {u = tt})
    ((c.in_ok-l.ensures {u = tt})
    ∙ fill_made defs c.args.lo (view_ty c.in_ok-ty.ty) (length_term (view_optional c.args.length.now) (view_items c.args.items.now))
    (items_of (view_items c.args.items.now)) (terms_if (view_optional c.args.rest.now))
    size (view_lowered c.in_ok-elements.elements) (view_lowered c.in_ok-others.others) (c.in_ok-size.size.free + 1) c.in_ok-end.end
    c.in_ok-indices.indices.items (c.in_ok-size.ensures {u = tt}) (add-one c.in_ok-size.size.free) (c.in_ok-end.ensures {u = tt})
    (c.in_ok-elements.ensures {u = tt}) (c.in_ok-indices.ensures {u = tt} defs) (c.in_ok-others.ensures {u = tt}))
