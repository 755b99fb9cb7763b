use Rattle.std.proofs.Common.{◌≡◌, ◌≤◌, ◌<◌, ◌-◌, true, false, arith, sym, ◌∙◌}
use Rattle.std.specs.Prelude.{nat_lt}
use Rattle.limbo_tree.specs.Exprs.{nesting}
use Rattle.limbo_expr_parts.specs.Strength.{strength}
use Rattle.std.proofs.lemmas.Result.{err_from_is_err_and}
use Rattle.limbo_lexer.specs.declared.token.Mark.TheVariants as mark
use Rattle.limbo_tree.specs.View.{view_expr, view_init}
use Rattle.limbo_reading.specs.Reading.{kinds, after_mark}
use Rattle.limbo_reading.proofs.Steps.{mark_shorter}
use Rattle.limbo_reading.proofs.Loops.{items_start, items_fail, reading_more, reading_end, reading_fails}
use Rattle.limbo_expr_parts.specs.Parts.{after_comma_inside}
use Rattle.limbo_expr_parser.specs.Exprs.{readers, list_at, inits_at, init_at}
use Rattle.limbo_tree.proofs.Exprs.{view_expr-Binary}
use Rattle.limbo_expr_parser.proofs.ExprSteps.{expr_left, chain_loads, expr_deep, expr_fails, expr_shorter, init_shorter, comma_shorter, exprs_one, exprs_more, inits_one, inits_more, chained_start, chain_fails, chained_more, chained_end, chained_deep, chained_fails, postfixed_start, postfixed_fails_first, postfixed_more, postfixed_end, postfixed_deep, postfixed_fails, behind_deeper}
use Rattle.limbo_expr_parser.proofs.+exprs.Goals as goal

-- ---- lists

pub lists::list_at-returns-in_err-first-clause-same : goal.lists::list_at-returns-in_err-first-clause-same
unfolding list_at
lists::list_at-returns-in_err-first-clause-same t c =
    let p = err_from_is_err_and c.from_residual.result c.from_residual.ensures.1 in
    rw (p.1, p.2) (items_fail c.in_err-first.field-0.0 (readers c.args.budget).expr (after_mark mark.Comma) (kinds c.args.tokens.now) c.in_err-first.ensures.same)

pub lists::list_at-all-init : goal.lists::list_at-all-init
unfolding list_at
lists::list_at-all-init t c =
    rw (c.in_ok-push_expr.ensures.items, c.new-items.ensures.items) (
      items_start view_expr (readers c.args.budget).expr (after_mark mark.Comma) (kinds c.args.tokens.now) c.in_ok-first.first.value (kinds c.in_ok-first.rest.now) c.in_ok-first.ensures.same,
      c.in_ok-first.ensures.size ∙ sym (exprs_one c.in_ok-first.first.value),
      c.in_ok-first.ensures.within,
    )

pub lists::list_at-returns-in_err-item-clause-same : goal.lists::list_at-returns-in_err-item-clause-same
lists::list_at-returns-in_err-item-clause-same t c =
    let p = err_from_is_err_and c.from_residual-in_err-item.result c.from_residual-in_err-item.ensures.1 in
    rw (p.1, p.2) (reading_fails c.in_err-item.field-0.0 view_expr (readers c.args.budget).expr (after_mark mark.Comma) _ c.all.items.items (kinds c.all.rest.now) (kinds c.in-Some.behind.now) c.in-Some.ensures (mark_shorter mark.Comma _ _ c.in-Some.ensures) c.in_err-item.ensures.same c.all.invariant.0)

pub lists::list_at-all-smaller : goal.lists::list_at-all-smaller
lists::list_at-all-smaller t c =
    omega (arith, mark_shorter mark.Comma (kinds c.all.rest.now) (kinds c.in-Some.behind.now) c.in-Some.ensures, expr_shorter c.args.budget (kinds c.in-Some.behind.now) (view_expr c.in_ok-item.item.value) (kinds c.in_ok-item.after.now) c.in_ok-item.ensures.same)

pub lists::list_at-all-preserved : goal.lists::list_at-all-preserved
lists::list_at-all-preserved t c =
    rw (c.in_ok-push_expr-2.ensures.items, c.max-size.ensures) (
      reading_more view_expr (readers c.args.budget).expr (after_mark mark.Comma) _ c.all.items.items (kinds c.all.rest.now) (kinds c.in-Some.behind.now) (kinds c.in_ok-item.after.now) c.in_ok-item.item.value c.in-Some.ensures c.in_ok-item.ensures.same (omega (arith, mark_shorter mark.Comma (kinds c.all.rest.now) (kinds c.in-Some.behind.now) c.in-Some.ensures, expr_shorter c.args.budget (kinds c.in-Some.behind.now) (view_expr c.in_ok-item.item.value) (kinds c.in_ok-item.after.now) c.in_ok-item.ensures.same)) c.all.invariant.0,
      omega (arith, exprs_more c.all.items.items c.in_ok-item.item.value, c.all.invariant.1, c.in_ok-item.ensures.size),
      omega (arith, c.all.invariant.2, c.in_ok-item.ensures.within),
    )

pub lists::list_at-returns-clause-same : goal.lists::list_at-returns-clause-same
lists::list_at-returns-clause-same t c = reading_end view_expr (readers c.args.budget).expr (after_mark mark.Comma) _ c.all.items.items (kinds c.all.rest.now) c.in_default.ensures c.all.invariant.0

-- ---- inits

pub arrays::inits_at-returns-in_err-first-clause-same : goal.arrays::inits_at-returns-in_err-first-clause-same
unfolding inits_at
arrays::inits_at-returns-in_err-first-clause-same t c =
    let p = err_from_is_err_and c.from_residual.result c.from_residual.ensures.1 in
    rw (p.1, p.2) (items_fail c.in_err-first.field-0.0 (init_at (readers c.args.budget)) after_comma_inside (kinds c.args.tokens.now) c.in_err-first.ensures.same)

pub arrays::inits_at-all-init : goal.arrays::inits_at-all-init
unfolding inits_at
arrays::inits_at-all-init t c =
    rw (c.in_ok-push.ensures.items, c.new-items.ensures.items) (
      items_start view_init (init_at (readers c.args.budget)) after_comma_inside (kinds c.args.tokens.now) c.in_ok-first.first (kinds c.in_ok-first.rest.now) c.in_ok-first.ensures.same,
      c.in_ok-first.ensures.size ∙ sym (inits_one c.in_ok-first.first),
      c.in_ok-first.ensures.within,
    )

pub arrays::inits_at-returns-in_err-item-clause-same : goal.arrays::inits_at-returns-in_err-item-clause-same
arrays::inits_at-returns-in_err-item-clause-same t c =
    let p = err_from_is_err_and c.from_residual-in_err-item.result c.from_residual-in_err-item.ensures.1 in
    rw (p.1, p.2) (reading_fails c.in_err-item.field-0.0 view_init (init_at (readers c.args.budget)) after_comma_inside _ c.all.items.items (kinds c.all.rest.now) (kinds c.in-Some.behind.now) c.in-Some.ensures (comma_shorter _ _ c.in-Some.ensures) c.in_err-item.ensures.same c.all.invariant.0)

pub arrays::inits_at-all-smaller : goal.arrays::inits_at-all-smaller
arrays::inits_at-all-smaller t c =
    omega (arith, comma_shorter (kinds c.all.rest.now) (kinds c.in-Some.behind.now) c.in-Some.ensures, init_shorter c.args.budget (kinds c.in-Some.behind.now) (view_init c.in_ok-item.item) (kinds c.in_ok-item.after.now) c.in_ok-item.ensures.same)

pub arrays::inits_at-all-preserved : goal.arrays::inits_at-all-preserved
arrays::inits_at-all-preserved t c =
    rw (c.in_ok-push-2.ensures.items, c.max-size.ensures) (
      reading_more view_init (init_at (readers c.args.budget)) after_comma_inside _ c.all.items.items (kinds c.all.rest.now) (kinds c.in-Some.behind.now) (kinds c.in_ok-item.after.now) c.in_ok-item.item c.in-Some.ensures c.in_ok-item.ensures.same (omega (arith, comma_shorter (kinds c.all.rest.now) (kinds c.in-Some.behind.now) c.in-Some.ensures, init_shorter c.args.budget (kinds c.in-Some.behind.now) (view_init c.in_ok-item.item) (kinds c.in_ok-item.after.now) c.in_ok-item.ensures.same)) c.all.invariant.0,
      omega (arith, inits_more c.all.items.items c.in_ok-item.item, c.all.invariant.1, c.in_ok-item.ensures.size),
      omega (arith, c.all.invariant.2, c.in_ok-item.ensures.within),
    )

pub arrays::inits_at-returns-clause-same : goal.arrays::inits_at-returns-clause-same
arrays::inits_at-returns-clause-same t c = reading_end view_init (init_at (readers c.args.budget)) after_comma_inside _ c.all.items.items (kinds c.all.rest.now) c.in_default.ensures c.all.invariant.0

-- ---- operators

pub expr::chain_above-returns-in_err-left-clause-same : goal.expr::chain_above-returns-in_err-left-clause-same
expr::chain_above-returns-in_err-left-clause-same t c =
    let p = err_from_is_err_and c.from_residual.result c.from_residual.ensures.1 in
    rw (p.1, p.2) (chain_fails c.in_err-left.field-0.0 c.args.inner c.args.level (kinds c.args.tokens.now) c.in_default.ensures c.in_err-left.ensures.same)

pub expr::chain_above-ops-init : goal.expr::chain_above-ops-init
expr::chain_above-ops-init t c =
    chained_start c.args.inner c.args.level (kinds c.args.tokens.now) (view_expr c.in_ok-left.left.value) c.in_ok-left.size (kinds c.in_ok-left.rest.now) c.in_default.ensures c.in_ok-left.ensures.size c.in_ok-left.ensures.within c.in_ok-left.ensures.same

pub expr::chain_above-returns-in-Some-clause-same : goal.expr::chain_above-returns-in-Some-clause-same
expr::chain_above-returns-in-Some-clause-same t c =
    rw (chain_loads c.args.inner c.args.level (kinds c.args.tokens.now) (kinds c.in-Some.behind.now) c.in-Some.ensures) c.load_at.ensures.same

pub expr::chain_above-returns-then-size-inner-clause-same : goal.expr::chain_above-returns-then-size-inner-clause-same
expr::chain_above-returns-then-size-inner-clause-same t c =
    rw c.too_deep.ensures (chained_deep c.args.inner c.args.level (kinds c.args.tokens.now) (view_expr c.ops.left.value) c.ops.size (kinds c.ops.rest.now) _ c.in-Some-op_within.ensures c.if-size-inner.true c.ops.invariant)

pub expr::chain_above-returns-in_err-right-clause-same : goal.expr::chain_above-returns-in_err-right-clause-same
expr::chain_above-returns-in_err-right-clause-same t c =
    let p = err_from_is_err_and c.from_residual-in_err-right.result c.from_residual-in_err-right.ensures.1 in
    let read = rw c.right_level.ensures at c.in_err-right.ensures.same in
    rw (p.1, p.2) (chained_fails c.in_err-right.field-0.0 c.args.inner c.args.level (kinds c.args.tokens.now) (view_expr c.ops.left.value) c.ops.size (kinds c.ops.rest.now) c.in-Some-op_within.op (kinds c.in-Some-op_within.behind.now) c.in-Some-op_within.ensures c.if-size-inner.false read c.ops.invariant)

pub expr::chain_above-ops-preserved : goal.expr::chain_above-ops-preserved
expr::chain_above-ops-preserved t c =
    let read = rw c.right_level.ensures at c.in_ok-right.ensures.same in
    rw (c.in_ok-whole.ensures.same, view_expr-Binary, c.max-size.ensures) (chained_more c.args.inner c.args.level (kinds c.args.tokens.now) (view_expr c.ops.left.value) c.ops.size (kinds c.ops.rest.now) c.in-Some-op_within.op (kinds c.in-Some-op_within.behind.now) (view_expr c.in_ok-right.right.value) c.in_ok-right.right_size (kinds c.in_ok-right.after.now) c.in-Some-op_within.ensures c.if-size-inner.false c.in_ok-right.ensures.size c.in_ok-right.ensures.within read c.ops.invariant)

pub expr::chain_above-returns-clause-same : goal.expr::chain_above-returns-clause-same
expr::chain_above-returns-clause-same t c =
    chained_end c.args.inner c.args.level (kinds c.args.tokens.now) (view_expr c.ops.left.value) c.ops.size (kinds c.ops.rest.now) c.in_default-op_within.ensures c.ops.invariant

-- ---- assignments

pub expr::expr_in-returns-then-size-inner-clause-same : goal.expr::expr_in-returns-then-size-inner-clause-same
expr::expr_in-returns-then-size-inner-clause-same t c =
    let same : c.deref.result.now ≡ c.in_ok-left.left.value = cc in
    let found = rw same at c.in-Some.ensures in
    let deep : c.args.budget - 1 < nesting (view_expr c.in_ok-left.left.value) = omega (arith, c.in_ok-left.ensures.size) in
    rw (c.too_deep-then-size-inner.ensures, expr_left c.args.budget (kinds c.args.tokens.now) (λ z. absurd (omega arith))) (expr_deep (c.args.budget - 1) (kinds c.args.tokens.now) (view_expr c.in_ok-left.left.value) (kinds c.in_ok-left.rest.now) _ c.in_ok-left.ensures.same found deep)

pub expr::expr_in-returns-in_err-right-clause-same : goal.expr::expr_in-returns-in_err-right-clause-same
expr::expr_in-returns-in_err-right-clause-same t c =
    let p = err_from_is_err_and c.from_residual-in_err-right.result c.from_residual-in_err-right.ensures.1 in
    let same : c.deref.result.now ≡ c.in_ok-left.left.value = cc in
    let found = rw same at c.in-Some.ensures in
    let flat : nesting (view_expr c.in_ok-left.left.value) ≤ c.args.budget - 1 = omega (arith, c.in_ok-left.ensures.size) in
    rw (p.1, p.2, expr_left c.args.budget (kinds c.args.tokens.now) (λ z. absurd (omega arith))) (expr_fails c.in_err-right.field-0.0 (c.args.budget - 1) (kinds c.args.tokens.now) (view_expr c.in_ok-left.left.value) (kinds c.in_ok-left.rest.now) c.in-Some.op (kinds c.in-Some.behind.now) c.in_ok-left.ensures.same found flat c.in_err-right.ensures.same)

-- ---- what stands behind a postfix

pub postfix::postfixed_at-returns-in_err-tree-clause-same : goal.postfix::postfixed_at-returns-in_err-tree-clause-same
postfix::postfixed_at-returns-in_err-tree-clause-same t c =
    let p = err_from_is_err_and c.from_residual.result c.from_residual.ensures.1 in
    rw (p.1, p.2) (postfixed_fails_first c.in_err-tree.field-0.0 c.args.inner (kinds c.args.tokens.now) c.in_err-tree.ensures.same)

pub postfix::postfixed_at-postfixes-init : goal.postfix::postfixed_at-postfixes-init
postfix::postfixed_at-postfixes-init t c =
    postfixed_start c.args.inner (kinds c.args.tokens.now) (view_expr c.in_ok-tree.tree.value) c.in_ok-tree.size (kinds c.in_ok-tree.rest.now) c.in_ok-tree.ensures.size c.in_ok-tree.ensures.within c.in_ok-tree.ensures.same

pub postfix::postfixed_at-returns-then-size-inner-clause-same : goal.postfix::postfixed_at-returns-then-size-inner-clause-same
postfix::postfixed_at-returns-then-size-inner-clause-same t c =
    let z : nat_lt 0 (strength (kinds c.postfixes.rest.now)) ≡ false = cc in
    rw c.too_deep.ensures (postfixed_deep c.args.inner (kinds c.args.tokens.now) (view_expr c.postfixes.tree.value) c.postfixes.size (kinds c.postfixes.rest.now) z c.if-size-inner.true c.postfixes.invariant)

pub postfix::postfixed_at-returns-in_err-whole-clause-same : goal.postfix::postfixed_at-returns-in_err-whole-clause-same
postfix::postfixed_at-returns-in_err-whole-clause-same t c =
    let z : nat_lt 0 (strength (kinds c.postfixes.rest.now)) ≡ false = cc in
    let p = err_from_is_err_and c.from_residual-in_err-whole.result c.from_residual-in_err-whole.ensures.1 in
    rw (p.1, p.2) (postfixed_fails c.in_err-whole.field-0.0 c.args.inner (kinds c.args.tokens.now) (view_expr c.postfixes.tree.value) c.postfixes.size (kinds c.postfixes.rest.now) z c.if-size-inner.false c.in_err-whole.ensures.same c.postfixes.invariant)

pub postfix::postfixed_at-postfixes-smaller : goal.postfix::postfixed_at-postfixes-smaller
postfix::postfixed_at-postfixes-smaller t c =
    omega (arith, behind_deeper c.args.inner (view_expr c.postfixes.tree.value) (kinds c.postfixes.rest.now) (view_expr c.in_ok-whole.whole.value) (kinds c.in_ok-whole.after.now) c.in_ok-whole.ensures.same, c.postfixes.invariant.same_size, c.in_ok-whole.ensures.size, c.in_ok-whole.ensures.within)

pub postfix::postfixed_at-postfixes-preserved : goal.postfix::postfixed_at-postfixes-preserved
postfix::postfixed_at-postfixes-preserved t c =
    let z : nat_lt 0 (strength (kinds c.postfixes.rest.now)) ≡ false = cc in
    postfixed_more c.args.inner (kinds c.args.tokens.now) (view_expr c.postfixes.tree.value) c.postfixes.size (kinds c.postfixes.rest.now) (view_expr c.in_ok-whole.whole.value) c.in_ok-whole.whole_size (kinds c.in_ok-whole.after.now) z c.if-size-inner.false c.in_ok-whole.ensures.size c.in_ok-whole.ensures.within c.in_ok-whole.ensures.same c.postfixes.invariant

pub postfix::postfixed_at-returns-clause-same : goal.postfix::postfixed_at-returns-clause-same
postfix::postfixed_at-returns-clause-same t c =
    let z : nat_lt 0 (strength (kinds c.postfixes.rest.now)) ≡ true = cc in
    postfixed_end c.args.inner (kinds c.args.tokens.now) (view_expr c.postfixes.tree.value) c.postfixes.size (kinds c.postfixes.rest.now) z c.postfixes.invariant
