use Rattle.std.proofs.Common.{arith, sym, ◌∙◌}
use Rattle.std.proofs.lemmas.Result.{err_from_is_err_and}
use Rattle.limbo_lexer.specs.declared.token.Mark.TheVariants as mark
use Rattle.limbo_tree.specs.View.{view_type}
use Rattle.limbo_reading.specs.Reading.{kinds, after_mark}
use Rattle.limbo_reading.proofs.Steps.{mark_shorter}
use Rattle.limbo_reading.proofs.Loops.{items_start, items_fail, reading_more, reading_end, reading_fails}
use Rattle.limbo_expr_parts.specs.Types.{ty_at, types_at}
use Rattle.limbo_expr_parts.proofs.TypeSteps.{ty_shorter, types_one, types_more, tuple_few, tuple_whole}
use Rattle.limbo_tree.proofs.Exprs.{view_type-Tuple}
use Rattle.limbo_expr_parts.proofs.types.+types.Goals as goal

pub types_at-returns-in_err-first-clause-same : goal.types_at-returns-in_err-first-clause-same
unfolding types_at
types_at-returns-in_err-first-clause-same t c =
    let p = err_from_is_err_and c.from_residual.result c.from_residual.ensures.1 in
    rw (p.1, p.2) (items_fail c.in_err-first.field-0.0 (ty_at c.args.budget) (after_mark mark.Comma) (kinds c.args.tokens.now) c.in_err-first.ensures.same)

pub types_at-all-init : goal.types_at-all-init
unfolding types_at
types_at-all-init t c =
    rw (c.in_ok-push_type.ensures.items, c.new-parts.ensures.items) (
      items_start view_type (ty_at c.args.budget) (after_mark mark.Comma) (kinds c.args.tokens.now) c.in_ok-first.first.value (kinds c.in_ok-first.rest.now) c.in_ok-first.ensures.same,
      c.in_ok-first.ensures.size ∙ sym (types_one c.in_ok-first.first.value),
      c.in_ok-first.ensures.within,
    )

pub types_at-returns-in_err-part-clause-same : goal.types_at-returns-in_err-part-clause-same
types_at-returns-in_err-part-clause-same t c =
    let p = err_from_is_err_and c.from_residual-in_err-part.result c.from_residual-in_err-part.ensures.1 in
    rw (p.1, p.2) (reading_fails c.in_err-part.field-0.0 view_type (ty_at c.args.budget) (after_mark mark.Comma) _ c.all.parts.items (kinds c.all.rest.now) (kinds c.in-Some.behind.now) c.in-Some.ensures (mark_shorter mark.Comma _ _ c.in-Some.ensures) c.in_err-part.ensures.same c.all.invariant.0)

pub types_at-all-smaller : goal.types_at-all-smaller
types_at-all-smaller t c =
    omega (arith, mark_shorter mark.Comma (kinds c.all.rest.now) (kinds c.in-Some.behind.now) c.in-Some.ensures, ty_shorter c.args.budget (kinds c.in-Some.behind.now) (view_type c.in_ok-part.part.value) (kinds c.in_ok-part.after.now) c.in_ok-part.ensures.same)

pub types_at-all-preserved : goal.types_at-all-preserved
types_at-all-preserved t c =
    rw (c.in_ok-push_type-2.ensures.items, c.max-size.ensures) (
      reading_more view_type (ty_at c.args.budget) (after_mark mark.Comma) _ c.all.parts.items (kinds c.all.rest.now) (kinds c.in-Some.behind.now) (kinds c.in_ok-part.after.now) c.in_ok-part.part.value c.in-Some.ensures c.in_ok-part.ensures.same (omega (arith, mark_shorter mark.Comma (kinds c.all.rest.now) (kinds c.in-Some.behind.now) c.in-Some.ensures, ty_shorter c.args.budget (kinds c.in-Some.behind.now) (view_type c.in_ok-part.part.value) (kinds c.in_ok-part.after.now) c.in_ok-part.ensures.same)) c.all.invariant.0,
      omega (arith, types_more c.all.parts.items c.in_ok-part.part.value, c.all.invariant.1, c.in_ok-part.ensures.size),
      omega (arith, c.all.invariant.2, c.in_ok-part.ensures.within),
    )

pub types_at-returns-clause-same : goal.types_at-returns-clause-same
types_at-returns-clause-same t c = reading_end view_type (ty_at c.args.budget) (after_mark mark.Comma) _ c.all.parts.items (kinds c.all.rest.now) c.in_default.ensures c.all.invariant.0

pub tuple_at-returns-then-len-lt2-clause-same : goal.tuple_at-returns-then-len-lt2-clause-same
tuple_at-returns-then-len-lt2-clause-same t c =
    rw c.syntax.ensures (tuple_few c.args.inner (kinds c.args.tokens.now) c.in_ok-parts.parts.items (kinds c.in_ok-parts.rest.now) c.in_ok-parts.ensures.same (omega arith))

pub tuple_at-returns-clause-same : goal.tuple_at-returns-clause-same
tuple_at-returns-clause-same t c =
    rw (tuple_whole c.args.inner (kinds c.args.tokens.now) c.in_ok-parts.parts.items (kinds c.in_ok-parts.rest.now) (kinds c.in_ok-rest.rest.now) c.in_ok-parts.ensures.same (omega arith) c.in_ok-rest.ensures) (rw view_type-Tuple at c.built_type.ensures.same)
