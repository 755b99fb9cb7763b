use Rattle.std.proofs.Common.{arith}
use Rattle.std.proofs.lemmas.Result.{err_from_is_err_and}
use Rattle.limbo_lexer.specs.declared.token.Mark.TheVariants as mark
use Rattle.limbo_tree.specs.View.{view_type}
use Rattle.limbo_reading.specs.Reading.{kinds, after_mark}
use Rattle.limbo_reading.proofs.Steps.{mark_shorter}
use Rattle.limbo_reading.proofs.Loops.{items_start, items_fail, reading_more, reading_end, reading_fails}
use Rattle.limbo_expr_parts.specs.Types.{ty_at}
use Rattle.limbo_decl_parser.proofs.Places.{ty_shorter}
use Rattle.limbo_decl_parser.proofs.decl.several_types.Goals as goal

pub returns-in_err-first : goal.returns-in_err-first
returns-in_err-first c =
    let p = err_from_is_err_and c.from_residual.result c.from_residual.ensures.1 in
    rw (p.1, p.2) (items_fail c.in_err-first.field-0.0 (ty_at c.args.budget) (after_mark mark.Comma) (kinds c.args.tokens.now) c.in_err-first.ensures.same)

pub types-init : goal.types-init
types-init c =
    rw (c.in_ok-push_type.ensures.items, c.new-types.ensures.items) (items_start view_type (ty_at c.args.budget) (after_mark mark.Comma) (kinds c.args.tokens.now) c.in_ok-first.first.value (kinds c.in_ok-first.rest.now) c.in_ok-first.ensures.same)

pub returns-in_err-of : goal.returns-in_err-of
returns-in_err-of c =
    let p = err_from_is_err_and c.from_residual-in_err-of.result c.from_residual-in_err-of.ensures.1 in
    rw (p.1, p.2) (reading_fails c.in_err-of.field-0.0 view_type (ty_at c.args.budget) (after_mark mark.Comma) _ c.types.types.items (kinds c.types.rest.now) (kinds c.in-Some.behind.now) c.in-Some.ensures (mark_shorter mark.Comma _ _ c.in-Some.ensures) c.in_err-of.ensures.same c.types.invariant)

pub types-preserved : goal.types-preserved
types-preserved c =
    rw c.in_ok-push_type-2.ensures.items (reading_more view_type (ty_at c.args.budget) (after_mark mark.Comma) _ c.types.types.items (kinds c.types.rest.now) (kinds c.in-Some.behind.now) (kinds c.in_ok-of.after.now) c.in_ok-of.of.value c.in-Some.ensures c.in_ok-of.ensures.same (omega (arith, mark_shorter mark.Comma (kinds c.types.rest.now) (kinds c.in-Some.behind.now) c.in-Some.ensures, ty_shorter c.args.budget (kinds c.in-Some.behind.now) (view_type c.in_ok-of.of.value) (kinds c.in_ok-of.after.now) c.in_ok-of.ensures.same)) c.types.invariant)

pub types-smaller : goal.types-smaller
types-smaller c =
    omega (arith, mark_shorter mark.Comma (kinds c.types.rest.now) (kinds c.in-Some.behind.now) c.in-Some.ensures, ty_shorter c.args.budget (kinds c.in-Some.behind.now) (view_type c.in_ok-of.of.value) (kinds c.in_ok-of.after.now) c.in_ok-of.ensures.same)

pub returns : goal.returns
returns c = reading_end view_type (ty_at c.args.budget) (after_mark mark.Comma) _ c.types.types.items (kinds c.types.rest.now) c.in_default.ensures c.types.invariant
