use Rattle.std.proofs.Common.{arith}
use Rattle.std.proofs.lemmas.Result.{err_from_is_err_and}
use Rattle.limbo_lexer.specs.declared.token.Mark.TheVariants as mark
use Rattle.limbo_tree.specs.View.{view_param}
use Rattle.limbo_reading.specs.Reading.{kinds, after_mark}
use Rattle.limbo_reading.proofs.Steps.{mark_shorter}
use Rattle.limbo_reading.proofs.Loops.{items_start, items_fail, reading_more, reading_end, reading_fails}
use Rattle.limbo_decl_parser.specs.Decls.{param_at}
use Rattle.limbo_decl_parser.proofs.Places.{param_shorter}
use Rattle.limbo_decl_parser.proofs.params.several_params.Goals as goal

pub returns-in_err-first : goal.returns-in_err-first
returns-in_err-first c =
    let p = err_from_is_err_and c.from_residual.result c.from_residual.ensures.1 in
    rw (p.1, p.2) (items_fail c.in_err-first.field-0.0 (param_at c.args.budget) (after_mark mark.Comma) (kinds c.args.tokens.now) c.in_err-first.ensures)

pub params-init : goal.params-init
params-init c =
    rw (c.in_ok-push.ensures.items, c.new-params.ensures.items) (items_start view_param (param_at c.args.budget) (after_mark mark.Comma) (kinds c.args.tokens.now) c.in_ok-first.first (kinds c.in_ok-first.rest.now) c.in_ok-first.ensures)

pub returns-in_err-param : goal.returns-in_err-param
returns-in_err-param c =
    let p = err_from_is_err_and c.from_residual-in_err-param.result c.from_residual-in_err-param.ensures.1 in
    rw (p.1, p.2) (reading_fails c.in_err-param.field-0.0 view_param (param_at c.args.budget) (after_mark mark.Comma) _ c.params.params.items (kinds c.params.rest.now) (kinds c.in-Some.behind.now) c.in-Some.ensures (mark_shorter mark.Comma _ _ c.in-Some.ensures) c.in_err-param.ensures c.params.invariant)

pub params-preserved : goal.params-preserved
params-preserved c =
    rw c.in_ok-push-2.ensures.items (reading_more view_param (param_at c.args.budget) (after_mark mark.Comma) _ c.params.params.items (kinds c.params.rest.now) (kinds c.in-Some.behind.now) (kinds c.in_ok-param.after.now) c.in_ok-param.param c.in-Some.ensures c.in_ok-param.ensures (omega (arith, mark_shorter mark.Comma (kinds c.params.rest.now) (kinds c.in-Some.behind.now) c.in-Some.ensures, param_shorter c.args.budget (kinds c.in-Some.behind.now) (view_param c.in_ok-param.param) (kinds c.in_ok-param.after.now) c.in_ok-param.ensures)) c.params.invariant)

pub params-smaller : goal.params-smaller
params-smaller c =
    omega (arith, mark_shorter mark.Comma (kinds c.params.rest.now) (kinds c.in-Some.behind.now) c.in-Some.ensures, param_shorter c.args.budget (kinds c.in-Some.behind.now) (view_param c.in_ok-param.param) (kinds c.in_ok-param.after.now) c.in_ok-param.ensures)

pub returns : goal.returns
returns c = reading_end view_param (param_at c.args.budget) (after_mark mark.Comma) _ c.params.params.items (kinds c.params.rest.now) c.in_default.ensures c.params.invariant
