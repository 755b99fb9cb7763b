use Rattle.std.proofs.Common.{sym, ◌∙◌}
use Rattle.std.proofs.lemmas.Result.{err_from_is_err_and}
use Rattle.limbo_tree.specs.View.{view_top}
use Rattle.limbo_reading.specs.Reading.{kinds}
use Rattle.limbo_parser.proofs.Tops.{tops_start, tops_more, tops_end, tops_fail, top_shorter}
use Rattle.limbo_parser.proofs.source.tops_at.Goals as goal

pub tops-init : goal.tops-init
tops-init c = rw c.new-tops.ensures.items (tops_start c.args.budget (kinds c.args.tokens.now))

pub returns-then-at_end : goal.returns-then-at_end
returns-then-at_end c = tops_end c.args.budget (kinds c.args.tokens.now) c.tops.tops.items (kinds c.tops.rest.now) (sym c.at_end.ensures ∙ c.if-at_end.true) c.tops.invariant

pub returns-in_err-top : goal.returns-in_err-top
returns-in_err-top c =
    let p = err_from_is_err_and c.from_residual.result c.from_residual.ensures.1 in
    rw (p.1, p.2) (tops_fail c.in_err-top.field-0.0 c.args.budget (kinds c.args.tokens.now) c.tops.tops.items (kinds c.tops.rest.now) (sym c.at_end.ensures ∙ c.if-at_end.false) c.in_err-top.ensures c.tops.invariant)

pub tops-smaller : goal.tops-smaller
tops-smaller c = top_shorter c.args.budget (kinds c.tops.rest.now) (view_top c.in_ok-top.top) (kinds c.in_ok-top.after.now) c.in_ok-top.ensures

pub tops-preserved : goal.tops-preserved
tops-preserved c =
    rw c.in_ok-push.ensures.items (tops_more c.args.budget (kinds c.args.tokens.now) c.tops.tops.items (kinds c.tops.rest.now) (kinds c.in_ok-top.after.now) c.in_ok-top.top (sym c.at_end.ensures ∙ c.if-at_end.false) c.in_ok-top.ensures c.tops.invariant)
