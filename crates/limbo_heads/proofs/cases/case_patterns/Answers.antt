use Rattle.limbo_tree.specs.View as source
use Rattle.limbo_types.specs.View.{view_ty}
use Rattle.limbo_context.specs.View.{view_context, view_body}
use Rattle.limbo_stmt_values.specs.limbo_stating.Cases.{here}
use Rattle.limbo_stmt_values.specs.Leading.{point}
use Rattle.limbo_stmt_values.proofs.Told.{reasons_weaker}
use Rattle.limbo_heads.proofs.Naming.{of_case}
use Rattle.limbo_heads.proofs.Rows.{gone_on, gone_end, gone_fails}
use Rattle.limbo_heads.proofs.cases.case_patterns.Goals as goal

pub returns-in-Err-clause-refused : goal.returns-in-Err-clause-refused
returns-in-Err-clause-refused c =
    let C = view_context c.args.context.now in
    let B = view_body c.loop-pattern.body in
    let P = source.view_pattern c.pattern-item.result in
    reasons_weaker c.in-Err.fault.why _ _
    (λ k g.
    gone_fails (of_case (view_ty c.args.t.now) C) source.view_pattern (view_body c.args.body.now) B c.args.patterns.now
    c.loop-pattern.pattern-index c.loop-pattern.zs.items c.pattern-item.result k c.pattern-item.is c.loop-pattern-test.true
    (λ vs n. here (point C B n) P vs k (g n)) c.loop-pattern.invariant) c.in-Err.ensures.refused

pub loop-pattern-preserved : goal.loop-pattern-preserved
loop-pattern-preserved c =
    gone_on (of_case (view_ty c.args.t.now) (view_context c.args.context.now)) source.view_pattern (view_body c.args.body.now)
    (view_body c.loop-pattern.body) (view_body c.case_pattern.new.body) c.args.patterns.now c.loop-pattern.pattern-index
    c.loop-pattern.zs.items c.push.new.self.items c.pattern-item.result c.in-Ok.z c.in-Ok-push.ensures.items c.pattern-item.is
    c.loop-pattern-test.true c.in-Ok.ensures.pattern c.loop-pattern.invariant

pub returns-clause-patterns : goal.returns-clause-patterns
returns-clause-patterns c =
    gone_end (of_case (view_ty c.args.t.now) (view_context c.args.context.now)) source.view_pattern (view_body c.args.body.now)
    (view_body c.loop-pattern.body) c.args.patterns.now c.loop-pattern.pattern-index c.loop-pattern.zs.items c.loop-pattern-test.false
    c.loop-pattern.invariant
