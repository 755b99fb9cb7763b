use Rattle.limbo_tree.specs.View as source
use Rattle.limbo_context.specs.View.{view_context, view_body}
use Rattle.limbo_causes.proofs.Telling.{fails_weaker}
use Rattle.limbo_heads.proofs.Naming.{of_handler}
use Rattle.limbo_heads.proofs.Rows.{gone_on, gone_end, gone_fails}
use Rattle.limbo_heads.proofs.handling.all_handled.Goals as goal

pub returns-in-Err-clause-refused : goal.returns-in-Err-clause-refused
returns-in-Err-clause-refused c =
    fails_weaker c.in-Err.fault.cause _ _
    (λ k g.
    gone_fails (of_handler (view_context c.args.context.now) (view_body c.args.body.now)) source.view_handler_pattern tt tt
    c.args.patterns.now c.loop-pattern.pattern-index c.loop-pattern.zs.items c.pattern-item.result k c.pattern-item.is
    c.loop-pattern-test.true g c.loop-pattern.invariant) c.in-Err.ensures.refused

pub loop-pattern-preserved : goal.loop-pattern-preserved
loop-pattern-preserved c =
    gone_on (of_handler (view_context c.args.context.now) (view_body c.args.body.now)) source.view_handler_pattern tt tt tt
    c.args.patterns.now c.loop-pattern.pattern-index c.loop-pattern.zs.items c.push.new.self.items c.pattern-item.result c.in-Ok.z
    c.in_ok-push-in-Ok.ensures.items c.pattern-item.is c.loop-pattern-test.true c.in-Ok.ensures.handled c.loop-pattern.invariant

pub returns-clause-handled : goal.returns-clause-handled
returns-clause-handled c =
    gone_end (of_handler (view_context c.args.context.now) (view_body c.args.body.now)) source.view_handler_pattern tt tt
    c.args.patterns.now c.loop-pattern.pattern-index c.loop-pattern.zs.items c.loop-pattern-test.false c.loop-pattern.invariant
