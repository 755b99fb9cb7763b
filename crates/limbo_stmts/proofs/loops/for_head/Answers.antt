use Rattle.limbo_tree.specs.View as source
use Rattle.limbo_stmts.specs.View.{view_point}
use Rattle.limbo_stmts.specs.Turns.{IsRepeated, RepeatsNot, HasForHead, FailsForHead}
use Rattle.limbo_stmts.proofs.loops.for_head.Goals as goal
use Rattle.limbo_causes.proofs.Telling.{fails_weaker}
use Rattle.limbo_stmts.specs.Turns as turns

pub returns-in-Err-clause-refused : goal.returns-in-Err-clause-refused
returns-in-Err-clause-refused c =
    fails_weaker c.in-Err.fault.cause _ (FailsForHead (view_point c.args.point.now) (source.view_boxed c.args.first.now)
    (source.view_boxed c.args.condition.now) (source.view_boxed c.args.next.now)) (λ k h. turns.begins k (h c.args.point.now.catches))
    c.in-Err.ensures.refused

pub returns-in-Err-may_test-clause-refused : goal.returns-in-Err-may_test-clause-refused
returns-in-Err-may_test-clause-refused c =
    fails_weaker c.in-Err-may_test.fault.cause _ (FailsForHead (view_point c.args.point.now) (source.view_boxed c.args.first.now)
    (source.view_boxed c.args.condition.now) (source.view_boxed c.args.next.now))
    (λ k h. turns.tested _ _ k (c.in-Ok.ensures.evaluates c.args.point.now.catches) (h c.args.point.now.catches))
    c.in-Err-may_test.ensures.refused

pub returns-in-Err-may_evaluate-clause-refused : goal.returns-in-Err-may_evaluate-clause-refused
returns-in-Err-may_evaluate-clause-refused c =
    fails_weaker c.in-Err-may_evaluate.fault.cause _ (FailsForHead (view_point c.args.point.now) (source.view_boxed c.args.first.now)
    (source.view_boxed c.args.condition.now) (source.view_boxed c.args.next.now))
    (λ k h. turns.steps _ _ _ _ k (c.in-Ok.ensures.evaluates c.args.point.now.catches) (c.in-Ok-may_test.ensures.tests
    c.args.point.now.catches) (h c.args.point.now.catches))
    c.in-Err-may_evaluate.ensures.refused

pub returns-in-Ok-may_evaluate-clause-head : goal.returns-in-Ok-may_evaluate-clause-head
returns-in-Ok-may_evaluate-clause-head c =
    record {
      begun = _;
      tested = _;
      first = c.in-Ok.ensures.evaluates c.args.point.now.catches;
      condition = c.in-Ok-may_test.ensures.tests c.args.point.now.catches;
      next = c.in-Ok-may_evaluate.ensures.evaluates c.args.point.now.catches;
    }
