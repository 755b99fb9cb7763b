use Rattle.std.proofs.Common.{IfOk, IfErr, map, ◌≡◌, ◌+◌}
use Rattle.std.proofs.Common.{List, [], ◌∷◌, ◌++◌}
use Rattle.limbo_tree.specs.View as source
use Rattle.limbo_types.specs.View.{view_ty}
use Rattle.limbo_typed.specs.View.{view_case_arm, view_alt_arm, view_pick_arm, view_handler_arm, heads_of, bodies_of}
use Rattle.limbo_heads.specs.Around.{view_around}
use Rattle.limbo_stmt_values.specs.limbo_stating.Stating.{StatesArms, OfCase, OfAlt, OfPick, OfHandler}
use Rattle.limbo_stmt_values.specs.limbo_stating.FailsToState.{FailsArms}
use Rattle.limbo_stmt_values.specs.Whys.{FailsFor}
use Rattle.limbo_stmts.specs.View.{view_point}
use Rattle.limbo_stmts.specs.Stated.{StatesArm, FailsArm}
use Rattle.limbo_stmts.proofs.+statements.Goals as goal
use Rattle.std.proofs.Common.{◌∙◌, ap, sym, refl, subst, map}
use Rattle.limbo_tree.specs.Stmts as tree
use Rattle.limbo_tree.specs.declared.stmt.Stmt as code_stmt
use Rattle.limbo_tree.specs.declared.stmt.CaseArm as code_case
use Rattle.limbo_tree.specs.declared.stmt.AltArm as code_alt
use Rattle.limbo_tree.specs.declared.stmt.PickArm as code_pick
use Rattle.limbo_tree.specs.declared.stmt.HandlerArm as code_handler
use Rattle.std.proofs.Common.{arith}
use Rattle.limbo_tree.proofs.Stmts.{view_stmt-Empty, view_stmt-Block, view_stmt-Declare, view_stmt-Eval, view_stmt-If, view_stmt-IfElse}
use Rattle.limbo_tree.proofs.Stmts.{view_stmt-While, view_stmt-Do, view_stmt-For, view_stmt-Case, view_stmt-Alt, view_stmt-Pick}
use Rattle.limbo_tree.proofs.Stmts.{view_stmt-Break, view_stmt-Continue, view_stmt-Return, view_stmt-Exit, view_stmt-Spawn, view_stmt-Raise}
use Rattle.limbo_typed.proofs.View as made_views
use Rattle.limbo_types.specs.Types.{Ty}
use Rattle.limbo_typed.specs.declared.stmt.TStmt as code_typed
use Rattle.limbo_typed.specs.declared.stmt.CaseArm as made_case
use Rattle.limbo_typed.specs.declared.stmt.AltArm as made_alt
use Rattle.limbo_typed.specs.declared.stmt.PickArm as made_pick
use Rattle.limbo_typed.specs.declared.stmt.HandlerArm as made_handler
use Rattle.limbo_typed.specs.View.{view_expr, view_stmt, view_stmts}
use Rattle.limbo_typed.specs.View.{view_alt_head}
use Rattle.limbo_context.specs.View.{view_context}
use Rattle.limbo_tree.specs.declared.stmt.Block.{out-Block}
use Rattle.limbo_tree.specs.declared.stmt.Handler.{out-Handler}
use Rattle.limbo_typed.specs.declared.expr.TExpr as code_expr
use Rattle.limbo_tree.specs.declared.name.Name as code_name
use Rattle.limbo_tree.specs.declared.stmt.Pattern as code_pattern
use Rattle.limbo_tree.specs.declared.stmt.HandlerPattern as code_handling
use Rattle.limbo_stmt_values.specs.limbo_stating.Cases.{ArePatterns, FailsPatterns}
use Rattle.limbo_stmt_values.specs.limbo_stating.Picks.{IsPickHead, HasNoVariant}
use Rattle.limbo_stmt_values.specs.limbo_stating.Handlers.{IsHandlerHead, FailsHandlerHead}
use Rattle.limbo_stmt_values.specs.limbo_stating.Reasons.{BadPick}
use Rattle.limbo_heads.specs.Starts.{view_pick_start, view_handler_start}
use Rattle.limbo_stmt_values.specs.limbo_local.Points.{Point}
use Rattle.limbo_stmt_values.specs.limbo_stating.Reasons.{Reason, ByPart}
use Rattle.limbo_stmt_values.specs.limbo_stating.Around.{Around, in_branch}
use Rattle.limbo_stmt_values.specs.limbo_stating.Stating.{States, StatesAll, StatesBlock}
use Rattle.limbo_stmt_values.specs.limbo_stating.FailsToState as fails
use Rattle.limbo_stmt_values.specs.limbo_stating.FailsToState.{FailsToState, FailsAll, FailsBlock, FailsHead}
use Rattle.limbo_stmt_values.proofs.Told.{reasons_weaker, type_is}
use Rattle.limbo_stmts.specs.Turns.{FailsForHead}
use Rattle.limbo_stmts.proofs.Told.{by_part, put, put_with, weaker}
use Rattle.limbo_stmts.proofs.Rows.{StatedSoFar, stated_more, stated_end, stated_fails, ArmedSoFar, armed_more, armed_end, armed_fails}
use Rattle.limbo_stmts.proofs.Nested.{for_fails, inside_fails, handlers_fail, head_fails, body_fails, arm_states}
use Rattle.limbo_stmts.proofs.Views.{view_stmts_is, block_is_plain, block_is_handled, case_arm_is, alt_arm_is, pick_arm_is, handler_arm_is}
use Rattle.limbo_stmts.proofs.Views.{case_arm_of, alt_arm_of, pick_arm_of, handler_arm_of, made_case_arm, made_alt_arm, made_pick_arm}
use Rattle.limbo_stmts.proofs.Views.{made_handler_arm}
use Rattle.limbo_heads.proofs.Naming.{entered_declares_nothing}

pub arms::alt_arm-returns-in-Err-alt_head-clause-refused : goal.arms::alt_arm-returns-in-Err-alt_head-clause-refused
arms::alt_arm-returns-in-Err-alt_head-clause-refused t c =
    reasons_weaker c.in-Err-alt_head.fault.why _ (FailsArm OfAlt (view_around c.args.around.now) (view_point c.args.point.now)
    (source.view_alt_arm c.args.arm.now))
    (λ k h. head_fails OfAlt (view_around c.args.around.now) (view_point c.args.point.now) (view_point c.enter.new.self)
    (source.view_alt_arm c.args.arm.now) (alt_arm_of c.args.arm.now) c.in-Ok.ensures.entered (alt_arm_is c.args.arm.now) k (h
    c.enter.new.self.catches)) c.in-Err-alt_head.ensures.refused

pub arms::alt_arm-returns-in-Err-state_all-clause-refused : goal.arms::alt_arm-returns-in-Err-state_all-clause-refused
arms::alt_arm-returns-in-Err-state_all-clause-refused t c =
    reasons_weaker c.in-Err-state_all.fault.why _ (FailsArm OfAlt (view_around c.args.around.now) (view_point c.args.point.now)
    (source.view_alt_arm c.args.arm.now))
    (λ k h. body_fails OfAlt (view_around c.args.around.now) (view_point c.args.point.now) (view_point c.enter.new.self)
    (source.view_alt_arm c.args.arm.now) (alt_arm_of c.args.arm.now) c.in-Ok.ensures.entered (alt_arm_is c.args.arm.now) (view_point
    record { context = c.enter.new.self.context; body = c.alt_head.new.body; catches = c.enter.new.self.catches }) (view_alt_head
    c.in-Ok-alt_head.head) k (c.in-Ok-alt_head.ensures.head c.enter.new.self.catches)
    (subst (λ (ss : List code_stmt.Stmt). FailsAll (view_around c.args.around.now) (view_point record {
      context =
          c.enter.new.self.context;
      body = c.alt_head.new.body;
      catches = c.enter.new.self.catches;
    }) (source.view_stmts ss) k)
    c.deref.ensures.value h)) c.in-Err-state_all.ensures.refused

pub arms::alt_arm-returns-in-Ok-state_all-clause-states : goal.arms::alt_arm-returns-in-Ok-state_all-clause-states
arms::alt_arm-returns-in-Ok-state_all-clause-states t c =
    arm_states OfAlt (view_around c.args.around.now) (view_point c.args.point.now) (view_point c.enter.new.self) (source.view_alt_arm
    c.args.arm.now) (alt_arm_of c.args.arm.now) c.in-Ok.ensures.entered (alt_arm_is c.args.arm.now) _ _ (view_point record {
      context =
          c.enter.new.self.context;
      body = c.alt_head.new.body;
      catches = c.enter.new.self.catches;
    }) (view_point c.state_all.new.point)
    (view_point c.leave.new.self)
    (made_alt_arm c.in-Ok-alt_head.head c.in-Ok-state_all.body) (c.in-Ok-alt_head.ensures.head c.enter.new.self.catches)
    (subst (λ (ss : List code_stmt.Stmt). StatesAll (view_around c.args.around.now) (view_point record {
      context =
          c.enter.new.self.context;
      body = c.alt_head.new.body;
      catches = c.enter.new.self.catches;
    }) (source.view_stmts ss) (view_stmts
    c.in-Ok-state_all.body.items)
    (view_point c.state_all.new.point)) c.deref.ensures.value c.in-Ok-state_all.ensures.states) c.leave.ensures

pub arms::alt_arms-returns-in-Err-clause-refused : goal.arms::alt_arms-returns-in-Err-clause-refused
arms::alt_arms-returns-in-Err-clause-refused t c =
    armed_fails OfAlt source.view_alt_arm view_alt_arm (view_around c.args.around.now) (view_point c.args.point.now) (view_point
    c.loop-arm.point) c.args.arms.now c.loop-arm.arm-index c.loop-arm.xs.items c.arm-item.result
    c.in-Err.fault.why c.loop-arm-test.true (subst (λ (a : code_alt.AltArm). FailsFor c.in-Err.fault.why (FailsArm OfAlt (view_around
    c.args.around.now) (view_point c.loop-arm.point) (source.view_alt_arm a)))
    c.arm-item.is c.in-Err.ensures.refused) c.loop-arm.invariant

pub arms::alt_arms-loop-arm-preserved : goal.arms::alt_arms-loop-arm-preserved
arms::alt_arms-loop-arm-preserved t c =
    subst (λ (xs : List made_alt.AltArm). ArmedSoFar OfAlt source.view_alt_arm view_alt_arm (view_around c.args.around.now) (view_point
    c.args.point.now) (view_point c.alt_arm.new.point) c.args.arms.now (c.loop-arm.arm-index + 1) xs)
    (sym c.in-Ok-push.ensures.items) (armed_more OfAlt source.view_alt_arm view_alt_arm (view_around c.args.around.now) (view_point
    c.args.point.now) (view_point c.loop-arm.point) (view_point c.alt_arm.new.point) c.args.arms.now c.loop-arm.arm-index
    c.loop-arm.xs.items c.arm-item.result c.in-Ok.x c.loop-arm-test.true (subst (λ (a : code_alt.AltArm). StatesArm OfAlt (view_around
    c.args.around.now) (view_point c.loop-arm.point) (source.view_alt_arm a)
    (view_alt_arm c.in-Ok.x) (view_point c.alt_arm.new.point)) c.arm-item.is c.in-Ok.ensures.states) c.loop-arm.invariant)

pub arms::alt_arms-returns-clause-states : goal.arms::alt_arms-returns-clause-states
arms::alt_arms-returns-clause-states t c =
    armed_end OfAlt source.view_alt_arm view_alt_arm (view_around c.args.around.now) (view_point c.args.point.now) (view_point
    c.loop-arm.point) c.args.arms.now c.loop-arm.arm-index c.loop-arm.xs.items c.loop-arm-test.false
    c.loop-arm.invariant

pub arms::case_arm-returns-in-Err-case_patterns-clause-refused : goal.arms::case_arm-returns-in-Err-case_patterns-clause-refused
arms::case_arm-returns-in-Err-case_patterns-clause-refused t c =
    reasons_weaker c.in-Err-case_patterns.fault.why _ (FailsArm (OfCase (view_ty c.args.t.now)) (view_around c.args.around.now)
    (view_point c.args.point.now) (source.view_case_arm c.args.arm.now))
    (λ k h. head_fails (OfCase (view_ty c.args.t.now)) (view_around c.args.around.now) (view_point c.args.point.now) (view_point
    c.enter.new.self) (source.view_case_arm c.args.arm.now) (case_arm_of c.args.arm.now) c.in-Ok.ensures.entered (case_arm_is
    c.args.arm.now) k (subst (λ (ps : List code_pattern.Pattern). FailsPatterns (view_ty c.args.t.now) (view_point c.enter.new.self) (map
    source.view_pattern ps) k) c.deref.ensures.value (h c.enter.new.self.catches))) c.in-Err-case_patterns.ensures.refused

pub arms::case_arm-returns-in-Err-state_all-clause-refused : goal.arms::case_arm-returns-in-Err-state_all-clause-refused
arms::case_arm-returns-in-Err-state_all-clause-refused t c =
    reasons_weaker c.in-Err-state_all.fault.why _ (FailsArm (OfCase (view_ty c.args.t.now)) (view_around c.args.around.now) (view_point
    c.args.point.now) (source.view_case_arm c.args.arm.now))
    (λ k h. body_fails (OfCase (view_ty c.args.t.now)) (view_around c.args.around.now) (view_point c.args.point.now) (view_point
    c.enter.new.self) (source.view_case_arm c.args.arm.now) (case_arm_of c.args.arm.now) c.in-Ok.ensures.entered (case_arm_is
    c.args.arm.now) (view_point record {
      context = c.enter.new.self.context;
      body = c.case_patterns.new.body;
      catches =
          c.enter.new.self.catches;
    }) c.in-Ok-case_patterns.patterns.items k (subst (λ (ps : List code_pattern.Pattern). ArePatterns (view_ty
    c.args.t.now) (view_point c.enter.new.self) (map source.view_pattern ps) c.in-Ok-case_patterns.patterns.items (view_point record {
      context = c.enter.new.self.context;
      body = c.case_patterns.new.body;
      catches = c.enter.new.self.catches;
    })) c.deref.ensures.value
    (c.in-Ok-case_patterns.ensures.patterns c.enter.new.self.catches))
    (subst (λ (ss : List code_stmt.Stmt). FailsAll (view_around c.args.around.now) (view_point record {
      context =
          c.enter.new.self.context;
      body = c.case_patterns.new.body;
      catches = c.enter.new.self.catches;
    }) (source.view_stmts ss) k)
    c.deref-in-Ok-case_patterns.ensures.value h)) c.in-Err-state_all.ensures.refused

pub arms::case_arm-returns-in-Ok-state_all-clause-states : goal.arms::case_arm-returns-in-Ok-state_all-clause-states
arms::case_arm-returns-in-Ok-state_all-clause-states t c =
    arm_states (OfCase (view_ty c.args.t.now)) (view_around c.args.around.now) (view_point c.args.point.now) (view_point
    c.enter.new.self) (source.view_case_arm c.args.arm.now) (case_arm_of c.args.arm.now) c.in-Ok.ensures.entered (case_arm_is
    c.args.arm.now) _ _ (view_point record {
      context = c.enter.new.self.context;
      body = c.case_patterns.new.body;
      catches =
          c.enter.new.self.catches;
    }) (view_point c.state_all.new.point) (view_point c.leave.new.self)
    (made_case_arm c.in-Ok-case_patterns.patterns c.in-Ok-state_all.body) (subst (λ (ps : List code_pattern.Pattern). ArePatterns
    (view_ty c.args.t.now) (view_point c.enter.new.self) (map source.view_pattern ps) c.in-Ok-case_patterns.patterns.items (view_point
    record { context = c.enter.new.self.context; body = c.case_patterns.new.body; catches = c.enter.new.self.catches }))
    c.deref.ensures.value (c.in-Ok-case_patterns.ensures.patterns c.enter.new.self.catches))
    (subst (λ (ss : List code_stmt.Stmt). StatesAll (view_around c.args.around.now) (view_point record {
      context =
          c.enter.new.self.context;
      body = c.case_patterns.new.body;
      catches = c.enter.new.self.catches;
    }) (source.view_stmts ss) (view_stmts
    c.in-Ok-state_all.body.items)
    (view_point c.state_all.new.point)) c.deref-in-Ok-case_patterns.ensures.value c.in-Ok-state_all.ensures.states) c.leave.ensures

pub arms::case_arms-returns-in-Err-clause-refused : goal.arms::case_arms-returns-in-Err-clause-refused
arms::case_arms-returns-in-Err-clause-refused t c =
    armed_fails (OfCase (view_ty c.args.t.now)) source.view_case_arm view_case_arm (view_around c.args.around.now) (view_point
    c.args.point.now) (view_point c.loop-arm.point) c.args.arms.now c.loop-arm.arm-index c.loop-arm.xs.items c.arm-item.result
    c.in-Err.fault.why c.loop-arm-test.true (subst (λ (a : code_case.CaseArm). FailsFor c.in-Err.fault.why (FailsArm (OfCase (view_ty
    c.args.t.now)) (view_around c.args.around.now) (view_point c.loop-arm.point) (source.view_case_arm a)))
    c.arm-item.is c.in-Err.ensures.refused) c.loop-arm.invariant

pub arms::case_arms-loop-arm-preserved : goal.arms::case_arms-loop-arm-preserved
arms::case_arms-loop-arm-preserved t c =
    subst (λ (xs : List made_case.CaseArm). ArmedSoFar (OfCase (view_ty c.args.t.now)) source.view_case_arm view_case_arm (view_around
    c.args.around.now) (view_point c.args.point.now) (view_point c.case_arm.new.point) c.args.arms.now (c.loop-arm.arm-index + 1) xs)
    (sym c.in-Ok-push.ensures.items) (armed_more (OfCase (view_ty c.args.t.now)) source.view_case_arm view_case_arm (view_around
    c.args.around.now) (view_point c.args.point.now) (view_point c.loop-arm.point) (view_point c.case_arm.new.point) c.args.arms.now
    c.loop-arm.arm-index
    c.loop-arm.xs.items c.arm-item.result c.in-Ok.x c.loop-arm-test.true (subst (λ (a : code_case.CaseArm). StatesArm (OfCase (view_ty
    c.args.t.now)) (view_around c.args.around.now) (view_point c.loop-arm.point) (source.view_case_arm a)
    (view_case_arm c.in-Ok.x) (view_point c.case_arm.new.point)) c.arm-item.is c.in-Ok.ensures.states) c.loop-arm.invariant)

pub arms::case_arms-returns-clause-states : goal.arms::case_arms-returns-clause-states
arms::case_arms-returns-clause-states t c =
    armed_end (OfCase (view_ty c.args.t.now)) source.view_case_arm view_case_arm (view_around c.args.around.now) (view_point
    c.args.point.now) (view_point c.loop-arm.point) c.args.arms.now c.loop-arm.arm-index c.loop-arm.xs.items c.loop-arm-test.false
    c.loop-arm.invariant

pub arms::handler_arm-handler_head-requires : goal.arms::handler_arm-handler_head-requires
arms::handler_arm-handler_head-requires t c =
    record { entered = entered_declares_nothing _ _ (ap (λ (p : Point). p.body.scopes) c.in-Ok.ensures.entered) }

pub arms::handler_arm-returns-in-Err-handler_head-clause-refused : goal.arms::handler_arm-returns-in-Err-handler_head-clause-refused
arms::handler_arm-returns-in-Err-handler_head-clause-refused t c =
    by_part c.part_fault.result.why c.in-Err-handler_head.fault.cause _ (FailsArm (OfHandler (source.name_of c.args.name.now))
    (view_around c.args.around.now) (view_point c.args.point.now) (source.view_handler_arm c.args.arm.now)) c.part_fault.ensures
    (λ k h. head_fails (OfHandler (source.name_of c.args.name.now)) (view_around c.args.around.now) (view_point c.args.point.now)
    (view_point c.enter.new.self) (source.view_handler_arm c.args.arm.now) (handler_arm_of c.args.arm.now) c.in-Ok.ensures.entered
    (handler_arm_is c.args.arm.now) (ByPart k) (
      k,
      subst (λ (ps : List code_handling.HandlerPattern). FailsHandlerHead (view_point
          c.enter.new.self) (map source.view_handler_pattern ps) (source.name_of c.args.name.now) k) c.deref.ensures.value (h
          c.enter.new.self.catches),
      refl,
    )) c.in-Err-handler_head.ensures.refused

pub arms::handler_arm-returns-in-Err-state_all-clause-refused : goal.arms::handler_arm-returns-in-Err-state_all-clause-refused
arms::handler_arm-returns-in-Err-state_all-clause-refused t c =
    reasons_weaker c.in-Err-state_all.fault.why _ (FailsArm (OfHandler (source.name_of c.args.name.now)) (view_around c.args.around.now)
    (view_point c.args.point.now) (source.view_handler_arm c.args.arm.now))
    (λ k h. body_fails (OfHandler (source.name_of c.args.name.now)) (view_around c.args.around.now) (view_point c.args.point.now)
    (view_point c.enter.new.self) (source.view_handler_arm c.args.arm.now) (handler_arm_of c.args.arm.now) c.in-Ok.ensures.entered
    (handler_arm_is c.args.arm.now) (view_point record {
      context = c.enter.new.self.context;
      body = c.handler_head.new.body;
      catches =
          c.enter.new.self.catches;
    }) (view_handler_start c.in-Ok-handler_head.field-0) k (subst (λ (ps : List code_handling.HandlerPattern).
    IsHandlerHead (source.name_of c.args.name.now) (view_point c.enter.new.self) (map source.view_handler_pattern ps) (view_handler_start
    c.in-Ok-handler_head.field-0) (view_point record {
      context = c.enter.new.self.context;
      body = c.handler_head.new.body;
      catches =
          c.enter.new.self.catches;
    })) c.deref.ensures.value (c.in-Ok-handler_head.ensures.head c.enter.new.self.catches))
    (subst (λ (ss : List code_stmt.Stmt). FailsAll (view_around c.args.around.now) (view_point record {
      context =
          c.enter.new.self.context;
      body = c.handler_head.new.body;
      catches = c.enter.new.self.catches;
    }) (source.view_stmts ss) k)
    c.deref-in-Ok-handler_head.ensures.value h)) c.in-Err-state_all.ensures.refused

pub arms::handler_arm-returns-in-Ok-state_all-clause-states : goal.arms::handler_arm-returns-in-Ok-state_all-clause-states
arms::handler_arm-returns-in-Ok-state_all-clause-states t c =
    arm_states (OfHandler (source.name_of c.args.name.now)) (view_around c.args.around.now) (view_point c.args.point.now) (view_point
    c.enter.new.self) (source.view_handler_arm c.args.arm.now) (handler_arm_of c.args.arm.now) c.in-Ok.ensures.entered (handler_arm_is
    c.args.arm.now) _ _ (view_point record {
      context = c.enter.new.self.context;
      body = c.handler_head.new.body;
      catches =
          c.enter.new.self.catches;
    }) (view_point c.state_all.new.point) (view_point c.leave.new.self)
    (made_handler_arm c.in-Ok-handler_head.field-0.patterns c.in-Ok-handler_head.field-0.variable c.in-Ok-state_all.body) (subst (λ (ps :
    List code_handling.HandlerPattern). IsHandlerHead (source.name_of c.args.name.now) (view_point c.enter.new.self) (map
    source.view_handler_pattern ps) (view_handler_start c.in-Ok-handler_head.field-0) (view_point record {
      context =
          c.enter.new.self.context;
      body = c.handler_head.new.body;
      catches = c.enter.new.self.catches;
    })) c.deref.ensures.value
    (c.in-Ok-handler_head.ensures.head c.enter.new.self.catches))
    (subst (λ (ss : List code_stmt.Stmt). StatesAll (view_around c.args.around.now) (view_point record {
      context =
          c.enter.new.self.context;
      body = c.handler_head.new.body;
      catches = c.enter.new.self.catches;
    }) (source.view_stmts ss) (view_stmts
    c.in-Ok-state_all.body.items)
    (view_point c.state_all.new.point)) c.deref-in-Ok-handler_head.ensures.value c.in-Ok-state_all.ensures.states) c.leave.ensures

pub arms::handler_arms-returns-in-Err-clause-refused : goal.arms::handler_arms-returns-in-Err-clause-refused
arms::handler_arms-returns-in-Err-clause-refused t c =
    armed_fails (OfHandler (source.name_of c.args.name.now)) source.view_handler_arm view_handler_arm (view_around c.args.around.now)
    (view_point c.args.point.now) (view_point c.loop-arm.point) c.args.arms.now c.loop-arm.arm-index c.loop-arm.xs.items c.arm-item.result
    c.in-Err.fault.why c.loop-arm-test.true (subst (λ (a : code_handler.HandlerArm). FailsFor c.in-Err.fault.why (FailsArm (OfHandler
    (source.name_of c.args.name.now)) (view_around c.args.around.now) (view_point c.loop-arm.point) (source.view_handler_arm a)))
    c.arm-item.is c.in-Err.ensures.refused) c.loop-arm.invariant

pub arms::handler_arms-loop-arm-preserved : goal.arms::handler_arms-loop-arm-preserved
arms::handler_arms-loop-arm-preserved t c =
    subst (λ (xs : List made_handler.HandlerArm). ArmedSoFar (OfHandler (source.name_of c.args.name.now)) source.view_handler_arm
    view_handler_arm (view_around c.args.around.now) (view_point c.args.point.now) (view_point c.handler_arm.new.point) c.args.arms.now
    (c.loop-arm.arm-index + 1) xs)
    (sym c.in-Ok-push.ensures.items) (armed_more (OfHandler (source.name_of c.args.name.now)) source.view_handler_arm view_handler_arm
    (view_around c.args.around.now) (view_point c.args.point.now) (view_point c.loop-arm.point) (view_point c.handler_arm.new.point)
    c.args.arms.now c.loop-arm.arm-index
    c.loop-arm.xs.items c.arm-item.result c.in-Ok.x c.loop-arm-test.true (subst (λ (a : code_handler.HandlerArm). StatesArm (OfHandler
    (source.name_of c.args.name.now)) (view_around c.args.around.now) (view_point c.loop-arm.point) (source.view_handler_arm a)
    (view_handler_arm c.in-Ok.x) (view_point c.handler_arm.new.point)) c.arm-item.is c.in-Ok.ensures.states) c.loop-arm.invariant)

pub arms::handler_arms-returns-clause-states : goal.arms::handler_arms-returns-clause-states
arms::handler_arms-returns-clause-states t c =
    armed_end (OfHandler (source.name_of c.args.name.now)) source.view_handler_arm view_handler_arm (view_around c.args.around.now)
    (view_point c.args.point.now) (view_point c.loop-arm.point) c.args.arms.now c.loop-arm.arm-index c.loop-arm.xs.items
    c.loop-arm-test.false
    c.loop-arm.invariant

pub arms::pick_arm-pick_head-requires : goal.arms::pick_arm-pick_head-requires
arms::pick_arm-pick_head-requires t c =
    record { entered = entered_declares_nothing _ _ (ap (λ (p : Point). p.body.scopes) c.in-Ok.ensures.entered) }

pub arms::pick_arm-returns-in-Err-pick_head-clause-refused : goal.arms::pick_arm-returns-in-Err-pick_head-clause-refused
arms::pick_arm-returns-in-Err-pick_head-clause-refused t c =
    reasons_weaker c.in-Err-pick_head.fault.why _ (FailsArm (OfPick c.args.name.now c.args.adt) (view_around c.args.around.now)
    (view_point c.args.point.now) (source.view_pick_arm c.args.arm.now))
    (λ k h. head_fails (OfPick c.args.name.now c.args.adt) (view_around c.args.around.now) (view_point c.args.point.now) (view_point
    c.enter.new.self) (source.view_pick_arm c.args.arm.now) (pick_arm_of c.args.arm.now) c.in-Ok.ensures.entered (pick_arm_is
    c.args.arm.now) k (subst (λ (ns : List code_name.Name). HasNoVariant (view_context c.enter.new.self.context) c.args.adt
    (source.names_of ns) × (k ≡ BadPick)) c.deref.ensures.value (h c.enter.new.self.catches))) c.in-Err-pick_head.ensures.refused

pub arms::pick_arm-returns-in-Err-state_all-clause-refused : goal.arms::pick_arm-returns-in-Err-state_all-clause-refused
arms::pick_arm-returns-in-Err-state_all-clause-refused t c =
    reasons_weaker c.in-Err-state_all.fault.why _ (FailsArm (OfPick c.args.name.now c.args.adt) (view_around c.args.around.now)
    (view_point c.args.point.now) (source.view_pick_arm c.args.arm.now))
    (λ k h. body_fails (OfPick c.args.name.now c.args.adt) (view_around c.args.around.now) (view_point c.args.point.now) (view_point
    c.enter.new.self) (source.view_pick_arm c.args.arm.now) (pick_arm_of c.args.arm.now) c.in-Ok.ensures.entered (pick_arm_is
    c.args.arm.now) (view_point record {
      context = c.enter.new.self.context;
      body = c.pick_head.new.body;
      catches =
          c.enter.new.self.catches;
    }) (view_pick_start c.in-Ok-pick_head.field-0) k (subst (λ (ns : List code_name.Name). IsPickHead
    c.args.name.now c.args.adt (view_point c.enter.new.self) (source.names_of ns) (view_pick_start c.in-Ok-pick_head.field-0) (view_point
    record { context = c.enter.new.self.context; body = c.pick_head.new.body; catches = c.enter.new.self.catches }))
    c.deref.ensures.value (c.in-Ok-pick_head.ensures.head c.enter.new.self.catches))
    (subst (λ (ss : List code_stmt.Stmt). FailsAll (view_around c.args.around.now) (view_point record {
      context =
          c.enter.new.self.context;
      body = c.pick_head.new.body;
      catches = c.enter.new.self.catches;
    }) (source.view_stmts ss) k)
    c.deref-in-Ok-pick_head.ensures.value h)) c.in-Err-state_all.ensures.refused

pub arms::pick_arm-returns-in-Ok-state_all-clause-states : goal.arms::pick_arm-returns-in-Ok-state_all-clause-states
arms::pick_arm-returns-in-Ok-state_all-clause-states t c =
    arm_states (OfPick c.args.name.now c.args.adt) (view_around c.args.around.now) (view_point c.args.point.now) (view_point
    c.enter.new.self) (source.view_pick_arm c.args.arm.now) (pick_arm_of c.args.arm.now) c.in-Ok.ensures.entered (pick_arm_is
    c.args.arm.now) _ _ (view_point record {
      context = c.enter.new.self.context;
      body = c.pick_head.new.body;
      catches =
          c.enter.new.self.catches;
    }) (view_point c.state_all.new.point) (view_point c.leave.new.self)
    (made_pick_arm c.in-Ok-pick_head.field-0.variants c.in-Ok-pick_head.field-0.variable c.in-Ok-state_all.body) (subst (λ (ns : List
    code_name.Name). IsPickHead c.args.name.now c.args.adt (view_point c.enter.new.self) (source.names_of ns) (view_pick_start
    c.in-Ok-pick_head.field-0) (view_point record {
      context = c.enter.new.self.context;
      body = c.pick_head.new.body;
      catches =
          c.enter.new.self.catches;
    })) c.deref.ensures.value (c.in-Ok-pick_head.ensures.head c.enter.new.self.catches))
    (subst (λ (ss : List code_stmt.Stmt). StatesAll (view_around c.args.around.now) (view_point record {
      context =
          c.enter.new.self.context;
      body = c.pick_head.new.body;
      catches = c.enter.new.self.catches;
    }) (source.view_stmts ss) (view_stmts
    c.in-Ok-state_all.body.items)
    (view_point c.state_all.new.point)) c.deref-in-Ok-pick_head.ensures.value c.in-Ok-state_all.ensures.states) c.leave.ensures

pub arms::pick_arms-returns-in-Err-clause-refused : goal.arms::pick_arms-returns-in-Err-clause-refused
arms::pick_arms-returns-in-Err-clause-refused t c =
    armed_fails (OfPick c.args.name.now c.args.adt) source.view_pick_arm view_pick_arm (view_around c.args.around.now) (view_point
    c.args.point.now) (view_point c.loop-arm.point) c.args.arms.now c.loop-arm.arm-index c.loop-arm.xs.items c.arm-item.result
    c.in-Err.fault.why c.loop-arm-test.true (subst (λ (a : code_pick.PickArm). FailsFor c.in-Err.fault.why (FailsArm (OfPick
    c.args.name.now c.args.adt) (view_around c.args.around.now) (view_point c.loop-arm.point) (source.view_pick_arm a)))
    c.arm-item.is c.in-Err.ensures.refused) c.loop-arm.invariant

pub arms::pick_arms-loop-arm-preserved : goal.arms::pick_arms-loop-arm-preserved
arms::pick_arms-loop-arm-preserved t c =
    subst (λ (xs : List made_pick.PickArm). ArmedSoFar (OfPick c.args.name.now c.args.adt) source.view_pick_arm view_pick_arm
    (view_around c.args.around.now) (view_point c.args.point.now) (view_point c.pick_arm.new.point) c.args.arms.now (c.loop-arm.arm-index
    + 1) xs)
    (sym c.in-Ok-push.ensures.items) (armed_more (OfPick c.args.name.now c.args.adt) source.view_pick_arm view_pick_arm (view_around
    c.args.around.now) (view_point c.args.point.now) (view_point c.loop-arm.point) (view_point c.pick_arm.new.point) c.args.arms.now
    c.loop-arm.arm-index
    c.loop-arm.xs.items c.arm-item.result c.in-Ok.x c.loop-arm-test.true (subst (λ (a : code_pick.PickArm). StatesArm (OfPick
    c.args.name.now c.args.adt) (view_around c.args.around.now) (view_point c.loop-arm.point) (source.view_pick_arm a)
    (view_pick_arm c.in-Ok.x) (view_point c.pick_arm.new.point)) c.arm-item.is c.in-Ok.ensures.states) c.loop-arm.invariant)

pub arms::pick_arms-returns-clause-states : goal.arms::pick_arms-returns-clause-states
arms::pick_arms-returns-clause-states t c =
    armed_end (OfPick c.args.name.now c.args.adt) source.view_pick_arm view_pick_arm (view_around c.args.around.now) (view_point
    c.args.point.now) (view_point c.loop-arm.point) c.args.arms.now c.loop-arm.arm-index c.loop-arm.xs.items c.loop-arm-test.false
    c.loop-arm.invariant

pub blocks::block-returns-in-None-clause-states : goal.blocks::block-returns-in-None-clause-states
blocks::block-returns-in-None-clause-states t c =
    subst (λ (b : tree.Block). IfOk c.plain.result (λ z. StatesBlock (view_around c.args.around.now) (view_point c.args.point.now) b
    (view_stmt z.value) (view_point c.plain.new.point)))
    (ap (λ (ss : List code_stmt.Stmt). tree.Plain (source.view_stmts ss)) c.deref.ensures.value ∙ sym (block_is_plain c.args.b.now
    c.in-None.is)) c.plain.ensures.states

pub blocks::block-returns-in-None-clause-refused : goal.blocks::block-returns-in-None-clause-refused
blocks::block-returns-in-None-clause-refused t c =
    subst (λ (b : tree.Block). IfErr c.plain.result (λ f. FailsFor f.why (FailsBlock (view_around c.args.around.now) (view_point
    c.args.point.now) b)))
    (ap (λ (ss : List code_stmt.Stmt). tree.Plain (source.view_stmts ss)) c.deref.ensures.value ∙ sym (block_is_plain c.args.b.now
    c.in-None.is)) c.plain.ensures.refused

pub blocks::block-returns-in-Some-clause-states : goal.blocks::block-returns-in-Some-clause-states
blocks::block-returns-in-Some-clause-states t c =
    subst (λ (b : tree.Block). IfOk c.handled.result (λ z. StatesBlock (view_around c.args.around.now) (view_point c.args.point.now) b
    (view_stmt z.value) (view_point c.handled.new.point)))
    (ap (λ (ss : List code_stmt.Stmt). tree.Handled (source.view_stmts ss) (source.name_of (out-Handler c.in-Some.handler).name)
    (source.arms_of (map source.view_handler_arm c.deref-in-Some-2.result.now))) c.deref-in-Some.ensures.value
    ∙ ap (λ (arms : List code_handler.HandlerArm). tree.Handled (source.view_stmts (out-Block c.args.b.now).statements.items)
    (source.name_of (out-Handler c.in-Some.handler).name)
    (source.arms_of (map source.view_handler_arm arms))) c.deref-in-Some-2.ensures.value
    ∙ sym (block_is_handled c.args.b.now c.in-Some.handler c.in-Some.is)) c.handled.ensures.states

pub blocks::block-returns-in-Some-clause-refused : goal.blocks::block-returns-in-Some-clause-refused
blocks::block-returns-in-Some-clause-refused t c =
    subst (λ (b : tree.Block). IfErr c.handled.result (λ f. FailsFor f.why (FailsBlock (view_around c.args.around.now) (view_point
    c.args.point.now) b)))
    (ap (λ (ss : List code_stmt.Stmt). tree.Handled (source.view_stmts ss) (source.name_of (out-Handler c.in-Some.handler).name)
    (source.arms_of (map source.view_handler_arm c.deref-in-Some-2.result.now))) c.deref-in-Some.ensures.value
    ∙ ap (λ (arms : List code_handler.HandlerArm). tree.Handled (source.view_stmts (out-Block c.args.b.now).statements.items)
    (source.name_of (out-Handler c.in-Some.handler).name)
    (source.arms_of (map source.view_handler_arm arms))) c.deref-in-Some-2.ensures.value
    ∙ sym (block_is_handled c.args.b.now c.in-Some.handler c.in-Some.is)) c.handled.ensures.refused

pub blocks::handled-returns-in-Err-inside-clause-refused : goal.blocks::handled-returns-in-Err-inside-clause-refused
blocks::handled-returns-in-Err-inside-clause-refused t c =
    reasons_weaker c.in-Err-inside.fault.why _ (FailsBlock (view_around c.args.around.now) (view_point c.args.point.now) (tree.Handled
    (source.view_stmts c.args.ss.now) (source.name_of c.args.name.now) (source.arms_of (map source.view_handler_arm c.args.arms.now))))
    (λ k h. inside_fails (view_around c.args.around.now) (view_point c.args.point.now) _ (source.view_stmts c.args.ss.now)
    (source.name_of c.args.name.now) (source.arms_of (map source.view_handler_arm c.args.arms.now)) c.in-Ok.ensures.added k h)
    c.in-Err-inside.ensures.refused

pub blocks::handled-returns-in-Err-handlers-clause-refused : goal.blocks::handled-returns-in-Err-handlers-clause-refused
blocks::handled-returns-in-Err-handlers-clause-refused t c =
    reasons_weaker c.in-Err-handlers.fault.why _ (FailsBlock (view_around c.args.around.now) (view_point c.args.point.now) (tree.Handled
    (source.view_stmts c.args.ss.now) (source.name_of c.args.name.now) (source.arms_of (map source.view_handler_arm c.args.arms.now))))
    (λ k h. handlers_fail (view_around c.args.around.now) (view_point c.args.point.now) _ (source.view_stmts c.args.ss.now)
    (source.name_of c.args.name.now) (source.arms_of (map source.view_handler_arm c.args.arms.now)) c.in-Ok.ensures.added _ _ _ k
    c.in-Ok.ensures.number c.in-Ok-inside.ensures.states h) c.in-Err-handlers.ensures.refused

pub blocks::plain-returns-in-Err-clause-refused : goal.blocks::plain-returns-in-Err-clause-refused
blocks::plain-returns-in-Err-clause-refused t c =
    reasons_weaker c.in-Err.fault.why _ (FailsBlock (view_around c.args.around.now) (view_point c.args.point.now) (tree.Plain
    (source.view_stmts c.args.ss.now)))
    (λ k h. fails.in_plain _ _ _ k h) c.in-Err.ensures.refused

pub branches::alt_of-returns-in-Err-alt_arms-clause-refused : goal.branches::alt_of-returns-in-Err-alt_arms-clause-refused
branches::alt_of-returns-in-Err-alt_arms-clause-refused t c =
    reasons_weaker c.in-Err-alt_arms.fault.why _ (FailsToState (view_around c.args.around.now) (view_point c.args.point.now) (tree.Alt
    (source.name_of c.args.label.now) (source.arms_of (map source.view_alt_arm c.args.arms.now))))
    (λ k h. fails.alt_arm _ _ _ _ k (subst (λ (v : Around). FailsArms OfAlt v (view_point c.args.point.now) (source.arms_of (map
    source.view_alt_arm c.args.arms.now)) k) c.in-Ok.ensures h)) c.in-Err-alt_arms.ensures.refused

pub branches::alt_of-returns-clause-refused : goal.branches::alt_of-returns-clause-refused
branches::alt_of-returns-clause-refused t c =
    weaker c.made_alt.result _ (FailsToState (view_around c.args.around.now) (view_point c.args.point.now) (tree.Alt (source.name_of
    c.args.label.now) (source.arms_of (map source.view_alt_arm c.args.arms.now))))
    (λ k h. subst (λ (z : Reason). FailsToState (view_around c.args.around.now) (view_point c.args.point.now) (tree.Alt (source.name_of
    c.args.label.now) (source.arms_of (map source.view_alt_arm c.args.arms.now))) z) (sym h.0) (fails.alt_stars _ _ (view_point
    c.alt_arms.new.point) _ _ (heads_of (map view_alt_arm c.in-Ok-alt_arms.arms.items)) (bodies_of (map view_alt_arm
    c.in-Ok-alt_arms.arms.items)) (subst (λ (v : Around). StatesArms OfAlt v (view_point c.args.point.now) (source.arms_of (map
    source.view_alt_arm c.args.arms.now)) (heads_of (map view_alt_arm c.in-Ok-alt_arms.arms.items)) (bodies_of (map view_alt_arm
    c.in-Ok-alt_arms.arms.items)) (view_point c.alt_arms.new.point)) c.in-Ok.ensures c.in-Ok-alt_arms.ensures.states) h.1))
    c.made_alt.ensures.refused

pub branches::case_of-returns-in-Err-clause-refused : goal.branches::case_of-returns-in-Err-clause-refused
branches::case_of-returns-in-Err-clause-refused t c =
    by_part c.part_fault.result.why c.in-Err.fault.cause _ (FailsToState (view_around c.args.around.now) (view_point c.args.point.now)
    (tree.Case (source.name_of c.args.label.now) (source.view_expr c.args.value.now) (source.arms_of (map source.view_case_arm
    c.args.arms.now)))) c.part_fault.ensures
    (λ k h. fails.case_value _ _ _ _ _ k (h c.args.point.now.catches)) c.in-Err.ensures.refused

pub branches::case_of-returns-in-Err-case_arms-clause-refused : goal.branches::case_of-returns-in-Err-case_arms-clause-refused
branches::case_of-returns-in-Err-case_arms-clause-refused t c =
    reasons_weaker c.in-Err-case_arms.fault.why _ (FailsToState (view_around c.args.around.now) (view_point c.args.point.now) (tree.Case
    (source.name_of c.args.label.now) (source.view_expr c.args.value.now) (source.arms_of (map source.view_case_arm c.args.arms.now))))
    (λ k h. fails.case_arm _ _ (view_point record {
      context = c.args.point.now.context;
      body = c.choose.new.body;
      catches =
          c.args.point.now.catches;
    }) _ _ _ _ k (c.in-Ok.ensures.chooses c.args.point.now.catches)
    (subst (λ (t : Ty). FailsArms (OfCase t) (in_branch (source.name_of c.args.label.now) (view_around c.args.around.now)) (view_point
    record { context = c.args.point.now.context; body = c.choose.new.body; catches = c.args.point.now.catches }) (source.arms_of (map
    source.view_case_arm c.args.arms.now)) k) (ap (λ (x : code_expr.TExpr). view_ty x.ty) c.deref.ensures ∙ type_is c.in-Ok.x.value)
    (subst (λ (v : Around). FailsArms (OfCase (view_ty c.deref.result.now.ty)) v (view_point record {
      context = c.args.point.now.context;
      body = c.choose.new.body;
      catches = c.args.point.now.catches;
    }) (source.arms_of (map source.view_case_arm c.args.arms.now)) k)
    c.in-Ok-in_branch.ensures h))) c.in-Err-case_arms.ensures.refused

pub branches::case_of-returns-in-Ok-case_arms-clause-states : goal.branches::case_of-returns-in-Ok-case_arms-clause-states
branches::case_of-returns-in-Ok-case_arms-clause-states t c =
    put_with c.made_case.result _ _ (λ z. States (view_around c.args.around.now) (view_point c.args.point.now) (tree.Case (source.name_of
    c.args.label.now) (source.view_expr c.args.value.now) (source.arms_of (map source.view_case_arm c.args.arms.now))) z (view_point
    c.case_arms.new.point))
    (λ apart. (
      view_expr c.in-Ok.x.value,
      (heads_of (map view_case_arm c.in-Ok-case_arms.arms.items)),
      (bodies_of (map view_case_arm c.in-Ok-case_arms.arms.items)),
      (view_point record { context = c.args.point.now.context; body = c.choose.new.body; catches = c.args.point.now.catches }),
      (c.in-Ok.ensures.chooses c.args.point.now.catches),
      (subst (λ (t : Ty). StatesArms (OfCase t) (in_branch (source.name_of c.args.label.now) (view_around c.args.around.now)) (view_point
          record { context = c.args.point.now.context; body = c.choose.new.body; catches = c.args.point.now.catches }) (source.arms_of (map
          source.view_case_arm c.args.arms.now)) (heads_of (map view_case_arm c.in-Ok-case_arms.arms.items)) (bodies_of (map view_case_arm
          c.in-Ok-case_arms.arms.items)) (view_point c.case_arms.new.point)) (ap (λ (x : code_expr.TExpr). view_ty x.ty) c.deref.ensures ∙
          type_is c.in-Ok.x.value)
          (subst (λ (v : Around). StatesArms (OfCase (view_ty c.deref.result.now.ty)) v (view_point record {
            context =
                c.args.point.now.context;
            body = c.choose.new.body;
            catches = c.args.point.now.catches;
          }) (source.arms_of (map
          source.view_case_arm c.args.arms.now)) (heads_of (map view_case_arm c.in-Ok-case_arms.arms.items)) (bodies_of (map
          view_case_arm c.in-Ok-case_arms.arms.items)) (view_point c.case_arms.new.point)) c.in-Ok-in_branch.ensures
          c.in-Ok-case_arms.ensures.states)),
      apart,
      refl,
    )) c.made_case.ensures.made c.made_case.ensures.apart

pub branches::case_of-returns-in-Ok-case_arms-clause-refused : goal.branches::case_of-returns-in-Ok-case_arms-clause-refused
branches::case_of-returns-in-Ok-case_arms-clause-refused t c =
    weaker c.made_case.result _ (FailsToState (view_around c.args.around.now) (view_point c.args.point.now) (tree.Case (source.name_of
    c.args.label.now) (source.view_expr c.args.value.now) (source.arms_of (map source.view_case_arm c.args.arms.now))))
    (λ k h. subst (λ (z : Reason). FailsToState (view_around c.args.around.now) (view_point c.args.point.now) (tree.Case (source.name_of
    c.args.label.now) (source.view_expr c.args.value.now) (source.arms_of (map source.view_case_arm c.args.arms.now))) z) (sym h.0)
    (fails.case_overlaps _ _ (view_point record {
      context = c.args.point.now.context;
      body = c.choose.new.body;
      catches =
          c.args.point.now.catches;
    }) (view_point c.case_arms.new.point) _ _ _ _ (heads_of (map view_case_arm c.in-Ok-case_arms.arms.items))
    (bodies_of (map view_case_arm c.in-Ok-case_arms.arms.items)) (c.in-Ok.ensures.chooses c.args.point.now.catches) (subst (λ (t : Ty).
    StatesArms (OfCase t) (in_branch (source.name_of c.args.label.now) (view_around c.args.around.now)) (view_point record {
      context =
          c.args.point.now.context;
      body = c.choose.new.body;
      catches = c.args.point.now.catches;
    }) (source.arms_of (map source.view_case_arm
    c.args.arms.now)) (heads_of (map view_case_arm c.in-Ok-case_arms.arms.items)) (bodies_of (map view_case_arm
    c.in-Ok-case_arms.arms.items)) (view_point c.case_arms.new.point)) (ap (λ (x : code_expr.TExpr). view_ty x.ty) c.deref.ensures ∙
    type_is c.in-Ok.x.value)
    (subst (λ (v : Around). StatesArms (OfCase (view_ty c.deref.result.now.ty)) v (view_point record {
      context =
          c.args.point.now.context;
      body = c.choose.new.body;
      catches = c.args.point.now.catches;
    }) (source.arms_of (map source.view_case_arm
    c.args.arms.now)) (heads_of (map view_case_arm c.in-Ok-case_arms.arms.items)) (bodies_of (map view_case_arm
    c.in-Ok-case_arms.arms.items)) (view_point c.case_arms.new.point)) c.in-Ok-in_branch.ensures c.in-Ok-case_arms.ensures.states)) h.1))
    c.made_case.ensures.refused

pub branches::pick_of-returns-in-Err-clause-refused : goal.branches::pick_of-returns-in-Err-clause-refused
branches::pick_of-returns-in-Err-clause-refused t c =
    reasons_weaker c.in-Err.fault.why _ (FailsToState (view_around c.args.around.now) (view_point c.args.point.now) (tree.Pick
    (source.name_of c.args.label.now) c.args.name.now (source.view_expr c.args.value.now) (source.arms_of (map source.view_pick_arm
    c.args.arms.now))))
    (λ k h. fails.pick_value _ _ _ _ _ _ k (h c.args.point.now.catches)) c.in-Err.ensures.refused

pub branches::pick_of-returns-in-Err-pick_arms-clause-refused : goal.branches::pick_of-returns-in-Err-pick_arms-clause-refused
branches::pick_of-returns-in-Err-pick_arms-clause-refused t c =
    reasons_weaker c.in-Err-pick_arms.fault.why _ (FailsToState (view_around c.args.around.now) (view_point c.args.point.now) (tree.Pick
    (source.name_of c.args.label.now) c.args.name.now (source.view_expr c.args.value.now) (source.arms_of (map source.view_pick_arm
    c.args.arms.now))))
    (λ k h. fails.pick_arm _ _ (view_point record {
      context = c.args.point.now.context;
      body = c.pick_value.new.body;
      catches =
          c.args.point.now.catches;
    }) _ _ _ _ _ _ k (c.in-Ok.ensures.picks c.args.point.now.catches)
    (subst (λ (v : Around). FailsArms (OfPick c.args.name.now c.in-Ok.picked.adt) v (view_point record {
      context =
          c.args.point.now.context;
      body = c.pick_value.new.body;
      catches = c.args.point.now.catches;
    }) (source.arms_of (map
    source.view_pick_arm c.args.arms.now)) k) c.in-Ok-in_branch.ensures h)) c.in-Err-pick_arms.ensures.refused

pub branches::pick_of-returns-in-Ok-pick_arms-clause-states : goal.branches::pick_of-returns-in-Ok-pick_arms-clause-states
branches::pick_of-returns-in-Ok-pick_arms-clause-states t c =
    put_with c.made_pick.result _ _ (λ z. States (view_around c.args.around.now) (view_point c.args.point.now) (tree.Pick (source.name_of
    c.args.label.now) c.args.name.now (source.view_expr c.args.value.now) (source.arms_of (map source.view_pick_arm c.args.arms.now))) z
    (view_point c.pick_arms.new.point))
    (λ once. (
      view_expr c.in-Ok.picked.value.value,
      c.in-Ok.picked.adt,
      (heads_of (map view_pick_arm c.in-Ok-pick_arms.arms.items)),
      (bodies_of (map view_pick_arm c.in-Ok-pick_arms.arms.items)),
      (view_point record {
        context = c.args.point.now.context;
        body =
            c.pick_value.new.body;
        catches = c.args.point.now.catches;
      }),
      (c.in-Ok.ensures.picks c.args.point.now.catches),
      (subst (λ (v :
          Around). StatesArms (OfPick c.args.name.now c.in-Ok.picked.adt) v (view_point record {
            context = c.args.point.now.context;
            body =
                c.pick_value.new.body;
            catches = c.args.point.now.catches;
          }) (source.arms_of (map source.view_pick_arm c.args.arms.now)) (heads_of
          (map view_pick_arm c.in-Ok-pick_arms.arms.items)) (bodies_of (map view_pick_arm c.in-Ok-pick_arms.arms.items)) (view_point
          c.pick_arms.new.point)) c.in-Ok-in_branch.ensures c.in-Ok-pick_arms.ensures.states),
      once,
      refl,
    )) c.made_pick.ensures.made
    c.made_pick.ensures.once

pub branches::pick_of-returns-in-Ok-pick_arms-clause-refused : goal.branches::pick_of-returns-in-Ok-pick_arms-clause-refused
branches::pick_of-returns-in-Ok-pick_arms-clause-refused t c =
    weaker c.made_pick.result _ (FailsToState (view_around c.args.around.now) (view_point c.args.point.now) (tree.Pick (source.name_of
    c.args.label.now) c.args.name.now (source.view_expr c.args.value.now) (source.arms_of (map source.view_pick_arm c.args.arms.now))))
    (λ k h. subst (λ (z : Reason). FailsToState (view_around c.args.around.now) (view_point c.args.point.now) (tree.Pick (source.name_of
    c.args.label.now) c.args.name.now (source.view_expr c.args.value.now) (source.arms_of (map source.view_pick_arm c.args.arms.now))) z)
    (sym h.0) (fails.pick_repeats _ _ (view_point record {
      context = c.args.point.now.context;
      body = c.pick_value.new.body;
      catches =
          c.args.point.now.catches;
    }) (view_point c.pick_arms.new.point) _ _ _ _ _ _ (heads_of (map view_pick_arm
    c.in-Ok-pick_arms.arms.items)) (bodies_of (map view_pick_arm c.in-Ok-pick_arms.arms.items)) (c.in-Ok.ensures.picks
    c.args.point.now.catches) (subst (λ (v : Around). StatesArms (OfPick c.args.name.now c.in-Ok.picked.adt) v (view_point record {
      context = c.args.point.now.context;
      body = c.pick_value.new.body;
      catches = c.args.point.now.catches;
    }) (source.arms_of (map
    source.view_pick_arm c.args.arms.now)) (heads_of (map view_pick_arm c.in-Ok-pick_arms.arms.items)) (bodies_of (map view_pick_arm
    c.in-Ok-pick_arms.arms.items)) (view_point c.pick_arms.new.point)) c.in-Ok-in_branch.ensures c.in-Ok-pick_arms.ensures.states) h.1))
    c.made_pick.ensures.refused

pub choices::if_else-returns-in-Err-clause-refused : goal.choices::if_else-returns-in-Err-clause-refused
choices::if_else-returns-in-Err-clause-refused t c =
    by_part c.part_fault.result.why c.in-Err.fault.cause _ (FailsToState (view_around c.args.around.now) (view_point c.args.point.now)
    (tree.IfElse (source.view_expr c.args.condition.now) (source.view_stmt c.args.then.now) (source.view_stmt c.args.other.now)))
    c.part_fault.ensures
    (λ k h. fails.either_tested _ _ _ _ _ k (h c.args.point.now.catches)) c.in-Err.ensures.refused

pub choices::if_else-returns-in-Err-state-clause-refused : goal.choices::if_else-returns-in-Err-state-clause-refused
choices::if_else-returns-in-Err-state-clause-refused t c =
    reasons_weaker c.in-Err-state.fault.why _ (FailsToState (view_around c.args.around.now) (view_point c.args.point.now) (tree.IfElse
    (source.view_expr c.args.condition.now) (source.view_stmt c.args.then.now) (source.view_stmt c.args.other.now)))
    (λ k h. fails.either_holds _ _ _ _ _ _ _ k (c.in-Ok.ensures.tests c.args.point.now.catches) h) c.in-Err-state.ensures.refused

pub choices::if_else-returns-in-Err-state-2-clause-refused : goal.choices::if_else-returns-in-Err-state-2-clause-refused
choices::if_else-returns-in-Err-state-2-clause-refused t c =
    reasons_weaker c.in-Err-state-2.fault.why _ (FailsToState (view_around c.args.around.now) (view_point c.args.point.now) (tree.IfElse
    (source.view_expr c.args.condition.now) (source.view_stmt c.args.then.now) (source.view_stmt c.args.other.now)))
    (λ k h. fails.either_fails _ _ _ _ _ _ _ _ _ k (c.in-Ok.ensures.tests c.args.point.now.catches) c.in-Ok-state.ensures.states h)
    c.in-Err-state-2.ensures.refused

pub choices::if_else-returns-in-Ok-state-2-clause-states : goal.choices::if_else-returns-in-Ok-state-2-clause-states
choices::if_else-returns-in-Ok-state-2-clause-states t c =
    put c.then_or_else.result _ (λ z. States (view_around c.args.around.now) (view_point c.args.point.now) (tree.IfElse (source.view_expr
    c.args.condition.now) (source.view_stmt c.args.then.now) (source.view_stmt c.args.other.now)) z (view_point
    c.state-in-Ok-state.new.point)) (
      view_expr c.in-Ok.x.value,
      view_stmt c.in-Ok-state.y.value,
      view_stmt c.in-Ok-state-2.z.value,
      _,
      _,
      (c.in-Ok.ensures.tests c.args.point.now.catches),
      c.in-Ok-state.ensures.states,
      c.in-Ok-state-2.ensures.states,
      refl,
    )
    c.then_or_else.ensures.made

pub choices::only_if-returns-in-Err-clause-refused : goal.choices::only_if-returns-in-Err-clause-refused
choices::only_if-returns-in-Err-clause-refused t c =
    by_part c.part_fault.result.why c.in-Err.fault.cause _ (FailsToState (view_around c.args.around.now) (view_point c.args.point.now)
    (tree.If (source.view_expr c.args.condition.now) (source.view_stmt c.args.then.now))) c.part_fault.ensures
    (λ k h. fails.if_tested _ _ _ _ k (h c.args.point.now.catches)) c.in-Err.ensures.refused

pub choices::only_if-returns-in-Err-state-clause-refused : goal.choices::only_if-returns-in-Err-state-clause-refused
choices::only_if-returns-in-Err-state-clause-refused t c =
    reasons_weaker c.in-Err-state.fault.why _ (FailsToState (view_around c.args.around.now) (view_point c.args.point.now) (tree.If
    (source.view_expr c.args.condition.now) (source.view_stmt c.args.then.now)))
    (λ k h. fails.if_holds _ _ _ _ _ _ k (c.in-Ok.ensures.tests c.args.point.now.catches) h) c.in-Err-state.ensures.refused

pub choices::only_if-returns-in-Ok-state-clause-states : goal.choices::only_if-returns-in-Ok-state-clause-states
choices::only_if-returns-in-Ok-state-clause-states t c =
    put c.only_then.result _ (λ z. States (view_around c.args.around.now) (view_point c.args.point.now) (tree.If (source.view_expr
    c.args.condition.now) (source.view_stmt c.args.then.now)) z (view_point c.state.new.point)) (
      view_expr c.in-Ok.x.value,
      view_stmt
          c.in-Ok-state.y.value,
      _,
      (c.in-Ok.ensures.tests c.args.point.now.catches),
      c.in-Ok-state.ensures.states,
      refl,
    )
    c.only_then.ensures.made

pub loops::do_loop-returns-in-Err-clause-refused : goal.loops::do_loop-returns-in-Err-clause-refused
loops::do_loop-returns-in-Err-clause-refused t c =
    reasons_weaker c.in-Err.fault.why _ (FailsToState (view_around c.args.around.now) (view_point c.args.point.now) (tree.Do
    (source.name_of c.args.label.now) (source.view_stmt c.args.body.now) (source.view_boxed c.args.condition.now)))
    (λ k h. fails.do_repeats _ _ _ _ _ k h) c.in-Err.ensures.refused

pub loops::do_loop-returns-in-Err-may_test-clause-refused : goal.loops::do_loop-returns-in-Err-may_test-clause-refused
loops::do_loop-returns-in-Err-may_test-clause-refused t c =
    by_part c.part_fault.result.why c.in-Err-may_test.fault.cause _ (FailsToState (view_around c.args.around.now) (view_point
    c.args.point.now) (tree.Do (source.name_of c.args.label.now) (source.view_stmt c.args.body.now) (source.view_boxed
    c.args.condition.now))) c.part_fault.ensures
    (λ k h. fails.do_tested _ _ _ _ _ _ _ k c.in-Ok.ensures.states (h c.turn.new.point.catches)) c.in-Err-may_test.ensures.refused

pub loops::for_loop-returns-in-Err-clause-refused : goal.loops::for_loop-returns-in-Err-clause-refused
loops::for_loop-returns-in-Err-clause-refused t c =
    by_part c.part_fault.result.why c.in-Err.fault.cause (FailsForHead (view_point c.args.point.now) (source.view_boxed c.args.first.now)
    (source.view_boxed c.args.condition.now) (source.view_boxed c.args.next.now)) (FailsToState (view_around c.args.around.now)
    (view_point c.args.point.now) (tree.For (source.name_of c.args.label.now) (source.view_boxed c.args.first.now) (source.view_boxed
    c.args.condition.now) (source.view_boxed c.args.next.now) (source.view_stmt c.args.body.now))) c.part_fault.ensures
    (λ k h. for_fails _ _ _ _ _ _ _ k h) c.in-Err.ensures.refused

pub loops::for_loop-returns-in-Err-turn-clause-refused : goal.loops::for_loop-returns-in-Err-turn-clause-refused
loops::for_loop-returns-in-Err-turn-clause-refused t c =
    reasons_weaker c.in-Err-turn.fault.why _ (FailsToState (view_around c.args.around.now) (view_point c.args.point.now) (tree.For
    (source.name_of c.args.label.now) (source.view_boxed c.args.first.now) (source.view_boxed c.args.condition.now) (source.view_boxed
    c.args.next.now) (source.view_stmt c.args.body.now)))
    (λ k h. fails.for_repeats _ _ _ _ _ _ _ _ _ _ _ _ _ k c.in-Ok.ensures.head.first c.in-Ok.ensures.head.condition
    c.in-Ok.ensures.head.next h) c.in-Err-turn.ensures.refused

pub loops::while_loop-returns-in-Err-clause-refused : goal.loops::while_loop-returns-in-Err-clause-refused
loops::while_loop-returns-in-Err-clause-refused t c =
    by_part c.part_fault.result.why c.in-Err.fault.cause _ (FailsToState (view_around c.args.around.now) (view_point c.args.point.now)
    (tree.While (source.name_of c.args.label.now) (source.view_boxed c.args.condition.now) (source.view_stmt c.args.body.now)))
    c.part_fault.ensures
    (λ k h. fails.while_tested _ _ _ _ _ k (h c.args.point.now.catches)) c.in-Err.ensures.refused

pub loops::while_loop-returns-in-Err-turn-clause-refused : goal.loops::while_loop-returns-in-Err-turn-clause-refused
loops::while_loop-returns-in-Err-turn-clause-refused t c =
    reasons_weaker c.in-Err-turn.fault.why _ (FailsToState (view_around c.args.around.now) (view_point c.args.point.now) (tree.While
    (source.name_of c.args.label.now) (source.view_boxed c.args.condition.now) (source.view_stmt c.args.body.now)))
    (λ k h. fails.while_repeats _ _ _ _ _ _ _ k (c.in-Ok.ensures.tests c.args.point.now.catches) h) c.in-Err-turn.ensures.refused

pub statements::state-returns-in-Block-clause-refused : goal.statements::state-returns-in-Block-clause-refused
statements::state-returns-in-Block-clause-refused t c =
    subst (λ (s : tree.Stmt). IfErr c.block.result (λ f. FailsFor f.why (FailsToState (view_around c.args.around.now) (view_point
    c.args.point.now) s)))
    (sym (ap source.view_stmt c.in-Block.is ∙ view_stmt-Block c.in-Block.b c.in-Block.span))
    (weaker c.block.result _ (FailsToState (view_around c.args.around.now) (view_point c.args.point.now) (tree.Nested (source.view_block
    c.in-Block.b))) (λ k h. fails.in_nested _ _ _ k h)
    c.block.ensures.refused)

pub statements::state_all-returns-in-Err-clause-refused : goal.statements::state_all-returns-in-Err-clause-refused
statements::state_all-returns-in-Err-clause-refused t c =
    subst (λ (z : tree.Stmts). FailsFor c.in-Err.fault.why (FailsAll (view_around c.args.around.now) (view_point c.args.point.now) z))
    (sym (view_stmts_is c.args.ss.now))
    (stated_fails (view_around c.args.around.now) (view_point c.args.point.now) (view_point c.loop-s.point) c.args.ss.now
    c.loop-s.s-index c.loop-s.zs.items c.s-item.result c.in-Err.fault.why c.loop-s-test.true
    (subst (λ (s : code_stmt.Stmt). FailsFor c.in-Err.fault.why (FailsToState (view_around c.args.around.now) (view_point c.loop-s.point)
    (source.view_stmt s))) c.s-item.is
    c.in-Err.ensures.refused) c.loop-s.invariant)

pub statements::state_all-loop-s-preserved : goal.statements::state_all-loop-s-preserved
statements::state_all-loop-s-preserved t c =
    subst (λ (zs : List code_typed.TStmt). StatedSoFar (view_around c.args.around.now) (view_point c.args.point.now) (view_point
    c.state.new.point) c.args.ss.now (c.loop-s.s-index + 1) zs)
    (sym (c.in-Ok-push.ensures.items ∙ ap (λ (x : code_typed.TStmt). c.loop-s.zs.items ++ x ∷ []) c.into_inner.ensures))
    (stated_more (view_around c.args.around.now) (view_point c.args.point.now) (view_point c.loop-s.point) (view_point c.state.new.point)
    c.args.ss.now c.loop-s.s-index c.loop-s.zs.items c.s-item.result
    c.in-Ok.z.value c.loop-s-test.true (subst (λ (s : code_stmt.Stmt). States (view_around c.args.around.now) (view_point c.loop-s.point)
    (source.view_stmt s) (view_stmt c.in-Ok.z.value)
    (view_point c.state.new.point)) c.s-item.is c.in-Ok.ensures.states) c.loop-s.invariant)

pub statements::state_all-returns-clause-states : goal.statements::state_all-returns-clause-states
statements::state_all-returns-clause-states t c =
    subst (λ (z : tree.Stmts). StatesAll (view_around c.args.around.now) (view_point c.args.point.now) z (view_stmts c.loop-s.zs.items)
    (view_point c.loop-s.point)) (sym (view_stmts_is c.args.ss.now))
    (stated_end (view_around c.args.around.now) (view_point c.args.point.now) (view_point c.loop-s.point) c.args.ss.now c.loop-s.s-index
    c.loop-s.zs.items c.loop-s-test.false c.loop-s.invariant)

pub statements::state-returns-in-Empty-clause-states : goal.statements::state-returns-in-Empty-clause-states
statements::state-returns-in-Empty-clause-states t c = grind (arith, view_stmt-Empty, made_views.view_stmt-Empty)

pub statements::state-returns-in-Empty-clause-refused : goal.statements::state-returns-in-Empty-clause-refused
statements::state-returns-in-Empty-clause-refused t c = grind (arith, view_stmt-Empty)

pub statements::state-returns-in-Block-clause-states : goal.statements::state-returns-in-Block-clause-states
statements::state-returns-in-Block-clause-states t c = grind (arith, view_stmt-Block)

pub statements::state-returns-in-Declare-clause-states : goal.statements::state-returns-in-Declare-clause-states
statements::state-returns-in-Declare-clause-states t c = grind (arith, view_stmt-Declare)

pub statements::state-returns-in-Declare-clause-refused : goal.statements::state-returns-in-Declare-clause-refused
statements::state-returns-in-Declare-clause-refused t c = grind (arith, view_stmt-Declare)

pub statements::state-returns-in-Eval-clause-states : goal.statements::state-returns-in-Eval-clause-states
statements::state-returns-in-Eval-clause-states t c = grind (arith, view_stmt-Eval)

pub statements::state-returns-in-Eval-clause-refused : goal.statements::state-returns-in-Eval-clause-refused
statements::state-returns-in-Eval-clause-refused t c = grind (arith, view_stmt-Eval)

pub statements::state-returns-in-While-clause-states : goal.statements::state-returns-in-While-clause-states
statements::state-returns-in-While-clause-states t c = grind (arith, view_stmt-While)

pub statements::state-returns-in-While-clause-refused : goal.statements::state-returns-in-While-clause-refused
statements::state-returns-in-While-clause-refused t c = grind (arith, view_stmt-While)

pub statements::state-returns-in-Do-clause-states : goal.statements::state-returns-in-Do-clause-states
statements::state-returns-in-Do-clause-states t c = grind (arith, view_stmt-Do)

pub statements::state-returns-in-Do-clause-refused : goal.statements::state-returns-in-Do-clause-refused
statements::state-returns-in-Do-clause-refused t c = grind (arith, view_stmt-Do)

pub statements::state-returns-in-For-clause-states : goal.statements::state-returns-in-For-clause-states
statements::state-returns-in-For-clause-states t c = grind (arith, view_stmt-For)

pub statements::state-returns-in-For-clause-refused : goal.statements::state-returns-in-For-clause-refused
statements::state-returns-in-For-clause-refused t c = grind (arith, view_stmt-For)

pub statements::state-returns-in-Case-clause-states : goal.statements::state-returns-in-Case-clause-states
statements::state-returns-in-Case-clause-states t c = grind (arith, view_stmt-Case)

pub statements::state-returns-in-Case-clause-refused : goal.statements::state-returns-in-Case-clause-refused
statements::state-returns-in-Case-clause-refused t c = grind (arith, view_stmt-Case)

pub statements::state-returns-in-Alt-clause-states : goal.statements::state-returns-in-Alt-clause-states
statements::state-returns-in-Alt-clause-states t c = grind (arith, view_stmt-Alt)

pub statements::state-returns-in-Alt-clause-refused : goal.statements::state-returns-in-Alt-clause-refused
statements::state-returns-in-Alt-clause-refused t c = grind (arith, view_stmt-Alt)

pub statements::state-returns-in-Pick-clause-states : goal.statements::state-returns-in-Pick-clause-states
statements::state-returns-in-Pick-clause-states t c = grind (arith, view_stmt-Pick)

pub statements::state-returns-in-Pick-clause-refused : goal.statements::state-returns-in-Pick-clause-refused
statements::state-returns-in-Pick-clause-refused t c = grind (arith, view_stmt-Pick)

pub statements::state-returns-in-Break-clause-states : goal.statements::state-returns-in-Break-clause-states
statements::state-returns-in-Break-clause-states t c = grind (arith, view_stmt-Break)

pub statements::state-returns-in-Break-clause-refused : goal.statements::state-returns-in-Break-clause-refused
statements::state-returns-in-Break-clause-refused t c = grind (arith, view_stmt-Break)

pub statements::state-returns-in-Continue-clause-states : goal.statements::state-returns-in-Continue-clause-states
statements::state-returns-in-Continue-clause-states t c = grind (arith, view_stmt-Continue)

pub statements::state-returns-in-Continue-clause-refused : goal.statements::state-returns-in-Continue-clause-refused
statements::state-returns-in-Continue-clause-refused t c = grind (arith, view_stmt-Continue)

pub statements::state-returns-in-Return-clause-states : goal.statements::state-returns-in-Return-clause-states
statements::state-returns-in-Return-clause-states t c = grind (arith, view_stmt-Return)

pub statements::state-returns-in-Return-clause-refused : goal.statements::state-returns-in-Return-clause-refused
statements::state-returns-in-Return-clause-refused t c = grind (arith, view_stmt-Return)

pub statements::state-returns-in-Exit-clause-states : goal.statements::state-returns-in-Exit-clause-states
statements::state-returns-in-Exit-clause-states t c = grind (arith, view_stmt-Exit, made_views.view_stmt-Exit)

pub statements::state-returns-in-Exit-clause-refused : goal.statements::state-returns-in-Exit-clause-refused
statements::state-returns-in-Exit-clause-refused t c = grind (arith, view_stmt-Exit)

pub statements::state-returns-in-Spawn-clause-states : goal.statements::state-returns-in-Spawn-clause-states
statements::state-returns-in-Spawn-clause-states t c = grind (arith, view_stmt-Spawn)

pub statements::state-returns-in-Spawn-clause-refused : goal.statements::state-returns-in-Spawn-clause-refused
statements::state-returns-in-Spawn-clause-refused t c = grind (arith, view_stmt-Spawn)

pub statements::state-returns-in-Raise-clause-states : goal.statements::state-returns-in-Raise-clause-states
statements::state-returns-in-Raise-clause-states t c = grind (arith, view_stmt-Raise)

pub statements::state-returns-in-Raise-clause-refused : goal.statements::state-returns-in-Raise-clause-refused
statements::state-returns-in-Raise-clause-refused t c = grind (arith, view_stmt-Raise)

pub statements::state-returns-in-None-clause-states : goal.statements::state-returns-in-None-clause-states
statements::state-returns-in-None-clause-states t c = grind (arith, view_stmt-If)

pub statements::state-returns-in-None-clause-refused : goal.statements::state-returns-in-None-clause-refused
statements::state-returns-in-None-clause-refused t c = grind (arith, view_stmt-If)

pub statements::state-returns-in-Some-clause-states : goal.statements::state-returns-in-Some-clause-states
statements::state-returns-in-Some-clause-states t c = grind (arith, view_stmt-IfElse)

pub statements::state-returns-in-Some-clause-refused : goal.statements::state-returns-in-Some-clause-refused
statements::state-returns-in-Some-clause-refused t c = grind (arith, view_stmt-IfElse)

pub blocks::plain-returns-in-Ok-clause-states : goal.blocks::plain-returns-in-Ok-clause-states
blocks::plain-returns-in-Ok-clause-states t c = grind (arith, made_views.view_stmt-Block)

pub blocks::handled-returns-in-Ok-handlers-clause-states : goal.blocks::handled-returns-in-Ok-handlers-clause-states
blocks::handled-returns-in-Ok-handlers-clause-states t c = grind (arith, made_views.view_stmt-Handle)
