use Rattle.std.proofs.Common.{Bool, Ok, map, ap, ◌∙◌}
use Rattle.std.proofs.lemmas.Result.{err_from_is_err_and}
use Rattle.limbo_tree.specs.Stmts.{CaseHead, AltHead, PickHead, HandlerHead}
use Rattle.limbo_tree.specs.View.{view_pattern, view_handler_pattern, view_stmt, names_of, view_case_arm, view_alt_arm, view_pick_arm, view_handler_arm}
use Rattle.limbo_reading.specs.Reading.{kinds}
use Rattle.limbo_tree.specs.View.{view_boxed}
use Rattle.limbo_stmt_parts.specs.declared.start.Region.TheVariants as region
use Rattle.limbo_tree.proofs.Stmts.{view_case_arm-is, view_alt_arm-is, view_pick_arm-is, view_handler_arm-is}
use Rattle.limbo_stmt_parser.proofs.Going.{statements_more, statements_end, statements_fail, statements_test_fails, stmt_shorter, arms_more, arms_end, arms_front_fails, arms_body_fails, arm_shorter}
use Rattle.limbo_stmt_parser.proofs.stmt.+statements.Goals as goal

pub stmts_at-returns-in_err-done : goal.stmts_at-returns-in_err-done
stmts_at-returns-in_err-done t c =
    let p = err_from_is_err_and c.from_residual.result c.from_residual.ensures.1 in
    rw (p.1, p.2) (statements_test_fails c.in_err-done.field-0.0 c.args.budget c.args.region (kinds c.args.tokens.now) c.statements.statements.items (kinds c.statements.rest.now) c.in_err-done.ensures c.statements.invariant)

pub stmts_at-returns-then-done : goal.stmts_at-returns-then-done
stmts_at-returns-then-done t c =
    statements_end c.args.budget c.args.region (kinds c.args.tokens.now) c.statements.statements.items (kinds c.statements.rest.now) (c.in_ok-done.ensures ∙ ap (λ (b : Bool). Ok b) c.if-done.true) c.statements.invariant

pub stmts_at-returns-in_err-statement : goal.stmts_at-returns-in_err-statement
stmts_at-returns-in_err-statement t c =
    let p = err_from_is_err_and c.from_residual-in_err-statement.result c.from_residual-in_err-statement.ensures.1 in
    rw (p.1, p.2) (statements_fail c.in_err-statement.field-0.0 c.args.budget c.args.region (kinds c.args.tokens.now) c.statements.statements.items (kinds c.statements.rest.now) (c.in_ok-done.ensures ∙ ap (λ (b : Bool). Ok b) c.if-done.false) c.in_err-statement.ensures c.statements.invariant)

pub stmts_at-statements-smaller : goal.stmts_at-statements-smaller
stmts_at-statements-smaller t c =
    stmt_shorter c.args.budget (kinds c.statements.rest.now) (view_stmt c.in_ok-statement.statement.value) (kinds c.in_ok-statement.after.now) c.in_ok-statement.ensures

pub stmts_at-statements-preserved : goal.stmts_at-statements-preserved
stmts_at-statements-preserved t c =
    rw c.in_ok-push_stmt.ensures.items (statements_more c.args.budget c.args.region (kinds c.args.tokens.now) c.statements.statements.items (kinds c.statements.rest.now) (kinds c.in_ok-statement.after.now) c.in_ok-statement.statement.value (c.in_ok-done.ensures ∙ ap (λ (b : Bool). Ok b) c.if-done.false) c.in_ok-statement.ensures c.statements.invariant)

pub case_arms_at-returns-in-Some : goal.case_arms_at-returns-in-Some
case_arms_at-returns-in-Some t c = arms_end view_case_arm c.args.budget region.Case (kinds c.args.tokens.now) c.arms.arms.items (kinds c.arms.rest.now) (kinds c.in-Some.behind.now) c.in-Some.ensures c.arms.invariant

pub case_arms_at-returns-in_err-patterns : goal.case_arms_at-returns-in_err-patterns
case_arms_at-returns-in_err-patterns t c =
    let p = err_from_is_err_and c.from_residual.result c.from_residual.ensures.1 in
    rw (p.1, p.2) (arms_front_fails c.in_err-patterns.field-0.0 view_case_arm c.args.budget region.Case (kinds c.args.tokens.now) c.arms.arms.items (kinds c.arms.rest.now) c.in_default.ensures c.in_err-patterns.ensures c.arms.invariant)

pub case_arms_at-returns-in_err-body : goal.case_arms_at-returns-in_err-body
case_arms_at-returns-in_err-body t c =
    let p = err_from_is_err_and c.from_residual-in_err-body.result c.from_residual-in_err-body.ensures.1 in
    rw (p.1, p.2) (arms_body_fails c.in_err-body.field-0.0 view_case_arm c.args.budget region.Case (kinds c.args.tokens.now) c.arms.arms.items (kinds c.arms.rest.now) (kinds c.in_ok-patterns.after.now) (CaseHead (map view_pattern c.in_ok-patterns.patterns.items)) c.in_default.ensures c.in_ok-patterns.ensures c.in_err-body.ensures c.arms.invariant)

pub case_arms_at-arms-smaller : goal.case_arms_at-arms-smaller
case_arms_at-arms-smaller t c =
    arm_shorter c.args.budget region.Case (kinds c.arms.rest.now) (kinds c.in_ok-patterns.after.now) (kinds c.in_ok-body.after.now) (CaseHead (map view_pattern c.in_ok-patterns.patterns.items)) (map view_stmt c.in_ok-body.body.items) c.in_ok-patterns.ensures c.in_ok-body.ensures

pub case_arms_at-arms-preserved : goal.case_arms_at-arms-preserved
case_arms_at-arms-preserved t c =
    rw c.in_ok-push.ensures.items (arms_more view_case_arm c.args.budget region.Case (kinds c.args.tokens.now) c.arms.arms.items (kinds c.arms.rest.now) (kinds c.in_ok-patterns.after.now) (kinds c.in_ok-body.after.now) (CaseHead (map view_pattern c.in_ok-patterns.patterns.items)) (map view_stmt c.in_ok-body.body.items) _ c.in_default.ensures c.in_ok-patterns.ensures c.in_ok-body.ensures (view_case_arm-is c.in_ok-patterns.patterns c.in_ok-body.body c.place-span.result) c.arms.invariant)

pub alt_arms_at-returns-in-Some : goal.alt_arms_at-returns-in-Some
alt_arms_at-returns-in-Some t c = arms_end view_alt_arm c.args.budget region.Alt (kinds c.args.tokens.now) c.arms.arms.items (kinds c.arms.rest.now) (kinds c.in-Some.behind.now) c.in-Some.ensures c.arms.invariant

pub alt_arms_at-returns-in_err-head : goal.alt_arms_at-returns-in_err-head
alt_arms_at-returns-in_err-head t c =
    let p = err_from_is_err_and c.from_residual.result c.from_residual.ensures.1 in
    rw (p.1, p.2) (arms_front_fails c.in_err-head.field-0.0 view_alt_arm c.args.budget region.Alt (kinds c.args.tokens.now) c.arms.arms.items (kinds c.arms.rest.now) c.in_default.ensures c.in_err-head.ensures c.arms.invariant)

pub alt_arms_at-returns-in_err-body : goal.alt_arms_at-returns-in_err-body
alt_arms_at-returns-in_err-body t c =
    let p = err_from_is_err_and c.from_residual-in_err-body.result c.from_residual-in_err-body.ensures.1 in
    rw (p.1, p.2) (arms_body_fails c.in_err-body.field-0.0 view_alt_arm c.args.budget region.Alt (kinds c.args.tokens.now) c.arms.arms.items (kinds c.arms.rest.now) (kinds c.in_ok-head.after.now) (AltHead (view_boxed c.in_ok-head.head)) c.in_default.ensures c.in_ok-head.ensures c.in_err-body.ensures c.arms.invariant)

pub alt_arms_at-arms-smaller : goal.alt_arms_at-arms-smaller
alt_arms_at-arms-smaller t c =
    arm_shorter c.args.budget region.Alt (kinds c.arms.rest.now) (kinds c.in_ok-head.after.now) (kinds c.in_ok-body.after.now) (AltHead (view_boxed c.in_ok-head.head)) (map view_stmt c.in_ok-body.body.items) c.in_ok-head.ensures c.in_ok-body.ensures

pub alt_arms_at-arms-preserved : goal.alt_arms_at-arms-preserved
alt_arms_at-arms-preserved t c =
    rw c.in_ok-push.ensures.items (arms_more view_alt_arm c.args.budget region.Alt (kinds c.args.tokens.now) c.arms.arms.items (kinds c.arms.rest.now) (kinds c.in_ok-head.after.now) (kinds c.in_ok-body.after.now) (AltHead (view_boxed c.in_ok-head.head)) (map view_stmt c.in_ok-body.body.items) _ c.in_default.ensures c.in_ok-head.ensures c.in_ok-body.ensures (view_alt_arm-is c.in_ok-head.head c.in_ok-body.body c.place-span.result) c.arms.invariant)

pub pick_arms_at-returns-in-Some : goal.pick_arms_at-returns-in-Some
pick_arms_at-returns-in-Some t c = arms_end view_pick_arm c.args.budget region.Pick (kinds c.args.tokens.now) c.arms.arms.items (kinds c.arms.rest.now) (kinds c.in-Some.behind.now) c.in-Some.ensures c.arms.invariant

pub pick_arms_at-returns-in_err-names : goal.pick_arms_at-returns-in_err-names
pick_arms_at-returns-in_err-names t c =
    let p = err_from_is_err_and c.from_residual.result c.from_residual.ensures.1 in
    rw (p.1, p.2) (arms_front_fails c.in_err-names.field-0.0 view_pick_arm c.args.budget region.Pick (kinds c.args.tokens.now) c.arms.arms.items (kinds c.arms.rest.now) c.in_default.ensures c.in_err-names.ensures c.arms.invariant)

pub pick_arms_at-returns-in_err-body : goal.pick_arms_at-returns-in_err-body
pick_arms_at-returns-in_err-body t c =
    let p = err_from_is_err_and c.from_residual-in_err-body.result c.from_residual-in_err-body.ensures.1 in
    rw (p.1, p.2) (arms_body_fails c.in_err-body.field-0.0 view_pick_arm c.args.budget region.Pick (kinds c.args.tokens.now) c.arms.arms.items (kinds c.arms.rest.now) (kinds c.in_ok-names.after.now) (PickHead (names_of c.in_ok-names.names.items)) c.in_default.ensures c.in_ok-names.ensures c.in_err-body.ensures c.arms.invariant)

pub pick_arms_at-arms-smaller : goal.pick_arms_at-arms-smaller
pick_arms_at-arms-smaller t c =
    arm_shorter c.args.budget region.Pick (kinds c.arms.rest.now) (kinds c.in_ok-names.after.now) (kinds c.in_ok-body.after.now) (PickHead (names_of c.in_ok-names.names.items)) (map view_stmt c.in_ok-body.body.items) c.in_ok-names.ensures c.in_ok-body.ensures

pub pick_arms_at-arms-preserved : goal.pick_arms_at-arms-preserved
pick_arms_at-arms-preserved t c =
    rw c.in_ok-push.ensures.items (arms_more view_pick_arm c.args.budget region.Pick (kinds c.args.tokens.now) c.arms.arms.items (kinds c.arms.rest.now) (kinds c.in_ok-names.after.now) (kinds c.in_ok-body.after.now) (PickHead (names_of c.in_ok-names.names.items)) (map view_stmt c.in_ok-body.body.items) _ c.in_default.ensures c.in_ok-names.ensures c.in_ok-body.ensures (view_pick_arm-is c.in_ok-names.names c.in_ok-body.body c.place-span.result) c.arms.invariant)

pub handler_arms_at-returns-in-Some : goal.handler_arms_at-returns-in-Some
handler_arms_at-returns-in-Some t c = arms_end view_handler_arm c.args.budget region.Handler (kinds c.args.tokens.now) c.arms.arms.items (kinds c.arms.rest.now) (kinds c.in-Some.behind.now) c.in-Some.ensures c.arms.invariant

pub handler_arms_at-returns-in_err-patterns : goal.handler_arms_at-returns-in_err-patterns
handler_arms_at-returns-in_err-patterns t c =
    let p = err_from_is_err_and c.from_residual.result c.from_residual.ensures.1 in
    rw (p.1, p.2) (arms_front_fails c.in_err-patterns.field-0.0 view_handler_arm c.args.budget region.Handler (kinds c.args.tokens.now) c.arms.arms.items (kinds c.arms.rest.now) c.in_default.ensures c.in_err-patterns.ensures c.arms.invariant)

pub handler_arms_at-returns-in_err-body : goal.handler_arms_at-returns-in_err-body
handler_arms_at-returns-in_err-body t c =
    let p = err_from_is_err_and c.from_residual-in_err-body.result c.from_residual-in_err-body.ensures.1 in
    rw (p.1, p.2) (arms_body_fails c.in_err-body.field-0.0 view_handler_arm c.args.budget region.Handler (kinds c.args.tokens.now) c.arms.arms.items (kinds c.arms.rest.now) (kinds c.in_ok-patterns.after.now) (HandlerHead (map view_handler_pattern c.in_ok-patterns.patterns.items)) c.in_default.ensures c.in_ok-patterns.ensures c.in_err-body.ensures c.arms.invariant)

pub handler_arms_at-arms-smaller : goal.handler_arms_at-arms-smaller
handler_arms_at-arms-smaller t c =
    arm_shorter c.args.budget region.Handler (kinds c.arms.rest.now) (kinds c.in_ok-patterns.after.now) (kinds c.in_ok-body.after.now) (HandlerHead (map view_handler_pattern c.in_ok-patterns.patterns.items)) (map view_stmt c.in_ok-body.body.items) c.in_ok-patterns.ensures c.in_ok-body.ensures

pub handler_arms_at-arms-preserved : goal.handler_arms_at-arms-preserved
handler_arms_at-arms-preserved t c =
    rw c.in_ok-push.ensures.items (arms_more view_handler_arm c.args.budget region.Handler (kinds c.args.tokens.now) c.arms.arms.items (kinds c.arms.rest.now) (kinds c.in_ok-patterns.after.now) (kinds c.in_ok-body.after.now) (HandlerHead (map view_handler_pattern c.in_ok-patterns.patterns.items)) (map view_stmt c.in_ok-body.body.items) _ c.in_default.ensures c.in_ok-patterns.ensures c.in_ok-body.ensures (view_handler_arm-is c.in_ok-patterns.patterns c.in_ok-body.body c.place-span.result) c.arms.invariant)
