use Rattle.std.proofs.Common.{◌∙◌, ◌||◌, not, Bool, true, refl, sym, ap, map}
use Rattle.limbo_layout.specs.View.{view_defs}
use Rattle.limbo_typed.specs.View.{view_case_arm, view_alt_arm, view_pick_arm, view_handler_arm, bodies_of, heads_of, view_stmts}
use Rattle.limbo_typed.proofs.View.{view_stmt-Empty, view_stmt-Declare, view_stmt-Eval, view_stmt-Spawn, view_stmt-Block, view_stmt-If, view_stmt-While, view_stmt-Do, view_stmt-For, view_stmt-Case, view_stmt-Alt, view_stmt-Handle}
use Rattle.limbo_paths.specs.declared.jumps.Jump.TheVariants as jump
use Rattle.limbo_paths.specs.Walking.{falls, all_fall, some_falls, arms_fall, turn_falls, has_any, has_in, is_some, takes_rest}
use Rattle.limbo_paths.proofs.Arms.{case_body, alt_body, pick_body, handler_body, passes, fails}
use Rattle.limbo_paths.proofs.Forms.{shown, boxed, first_holds, second_holds, no_fall, pick_misses, pick_takes}
use Rattle.limbo_paths.proofs.Tests.{or_left}
use Rattle.limbo_paths.proofs.falling.+falling.Goals as goal

pub case_falls-loop-arm-preserved : goal.case_falls-loop-arm-preserved
case_falls-loop-arm-preserved t c =
    fails view_case_arm (λ a. a.body.items) case_body (all_fall (view_defs c.args.defs.now)) (some_falls (view_defs c.args.defs.now)) (λ ss arms. refl)
    c.args.arms.now c.loop-arm.arm-index c.arm-item.result c.deref.result.now c.all_fall.result c.loop-arm-test.true c.arm-item.is
    c.deref.ensures.value c.all_fall.ensures c.if-all_fall.false c.loop-arm.invariant

pub case_falls-returns-then-all_fall : goal.case_falls-returns-then-all_fall
case_falls-returns-then-all_fall t c =
    sym (or_left _ (has_in jump.Break 0 (bodies_of (map view_case_arm c.args.arms.now))) (sym
    (passes view_case_arm (λ a. a.body.items) case_body (all_fall (view_defs c.args.defs.now)) (some_falls (view_defs c.args.defs.now)) (λ ss arms. refl)
    c.args.arms.now c.loop-arm.arm-index c.arm-item.result c.deref.result.now c.all_fall.result c.loop-arm-test.true c.arm-item.is
    c.deref.ensures.value c.all_fall.ensures c.if-all_fall.true c.loop-arm.invariant)))

pub alt_falls-loop-arm-preserved : goal.alt_falls-loop-arm-preserved
alt_falls-loop-arm-preserved t c =
    fails view_alt_arm (λ a. a.body.items) alt_body (all_fall (view_defs c.args.defs.now)) (some_falls (view_defs c.args.defs.now)) (λ ss arms. refl)
    c.args.arms.now c.loop-arm.arm-index c.arm-item.result c.deref.result.now c.all_fall.result c.loop-arm-test.true c.arm-item.is
    c.deref.ensures.value c.all_fall.ensures c.if-all_fall.false c.loop-arm.invariant

pub alt_falls-returns-then-all_fall : goal.alt_falls-returns-then-all_fall
alt_falls-returns-then-all_fall t c =
    sym (or_left _ (has_in jump.Break 0 (bodies_of (map view_alt_arm c.args.arms.now))) (sym
    (passes view_alt_arm (λ a. a.body.items) alt_body (all_fall (view_defs c.args.defs.now)) (some_falls (view_defs c.args.defs.now)) (λ ss arms. refl)
    c.args.arms.now c.loop-arm.arm-index c.arm-item.result c.deref.result.now c.all_fall.result c.loop-arm-test.true c.arm-item.is
    c.deref.ensures.value c.all_fall.ensures c.if-all_fall.true c.loop-arm.invariant)))

pub pick_falls-loop-arm-preserved : goal.pick_falls-loop-arm-preserved
pick_falls-loop-arm-preserved t c =
    fails view_pick_arm (λ a. a.body.items) pick_body (all_fall (view_defs c.args.defs.now)) (some_falls (view_defs c.args.defs.now)) (λ ss arms. refl)
    c.args.arms.now c.loop-arm.arm-index c.arm-item.result c.deref.result.now c.all_fall.result c.loop-arm-test.true c.arm-item.is
    c.deref.ensures.value c.all_fall.ensures c.if-all_fall.false c.loop-arm.invariant

pub pick_falls-returns-then-all_fall : goal.pick_falls-returns-then-all_fall
pick_falls-returns-then-all_fall t c =
    sym (or_left _ (has_in jump.Break 0 (bodies_of (map view_pick_arm c.args.arms.now))) (sym
    (passes view_pick_arm (λ a. a.body.items) pick_body (all_fall (view_defs c.args.defs.now)) (some_falls (view_defs c.args.defs.now)) (λ ss arms. refl)
    c.args.arms.now c.loop-arm.arm-index c.arm-item.result c.deref.result.now c.all_fall.result c.loop-arm-test.true c.arm-item.is
    c.deref.ensures.value c.all_fall.ensures c.if-all_fall.true c.loop-arm.invariant)))

pub handler_falls-loop-arm-preserved : goal.handler_falls-loop-arm-preserved
handler_falls-loop-arm-preserved t c =
    fails view_handler_arm (λ a. a.body.items) handler_body (all_fall (view_defs c.args.defs.now)) (some_falls (view_defs c.args.defs.now)) (λ ss arms. refl)
    c.args.arms.now c.loop-arm.arm-index c.arm-item.result c.deref.result.now c.all_fall.result c.loop-arm-test.true c.arm-item.is
    c.deref.ensures.value c.all_fall.ensures c.if-all_fall.false c.loop-arm.invariant

pub handler_falls-returns-then-all_fall : goal.handler_falls-returns-then-all_fall
handler_falls-returns-then-all_fall t c =
    passes view_handler_arm (λ a. a.body.items) handler_body (all_fall (view_defs c.args.defs.now)) (some_falls (view_defs c.args.defs.now)) (λ ss arms. refl)
    c.args.arms.now c.loop-arm.arm-index c.arm-item.result c.deref.result.now c.all_fall.result c.loop-arm-test.true c.arm-item.is
    c.deref.ensures.value c.all_fall.ensures c.if-all_fall.true c.loop-arm.invariant

pub falls-returns-in_default : goal.falls-returns-in_default
falls-returns-in_default t c =
    no_fall (view_defs c.args.defs.now) c.args.s.now c.in_default.not-Empty c.in_default.not-Declare c.in_default.not-Eval c.in_default.not-Spawn
    c.in_default.not-Block c.in_default.not-If c.in_default.not-While c.in_default.not-For c.in_default.not-Do c.in_default.not-Case
    c.in_default.not-Alt c.in_default.not-Pick c.in_default.not-Handle

pub falls-returns-then-not-takes_each : goal.falls-returns-then-not-takes_each
falls-returns-then-not-takes_each t c =
    pick_misses (view_defs c.args.defs.now) c.args.s.now c.in-Pick.value c.in-Pick.arms c.in-Pick.is c.deref-in-Pick-2.result.now c.deref-in-Pick-2.ensures
    c.deref-in-Pick.result.now c.deref-in-Pick.ensures.value c.variants.result c.variants.ensures c.takes_each.result c.takes_each.ensures
    c.if-not-takes_each.true

pub falls-returns-else-not-takes_each : goal.falls-returns-else-not-takes_each
falls-returns-else-not-takes_each t c =
    pick_takes (view_defs c.args.defs.now) c.args.s.now c.in-Pick.value c.in-Pick.arms c.in-Pick.is c.deref-in-Pick-2.result.now c.deref-in-Pick-2.ensures
    c.deref-in-Pick.result.now c.deref-in-Pick.ensures.value c.variants.result c.variants.ensures c.takes_each.result c.takes_each.ensures
    c.if-not-takes_each.false c.deref-else-not-takes_each.result.now c.deref-else-not-takes_each.ensures.value c.pick_falls.result c.pick_falls.ensures

pub falls-returns-in-Empty : goal.falls-returns-in-Empty
falls-returns-in-Empty t c =
    shown (falls (view_defs c.args.defs.now)) c.args.s.now _ _ true c.in-Empty.is view_stmt-Empty refl

pub falls-returns-in-Declare : goal.falls-returns-in-Declare
falls-returns-in-Declare t c =
    shown (falls (view_defs c.args.defs.now)) c.args.s.now _ _ true c.in-Declare.is (view_stmt-Declare c.in-Declare.variables c.in-Declare.value) refl

pub falls-returns-in-Eval : goal.falls-returns-in-Eval
falls-returns-in-Eval t c =
    shown (falls (view_defs c.args.defs.now)) c.args.s.now _ _ true c.in-Eval.is (view_stmt-Eval c.in-Eval.field-0) refl

pub falls-returns-in-Spawn : goal.falls-returns-in-Spawn
falls-returns-in-Spawn t c =
    shown (falls (view_defs c.args.defs.now)) c.args.s.now _ _ true c.in-Spawn.is (view_stmt-Spawn c.in-Spawn.field-0) refl

pub falls-returns-in-Block : goal.falls-returns-in-Block
falls-returns-in-Block t c =
    shown (falls (view_defs c.args.defs.now)) c.args.s.now _ _ c.all_fall.result c.in-Block.is (view_stmt-Block c.in-Block.body) (c.all_fall.ensures ∙ ap (λ z. all_fall (view_defs c.args.defs.now) (view_stmts z)) c.deref.ensures.value)

pub falls-returns-then-all_fall : goal.falls-returns-then-all_fall
falls-returns-then-all_fall t c =
    shown (falls (view_defs c.args.defs.now)) c.args.s.now _ _ c.all_fall-in-If.result c.in-If.is (view_stmt-If c.in-If.condition c.in-If.then c.in-If.other)
    (first_holds c.all_fall-in-If.result _ (all_fall (view_defs c.args.defs.now) (view_stmts c.in-If.other.items)) (c.all_fall-in-If.ensures ∙ ap (λ z. all_fall (view_defs c.args.defs.now) (view_stmts z)) c.deref-in-If.ensures.value) c.if-all_fall.true)

pub falls-returns-else-all_fall : goal.falls-returns-else-all_fall
falls-returns-else-all_fall t c =
    shown (falls (view_defs c.args.defs.now)) c.args.s.now _ _ c.all_fall-else-all_fall.result c.in-If.is (view_stmt-If c.in-If.condition c.in-If.then c.in-If.other)
    (second_holds c.all_fall-in-If.result _ c.all_fall-else-all_fall.result _ (c.all_fall-in-If.ensures ∙ ap (λ z. all_fall (view_defs c.args.defs.now) (view_stmts z)) c.deref-in-If.ensures.value) c.if-all_fall.false
    (c.all_fall-else-all_fall.ensures ∙ ap (λ z. all_fall (view_defs c.args.defs.now) (view_stmts z)) c.deref-else-all_fall.ensures.value))

pub falls-returns-in-While : goal.falls-returns-in-While
falls-returns-in-While t c =
    shown (falls (view_defs c.args.defs.now)) c.args.s.now _ _ c.loop_falls.result c.in-While.is (view_stmt-While c.in-While.condition c.in-While.body)
    (c.loop_falls.ensures ∙ ap (λ z. is_some c.in-While.condition || has_any jump.Break 0 (view_stmts z)) c.deref-in-While.ensures.value
    ∙ ap (λ (z : Bool). z || has_any jump.Break 0 (view_stmts c.in-While.body.items)) (boxed c.in-While.condition))

pub falls-returns-in-For : goal.falls-returns-in-For
falls-returns-in-For t c =
    shown (falls (view_defs c.args.defs.now)) c.args.s.now _ _ c.loop_falls-in-For.result c.in-For.is (view_stmt-For c.in-For.first c.in-For.condition c.in-For.next c.in-For.body)
    (c.loop_falls-in-For.ensures ∙ ap (λ z. is_some c.in-For.condition || has_any jump.Break 0 (view_stmts z)) c.deref-in-For.ensures.value
    ∙ ap (λ (z : Bool). z || has_any jump.Break 0 (view_stmts c.in-For.body.items)) (boxed c.in-For.condition))

pub falls-returns-in-Do : goal.falls-returns-in-Do
falls-returns-in-Do t c =
    shown (falls (view_defs c.args.defs.now)) c.args.s.now _ _ c.turn_falls.result c.in-Do.is (view_stmt-Do c.in-Do.body c.in-Do.condition)
    (c.turn_falls.ensures ∙ ap (λ z. turn_falls (view_defs c.args.defs.now) (view_stmts z) (is_some c.in-Do.condition)) c.deref-in-Do.ensures.value
    ∙ ap (turn_falls (view_defs c.args.defs.now) (view_stmts c.in-Do.body.items)) (boxed c.in-Do.condition))

pub falls-returns-in-Alt : goal.falls-returns-in-Alt
falls-returns-in-Alt t c =
    shown (falls (view_defs c.args.defs.now)) c.args.s.now _ _ c.alt_falls.result c.in-Alt.is (view_stmt-Alt c.in-Alt.arms)
    (c.alt_falls.ensures ∙ ap (λ z. arms_fall (view_defs c.args.defs.now) (bodies_of (map view_alt_arm z))) c.deref-in-Alt.ensures.value)

pub falls-returns-then-not-takes_rest : goal.falls-returns-then-not-takes_rest
falls-returns-then-not-takes_rest t c =
    shown (falls (view_defs c.args.defs.now)) c.args.s.now _ _ (not c.takes_rest.result) c.in-Case.is (view_stmt-Case c.in-Case.value c.in-Case.arms)
    (first_holds (not c.takes_rest.result) _ (arms_fall (view_defs c.args.defs.now) (bodies_of (map view_case_arm c.in-Case.arms.items)))
    (ap not (c.takes_rest.ensures ∙ ap (λ z. takes_rest (heads_of (map view_case_arm z))) c.deref-in-Case.ensures.value)) (ap not c.if-not-takes_rest.true))

pub falls-returns-else-not-takes_rest : goal.falls-returns-else-not-takes_rest
falls-returns-else-not-takes_rest t c =
    shown (falls (view_defs c.args.defs.now)) c.args.s.now _ _ c.case_falls.result c.in-Case.is (view_stmt-Case c.in-Case.value c.in-Case.arms)
    (second_holds (not c.takes_rest.result) _ c.case_falls.result _ (ap not (c.takes_rest.ensures ∙ ap (λ z. takes_rest (heads_of (map view_case_arm z))) c.deref-in-Case.ensures.value)) (ap not c.if-not-takes_rest.false)
    (c.case_falls.ensures ∙ ap (λ z. arms_fall (view_defs c.args.defs.now) (bodies_of (map view_case_arm z))) c.deref-else-not-takes_rest.ensures.value))

pub falls-returns-then-all_fall-2 : goal.falls-returns-then-all_fall-2
falls-returns-then-all_fall-2 t c =
    shown (falls (view_defs c.args.defs.now)) c.args.s.now _ _ c.all_fall-in-Handle.result c.in-Handle.is (view_stmt-Handle c.in-Handle.body c.in-Handle.caught c.in-Handle.arms)
    (first_holds c.all_fall-in-Handle.result _ (some_falls (view_defs c.args.defs.now) (bodies_of (map view_handler_arm c.in-Handle.arms.items)))
    (c.all_fall-in-Handle.ensures ∙ ap (λ z. all_fall (view_defs c.args.defs.now) (view_stmts z)) c.deref-in-Handle.ensures.value) c.if-all_fall-2.true)

pub falls-returns-else-all_fall-2 : goal.falls-returns-else-all_fall-2
falls-returns-else-all_fall-2 t c =
    shown (falls (view_defs c.args.defs.now)) c.args.s.now _ _ c.handler_falls.result c.in-Handle.is (view_stmt-Handle c.in-Handle.body c.in-Handle.caught c.in-Handle.arms)
    (second_holds c.all_fall-in-Handle.result _ c.handler_falls.result _
    (c.all_fall-in-Handle.ensures ∙ ap (λ z. all_fall (view_defs c.args.defs.now) (view_stmts z)) c.deref-in-Handle.ensures.value) c.if-all_fall-2.false
    (c.handler_falls.ensures ∙ ap (λ z. some_falls (view_defs c.args.defs.now) (bodies_of (map view_handler_arm z))) c.deref-else-all_fall-2.ensures.value))
