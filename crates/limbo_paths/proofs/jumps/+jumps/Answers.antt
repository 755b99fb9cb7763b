use Rattle.std.proofs.Common.{◌∙◌, suc, refl, ap, map}
use Rattle.limbo_typed.specs.View.{view_case_arm, view_alt_arm, view_pick_arm, view_handler_arm, view_stmts, bodies_of}
use Rattle.limbo_typed.proofs.View.{view_stmt-Block, view_stmt-If, view_stmt-While, view_stmt-Do, view_stmt-For, view_stmt-Case, view_stmt-Alt, view_stmt-Pick, view_stmt-Handle}
use Rattle.limbo_paths.specs.Walking.{has, has_any, has_in}
use Rattle.limbo_paths.proofs.Arms.{case_body, alt_body, pick_body, handler_body, passes, fails}
use Rattle.limbo_paths.proofs.Forms.{no_parts, shown, first_holds, second_holds}
use Rattle.limbo_paths.proofs.jumps.+jumps.Goals as goal

pub has-returns-in_default : goal.has-returns-in_default
has-returns-in_default t c n h =
    c.is_jump.ensures n h
    ∙ no_parts c.args.jump n c.args.s.now c.in_default.not-Block c.in_default.not-If c.in_default.not-While c.in_default.not-Do c.in_default.not-For
    c.in_default.not-Case c.in_default.not-Alt c.in_default.not-Pick c.in_default.not-Handle

pub case_has-returns-then-any_has : goal.case_has-returns-then-any_has
case_has-returns-then-any_has t c n h =
    passes view_case_arm (λ a. a.body.items) case_body (has_any c.args.jump n) (has_in c.args.jump n) (λ ss arms. refl) c.args.arms.now c.loop-arm.arm-index c.arm-item.result c.deref.result.now c.any_has.result
    c.loop-arm-test.true c.arm-item.is c.deref.ensures.value (c.any_has.ensures n h) c.if-any_has.true (c.loop-arm.invariant n h)

pub case_has-loop-arm-preserved : goal.case_has-loop-arm-preserved
case_has-loop-arm-preserved t c n h =
    fails view_case_arm (λ a. a.body.items) case_body (has_any c.args.jump n) (has_in c.args.jump n) (λ ss arms. refl) c.args.arms.now c.loop-arm.arm-index c.arm-item.result c.deref.result.now c.any_has.result
    c.loop-arm-test.true c.arm-item.is c.deref.ensures.value (c.any_has.ensures n h) c.if-any_has.false (c.loop-arm.invariant n h)

pub alt_has-returns-then-any_has : goal.alt_has-returns-then-any_has
alt_has-returns-then-any_has t c n h =
    passes view_alt_arm (λ a. a.body.items) alt_body (has_any c.args.jump n) (has_in c.args.jump n) (λ ss arms. refl) c.args.arms.now c.loop-arm.arm-index c.arm-item.result c.deref.result.now c.any_has.result
    c.loop-arm-test.true c.arm-item.is c.deref.ensures.value (c.any_has.ensures n h) c.if-any_has.true (c.loop-arm.invariant n h)

pub alt_has-loop-arm-preserved : goal.alt_has-loop-arm-preserved
alt_has-loop-arm-preserved t c n h =
    fails view_alt_arm (λ a. a.body.items) alt_body (has_any c.args.jump n) (has_in c.args.jump n) (λ ss arms. refl) c.args.arms.now c.loop-arm.arm-index c.arm-item.result c.deref.result.now c.any_has.result
    c.loop-arm-test.true c.arm-item.is c.deref.ensures.value (c.any_has.ensures n h) c.if-any_has.false (c.loop-arm.invariant n h)

pub pick_has-returns-then-any_has : goal.pick_has-returns-then-any_has
pick_has-returns-then-any_has t c n h =
    passes view_pick_arm (λ a. a.body.items) pick_body (has_any c.args.jump n) (has_in c.args.jump n) (λ ss arms. refl) c.args.arms.now c.loop-arm.arm-index c.arm-item.result c.deref.result.now c.any_has.result
    c.loop-arm-test.true c.arm-item.is c.deref.ensures.value (c.any_has.ensures n h) c.if-any_has.true (c.loop-arm.invariant n h)

pub pick_has-loop-arm-preserved : goal.pick_has-loop-arm-preserved
pick_has-loop-arm-preserved t c n h =
    fails view_pick_arm (λ a. a.body.items) pick_body (has_any c.args.jump n) (has_in c.args.jump n) (λ ss arms. refl) c.args.arms.now c.loop-arm.arm-index c.arm-item.result c.deref.result.now c.any_has.result
    c.loop-arm-test.true c.arm-item.is c.deref.ensures.value (c.any_has.ensures n h) c.if-any_has.false (c.loop-arm.invariant n h)

pub handler_has-returns-then-any_has : goal.handler_has-returns-then-any_has
handler_has-returns-then-any_has t c n h =
    passes view_handler_arm (λ a. a.body.items) handler_body (has_any c.args.jump n) (has_in c.args.jump n) (λ ss arms. refl) c.args.arms.now c.loop-arm.arm-index c.arm-item.result c.deref.result.now c.any_has.result
    c.loop-arm-test.true c.arm-item.is c.deref.ensures.value (c.any_has.ensures n h) c.if-any_has.true (c.loop-arm.invariant n h)

pub handler_has-loop-arm-preserved : goal.handler_has-loop-arm-preserved
handler_has-loop-arm-preserved t c n h =
    fails view_handler_arm (λ a. a.body.items) handler_body (has_any c.args.jump n) (has_in c.args.jump n) (λ ss arms. refl) c.args.arms.now c.loop-arm.arm-index c.arm-item.result c.deref.result.now c.any_has.result
    c.loop-arm-test.true c.arm-item.is c.deref.ensures.value (c.any_has.ensures n h) c.if-any_has.false (c.loop-arm.invariant n h)

pub has-returns-in-Block : goal.has-returns-in-Block
has-returns-in-Block t c n h =
    shown (has c.args.jump n) c.args.s.now _ _ c.any_has.result c.in-Block.is (view_stmt-Block c.in-Block.body) (c.any_has.ensures n h ∙ ap (λ z. has_any c.args.jump n (view_stmts z)) c.deref.ensures.value)

pub has-returns-then-any_has : goal.has-returns-then-any_has
has-returns-then-any_has t c n h =
    shown (has c.args.jump n) c.args.s.now _ _ c.any_has-in-If.result c.in-If.is (view_stmt-If c.in-If.condition c.in-If.then c.in-If.other)
    (first_holds c.any_has-in-If.result _ (has_any c.args.jump n (view_stmts c.in-If.other.items)) (c.any_has-in-If.ensures n h ∙ ap (λ z. has_any c.args.jump n (view_stmts z)) c.deref-in-If.ensures.value) c.if-any_has.true)

pub has-returns-else-any_has : goal.has-returns-else-any_has
has-returns-else-any_has t c n h =
    shown (has c.args.jump n) c.args.s.now _ _ c.any_has-else-any_has.result c.in-If.is (view_stmt-If c.in-If.condition c.in-If.then c.in-If.other)
    (second_holds c.any_has-in-If.result _ c.any_has-else-any_has.result _ (c.any_has-in-If.ensures n h ∙ ap (λ z. has_any c.args.jump n (view_stmts z)) c.deref-in-If.ensures.value) c.if-any_has.false
    (c.any_has-else-any_has.ensures n h ∙ ap (λ z. has_any c.args.jump n (view_stmts z)) c.deref-else-any_has.ensures.value))

pub has-returns-in-While : goal.has-returns-in-While
has-returns-in-While t c n h =
    shown (has c.args.jump n) c.args.s.now _ _ c.any_has-in-While.result c.in-While.is (view_stmt-While c.in-While.condition c.in-While.body)
    (c.any_has-in-While.ensures (suc n) (c.deeper.ensures n h) ∙ ap (λ z. has_any c.args.jump (suc n) (view_stmts z)) c.deref-in-While.ensures.value)

pub has-returns-in-Do : goal.has-returns-in-Do
has-returns-in-Do t c n h =
    shown (has c.args.jump n) c.args.s.now _ _ c.any_has-in-Do.result c.in-Do.is (view_stmt-Do c.in-Do.body c.in-Do.condition)
    (c.any_has-in-Do.ensures (suc n) (c.deeper-in-Do.ensures n h) ∙ ap (λ z. has_any c.args.jump (suc n) (view_stmts z)) c.deref-in-Do.ensures.value)

pub has-returns-in-For : goal.has-returns-in-For
has-returns-in-For t c n h =
    shown (has c.args.jump n) c.args.s.now _ _ c.any_has-in-For.result c.in-For.is (view_stmt-For c.in-For.first c.in-For.condition c.in-For.next c.in-For.body)
    (c.any_has-in-For.ensures (suc n) (c.deeper-in-For.ensures n h) ∙ ap (λ z. has_any c.args.jump (suc n) (view_stmts z)) c.deref-in-For.ensures.value)

pub has-returns-in-Case : goal.has-returns-in-Case
has-returns-in-Case t c n h =
    shown (has c.args.jump n) c.args.s.now _ _ c.case_has.result c.in-Case.is (view_stmt-Case c.in-Case.value c.in-Case.arms)
    (c.case_has.ensures (suc n) (c.deeper-in-Case.ensures n h) ∙ ap (λ z. has_in c.args.jump (suc n) (bodies_of (map view_case_arm z))) c.deref-in-Case.ensures.value)

pub has-returns-in-Alt : goal.has-returns-in-Alt
has-returns-in-Alt t c n h =
    shown (has c.args.jump n) c.args.s.now _ _ c.alt_has.result c.in-Alt.is (view_stmt-Alt c.in-Alt.arms)
    (c.alt_has.ensures (suc n) (c.deeper-in-Alt.ensures n h) ∙ ap (λ z. has_in c.args.jump (suc n) (bodies_of (map view_alt_arm z))) c.deref-in-Alt.ensures.value)

pub has-returns-in-Pick : goal.has-returns-in-Pick
has-returns-in-Pick t c n h =
    shown (has c.args.jump n) c.args.s.now _ _ c.pick_has.result c.in-Pick.is (view_stmt-Pick c.in-Pick.value c.in-Pick.arms)
    (c.pick_has.ensures (suc n) (c.deeper-in-Pick.ensures n h) ∙ ap (λ z. has_in c.args.jump (suc n) (bodies_of (map view_pick_arm z))) c.deref-in-Pick.ensures.value)

pub has-returns-then-any_has-2 : goal.has-returns-then-any_has-2
has-returns-then-any_has-2 t c n h =
    shown (has c.args.jump n) c.args.s.now _ _ c.any_has-in-Handle.result c.in-Handle.is (view_stmt-Handle c.in-Handle.body c.in-Handle.caught c.in-Handle.arms)
    (first_holds c.any_has-in-Handle.result _ (has_in c.args.jump n (bodies_of (map view_handler_arm c.in-Handle.arms.items))) (c.any_has-in-Handle.ensures n h ∙ ap (λ z. has_any c.args.jump n (view_stmts z)) c.deref-in-Handle.ensures.value) c.if-any_has-2.true)

pub has-returns-else-any_has-2 : goal.has-returns-else-any_has-2
has-returns-else-any_has-2 t c n h =
    shown (has c.args.jump n) c.args.s.now _ _ c.handler_has.result c.in-Handle.is (view_stmt-Handle c.in-Handle.body c.in-Handle.caught c.in-Handle.arms)
    (second_holds c.any_has-in-Handle.result _ c.handler_has.result _ (c.any_has-in-Handle.ensures n h ∙ ap (λ z. has_any c.args.jump n (view_stmts z)) c.deref-in-Handle.ensures.value) c.if-any_has-2.false
    (c.handler_has.ensures n h ∙ ap (λ z. has_in c.args.jump n (bodies_of (map view_handler_arm z))) c.deref-else-any_has-2.ensures.value))
