use Rattle.std.proofs.Common.{◌∙◌, refl, sym, ap}
use Rattle.limbo_typed.specs.View.{view_case_arm}
use Rattle.limbo_paths.specs.Walking.{has_star, takes_rest}
use Rattle.limbo_paths.proofs.Arms.{case_head, head_passes, head_fails}
use Rattle.limbo_paths.proofs.taking.takes_rest.Goals as goal

pub loop-arm-preserved : goal.loop-arm-preserved
loop-arm-preserved c =
    head_fails view_case_arm (λ a. a.patterns.items) case_head has_star takes_rest (λ h hs. refl)
    c.args.arms.now c.loop-arm.arm-index c.arm-item.result c.loop-arm-test.true c.arm-item.is
    (sym (ap has_star c.deref.ensures.value) ∙ sym c.has_star.ensures ∙ c.if-has_star.false) c.loop-arm.invariant

pub returns-then-has_star : goal.returns-then-has_star
returns-then-has_star c =
    head_passes view_case_arm (λ a. a.patterns.items) case_head has_star takes_rest (λ h hs. refl)
    c.args.arms.now c.loop-arm.arm-index c.arm-item.result c.loop-arm-test.true c.arm-item.is
    (sym (ap has_star c.deref.ensures.value) ∙ sym c.has_star.ensures ∙ c.if-has_star.true) c.loop-arm.invariant
