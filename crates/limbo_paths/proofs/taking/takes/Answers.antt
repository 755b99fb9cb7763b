use Rattle.std.proofs.Common.{◌∙◌, refl, sym, ap}
use Rattle.limbo_typed.specs.Typed.{PickHead}
use Rattle.limbo_typed.specs.View.{view_pick_arm}
use Rattle.limbo_paths.specs.Walking.{names, takes}
use Rattle.limbo_paths.proofs.Arms.{pick_head, head_passes, head_fails}
use Rattle.limbo_paths.proofs.taking.takes.Goals as goal

pub loop-arm-preserved : goal.loop-arm-preserved
loop-arm-preserved c =
    head_fails view_pick_arm (λ a. record { variants = a.variants.items; variable = a.variable }) pick_head (λ (h : PickHead). names c.args.variant h.variants) (takes c.args.variant) (λ h hs. refl)
    c.args.arms.now c.loop-arm.arm-index c.arm-item.result c.loop-arm-test.true c.arm-item.is
    (sym (ap (names c.args.variant) c.deref.ensures.value) ∙ sym c.names.ensures ∙ c.if-names.false) c.loop-arm.invariant

pub returns-then-names : goal.returns-then-names
returns-then-names c =
    head_passes view_pick_arm (λ a. record { variants = a.variants.items; variable = a.variable }) pick_head (λ (h : PickHead). names c.args.variant h.variants) (takes c.args.variant) (λ h hs. refl)
    c.args.arms.now c.loop-arm.arm-index c.arm-item.result c.loop-arm-test.true c.arm-item.is
    (sym (ap (names c.args.variant) c.deref.ensures.value) ∙ sym c.names.ensures ∙ c.if-names.true) c.loop-arm.invariant
