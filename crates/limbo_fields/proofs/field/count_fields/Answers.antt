use Rattle.std.proofs.Common.{◌+◌, List, length, ap, ◌∙◌}
use Rattle.limbo_layout.specs.declared.def.Field as code_field
use Rattle.limbo_fields.proofs.Named.{counted}
use Rattle.limbo_fields.proofs.field.count_fields.Goals as goal

pub loop-variant-preserved : goal.loop-variant-preserved
loop-variant-preserved c =
    let k = counted c.args.variants.now c.loop-variant.variant-index c.variant-item.result c.loop-variant.count c.loop-variant-test.true c.variant-item.is c.loop-variant.invariant in
    (c.in_ok-count.ensures {u = tt}).1 ∙ ap (λ (z : List code_field.Field). c.loop-variant.count + length z) c.as_slice.ensures.value ∙ k
