use Rattle.std.proofs.Common.{arith}
use Rattle.limbo_layout.proofs.Sound.{below_at}
use Rattle.value_operands.proofs.scene.Scene.variable_references.Goals as goal

pub overflow_add-offset : goal.overflow_add-offset
overflow_add-offset c =
    let b = below_at _ c.references-offset-items.result.now c.loop-offset.offset-index 0 c.references-offset-items.ensures.inside (omega arith) in
    let f = c.in_ok-row.ensures.fits in
    omega arith
