use Rattle.std.proofs.Common.{◌∙◌}
use Rattle.core_writing.proofs.Typing.{types_on}
use Rattle.core_writing.proofs.types.types_in.Goals as goal

pub loop-operand-preserved : goal.loop-operand-preserved
loop-operand-preserved c = λ defs.
    types_on defs c.args.operands.now c.loop-operand.operand-index c.operand-item.result c.loop-operand.types.items _ c.in_ok-t.t
    c.loop-operand-test.true c.operand-item.is (c.in_ok-t.ensures {u = tt} defs) (c.in_ok-push.ensures {u = tt}).items
    ∙ c.loop-operand.invariant defs
