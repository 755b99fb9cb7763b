use Rattle.limbo_layout.specs.View.{view_defs}
use Rattle.limbo_typed.specs.View.{view_function}
use Rattle.limbo_lower.proofs.Functions.{seen_there, made_more}
use Rattle.limbo_lower.proofs.lowering.lower_functions.Goals as goal

pub lower_function-requires : goal.lower_function-requires
lower_function-requires c =
    c.requires c.loop-f.f-index (view_function c.f-item.result)
    (seen_there c.args.functions.now c.loop-f.f-index c.f-item.result c.loop-f-test.true c.f-item.is)

pub loop-f-preserved : goal.loop-f-preserved
loop-f-preserved c =
    made_more (view_defs c.args.extents.now) c.args.functions.now c.loop-f.f-index c.f-item.result c.loop-f.lowered.items
    c.push.new.self.items c.in_ok-lower_function.field-0 c.loop-f-test.true c.f-item.is (c.in_ok-push.ensures {u = tt}).items
    (c.in_ok-lower_function.ensures {u = tt}) c.loop-f.invariant
