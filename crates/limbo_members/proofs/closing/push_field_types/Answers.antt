use Rattle.limbo_members.proofs.Closed.{field_types_more}
use Rattle.limbo_members.proofs.closing.push_field_types.Goals as goal

pub loop-field-preserved : goal.loop-field-preserved
loop-field-preserved c =
    field_types_more c.args.types.now.items c.loop-field.types.items c.push.new.self.items c.args.fields.now c.loop-field.field-index
    c.field-item.result c.in_ok-copy.field-0 c.in_ok-push.ensures.items c.in_ok-copy.ensures c.loop-field-test.true c.field-item.is
    c.loop-field.invariant
