use Rattle.std.proofs.Common.{map, take, ◌+◌}
use Rattle.limbo_tree.specs.View as source
use Rattle.limbo_layout.specs.View.{view_fields}
use Rattle.limbo_context.specs.View.{view_context, view_body}
use Rattle.limbo_members.proofs.Fielded.{viewed_at, viewed_below, viewed_more, fields_on, some_field_fails}
use Rattle.limbo_members.proofs.fields.fields_of.Goals as goal

pub returns-in-Err-clause-refused : goal.returns-in-Err-clause-refused
returns-in-Err-clause-refused c =
    some_field_fails (view_context c.args.context.now) (view_body c.args.body.now) (map source.view_field c.args.all.now) c.loop-f.f-index
    (source.view_field c.f-item.result) c.in-Err.fault.cause
    (viewed_below source.view_field c.args.all.now c.loop-f.f-index c.loop-f-test.true)
    (viewed_at source.view_field c.args.all.now c.loop-f.f-index c.f-item.result c.loop-f-test.true c.f-item.is) c.in-Err.ensures.refused

pub loop-f-preserved : goal.loop-f-preserved
loop-f-preserved c =
    fields_on (view_context c.args.context.now) (view_body c.args.body.now)
    (map source.view_field (take c.loop-f.f-index c.args.all.now))
    (map source.view_field (take (c.loop-f.f-index + 1) c.args.all.now)) (source.view_field c.f-item.result)
    (view_fields c.loop-f.fields.items) (view_fields c.add_fields.new.fields.items)
    (viewed_more source.view_field c.args.all.now c.loop-f.f-index c.f-item.result c.loop-f-test.true c.f-item.is) c.loop-f.invariant
    c.in-Ok.ensures.added
