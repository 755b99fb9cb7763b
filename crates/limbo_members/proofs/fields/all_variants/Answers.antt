use Rattle.std.proofs.Common.{map, take, ◌+◌}
use Rattle.limbo_tree.specs.View as source
use Rattle.limbo_layout.specs.View.{view_variant}
use Rattle.limbo_context.specs.View.{view_context, view_body}
use Rattle.limbo_members.proofs.Fielded.{viewed_at, viewed_below, viewed_more, variants_on, some_variant_fails}
use Rattle.limbo_members.proofs.fields.all_variants.Goals as goal

pub returns-in-Err-clause-refused : goal.returns-in-Err-clause-refused
returns-in-Err-clause-refused c =
    some_variant_fails (view_context c.args.context.now) (view_body c.args.body.now) (map source.view_variant c.args.all.now)
    c.loop-v.v-index (source.view_variant c.v-item.result) c.in-Err.fault.cause
    (viewed_below source.view_variant c.args.all.now c.loop-v.v-index c.loop-v-test.true)
    (viewed_at source.view_variant c.args.all.now c.loop-v.v-index c.v-item.result c.loop-v-test.true c.v-item.is)
    c.in-Err.ensures.refused

pub loop-v-preserved : goal.loop-v-preserved
loop-v-preserved c =
    variants_on (view_context c.args.context.now) (view_body c.args.body.now)
    (map source.view_variant (take c.loop-v.v-index c.args.all.now))
    (map source.view_variant (take (c.loop-v.v-index + 1) c.args.all.now)) (source.view_variant c.v-item.result)
    (map view_variant c.loop-v.variants.items) (map view_variant c.add_variants.new.variants.items)
    (viewed_more source.view_variant c.args.all.now c.loop-v.v-index c.v-item.result c.loop-v-test.true c.v-item.is) c.loop-v.invariant
    c.in-Ok.ensures.added
