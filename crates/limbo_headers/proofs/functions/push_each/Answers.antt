use Rattle.limbo_types.specs.View.{view_ty}
use Rattle.limbo_headers.proofs.Listing.{pushed}
use Rattle.limbo_headers.proofs.functions.push_each.Goals as goal

pub loop-name-preserved : goal.loop-name-preserved
loop-name-preserved c =
    pushed c.args.types.now.items c.loop-name.types.items c.push.new.self.items c.in_ok-copy.field-0 (view_ty c.args.ty.now) c.args.names.now c.loop-name._name-index
    c._name-item.result c.loop-name-test.true c.in_ok-push.ensures.items c.in_ok-copy.ensures c.loop-name.invariant
