use Rattle.limbo_types.specs.View.{view_ty}
use Rattle.limbo_types.proofs.Same.{decides}
use Rattle.limbo_types.proofs.sameness.equal.Goals as goal

pub returns : goal.returns
returns c = decides (view_ty c.args.a.now) (view_ty c.args.b.now) _ c.same.ensures
