use Rattle.limbo_types.specs.View.{view_ty}
use Rattle.typed_part.proofs.Types.{same_told}
use Rattle.typed_part.proofs.kinds.same.Goals as goal

pub returns : goal.returns
returns c = same_told c.equal.result (view_ty c.args.t.now) (view_ty c.args.u.now) c.equal.ensures
