use Rattle.limbo_types.specs.View.{view_ty}
use Rattle.limbo_typed.specs.View.{view_pattern}
use Rattle.limbo_assigning.proofs.Told.{takes_exactly}
use Rattle.limbo_assigning.proofs.asking.takes.Goals as goal

pub returns : goal.returns
returns c = takes_exactly c.takes_value.result (view_pattern c.args.pattern.now) (view_ty c.args.t.now) c.takes_value.ensures
