use Rattle.limbo_meanings.specs.Listed.{none_left}
use Rattle.limbo_outline.proofs.types.list_types.Goals as goal

pub loop-number-init : goal.loop-number-init
loop-number-init c = rw c.new-types.ensures.items (none_left 0)
