use Rattle.limbo_meanings.specs.Listed.{none_left}
use Rattle.limbo_outline.proofs.constants.list_constants.Goals as goal

pub loop-number-init : goal.loop-number-init
loop-number-init c = rw c.new-constants.ensures.items (none_left 0)
