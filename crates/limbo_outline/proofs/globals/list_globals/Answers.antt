use Rattle.limbo_meanings.specs.Listed.{none_left}
use Rattle.limbo_outline.proofs.globals.list_globals.Goals as goal

pub loop-number-init : goal.loop-number-init
loop-number-init c = rw c.new-globals.ensures.items (none_left 0)
