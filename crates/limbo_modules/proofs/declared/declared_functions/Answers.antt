use Rattle.limbo_meanings.specs.Listed.{none_left}
use Rattle.limbo_modules.proofs.declared.declared_functions.Goals as goal

pub loop-number-init : goal.loop-number-init
loop-number-init c = rw c.new-declared.ensures.items (none_left 0)
