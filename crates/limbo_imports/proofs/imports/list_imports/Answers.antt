use Rattle.limbo_meanings.specs.Listed.{none_left}
use Rattle.limbo_imports.proofs.imports.list_imports.Goals as goal

pub loop-number-init : goal.loop-number-init
loop-number-init c = rw c.new-imports.ensures.items (none_left 0)
