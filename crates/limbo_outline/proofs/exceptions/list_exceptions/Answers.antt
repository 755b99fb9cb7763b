use Rattle.limbo_meanings.specs.Listed.{none_left}
use Rattle.limbo_outline.proofs.exceptions.list_exceptions.Goals as goal

pub loop-number-init : goal.loop-number-init
loop-number-init c = λ m headed. rw c.new-exceptions.ensures.items (none_left 0)
