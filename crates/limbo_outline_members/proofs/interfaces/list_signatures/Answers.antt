use Rattle.limbo_meanings.specs.Listed.{none_left}
use Rattle.limbo_outline_members.proofs.interfaces.list_signatures.Goals as goal

pub loop-number-init : goal.loop-number-init
loop-number-init c = λ m headed. rw c.new-signatures.ensures.items (none_left 0)
