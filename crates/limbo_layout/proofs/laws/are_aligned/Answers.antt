use Rattle.limbo_layout.specs.Layout.{nothing}
use Rattle.limbo_layout.proofs.Placed.{parts_aligned, whole_aligned}
use Rattle.limbo_layout.proofs.laws.are_aligned.Goals as goal

pub returns : goal.returns
returns c = λ defs ts rs h. (λ p i. parts_aligned defs ts rs h nothing p i, whole_aligned rs)
