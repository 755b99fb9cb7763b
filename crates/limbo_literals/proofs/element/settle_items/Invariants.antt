use Rattle.limbo_types.specs.View.{view_ty}
use Rattle.limbo_literals.proofs.Elements.{ItemsSoFar, left}
use Rattle.limbo_literals.proofs.element.settle_items.Given as goal

abbrev pub invariant-loop-item : goal.invariant-loop-item
invariant-loop-item l = ItemsSoFar (view_ty l.asked) (left l.fn.items.items) l.item-items l.item-index
