use Rattle.std.proofs.Common.{ℕ, ◌<◌, ◌≤◌, true}
use Rattle.limbo_order.specs.Order.{StandsAt}
use Rattle.limbo_order.proofs.ordering.first_undone.Given as goal

abbrev pub invariant-loop-place : goal.invariant-loop-place
invariant-loop-place l = (k m : ℕ) → l.from ≤ k → k < l.place → StandsAt l.row k m → StandsAt l.done m true
