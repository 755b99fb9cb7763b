use Rattle.std.proofs.Common.{ℕ, ◌<◌, [], true}
use Rattle.limbo_order.specs.Order.{StandsAt}
use Rattle.limbo_order.specs.View.{rows}
use Rattle.limbo_order.specs.Seen.{Searches}
use Rattle.limbo_order.proofs.ordering.order.Given as goal

abbrev pub invariant-loop-number : goal.invariant-loop-number
invariant-loop-number l = record {
  searches : Searches (rows l.needs) l.search [];
  below : (n : ℕ) → n < l.number → StandsAt l.search.done.items n true;
}
