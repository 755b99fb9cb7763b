use Rattle.std.proofs.Common.{ℕ, true}
use Rattle.limbo_order.specs.Order.{StandsAt}
use Rattle.limbo_order.specs.View.{rows}
use Rattle.limbo_order.specs.Searching.{left}
use Rattle.limbo_order.specs.Seen.{Searches}
use Rattle.limbo_order.proofs.ordering.put.Given as goal

abbrev pub invariant-going : goal.invariant-going
invariant-going l = record {
  searches : Searches (rows l.needs) l.search l.path.items;
  entered : StandsAt l.search.entered.items l.number true;
  keeps : (n : ℕ) → StandsAt l.fn.search.done.items n true → StandsAt l.search.done.items n true;
}

abbrev pub decreases-going : goal.decreases-going
decreases-going l = left l.search.entered.items l.path.items
