-- A search of the code.
use Rattle.std.specs.Prelude.{ℕ, List}
use Rattle.limbo_order.specs.declared.ordering.Search.{Search}
use Rattle.limbo_order.specs.Searching.{IsSearch}

abbrev pub Searches : List (List ℕ) → Search → List ℕ → Type 0
Searches rows s path = IsSearch rows s.entered.items s.done.items s.cursors.items s.order.items path
