-- What a search has found, once the adts of a row were visited.
use Rattle.std.specs.Prelude.{ℕ, List}
use Rattle.limbo_adts.specs.declared.closing.Search.{Search}
use Rattle.limbo_adts.specs.Closed.{Visited}

abbrev pub Finds : List ℕ → Search → Search → Type 0
Finds row old new = Visited row old.marks.items old.found.items new.marks.items new.found.items
