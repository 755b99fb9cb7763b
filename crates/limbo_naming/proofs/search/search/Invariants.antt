use Rattle.std.proofs.Common.{ℕ, ◌<◌, []}
use Rattle.limbo_entries.specs.View.{entries_of}
use Rattle.limbo_naming.specs.declared.state.State.TheVariants.{NotYet}
use Rattle.limbo_naming.specs.Search.{HasState, IsSearch}
use Rattle.limbo_naming.proofs.search.search.Given as goal

abbrev pub invariant-loop-number : goal.invariant-loop-number
invariant-loop-number l = record {
  search : IsSearch (entries_of l.table.entries.items) l.implemented l.states.items [];
  below : (j : ℕ) → j < l.number → HasState l.states.items j NotYet → ⊥;
}
