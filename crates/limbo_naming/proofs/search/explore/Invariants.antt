use Rattle.limbo_entries.specs.View.{entries_of}
use Rattle.limbo_naming.specs.declared.state.State.TheVariants.{NotYet}
use Rattle.limbo_naming.specs.Search.{HasState, IsSearch, left}
use Rattle.limbo_naming.specs.Steps.{NoneForgotten}
use Rattle.limbo_naming.proofs.search.explore.Given as goal

abbrev pub invariant-going : goal.invariant-going
invariant-going l = record {
  search : IsSearch (entries_of l.table.entries.items) l.implemented l.states.items l.path.items;
  seen : NoneForgotten l.fn.states.items l.states.items;
  here : HasState l.states.items l.number NotYet → ⊥;
}

abbrev pub decreases-going : goal.decreases-going
decreases-going l = left l.states.items l.path.items
