use Rattle.limbo_tree.specs.View.{names_of}
use Rattle.limbo_locals.specs.Named.{means}
use Rattle.limbo_locals.proofs.Freed.{Placed}
use Rattle.limbo_locals.proofs.names.declare_names.Given as goal

abbrev pub invariant-loop-at : goal.invariant-loop-at
invariant-loop-at l = Placed (means l.lead) l.first l.initial.scopes l.scopes (names_of l.names) l.at
