use Rattle.limbo_entries.specs.View.{entries_of}
use Rattle.limbo_context.specs.View.{view_context}
use Rattle.limbo_declared_types.specs.Permitted.{PermittedTo}
use Rattle.limbo_declared_types.proofs.permitting.permit_all.Given as goal

abbrev pub invariant-loop-number : goal.invariant-loop-number
invariant-loop-number l = PermittedTo (entries_of l.table.entries.items) l.implemented (view_context l.context) l.number
