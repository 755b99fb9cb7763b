use Rattle.limbo_entries.specs.View.{entries_of}
use Rattle.limbo_source_context.specs.Beginning.{AreBeginningsTo}
use Rattle.limbo_source_context.proofs.beginning.find_beginnings.Given as goal

abbrev pub invariant-loop-number : goal.invariant-loop-number
invariant-loop-number l = AreBeginningsTo (entries_of l.table.entries.items) l.implemented l.number l.beginnings.items
