use Rattle.limbo_entries.specs.View.{entries_of}
use Rattle.limbo_constant_values.proofs.Initials.{AreInitialsTo}
use Rattle.limbo_constant_values.proofs.initial.find_initials.Given as goal

abbrev pub invariant-loop-number : goal.invariant-loop-number
invariant-loop-number l = AreInitialsTo (entries_of l.table.entries.items) l.implemented l.number l.all.items
