use Rattle.std.proofs.Common.{map}
use Rattle.limbo_typed.specs.View.{view_interface}
use Rattle.limbo_entries.specs.View.{entries_of}
use Rattle.limbo_outline_members.specs.Members.{InterfacesTo}
use Rattle.limbo_outline_members.proofs.interfaces.list_interfaces.Given as goal

abbrev pub invariant-loop-number : goal.invariant-loop-number
invariant-loop-number l =
    InterfacesTo (entries_of l.table.entries.items) l.implemented l.builtin l.number (map view_interface l.interfaces.items)
