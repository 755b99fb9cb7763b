use Rattle.std.proofs.Common.{ℕ, map}
use Rattle.limbo_typed.specs.View.{view_signature}
use Rattle.limbo_entries.specs.View.{entries_of}
use Rattle.limbo_outline.specs.limbo_source_adts.Definitions.{AreHeaded}
use Rattle.limbo_outline_members.specs.Members.{SignaturesTo}
use Rattle.limbo_outline_members.proofs.interfaces.list_signatures.Given as goal

abbrev pub invariant-loop-number : goal.invariant-loop-number
invariant-loop-number l =
    (m : ℕ) → AreHeaded (entries_of l.table.entries.items) m l.headings
    → SignaturesTo (entries_of l.table.entries.items) m l.builtin l.outer l.number (map view_signature l.signatures.items)
