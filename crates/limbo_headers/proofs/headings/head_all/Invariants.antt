use Rattle.std.proofs.Common.{◌≡◌, ℕ, Some, length, slice_get}
use Rattle.limbo_entries.specs.Entries.{Entry, IsEntry}
use Rattle.limbo_type_names.specs.Working.{entries_in}
use Rattle.limbo_headers.specs.declared.header.Heading.{Heading}
use Rattle.limbo_headers.specs.Headers.{Heads}
use Rattle.limbo_headers.proofs.headings.head_all.Given as goal

abbrev pub invariant-loop-number : goal.invariant-loop-number
invariant-loop-number l = record {
  many : length l.all.items ≡ l.number;
  heads : (k : ℕ) (e : Entry) (h : Heading) → IsEntry (entries_in l.names.naming.now) k e → slice_get l.all.items k ≡ Some h
      → Heads (entries_in l.names.naming.now) l.names.naming.now.implemented e h;
}
