use Rattle.std.proofs.Common.{◌≡◌, ◌++◌, drop}
use Rattle.dis_text.specs.Listing.{numbered, table_lines}
use Rattle.dis_text.proofs.sections.put_tables.Given as goal

abbrev pub invariant-loop-number : goal.invariant-loop-number
invariant-loop-number l = l.out.items ++ numbered table_lines l.number (drop l.number l.tables)
    ≡ l.fn.out.items ++ numbered table_lines 0 l.tables
