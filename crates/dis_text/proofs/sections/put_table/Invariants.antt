use Rattle.std.proofs.Common.{◌≡◌, ◌++◌, drop}
use Rattle.std.specs.List.{flat_map}
use Rattle.dis_text.specs.Listing.{import_line}
use Rattle.dis_text.proofs.sections.put_table.Given as goal

abbrev pub invariant-loop-import : goal.invariant-loop-import
invariant-loop-import l = l.out.items ++ flat_map (import_line l.table) (drop l.import-index l.import-items)
    ≡ l.fn.out.items ++ flat_map (import_line l.table) l.import-items
