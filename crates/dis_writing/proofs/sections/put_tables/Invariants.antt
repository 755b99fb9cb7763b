use Rattle.std.proofs.Common.{◌≡◌, drop}
use Rattle.std.specs.List.{flat_map}
use Rattle.dis_format.specs.Parts.{counted, import_parts}
use Rattle.dis_format.specs.Writing.{put_all}
use Rattle.dis_writing.proofs.sections.put_tables.Given as goal

abbrev pub invariant-loop-table : goal.invariant-loop-table
invariant-loop-table l = put_all l.out.items (flat_map (counted import_parts) (drop l.table-index l.tables))
    ≡ put_all l.fn.out.items (flat_map (counted import_parts) l.tables)
