use Rattle.std.proofs.lemmas.Result.{err_from_is_err_and}
use Rattle.std.specs.List.{flat_map}
use Rattle.dis_format.specs.Parts.{counted, import_parts}
use Rattle.dis_format.specs.Writing.{put_all}
use Rattle.dis_writing.proofs.Steps.{item_goes_on, item_ends}
use Rattle.dis_writing.proofs.sections.put_tables.Goals as goal

pub returns-in_err-put_table : goal.returns-in_err-put_table
returns-in_err-put_table c =
    let p = err_from_is_err_and c.from_residual.result c.from_residual.ensures.1 in
    rw (p.1, p.2)
    (item_ends (counted import_parts) c.in_err-put_table.field-0.0 c.args.tables.now c.loop-table.table-index
    c.table-item.result c.loop-table.out.items
    (put_all c.args.out.now.items (flat_map (counted import_parts) c.args.tables.now)) c.loop-table-test.true
    c.table-item.is c.in_err-put_table.ensures
    c.loop-table.invariant)

pub loop-table-preserved : goal.loop-table-preserved
loop-table-preserved c =
    item_goes_on (counted import_parts) c.args.tables.now c.loop-table.table-index c.table-item.result
    c.loop-table.out.items c.put_table.new.out.items
    (put_all c.args.out.now.items (flat_map (counted import_parts) c.args.tables.now)) c.loop-table-test.true
    c.table-item.is c.in_ok-put_table.ensures
    c.loop-table.invariant
