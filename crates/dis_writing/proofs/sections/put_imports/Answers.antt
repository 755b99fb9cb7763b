use Rattle.std.proofs.lemmas.Result.{err_from_is_err_and}
use Rattle.std.specs.List.{flat_map}
use Rattle.dis_format.specs.Parts.{import_parts}
use Rattle.dis_format.specs.Writing.{put_all}
use Rattle.dis_writing.proofs.Steps.{item_goes_on, item_ends}
use Rattle.dis_writing.proofs.sections.put_imports.Goals as goal

pub returns-in_err-put_import : goal.returns-in_err-put_import
returns-in_err-put_import c =
    let p = err_from_is_err_and c.from_residual.result c.from_residual.ensures.1 in
    rw (p.1, p.2)
    (item_ends import_parts c.in_err-put_import.field-0.0 c.args.imports.now c.loop-import.import-index
    c.import-item.result c.loop-import.out.items
    (put_all c.args.out.now.items (flat_map import_parts c.args.imports.now)) c.loop-import-test.true
    c.import-item.is c.in_err-put_import.ensures
    c.loop-import.invariant)

pub loop-import-preserved : goal.loop-import-preserved
loop-import-preserved c =
    item_goes_on import_parts c.args.imports.now c.loop-import.import-index c.import-item.result
    c.loop-import.out.items c.put_import.new.out.items
    (put_all c.args.out.now.items (flat_map import_parts c.args.imports.now)) c.loop-import-test.true
    c.import-item.is c.in_ok-put_import.ensures
    c.loop-import.invariant
