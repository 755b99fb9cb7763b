use Rattle.std.proofs.Common.{◌<◌, count_by, arith}
use Rattle.limbo_entries.specs.View.{entries_of}
use Rattle.limbo_type_names.specs.Counts.{is_adt_entry}
use Rattle.limbo_source_context.proofs.Refusing.{no_layout}
use Rattle.limbo_source_context.proofs.outer.find_adts.Goals as goal

pub returns-else-adt-count_adts-clause-fails : goal.returns-else-adt-count_adts-clause-fails
returns-else-adt-count_adts-clause-fails c =
    let es = entries_of c.args.table.now.entries.items in
    let n = c.in-Err-TooLarge.adt in
    let a = c.if-adt-count_adts.false in
    let b = c.count_adts.ensures in
    let l : n < count_by is_adt_entry es = omega arith in
    let m = c.args.implemented in
    no_layout es m n l (c.in-Err-TooLarge.ensures.too_large n m c.in-Err-TooLarge.field-0-is c.requires.headed)
