use Rattle.std.proofs.Common.{List, subst}
use Rattle.limbo_tree.specs.View.{view_source}
use Rattle.limbo_includes.specs.View.{given, view_row}
use Rattle.limbo_top.specs.Tops.{Placed}
use Rattle.source_names.specs.Included.{Flattens}
use Rattle.source_names.proofs.Texts.{row_placed, whole_told, says_of}
use Rattle.source_names.proofs.names.find_row.Goals as goal

pub returns-in-Ok-clause-flat : goal.returns-in-Ok-clause-flat
returns-in-Ok-clause-flat c = λ told read.
    let path = c.args.path.now in
    let source = c.args.source.now in
    subst (λ (z : List Placed). Flattens told 16 path (view_source source).tops z) (row_placed c.in-Ok.row.items)
    (whole_told told path source.tops.items c.args.texts.now read.named c.in-Ok.ensures.whole.nested (view_row c.in-Ok.row.items) c.in-Ok.ensures.flat)

pub returns-in-Err-clause-fails : goal.returns-in-Err-clause-fails
returns-in-Err-clause-fails c = λ told read.
    let e = c.in-Err.ensures in
    c.of_includes.ensures told c.args.source.now c.args.texts.now
    (says_of (given c.args.path.now c.args.source.now c.args.texts.now) c.in-Err.fault e.too_deep e.lacks e.lacks_only e.twice e.twice_only) read
