use Rattle.std.proofs.Common.{◌≡◌, ◌++◌, map, drop}
use Rattle.limbo_tree.specs.View.{view_field}
use Rattle.limbo_declarations.specs.Rows.{rows_of_fields}
use Rattle.limbo_declarations.specs.View.{rows_of}
use Rattle.limbo_declarations.proofs.rows.field_rows.Given as goal

abbrev pub invariant-loop-field : goal.invariant-loop-field
invariant-loop-field l =
    rows_of l.rows.items ++ rows_of_fields l.path (map view_field (drop l.field-index l.fields)) ≡ rows_of_fields l.path (map view_field l.fields)
