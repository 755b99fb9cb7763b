use Rattle.std.proofs.Common.{◌≡◌, ◌++◌, map, drop}
use Rattle.limbo_tree.specs.View.{view_variant}
use Rattle.limbo_declarations.specs.Rows.{rows_of_variants}
use Rattle.limbo_declarations.specs.View.{rows_of}
use Rattle.limbo_declarations.proofs.rows.push_variants.Given as goal

abbrev pub invariant-loop-v : goal.invariant-loop-v
invariant-loop-v l =
    rows_of l.rows.items ++ rows_of_variants l.path (map view_variant (drop l.v-index l.variants))
    ≡ rows_of l.fn.rows.items ++ rows_of_variants l.path (map view_variant l.variants)
