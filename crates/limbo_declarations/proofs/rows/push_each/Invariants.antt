use Rattle.std.proofs.Common.{◌≡◌, ◌++◌, drop}
use Rattle.limbo_tree.specs.View.{names_of}
use Rattle.limbo_declarations.specs.Rows.{each}
use Rattle.limbo_declarations.specs.View.{view_declared, rows_of}
use Rattle.limbo_declarations.proofs.rows.push_each.Given as goal

abbrev pub invariant-loop-name : goal.invariant-loop-name
invariant-loop-name l =
    rows_of l.rows.items ++ each l.path (names_of (drop l.name-index l.names)) (view_declared l.declared)
    ≡ rows_of l.fn.rows.items ++ each l.path (names_of l.names) (view_declared l.declared)
