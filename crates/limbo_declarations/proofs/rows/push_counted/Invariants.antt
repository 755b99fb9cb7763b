use Rattle.std.proofs.Common.{◌≡◌, ◌++◌, drop}
use Rattle.limbo_tree.specs.View.{names_of, view_expr}
use Rattle.limbo_declarations.specs.Rows.{counted}
use Rattle.limbo_declarations.specs.View.{rows_of}
use Rattle.limbo_declarations.proofs.rows.push_counted.Given as goal

abbrev pub invariant-loop-iota : goal.invariant-loop-iota
invariant-loop-iota l =
    rows_of l.rows.items ++ counted l.path l.iota (names_of (drop l.iota l.names)) (view_expr l.value)
    ≡ rows_of l.fn.rows.items ++ counted l.path 0 (names_of l.names) (view_expr l.value)
