use Rattle.std.proofs.Common.{List, ◌++◌, drop}
use Rattle.limbo_declarations.specs.Rows.{Row}
use Rattle.limbo_declarations.specs.View.{rows_of}
use Rattle.limbo_top.specs.Tops.{Alone}
use Rattle.limbo_top.specs.View.{definitions_of}
use Rattle.limbo_top.proofs.module.alone.Given as goal

abbrev pub invariant-loop-d : goal.invariant-loop-d
invariant-loop-d l =
    (rest : List Row) → Alone (rows_of l.members.rows.items) (definitions_of (drop l.d-index l.definitions)) rest
    → Alone (rows_of l.members.rows.items) (definitions_of l.definitions) (rows_of l.rows.items ++ rest)
