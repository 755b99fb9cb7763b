use Rattle.std.proofs.Common.{ℕ, List, drop}
use Rattle.limbo_declarations.specs.View.{rows_of}
use Rattle.limbo_defined.specs.Defined.{IsNested}
use Rattle.limbo_defined.proofs.inner.nested.Given as goal

abbrev pub invariant-loop-row : goal.invariant-loop-row
invariant-loop-row l = record {
  up : (path name : List ℕ) → IsNested (rows_of (drop l.row-index l.rows)) path name → IsNested (rows_of l.rows) path name;
  down : (path name : List ℕ) → IsNested (rows_of l.rows) path name → IsNested (rows_of (drop l.row-index l.rows)) path name;
}
