use Rattle.std.proofs.Common.{ℕ, List, map, drop}
use Rattle.limbo_tree.specs.View.{view_member, members_of}
use Rattle.limbo_declarations.specs.Rows.{rows_of_members}
use Rattle.limbo_defined.specs.Defined.{Holds}
use Rattle.limbo_defined.proofs.inner.+inside.Given as goal

abbrev pub invariant-function_in-loop-m : goal.invariant-function_in-loop-m
invariant-function_in-loop-m l = record {
  up : (path name : List ℕ) → Holds name (rows_of_members path (members_of (map view_member (drop l.m-index l.members))))
      → Holds name (rows_of_members path (members_of (map view_member l.members)));
  down : (path name : List ℕ) → Holds name (rows_of_members path (members_of (map view_member l.members)))
      → Holds name (rows_of_members path (members_of (map view_member (drop l.m-index l.members))));
}
