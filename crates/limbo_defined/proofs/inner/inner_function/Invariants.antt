use Rattle.std.proofs.Common.{ℕ, List, map, drop}
use Rattle.limbo_tree.specs.View.{view_member, members_of}
use Rattle.limbo_declarations.specs.Rows.{rows_of_members}
use Rattle.limbo_defined.specs.Defined.{HasInner}
use Rattle.limbo_defined.proofs.inner.inner_function.Given as goal

abbrev pub invariant-loop-m : goal.invariant-loop-m
invariant-loop-m l = record {
  up : (path name : List ℕ) → HasInner (rows_of_members path (members_of (map view_member (drop l.m-index l.members)))) path name
      → HasInner (rows_of_members path (members_of (map view_member l.members))) path name;
  down : (path name : List ℕ) → HasInner (rows_of_members path (members_of (map view_member l.members))) path name
      → HasInner (rows_of_members path (members_of (map view_member (drop l.m-index l.members)))) path name;
}
