use Rattle.std.proofs.Common.{◌≡◌, ◌++◌, map, drop}
use Rattle.limbo_tree.specs.View.{view_member, members_of}
use Rattle.limbo_declarations.specs.Rows.{rows_of_members}
use Rattle.limbo_declarations.specs.View.{rows_of}
use Rattle.limbo_declarations.proofs.rows.push_members.Given as goal

abbrev pub invariant-loop-m : goal.invariant-loop-m
invariant-loop-m l =
    rows_of l.rows.items ++ rows_of_members l.path (members_of (map view_member (drop l.m-index l.members)))
    ≡ rows_of l.fn.rows.items ++ rows_of_members l.path (members_of (map view_member l.members))
