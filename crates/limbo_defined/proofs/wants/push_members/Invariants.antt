use Rattle.std.proofs.Common.{◌≡◌, ◌++◌, Some, map, drop}
use Rattle.limbo_tree.specs.View.{view_member, members_of}
use Rattle.limbo_declarations.specs.Rows.{rows_of_members}
use Rattle.limbo_defined.specs.Places.{places_in}
use Rattle.limbo_defined.specs.View.{wanted_of, places_of}
use Rattle.limbo_defined.specs.Wanted.{functions_in}
use Rattle.limbo_defined.proofs.wants.push_members.Given as goal

abbrev pub invariant-loop-m : goal.invariant-loop-m
invariant-loop-m l = record {
  wanted :
      wanted_of l.all.items ++ functions_in (Some l.adt) (rows_of_members l.path (members_of (map view_member (drop l.m-index l.members))))
      ≡ wanted_of l.fn.all.items ++ functions_in (Some l.adt) (rows_of_members l.path (members_of (map view_member l.members)));
  places : places_of l.all.items ++ places_in l.path (Some l.adt) (drop l.m-index l.members) ≡ places_of l.fn.all.items ++ places_in
      l.path (Some l.adt) l.members;
}
