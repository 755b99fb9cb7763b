use Rattle.std.proofs.Common.{◌≡◌, ◌++◌, Some, map, drop}
use Rattle.limbo_tree.specs.View.{names_of}
use Rattle.limbo_defined.specs.Places.{place}
use Rattle.limbo_defined.specs.View.{wanted_of, places_of}
use Rattle.limbo_defined.specs.Wanted.{of_name}
use Rattle.limbo_defined.proofs.wants.push_names.Given as goal

abbrev pub invariant-loop-name : goal.invariant-loop-name
invariant-loop-name l = record {
  wanted : wanted_of l.all.items ++ map (of_name l.path (Some l.adt)) (names_of (drop l.name-index l.names)) ≡ wanted_of
      l.fn.all.items ++ map (of_name l.path (Some l.adt)) (names_of l.names);
  places : places_of l.all.items ++ map (place l.path (Some l.adt)) (drop l.name-index l.names) ≡ places_of l.fn.all.items ++ map
      (place l.path (Some l.adt)) l.names;
}
