use Rattle.std.proofs.Common.{◌≡◌, ◌++◌, drop}
use Rattle.limbo_declarations.specs.View.{rows_of}
use Rattle.limbo_defined.specs.Places.{places_of_adts}
use Rattle.limbo_defined.specs.View.{wanted_of, places_of}
use Rattle.limbo_defined.specs.Wanted.{adt_functions_in}
use Rattle.limbo_defined.proofs.wants.push_adts.Given as goal

abbrev pub invariant-loop-row : goal.invariant-loop-row
invariant-loop-row l = record {
  wanted : wanted_of l.all.items ++ adt_functions_in (rows_of (drop l.row-index l.rows)) ≡ wanted_of l.fn.all.items ++ adt_functions_in
      (rows_of l.rows);
  places : places_of l.all.items ++ places_of_adts (drop l.row-index l.rows) ≡ places_of l.fn.all.items ++ places_of_adts l.rows;
}
