use Rattle.std.proofs.Common.{◌≡◌, ◌++◌, None, drop}
use Rattle.limbo_declarations.specs.View.{rows_of}
use Rattle.limbo_defined.specs.Places.{module_places}
use Rattle.limbo_defined.specs.View.{wanted_of, places_of}
use Rattle.limbo_defined.specs.Wanted.{functions_in}
use Rattle.limbo_defined.proofs.wants.push_functions.Given as goal

abbrev pub invariant-loop-row : goal.invariant-loop-row
invariant-loop-row l = record {
  wanted : wanted_of l.all.items ++ functions_in None (rows_of (drop l.row-index l.rows)) ≡ wanted_of l.fn.all.items ++ functions_in None
      (rows_of l.rows);
  places : places_of l.all.items ++ module_places (drop l.row-index l.rows) ≡ places_of l.fn.all.items ++ module_places l.rows;
}
