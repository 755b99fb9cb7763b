use Rattle.std.proofs.Common.{◌≡◌, ◌++◌, map, drop}
use Rattle.limbo_typed.specs.View.{view_var}
use Rattle.slot_code.specs.View.{view_global}
use Rattle.typed_meaning.specs.Program.{initials_from}
use Rattle.typed_lower.specs.Statements.{globals_code}
use Rattle.slot_writing.proofs.lowering.globals_of.Given as goal

abbrev pub invariant-loop-variable : goal.invariant-loop-variable
invariant-loop-variable l = record {
  counted : l.number ≡ l.variable-index;
  made : globals_code (map view_var l.variables) (initials_from 0 (map view_var l.variables) l.initials)
      ≡ map view_global l.all.items
      ++ globals_code (map view_var (drop l.variable-index l.variables)) (initials_from l.number (map view_var
      (drop l.variable-index l.variables)) l.initials);
}
