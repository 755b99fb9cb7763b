use Rattle.std.proofs.Common.{◌≡◌, ◌≤◌, map, drop}
use Rattle.limbo_typed.specs.View.{view_var}
use Rattle.slot_code.specs.Layout.{end_of}
use Rattle.typed_lower.specs.Statements.{number_kind}
use Rattle.slot_writing.proofs.sizes.variables_end.Given as goal

abbrev pub invariant-loop-variable : goal.invariant-loop-variable
invariant-loop-variable l = record {
  low : l.end ≤ 65536;
  on : end_of l.end (map (λ v. number_kind v.ty) (map view_var (drop l.variable-index l.variables)))
      ≡ end_of 0 (map (λ v. number_kind v.ty) (map view_var l.variables));
}
