use Rattle.std.proofs.Common.{◌≡◌, ◌+◌, ◌≤◌, drop, map}
use Rattle.limbo_layout.specs.View.{view_defs}
use Rattle.limbo_typed.specs.View.{view_var}
use Rattle.core_frames.specs.Sizes.{types_in, variables_size}
use Rattle.core_sizing.proofs.frames.variables_leave.Given as goal

abbrev pub invariant-loop-variable : goal.invariant-loop-variable
invariant-loop-variable l = record {
  fits : l.rest ≤ l.budget;
  left : l.rest + variables_size (view_defs l.extents) (types_in (map view_var l.variables)) l.declared
      ≡ l.budget + variables_size (view_defs l.extents) (types_in (map view_var l.variables)) (drop l.variable-index l.declared);
}
