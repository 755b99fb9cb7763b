use Rattle.std.proofs.Common.{◌≡◌, ◌≤◌, map, drop}
use Rattle.limbo_layout.specs.View.{view_defs}
use Rattle.limbo_typed.specs.View.{view_var}
use Rattle.core_frames.specs.Sizes.{laid_size, types_in}
use Rattle.core_sizing.proofs.Laid.{laid_from}
use Rattle.core_sizing.proofs.frames.variables_end.Given as goal

abbrev pub invariant-loop-variable : goal.invariant-loop-variable
invariant-loop-variable l = record {
  low : l.end ≤ 65536;
  on : laid_from (view_defs l.extents) l.end (types_in (map view_var (drop l.variable-index l.variables)))
      ≡ laid_size (view_defs l.extents) (types_in (map view_var l.variables));
}
