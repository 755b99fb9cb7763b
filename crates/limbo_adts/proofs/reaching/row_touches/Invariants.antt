use Rattle.std.proofs.Common.{◌≡◌, drop}
use Rattle.limbo_types.specs.View.{view_ty}
use Rattle.limbo_layout.specs.View.{view_defs}
use Rattle.limbo_adts.specs.Reading.{row_touches}
use Rattle.limbo_adts.proofs.reaching.row_touches.Given as goal

abbrev pub invariant-loop-number : goal.invariant-loop-number
invariant-loop-number l = row_touches (view_defs l.defs) (drop l.number-index l.row) (view_ty l.u) ≡ row_touches (view_defs l.defs) l.row (view_ty l.u)
