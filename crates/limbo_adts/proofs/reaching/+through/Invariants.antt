use Rattle.std.proofs.Common.{◌≡◌, drop}
use Rattle.limbo_types.specs.View.{view_ty, view_tys}
use Rattle.limbo_layout.specs.View.{view_defs}
use Rattle.limbo_adts.specs.Closed.{row_of, rows}
use Rattle.limbo_adts.specs.Reading.{row_touches, any_through}
use Rattle.limbo_adts.proofs.reaching.+through.Given as goal

abbrev pub invariant-any_through-loop-t : goal.invariant-any_through-loop-t
invariant-any_through-loop-t l =
    any_through (λ n. row_touches (view_defs l.defs) (row_of (rows l.closed) n) (view_ty l.u)) (view_tys (drop l.t-index l.ts))
    ≡ any_through (λ n. row_touches (view_defs l.defs) (row_of (rows l.closed) n) (view_ty l.u)) (view_tys l.ts)
