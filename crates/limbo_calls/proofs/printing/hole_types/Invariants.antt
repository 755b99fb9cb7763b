use Rattle.std.proofs.Common.{◌≡◌, map, take}
use Rattle.limbo_types.specs.View.{view_ty}
use Rattle.limbo_typed.specs.Sound.{holes}
use Rattle.limbo_calls.proofs.printing.hole_types.Given as goal

abbrev pub invariant-loop-piece : goal.invariant-loop-piece
invariant-loop-piece l = map view_ty l.types.items ≡ holes (take l.piece-index l.pieces)
