use Rattle.std.proofs.Common.{◌⊎◌, ℕ, true, drop}
use Rattle.limbo_types.specs.View.{view_tys}
use Rattle.limbo_layout.specs.Adts.{Has, all_held}
use Rattle.limbo_layout.specs.Paths.{IsAt}
use Rattle.limbo_layout.proofs.order.+unlaid.Given as goal

abbrev pub invariant-unlaid_in_tuple-loop-t : goal.invariant-unlaid_in_tuple-loop-t
invariant-unlaid_in_tuple-loop-t l = record {
  all : (n : ℕ) → Has (all_held (view_tys l.parts)) n → IsAt l.laid n true ⊎ Has (all_held (view_tys (drop l.t-index l.parts))) n;
  only : (n : ℕ) → Has (all_held (view_tys (drop l.t-index l.parts))) n → Has (all_held (view_tys l.parts)) n;
}
