-- Arguments as they are printed.
use Rattle.std.proofs.Common.{◌≡◌, ◌≤◌, Bool, true, false, ◌||◌, refl, ap, ◌∙◌, arith}
use Rattle.limbo_types.specs.Types as types
use Rattle.limbo_types.specs.Types.{Ty}
use Rattle.limbo_typed.specs.Typed as typed
use Rattle.typed_meaning.specs.Trees.{PlaceNode, Term}
use Rattle.typed_meaning.specs.Program.{node_of, terms_of, as_printed, printed_of}
use Rattle.typed_lower.specs.Kinds.{writes, write}
use Rattle.slot_writing.specs.Weights.{weight, weights}

or_false : (a : Bool) → a ≡ (a || false)
or_false true = refl
or_false false = refl

weight_printed : (t : Ty) (u : Term) → weight u ≤ weight (as_printed t u)
weight_printed types.Byte u = omega arith
weight_printed t u = omega arith

pub weights_printed : (es : typed.Exprs) → weights (terms_of es) ≤ weights (printed_of es)
weights_printed typed.NoExprs = omega arith
weights_printed (typed.MoreExprs (typed.Of t n) es) = omega (arith, weight_printed t (node_of t n), weights_printed es)

module _ (x : PlaceNode) where
  writes_printed : (t : Ty) (u : Term) → writes x u ≡ writes x (as_printed t u)
  writes_printed types.Byte u = or_false (writes x u)
  writes_printed t u = refl

  pub write_printed : (es : typed.Exprs) → write x (terms_of es) ≡ write x (printed_of es)
  write_printed typed.NoExprs = refl
  write_printed (typed.MoreExprs (typed.Of t n) es) =
      ap (λ (a : Bool). a || write x (terms_of es)) (writes_printed t (node_of t n))
      ∙ ap (λ (b : Bool). writes x (as_printed t (node_of t n)) || b) (write_printed es)
