-- `base[index]` (Limbo Language Reference, expressions).
use Rattle.limbo_types.specs.Types.{Ty, Int, Chars, ArrayOf}
use Rattle.limbo_typed.specs.declared.operation.Operation.TheVariants as op
use Rattle.limbo_typed.specs.Typed.{Expr, Of, Node, Read, Place, Element, Character}
use Rattle.limbo_typed.specs.Sound.{IsSettled}
use Rattle.limbo_places.specs.Places.{read, IsNoPlace, on_two}

-- An element of an array; a character of a string in a place, or of a string's value.
pub data Indexes : (base index : Expr) → Expr → Type 0 where
  element : (t : Ty) (n i : Node) → IsSettled t
      → Indexes (Of (ArrayOf t) n) (Of Int i) (read t (Element (Of (ArrayOf t) n) (Of Int i)))
  in_place : (p : Place) (i : Node) → Indexes (Of Chars (Read p)) (Of Int i) (read Int (Character p (Of Int i)))
  in_value : (n i : Node) → IsNoPlace n → Indexes (Of Chars n) (Of Int i) (Of Int (on_two op.Character (Of Chars n) (Of Int i)))
