-- What stands in places, and what stands in none. An expression is a place where it reads one.
use Rattle.std.specs.Prelude.{◌≡◌}
use Rattle.limbo_types.specs.Types.{Ty}
use Rattle.limbo_typed.specs.declared.operation.Operation.{Operation}
use Rattle.limbo_typed.specs.Typed.{Expr, Of, Node, Read, Apply, NoExprs, MoreExprs, Place, At, PlaceNode}

-- what stands in a place of a type
abbrev pub read : Ty → PlaceNode → Expr
read t p = Of t (Read (At t p))

-- An expression that is made of this is no place.
abbrev pub IsNoPlace : Node → Type 0
IsNoPlace n = (p : Place) → n ≡ Read p → ⊥

-- an operation on one value, and on two
abbrev pub on_one : Operation → Expr → Node
on_one o e = Apply o (MoreExprs e NoExprs)

abbrev pub on_two : Operation → Expr → Expr → Node
on_two o e f = Apply o (MoreExprs e (MoreExprs f NoExprs))
