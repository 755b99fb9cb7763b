-- Something holds of each node in a typed tree.
use Rattle.limbo_typed.specs.Typed.{Expr, Of, Node, Exprs, NoExprs, MoreExprs, Optional, Absent, Present, Items, NoItems, MoreItems}
use Rattle.limbo_typed.specs.Typed.{Read, Part, Apply, Lazy, Assign, Update, Step, Copy, Filled, Channel}
use Rattle.limbo_typed.specs.Typed.{Call, CallThrough, Print, Load, Send, Receive}
use Rattle.limbo_typed.specs.Typed.{Place, At, PlaceNode, Field, Element, Character, Target}
use Rattle.limbo_typed.specs.Typed.{Pattern, ToPlace, ToNothing, ToParts, Patterns, NoPatterns, MorePatterns}
use Rattle.limbo_things.specs.Things.{Thing, AValue, AMethod, AMember, APrint}

abbrev mutual
  -- of the expression's own node, and of each in its parts
  pub AllNodes : (Node → Type 0) → Expr → Type 0
  AllNodes P (Of t n) = P n × InNode P n

  -- of each node in the parts that a node has
  pub InNode : (Node → Type 0) → Node → Type 0
  InNode P (Read p) = InPlace P p
  InNode P (Part e k) = AllNodes P e
  InNode P (Apply o es) = InEach P es
  InNode P (Lazy c l r) = AllNodes P l × AllNodes P r
  InNode P (Assign p e) = InPattern P p × AllNodes P e
  InNode P (Update o p e) = InPlace P p × AllNodes P e
  InNode P (Step o g p) = InPlace P p
  InNode P (Copy a i e) = AllNodes P a × AllNodes P i × AllNodes P e
  InNode P (Filled length is rest) = InOptional P length × InItems P is × InOptional P rest
  InNode P (Channel size) = InOptional P size
  InNode P (Call f es) = InEach P es
  InNode P (CallThrough e i f es) = AllNodes P e × InEach P es
  InNode P (Print which e file ps es) = AllNodes P e × InOptional P file × InEach P es
  InNode P (Load i e) = AllNodes P e
  InNode P (Send c e) = AllNodes P c × AllNodes P e
  InNode P (Receive c) = AllNodes P c
  InNode P _ = Unit {0}

  pub InEach : (Node → Type 0) → Exprs → Type 0
  InEach P NoExprs = Unit {0}
  InEach P (MoreExprs e es) = AllNodes P e × InEach P es

  pub InOptional : (Node → Type 0) → Optional → Type 0
  InOptional P Absent = Unit {0}
  InOptional P (Present e) = AllNodes P e

  pub InItems : (Node → Type 0) → Items → Type 0
  InItems P NoItems = Unit {0}
  InItems P (MoreItems i e is) = AllNodes P e × InItems P is

  pub InPlace : (Node → Type 0) → Place → Type 0
  InPlace P (At t n) = InPlaceNode P n

  pub InPlaceNode : (Node → Type 0) → PlaceNode → Type 0
  InPlaceNode P (Field whole k) = InPlace P whole
  InPlaceNode P (Element a i) = AllNodes P a × AllNodes P i
  InPlaceNode P (Character text i) = InPlace P text × AllNodes P i
  InPlaceNode P (Target e) = AllNodes P e
  InPlaceNode P _ = Unit {0}

  pub InPattern : (Node → Type 0) → Pattern → Type 0
  InPattern P (ToPlace p) = InPlace P p
  InPattern P ToNothing = Unit {0}
  InPattern P (ToParts ps) = InPatterns P ps

  pub InPatterns : (Node → Type 0) → Patterns → Type 0
  InPatterns P NoPatterns = Unit {0}
  InPatterns P (MorePatterns p ps) = InPattern P p × InPatterns P ps

-- of each in the value that a thing is, or that stands before it
abbrev pub InThing : (Node → Type 0) → Thing → Type 0
InThing P (AValue e) = AllNodes P e
InThing P (AMethod f object) = InOptional P object
InThing P (AMember instance i f) = AllNodes P instance
InThing P (APrint which instance) = AllNodes P instance
InThing P _ = Unit {0}
