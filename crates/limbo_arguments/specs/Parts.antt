-- That the expressions are sound of which a literal or a call is made.
use Rattle.std.specs.Prelude.{List}
use Rattle.limbo_typed.specs.Typed.{Node, Optional, Absent, Present, Items, NoItems, MoreItems, Module, Var}
use Rattle.limbo_typed.specs.Typed.{Apply, Filled, Call, CallThrough, Print}
use Rattle.limbo_typed.specs.Sound.{SoundExpr, SoundExprs}

abbrev pub SoundMaybe : Module → List Var → Optional → Type 0
SoundMaybe m vs Absent = Unit {0}
SoundMaybe m vs (Present e) = SoundExpr m vs e

abbrev pub SoundValues : Module → List Var → Items → Type 0
SoundValues m vs NoItems = Unit {0}
SoundValues m vs (MoreItems i e is) = SoundExpr m vs e × SoundValues m vs is

abbrev pub SoundParts : Module → List Var → Node → Type 0
SoundParts m vs (Apply o es) = SoundExprs m vs es
SoundParts m vs (Filled length is rest) = SoundMaybe m vs length × SoundValues m vs is × SoundMaybe m vs rest
SoundParts m vs (Call f es) = SoundExprs m vs es
SoundParts m vs (CallThrough e n f es) = SoundExpr m vs e × SoundExprs m vs es
SoundParts m vs (Print which e file ps es) = SoundExpr m vs e × SoundMaybe m vs file × SoundExprs m vs es
SoundParts m vs _ = Unit {0}
