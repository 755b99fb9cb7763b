-- That something holds of every node that comes of an expression in a context.
use Rattle.limbo_tree.specs.Exprs as tree
use Rattle.limbo_typed.specs.Typed.{Expr, Node, Pattern}
use Rattle.limbo_context.specs.Context.{Context, Body}
use Rattle.limbo_things.specs.Things.{Thing}
use Rattle.limbo_typing.specs.Typing.{Denotes, HasValue, Types, IsPattern}
use Rattle.limbo_typed_stores.specs.Nodes.{AllNodes, InThing, InPattern}

-- of every node in a typed expression
abbrev pub OfTyped : (Context → Node → Type 0) → Type 0
OfTyped Holds = (c : Context) (b b' : Body) (e : tree.Expr) (x : Expr) → Types c b e x b' → AllNodes (Holds c) x

-- in one that has a value
abbrev pub OfValues : (Context → Node → Type 0) → Type 0
OfValues Holds = (c : Context) (b b' : Body) (e : tree.Expr) (x : Expr) → HasValue c b e x b' → AllNodes (Holds c) x

-- in the value of what an expression is before a `.`, a `->` or a call
abbrev pub OfThings : (Context → Node → Type 0) → Type 0
OfThings Holds = (c : Context) (b b' : Body) (e : tree.Expr) (t : Thing) → Denotes c b e t b' → InThing (Holds c) t

-- in the places of a left side
abbrev pub OfPatterns : (Context → Node → Type 0) → Type 0
OfPatterns Holds = (c : Context) (b b' : Body) (e : tree.Expr) (p : Pattern) → IsPattern c b e p b' → InPattern (Holds c) p
