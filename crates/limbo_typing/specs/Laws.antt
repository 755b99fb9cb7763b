-- What holds of typed expressions.
use Rattle.std.specs.Prelude.{◌≡◌}
use Rattle.limbo_tree.specs.Exprs as tree
use Rattle.limbo_typed.specs.Typed.{Expr, Pattern}
use Rattle.limbo_defining.specs.limbo_context.Context.{Context, Body}
use Rattle.limbo_applying.specs.limbo_things.Things.{Thing}
use Rattle.limbo_causes.specs.Causes.{Cause}
use Rattle.limbo_typing.specs.Typing.{Denotes, HasValue, Types, IsPattern}
use Rattle.limbo_typing.specs.Failing.{FailsThing, FailsValue, Fails, FailsPattern}

-- An expression is one typed tree at most, and leaves one body: a thing, a value and a pattern too.
abbrev pub OneTyped : Type 0
OneTyped = (c : Context) (b b' b'' : Body) (e : tree.Expr) (x y : Expr) → Types c b e x b' → Types c b e y b'' → (x ≡ y) × (b' ≡ b'')

abbrev pub OneValue : Type 0
OneValue =
    (c : Context) (b b' b'' : Body) (e : tree.Expr) (x y : Expr) → HasValue c b e x b' → HasValue c b e y b'' → (x ≡ y) × (b' ≡ b'')

abbrev pub OneThing : Type 0
OneThing = (c : Context) (b b' b'' : Body) (e : tree.Expr) (s t : Thing) → Denotes c b e s b' → Denotes c b e t b'' → (s ≡ t) × (b' ≡ b'')

abbrev pub OnePattern : Type 0
OnePattern =
    (c : Context) (b b' b'' : Body) (e : tree.Expr) (p q : Pattern) → IsPattern c b e p b' → IsPattern c b e q b'' → (p ≡ q) × (b' ≡ b'')

-- What fails, by whatever cause, is none.
abbrev pub FailsOrTypes : Type 0
FailsOrTypes = (c : Context) (b b' : Body) (e : tree.Expr) (k : Cause) (x : Expr) → Fails c b e k → Types c b e x b' → ⊥

abbrev pub FailsOrValue : Type 0
FailsOrValue = (c : Context) (b b' : Body) (e : tree.Expr) (k : Cause) (x : Expr) → FailsValue c b e k → HasValue c b e x b' → ⊥

abbrev pub FailsOrThing : Type 0
FailsOrThing = (c : Context) (b b' : Body) (e : tree.Expr) (k : Cause) (t : Thing) → FailsThing c b e k → Denotes c b e t b' → ⊥

abbrev pub FailsOrPattern : Type 0
FailsOrPattern = (c : Context) (b b' : Body) (e : tree.Expr) (k : Cause) (p : Pattern) → FailsPattern c b e k → IsPattern c b e p b' → ⊥
