-- What holds of variables that `:=` declares.
use Rattle.std.specs.Prelude.{◌≡◌}
use Rattle.limbo_types.specs.Types.{Ty}
use Rattle.limbo_tree.specs.Exprs as tree
use Rattle.limbo_typed.specs.Typed.{Pattern}
use Rattle.limbo_context.specs.Context.{Body}
use Rattle.limbo_causes.specs.Causes.{Cause}
use Rattle.limbo_defining.specs.Defining.{Defines, FailsDefine}

-- A left side is one pattern at most, and leads to one body.
abbrev pub OneDefinition : Type 0
OneDefinition =
    (b : Body) (e : tree.Expr) (t : Ty) (p q : Pattern) (b' b'' : Body)
    → Defines b e t p b' → Defines b e t q b'' → (p ≡ q) × (b' ≡ b'')

-- What fails declares no variables.
abbrev pub FailsOrDefines : Type 0
FailsOrDefines =
    (b : Body) (e : tree.Expr) (t : Ty) (p : Pattern) (b' : Body) (k : Cause)
    → FailsDefine b e t k → Defines b e t p b' → ⊥
