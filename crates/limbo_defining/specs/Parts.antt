-- What the code declares of one part of a left side.
use Rattle.std.specs.Prelude.{◌≡◌}
use Rattle.limbo_types.specs.Types.{Ty}
use Rattle.limbo_tree.specs.Exprs as tree
use Rattle.limbo_typed.specs.Typed.{Pattern, ToNothing}
use Rattle.limbo_context.specs.Context.{Body}
use Rattle.limbo_causes.specs.Causes.{Cause}
use Rattle.limbo_defining.specs.Defining.{Defines, FailsDefine}

-- A part is `nil`, which declares nothing, or declares variables.
pub data DefinesPart (b : Body) (e : tree.Expr) (t : Ty) (p : Pattern) (b' : Body) : Type 0 where
  stays : e ≡ tree.Nil → p ≡ ToNothing → b' ≡ b → DefinesPart b e t p b'
  declares : Defines b e t p b' → DefinesPart b e t p b'

pub record FailsPart (b : Body) (e : tree.Expr) (t : Ty) (k : Cause) : Type 0 where
  pub no_nil : e ≡ tree.Nil → ⊥
  pub fails : FailsDefine b e t k
