-- What holds of written types.
use Rattle.std.specs.Prelude.{◌≡◌, ◌≢◌}
use Rattle.limbo_tree.specs.Types as tree
use Rattle.limbo_tree.specs.declared.types.TypeTree as code_type
use Rattle.limbo_tree.specs.View.{view_type}
use Rattle.limbo_types.specs.Types.{Ty}
use Rattle.limbo_context.specs.Context.{Context, Body}
use Rattle.limbo_body_types.specs.declared.fault.WrittenFault.{WrittenFault}
use Rattle.limbo_body_types.specs.declared.fault.WrittenFault.TheVariants.{NoMemory}
use Rattle.limbo_body_types.specs.Means.{Means}
use Rattle.limbo_body_types.specs.Fails.{Fails}

-- A written type means at most one type.
abbrev pub OneType : Type 0
OneType = (c : Context) (b : Body) (t : tree.Ty) (u v : Ty) → Means c b t u → Means c b t v → u ≡ v

-- What fails, by another cause than want of memory, means nothing.
abbrev pub FailsOrMeans : Type 0
FailsOrMeans =
    (c : Context) (b : Body) (t : code_type.TypeTree) (e : WrittenFault) (u : Ty)
    → e ≢ NoMemory → Fails c b t e → Means c b (view_type t) u → ⊥
