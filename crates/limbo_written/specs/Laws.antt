-- What holds of written types that values may have.
use Rattle.std.specs.Prelude.{◌≡◌}
use Rattle.limbo_types.specs.Types.{Ty}
use Rattle.limbo_tree.specs.Types as written
use Rattle.limbo_causes.specs.Causes.{Cause}
use Rattle.limbo_context.specs.Context.{Context, Body}
use Rattle.limbo_written.specs.Written.{MeansPermitted, FailsAsType}

-- A written type means at most one type that values may have.
abbrev pub OneWritten : Type 0
OneWritten = (c : Context) (b : Body) (t : written.Ty) (u v : Ty) → MeansPermitted c b t u → MeansPermitted c b t v → u ≡ v

-- What fails, by whatever cause, means no type that values may have.
abbrev pub FailsOrWritten : Type 0
FailsOrWritten = (c : Context) (b : Body) (t : written.Ty) (k : Cause) (u : Ty) → FailsAsType c b t k → MeansPermitted c b t u → ⊥
