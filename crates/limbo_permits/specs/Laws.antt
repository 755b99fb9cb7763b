-- What holds of what may stand anywhere.
use Rattle.limbo_types.specs.Types.{Ty}
use Rattle.limbo_typed.specs.Typed.{Expr}
use Rattle.limbo_refusals.specs.Refusals.{Refusal}
use Rattle.limbo_context.specs.Context.{Context}
use Rattle.limbo_permits.specs.Permits.{Permits, ForbidsType, IsPermitted, Forbids}

-- Nothing may stand of which a refusal holds.
pub record ForbiddenOrPermitted : Type 0 where
  pub types : (c : Context) (t : Ty) (r : Refusal) → ForbidsType c t r → Permits c t → ⊥
  pub expressions : (c : Context) (e : Expr) (r : Refusal) → Forbids c e r → IsPermitted c e → ⊥
