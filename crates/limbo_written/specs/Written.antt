-- Types that are written in bodies, as values may have them (Limbo Language Reference, types and scope).
use Rattle.std.specs.Prelude.{◌≡◌, Bool, true, false}
use Rattle.limbo_types.specs.Types.{Ty}
use Rattle.limbo_tree.specs.Types as written
use Rattle.limbo_refusals.specs.Refusals.{Refusal, NoneIs}
use Rattle.limbo_causes.specs.Causes.{Cause, Unknown, Refused, nothing}
use Rattle.limbo_context.specs.Context.{Context, Body}
use Rattle.limbo_body_types.specs.Means.{Means}
use Rattle.limbo_body_types.specs.Fails.{IsLacking, NamesNoType}
use Rattle.limbo_permits.specs.Permits.{Permits, ForbidsType}

-- A written type means this type, which values may have.
pub record MeansPermitted (c : Context) (b : Body) (t : written.Ty) (u : Ty) : Type 0 where
  pub means : Means c b t u
  pub permitted : Permits c u

-- A name stands in a written type, alone or behind `ref`.
mutual
  pub data Writes : written.Ty → written.Qual → (behind_ref : Bool) → Type 0 where
    alone : (q : written.Qual) → Writes (written.Named q) q false
    behind_ref : (q : written.Qual) → Writes (written.RefTo q) q true
    in_array : (t : written.Ty) (q : written.Qual) (r : Bool) → Writes t q r → Writes (written.ArrayOf t) q r
    in_list : (t : written.Ty) (q : written.Qual) (r : Bool) → Writes t q r → Writes (written.ListOf t) q r
    in_chan : (t : written.Ty) (q : written.Qual) (r : Bool) → Writes t q r → Writes (written.ChanOf t) q r
    in_tuple : (ts : written.Tys) (q : written.Qual) (r : Bool) → SomeWrites ts q r → Writes (written.Tuple ts) q r

  pub data SomeWrites : written.Tys → written.Qual → (behind_ref : Bool) → Type 0 where
    the_first : (t : written.Ty) (ts : written.Tys) (q : written.Qual) (r : Bool) → Writes t q r → SomeWrites (written.MoreTys t ts) q r
    a_later : (t : written.Ty) (ts : written.Tys) (q : written.Qual) (r : Bool) → SomeWrites ts q r → SomeWrites (written.MoreTys t ts) q r

-- A written type means none: a name that stands in it isn't there, or is no type.
pub data FailsType (c : Context) (b : Body) (t : written.Ty) : Cause → Type 0 where
  lacks_name : (q : written.Qual) (r : Bool) → Writes t q r → IsLacking c b q → NoneIs (Means c b t) → FailsType c b t Unknown
  no_type : (q : written.Qual) (r : Bool) → Writes t q r → NamesNoType c b q r → NoneIs (Means c b t) → FailsType c b t nothing

-- The same, or values in a body may not have the type that it means.
pub data FailsAsType (c : Context) (b : Body) (t : written.Ty) (k : Cause) : Type 0 where
  means_none : FailsType c b t k → FailsAsType c b t k
  forbidden : (u : Ty) (r : Refusal) → Means c b t u → ForbidsType c u r → k ≡ Refused r → FailsAsType c b t k
