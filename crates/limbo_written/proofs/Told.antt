-- What is told of written types.
use Rattle.std.proofs.Common.{◌≡◌, sym, subst, refl}
use Rattle.limbo_tree.specs.declared.types.TypeTree as code_type
use Rattle.limbo_tree.specs.View.{view_type}
use Rattle.limbo_types.specs.Types.{Ty}
use Rattle.limbo_refusals.specs.Refusals.{Refusal, Refuses}
use Rattle.limbo_refusals.specs.declared.fault.ExprFault.{ExprFault}
use Rattle.limbo_refusals.specs.declared.fault.ExprFault.TheVariants as fault
use Rattle.limbo_causes.specs.declared.fault.Cause as code
use Rattle.limbo_causes.specs.declared.fault.Cause.TheVariants as told_cause
use Rattle.limbo_causes.specs.Causes as cause
use Rattle.limbo_causes.specs.Causes.{Cause, FailsBy}
use Rattle.limbo_context.specs.Context.{Context, Body}
use Rattle.limbo_body_types.specs.declared.fault.WrittenFault.{WrittenFault}
use Rattle.limbo_body_types.specs.declared.fault.WrittenFault.TheVariants.{NoMemory, Unknown, NotAType}
use Rattle.limbo_body_types.specs.Means.{Means}
use Rattle.limbo_body_types.specs.Fails.{Fails}
use Rattle.limbo_body_types.proofs.Failing.{fails_or_means}
use Rattle.limbo_permits.specs.Permits.{ForbidsType}
use Rattle.limbo_written.specs.Written.{FailsType, lacks_name, no_type, FailsAsType, means_none, forbidden}
use Rattle.limbo_written.specs.Told.{IsCauseOf}
use Rattle.limbo_written.proofs.Named.{writes}

-- ---- what is told of a cause, if anything is

pub fails_by_so : (f : code.Cause) (P Q : Cause → Type 0) → ((k : Cause) → P k → Q k) → FailsBy f P → FailsBy f Q
fails_by_so told_cause.NoMemory P Q so h = tt
fails_by_so told_cause.Twice P Q so h = so cause.Twice h
fails_by_so told_cause.Unknown P Q so h = so cause.Unknown h
fails_by_so told_cause.NotConstant P Q so h = so cause.NotConstant h
fails_by_so (told_cause.Refused fault.NoMemory) P Q so h = tt
fails_by_so (told_cause.Refused (fault.Clash c)) P Q so h = so _ h
fails_by_so (told_cause.Refused fault.NotPlace) P Q so h = so _ h
fails_by_so (told_cause.Refused fault.CyclicStore) P Q so h = so _ h
fails_by_so (told_cause.Refused fault.ModuleValue) P Q so h = so _ h
fails_by_so (told_cause.Refused fault.BadFormat) P Q so h = so _ h
fails_by_so (told_cause.Refused fault.TypeTooLarge) P Q so h = so _ h

pub refused_by : (f : ExprFault) (P : Refusal → Type 0) (Q : Cause → Type 0) → ((r : Refusal) → P r → Q (cause.Refused r)) → Refuses f P
    → FailsBy (told_cause.Refused f) Q
refused_by fault.NoMemory P Q so h = tt
refused_by (fault.Clash c) P Q so h = so _ h
refused_by fault.NotPlace P Q so h = so _ h
refused_by fault.CyclicStore P Q so h = so _ h
refused_by fault.ModuleValue P Q so h = so _ h
refused_by fault.BadFormat P Q so h = so _ h
refused_by fault.TypeTooLarge P Q so h = so _ h

-- ---- why a written type means none

module _ (c : Context) (b : Body) (t : code_type.TypeTree) where
  fails_type : (e : WrittenFault) (k : Cause) → Fails c b t e → IsCauseOf e k → FailsType c b (view_type t) k
  fails_type NoMemory k f h = absurd h
  fails_type (Unknown at) k f h =
      subst (λ z. FailsType c b (view_type t) z) (sym h)
      (lacks_name _ f.behind_ref (writes t f.name f.behind_ref at f.writes) f.lacks
      (λ u m. fails_or_means c b t (Unknown at) u (λ e. cc) f m))
  fails_type (NotAType at) k f h =
      subst (λ z. FailsType c b (view_type t) z) (sym h)
      (no_type _ f.behind_ref (writes t f.name f.behind_ref at f.writes) f.no_type
      (λ u m. fails_or_means c b t (NotAType at) u (λ e. cc) f m))

  pub told_none : (f : code.Cause) (e : WrittenFault) → Fails c b t e → FailsBy f (IsCauseOf e) → FailsBy f (FailsAsType c b (view_type t))
  told_none f e h = fails_by_so f (IsCauseOf e) (FailsAsType c b (view_type t)) (λ k i. means_none (fails_type e k h i))

  pub told_forbidden : (f : ExprFault) (u : Ty) → Means c b (view_type t) u → Refuses f (ForbidsType c u)
      → FailsBy (told_cause.Refused f) (FailsAsType c b (view_type t))
  told_forbidden f u m = refused_by f (ForbidsType c u) (FailsAsType c b (view_type t)) (λ r h. forbidden u r m h refl)
