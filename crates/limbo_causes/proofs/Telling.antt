-- What is told of causes, as other rules say it.
use Rattle.std.proofs.Common.{◌≡◌, Option, None, Some, refl, sym, subst}
use Rattle.std.specs.Prelude.{option_map}
use Rattle.limbo_refusals.specs.declared.fault.ExprFault.{ExprFault}
use Rattle.limbo_refusals.specs.Refusals as refusals
use Rattle.limbo_refusals.specs.Refusals.{Refusal, Refuses}
use Rattle.limbo_causes.specs.declared.fault.Cause as code
use Rattle.limbo_causes.specs.declared.fault.Cause.TheVariants as told_cause
use Rattle.limbo_causes.specs.Causes.{Cause, Refused, told, FailsBy, ByRefusal}

abbrev Told : Option Cause → (Cause → Type 0) → Type 0
Told o P = elim o [ None ↦ Unit {0} | Some k ↦ P k ]

weaker : (o : Option Cause) (P Q : Cause → Type 0) → ((k : Cause) → P k → Q k) → Told o P → Told o Q
weaker None P Q f h = tt
weaker (Some k) P Q f h = f k h

-- what is told is also told of what follows from it
pub fails_weaker : (f : code.Cause) (P Q : Cause → Type 0) → ((k : Cause) → P k → Q k) → FailsBy f P → FailsBy f Q
fails_weaker f P Q h told_of = weaker (told f) P Q h told_of

abbrev ToldRefusal : Option Refusal → (Refusal → Type 0) → Type 0
ToldRefusal o P = elim o [ None ↦ Unit {0} | Some r ↦ P r ]

by : (o : Option Refusal) (P : Refusal → Type 0) → ToldRefusal o P → Told (option_map Refused o) (ByRefusal P)
by None P h = tt
by (Some r) P h = (r, refl, h)

-- a refusal that is told is told as a cause
pub refused_by : (f : ExprFault) (k : code.Cause) (P : Refusal → Type 0) → k ≡ told_cause.Refused f → Refuses f P → FailsBy k (ByRefusal P)
refused_by f k P is h = subst (λ (z : code.Cause). FailsBy z (ByRefusal P)) (sym is) (by (refusals.told f) P h)

-- want of memory tells nothing
pub no_memory_fails : (k : code.Cause) (P : Cause → Type 0) → k ≡ told_cause.NoMemory → FailsBy k P
no_memory_fails k P is = subst (λ (z : code.Cause). FailsBy z P) (sym is) tt

-- a cause that is told alone
pub told_fails : (k : code.Cause) (c : Cause) (P : Cause → Type 0) → told k ≡ Some c → P c → FailsBy k P
told_fails k c P is h = subst (λ (o : Option Cause). Told o P) (sym is) h
