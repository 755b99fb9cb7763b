-- Which cause a fault tells.
use Rattle.std.proofs.Common.{◌≡◌, sym, subst}
use Rattle.limbo_refusals.specs.declared.fault.ExprFault.{ExprFault}
use Rattle.limbo_refusals.specs.declared.fault.ExprFault.TheVariants as fault
use Rattle.limbo_refusals.specs.Refusals.{Refusal, Refuses}
use Rattle.limbo_causes.specs.declared.fault.Cause as code
use Rattle.limbo_causes.specs.declared.fault.Cause.TheVariants as made
use Rattle.limbo_causes.specs.Causes.{Cause, Refused, FailsBy}

pub refused_as : (f : ExprFault) (r : Refusal) (P : Cause → Type 0) → P (Refused r) → Refuses f (λ q. q ≡ r) → FailsBy (made.Refused f) P
refused_as fault.NoMemory r P p h = tt
refused_as (fault.Clash c) r P p h = subst (λ (q : Refusal). P (Refused q)) (sym h) p
refused_as fault.NotPlace r P p h = subst (λ (q : Refusal). P (Refused q)) (sym h) p
refused_as fault.CyclicStore r P p h = subst (λ (q : Refusal). P (Refused q)) (sym h) p
refused_as fault.ModuleValue r P p h = subst (λ (q : Refusal). P (Refused q)) (sym h) p
refused_as fault.BadFormat r P p h = subst (λ (q : Refusal). P (Refused q)) (sym h) p
refused_as fault.TypeTooLarge r P p h = subst (λ (q : Refusal). P (Refused q)) (sym h) p

pub weaker : (k : code.Cause) (P Q : Cause → Type 0) → ((c : Cause) → P c → Q c) → FailsBy k P → FailsBy k Q
weaker made.NoMemory P Q w h = tt
weaker made.Twice P Q w h = w _ h
weaker made.Unknown P Q w h = w _ h
weaker made.NotConstant P Q w h = w _ h
weaker (made.Refused fault.NoMemory) P Q w h = tt
weaker (made.Refused (fault.Clash c)) P Q w h = w _ h
weaker (made.Refused fault.NotPlace) P Q w h = w _ h
weaker (made.Refused fault.CyclicStore) P Q w h = w _ h
weaker (made.Refused fault.ModuleValue) P Q w h = w _ h
weaker (made.Refused fault.BadFormat) P Q w h = w _ h
weaker (made.Refused fault.TypeTooLarge) P Q w h = w _ h
