-- What options and tests tell, and what is told where something is refused.
use Rattle.std.proofs.Common.{◌≡◌, Bool, true, false, cond, Option, Some, None, refl}
use Rattle.limbo_refusals.specs.declared.fault.ExprFault.{ExprFault}
use Rattle.limbo_refusals.specs.declared.fault.ExprFault.TheVariants as fault
use Rattle.limbo_refusals.specs.Refusals.{Refusal, Refuses}

pub if_then : {A : Type 0} (b : Bool) (o : Option A) (y : A) → cond b o None ≡ Some y → (b ≡ true) × (o ≡ Some y)
if_then true o y e = (refl, e)
if_then false o y e = absurd cc

-- what is told is this besides
pub refuses_as : (f : ExprFault) (P Q : Refusal → Type 0) → ((r : Refusal) → P r → Q r) → Refuses f P → Refuses f Q
refuses_as fault.NoMemory P Q g h = tt
refuses_as _ P Q g h = g _ h

-- what is told, and that this holds besides
pub refuses_with : (f : ExprFault) (P : Refusal → Type 0) (N : Type 0) → N → Refuses f P → Refuses f (λ r. P r × N)
refuses_with f P N n h = refuses_as f P (λ r. P r × N) (λ r p. (p, n)) h
