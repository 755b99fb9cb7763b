-- What is told where something is refused.
use Rattle.limbo_refusals.specs.declared.fault.ExprFault.{ExprFault}
use Rattle.limbo_refusals.specs.declared.fault.ExprFault.TheVariants as fault
use Rattle.limbo_refusals.specs.Refusals.{Refusal, Refuses}

-- what is told, and that this holds besides
pub refuses_with : (f : ExprFault) (P : Refusal → Type 0) (N : Type 0) → N → Refuses f P → Refuses f (λ r. P r × N)
refuses_with fault.NoMemory P N n h = tt
refuses_with _ P N n h = (h, n)
