-- What is told of a refusal, and more of it.
use Rattle.limbo_refusals.specs.declared.fault.ExprFault.{ExprFault}
use Rattle.limbo_refusals.specs.declared.fault.ExprFault.TheVariants as fault
use Rattle.limbo_refusals.specs.Refusals.{Refusal, Refuses}

pub refuses_so : (f : ExprFault) (P Q : Refusal → Type 0) → ((r : Refusal) → P r → Q r) → Refuses f P → Refuses f Q
refuses_so fault.NoMemory P Q g h = tt
refuses_so (fault.Clash c) P Q g h = g _ h
refuses_so fault.NotPlace P Q g h = g _ h
refuses_so fault.CyclicStore P Q g h = g _ h
refuses_so fault.ModuleValue P Q g h = g _ h
refuses_so fault.BadFormat P Q g h = g _ h
refuses_so fault.TypeTooLarge P Q g h = g _ h
