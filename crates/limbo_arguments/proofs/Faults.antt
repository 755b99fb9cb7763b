-- What a fault tells.
use Rattle.std.proofs.Common.{◌≡◌, Option, None, Some, sym, subst}
use Rattle.limbo_refusals.specs.declared.fault.ExprFault.{ExprFault}
use Rattle.limbo_refusals.specs.declared.fault.ExprFault.TheVariants as fault
use Rattle.limbo_refusals.specs.Refusals.{Refusal, told, Refuses}

-- want of memory tells nothing
pub no_memory : (f : ExprFault) (P : Refusal → Type 0) → f ≡ fault.NoMemory → Refuses f P
no_memory f P e = subst (λ (g : ExprFault). Refuses g P) (sym e) tt

pub refuses_weaker : (f : ExprFault) (P Q : Refusal → Type 0) → ((r : Refusal) → P r → Q r) → Refuses f P → Refuses f Q
refuses_weaker f P Q w h = go (told f) h
  where
    go : (o : Option Refusal) → (elim o as (λ (z : Option Refusal). Type 0) [ None ↦ Unit {0} | Some r ↦ P r ])
        → (elim o as (λ (z : Option Refusal). Type 0) [ None ↦ Unit {0} | Some r ↦ Q r ])
    go None h = tt
    go (Some r) h = w r h

pub refuses_that : (f : ExprFault) (s : Refusal) (Q : Refusal → Type 0) → Q s → Refuses f (λ r. r ≡ s) → Refuses f Q
refuses_that f s Q q h = refuses_weaker f (λ r. r ≡ s) Q (λ r e. subst Q (sym e) q) h
