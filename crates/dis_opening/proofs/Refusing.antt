-- Where nothing is found, nothing is found of what is made of it.
use Rattle.std.proofs.Common.{◌≡◌, ℕ, List, Result, Ok, Err, refl, sym, ap, ◌∙◌, subst}
use Rattle.dis_meaning.specs.Words.{Access, Found, Wrong, Raises, ◌>>=◌}
use Rattle.dis_opening.specs.declared.fault.StartFault.{StartFault}
use Rattle.dis_opening.specs.declared.fault.StartFault.TheVariants.{NoMemory, Malformed}
use Rattle.dis_opening.specs.Starting.{Refuses, Gives}

pub refuses_wrong : {T : Type 0} (a : Access T) (n : ℕ) → a ≡ Wrong n → Refuses Malformed a
refuses_wrong a n w t e = let b : Wrong n ≡ Found t = sym w ∙ e in absurd cc

refuses_raises : {T : Type 0} (a : Access T) (text : List ℕ) → a ≡ Raises text → Refuses Malformed a
refuses_raises a text w t e = let b : Raises text ≡ Found t = sym w ∙ e in absurd cc

pub refuses_on : {S T : Type 0} (f : StartFault) (a : Access S) (g : S → Access T) → Refuses f a → Refuses f (a >>= g)
refuses_on NoMemory a g h = tt
refuses_on Malformed (Found s) g h = λ t e. h s refl
refuses_on Malformed (Wrong n) g h = refuses_wrong (Wrong n >>= g) n refl
refuses_on Malformed (Raises text) g h = refuses_raises (Raises text >>= g) text refl

pub refuses_same : {T : Type 0} (f : StartFault) (a b : Access T) → b ≡ a → Refuses f a → Refuses f b
refuses_same f a b e h = subst (λ a. Refuses f a) (sym e) h

pub gives_on : {R S T : Type 0} (r : Result R StartFault) (a : Access S) (see : R → S) (g : S → T) → Gives see r a → Gives (λ r. g (see r)) r (a >>= λ s. Found (g s))
gives_on (Ok r) a see g h = ap (λ a. a >>= λ s. Found (g s)) h
gives_on (Err f) a see g h = refuses_on f a (λ s. Found (g s)) h

pub gives_same : {R S : Type 0} (r : Result R StartFault) (a b : Access S) (see : R → S) → b ≡ a → Gives see r a → Gives see r b
gives_same r a b see e h = subst (λ a. Gives see r a) (sym e) h
