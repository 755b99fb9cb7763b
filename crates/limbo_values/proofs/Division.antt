-- What a division gives where the divisor isn't 0.
use Rattle.std.proofs.Common.{◌≡◌, zero, suc, ℤ, pos, negsuc, Ok, refl, arith, ap, cond, false}
use Rattle.std.specs.Ordering.{int_eq}
use Rattle.std.proofs.lemmas.Int.{ints}
use Rattle.limbo_values.specs.declared.raised.Raised.TheVariants.{ZeroDivide}
use Rattle.std.proofs.Common.{Err}
use Rattle.limbo_values.specs.Operators.{unless_zero}

nonzero : (b : ℤ) → (b ≡ pos 0 → ⊥) → int_eq b (pos 0) ≡ false
nonzero (pos zero) h = absurd (h refl)
nonzero (pos (suc n)) h = grind (arith, ints)
nonzero (negsuc n) h = refl

pub unless_zero-is : (b z : ℤ) → (b ≡ pos 0 → ⊥) → unless_zero b z ≡ Ok z
unless_zero-is b z h = ap (λ t. cond t (Err ZeroDivide) (Ok z)) (nonzero b h)
