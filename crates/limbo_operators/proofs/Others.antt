-- Operators that mean something else.
use Rattle.std.proofs.Common.{◌≡◌, true, false, None, refl}
use Rattle.limbo_values.specs.declared.operator.Operator.{Operator}
use Rattle.limbo_values.specs.declared.operator.Operator.TheVariants as operator
use Rattle.limbo_values.specs.declared.operator.Comparison.{Comparison}
use Rattle.limbo_values.specs.declared.operator.Comparison.TheVariants as comparison
use Rattle.limbo_operators.specs.Choosing.{is_add, identifying, is_order}

pub not_add : (o : Operator) → (o ≡ operator.Add → ⊥) → false ≡ is_add o
not_add operator.Add never = absurd (never refl)
not_add _ never = refl

pub not_identifying : (c : Comparison) → (c ≡ comparison.Equal → ⊥) → (c ≡ comparison.Unequal → ⊥) → None ≡ identifying c
not_identifying comparison.Equal e u = absurd (e refl)
not_identifying comparison.Unequal e u = absurd (u refl)
not_identifying _ e u = refl

pub is_ordering : (c : Comparison) → (c ≡ comparison.Equal → ⊥) → (c ≡ comparison.Unequal → ⊥) → true ≡ is_order c
is_ordering comparison.Equal e u = absurd (e refl)
is_ordering comparison.Unequal e u = absurd (u refl)
is_ordering _ e u = refl
