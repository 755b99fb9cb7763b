-- Operations that an arm leaves out.
use Rattle.std.proofs.Common.{◌≡◌, refl}
use Rattle.limbo_values.specs.declared.number.Kind.{Kind}
use Rattle.limbo_values.specs.declared.number.Kind.TheVariants.{Int}
use Rattle.limbo_values.specs.declared.operator.Operator.{Operator}
use Rattle.limbo_values.specs.declared.operator.Shift.{Shift}
use Rattle.limbo_values.specs.declared.operator.Unary.{Unary}
use Rattle.limbo_values.specs.declared.operator.Comparison.{Comparison}
use Rattle.limbo_typed.specs.declared.operation.Operation.{Operation}
use Rattle.limbo_typed.specs.declared.operation.Operation.TheVariants as operation
use Rattle.dis_objects.specs.Code.{operand_kind}

pub no_kind : (o : Operation) → ((u : Operator) (k : Kind) → o ≡ operation.Arithmetic u k → ⊥) →
    ((u : Shift) (k : Kind) → o ≡ operation.Shift u k → ⊥) → ((u : Unary) (k : Kind) → o ≡ operation.Alter u k → ⊥) →
    ((u : Comparison) (k : Kind) → o ≡ operation.Compare u k → ⊥) → ((from to : Kind) → o ≡ operation.Convert from to → ⊥) →
    operand_kind o ≡ Int
no_kind (operation.Arithmetic u k) p q r s t = absurd (p u k refl)
no_kind (operation.Shift u k) p q r s t = absurd (q u k refl)
no_kind (operation.Alter u k) p q r s t = absurd (r u k refl)
no_kind (operation.Compare u k) p q r s t = absurd (s u k refl)
no_kind (operation.Convert from to) p q r s t = absurd (t from to refl)
no_kind o p q r s t = refl
