-- Operations that an arm leaves out.
use Rattle.std.proofs.Common.{◌≡◌, ℕ, [], refl}
use Rattle.dis_isa.specs.declared.inst.Operand as isa
use Rattle.limbo_values.specs.declared.number.Kind.{Kind}
use Rattle.limbo_values.specs.declared.operator.Operator.{Operator}
use Rattle.limbo_values.specs.declared.operator.Shift.{Shift}
use Rattle.limbo_values.specs.declared.operator.Unary.{Unary}
use Rattle.limbo_values.specs.declared.operator.Comparison.{Comparison}
use Rattle.limbo_typed.specs.declared.operation.Operation.{Operation}
use Rattle.limbo_typed.specs.declared.operation.Operation.TheVariants as operation
use Rattle.slot_code.specs.Code.{Operand}
use Rattle.dis_objects.specs.Code.{Context, operation_data, data_bytes, altering, altering_size, operating, operating_size}

pub no_operands : (o : Operation) (x y : Operand) → ((u : Operator) (k : Kind) → o ≡ operation.Arithmetic u k → ⊥) →
    ((u : Shift) (k : Kind) → o ≡ operation.Shift u k → ⊥) → ((u : Comparison) (k : Kind) → o ≡ operation.Compare u k → ⊥) →
    data_bytes (operation_data o x y) ≡ 0
no_operands (operation.Arithmetic u k) x y p q r = absurd (p u k refl)
no_operands (operation.Shift u k) x y p q r = absurd (q u k refl)
no_operands (operation.Compare u k) x y p q r = absurd (r u k refl)
no_operands o x y p q r = refl

pub no_operating : (o : Operation) → ((u : Operator) (k : Kind) → o ≡ operation.Arithmetic u k → ⊥) →
    ((u : Shift) (k : Kind) → o ≡ operation.Shift u k → ⊥) → ((u : Comparison) (k : Kind) → o ≡ operation.Compare u k → ⊥) →
    operating_size o ≡ 0
no_operating (operation.Arithmetic u k) p q r = absurd (p u k refl)
no_operating (operation.Shift u k) p q r = absurd (q u k refl)
no_operating (operation.Compare u k) p q r = absurd (r u k refl)
no_operating o p q r = refl

pub no_operation : (c : Context) (here at : ℕ) (o : Operation) (x y : Operand) (d : isa.Operand) →
    ((u : Operator) (k : Kind) → o ≡ operation.Arithmetic u k → ⊥) → ((u : Shift) (k : Kind) → o ≡ operation.Shift u k → ⊥) →
    ((u : Comparison) (k : Kind) → o ≡ operation.Compare u k → ⊥) → operating c here at o x y d ≡ []
no_operation c here at (operation.Arithmetic u k) x y d p q r = absurd (p u k refl)
no_operation c here at (operation.Shift u k) x y d p q r = absurd (q u k refl)
no_operation c here at (operation.Compare u k) x y d p q r = absurd (r u k refl)
no_operation c here at o x y d p q r = refl

pub no_altering : (o : Operation) → ((u : Unary) (k : Kind) → o ≡ operation.Alter u k → ⊥) → (o ≡ operation.Not → ⊥) →
    ((from to : Kind) → o ≡ operation.Convert from to → ⊥) → altering_size o ≡ 0
no_altering (operation.Alter u k) p q r = absurd (p u k refl)
no_altering operation.Not p q r = absurd (q refl)
no_altering (operation.Convert from to) p q r = absurd (r from to refl)
no_altering o p q r = refl

pub no_alteration : (here : ℕ) (o : Operation) (s d : isa.Operand) → ((u : Unary) (k : Kind) → o ≡ operation.Alter u k → ⊥) →
    (o ≡ operation.Not → ⊥) → ((from to : Kind) → o ≡ operation.Convert from to → ⊥) → altering here o s d ≡ []
no_alteration here (operation.Alter u k) s d p q r = absurd (p u k refl)
no_alteration here operation.Not s d p q r = absurd (q refl)
no_alteration here (operation.Convert from to) s d p q r = absurd (r from to refl)
no_alteration here o s d p q r = refl
