-- What operands are.
use Rattle.std.proofs.Common.{◌≡◌, ℤ, None, refl}
use Rattle.limbo_values.specs.declared.number.Kind.{Kind}
use Rattle.limbo_values.specs.declared.operator.Operator.{Operator}
use Rattle.limbo_values.specs.declared.operator.Shift.{Shift}
use Rattle.limbo_values.specs.declared.operator.Comparison.{Comparison}
use Rattle.limbo_typed.specs.declared.operation.Operation.{Operation}
use Rattle.limbo_typed.specs.declared.operation.Operation.TheVariants as operation
use Rattle.typed_lower.specs.declared.taking.Taking.{Taking}
use Rattle.typed_lower.specs.declared.taking.Taking.TheVariants.{Any, Own, Short}
use Rattle.typed_lower.specs.Kinds.{leaf}
use Rattle.typed_lower.specs.Terms.{takes_long, long_taking, left_taking, right_taking, taken_by}
use Rattle.slot_writing.specs.declared.terms.Variable.{Variable}
use Rattle.slot_writing.specs.declared.terms.Term.{Term}
use Rattle.slot_writing.specs.declared.terms.Term.TheVariants as form
use Rattle.slot_writing.specs.Terms.{view_term}

pub no_leaf : (t : Term) → ((ty : _) (n : ℤ) → t ≡ form.Literal ty n → ⊥) → ((v : Variable) → t ≡ form.Read v → ⊥)
    → None ≡ leaf (view_term t)
no_leaf form.Missing p q = refl
no_leaf (form.Literal t n) p q = absurd (p t n refl)
no_leaf (form.Read v) p q = absurd (q v refl)
no_leaf (form.Apply o es) p q = refl
no_leaf (form.Widened e) p q = refl
no_leaf (form.Lazy c l r) p q = refl
no_leaf (form.Store v e) p q = refl
no_leaf (form.Update o v e) p q = refl
no_leaf (form.Step o g v) p q = refl
no_leaf (form.Call t f es) p q = refl
no_leaf (form.Print ps es) p q = refl

-- ---- how they are taken

pub none_taken : (y : Taking) → None ≡ taken_by y None
none_taken Any = refl
none_taken Own = refl
none_taken Short = refl

pub other_left : (o : Operation) → ((u : Operator) (k : Kind) → o ≡ operation.Arithmetic u k → ⊥)
    → ((u : Shift) (k : Kind) → o ≡ operation.Shift u k → ⊥) → long_taking (takes_long o) ≡ left_taking o
other_left (operation.Arithmetic u k) p q = absurd (p u k refl)
other_left (operation.Shift u k) p q = absurd (q u k refl)
other_left o p q = refl

pub other_right : (o : Operation) → ((u : Comparison) (k : Kind) → o ≡ operation.Compare u k → ⊥) → Any ≡ right_taking o
other_right (operation.Compare u k) p = absurd (p u k refl)
other_right o p = refl
