-- Conditions whose value is tested.
use Rattle.std.proofs.Common.{◌≡◌, refl}
use Rattle.limbo_values.specs.declared.number.Kind.{Kind}
use Rattle.limbo_values.specs.declared.operator.Comparison.{Comparison}
use Rattle.limbo_typed.specs.declared.operation.Operation.{Operation}
use Rattle.limbo_typed.specs.declared.operation.Operation.TheVariants as operation
use Rattle.limbo_typed.specs.declared.operation.Connective.{Connective}
use Rattle.typed_meaning.specs.Trees.{Apply, Terms, NoTerms, MoreTerms}
use Rattle.slot_writing.specs.declared.terms.Term.{Term}
use Rattle.slot_writing.specs.declared.terms.Term.TheVariants as form
use Rattle.slot_writing.specs.Terms.{view_term}
use Rattle.slot_writing.specs.Conditions.{IsTested, IsOther}

pub other_tested : (o : Operation) (ts : Terms) → ((c : Comparison) (k : Kind) → o ≡ operation.Compare c k → ⊥) → IsTested (Apply o ts)
other_tested (operation.Compare c k) ts p = absurd (p c k refl)
other_tested o ts p = λ w d n. refl

pub other_compared : (c : Comparison) (k : Kind) (ts : Terms) → IsOther ts → IsTested (Apply (operation.Compare c k) ts)
other_compared c k NoTerms h = λ w d n. refl
other_compared c k (MoreTerms t NoTerms) h = absurd h
other_compared c k (MoreTerms t (MoreTerms u NoTerms)) h = absurd h
other_compared c k (MoreTerms t (MoreTerms u (MoreTerms v ts))) h = λ w d n. refl

pub term_tested : (t : Term) → ((c : Connective) (l r : _) → t ≡ form.Lazy c l r → ⊥) → ((o : Operation) (es : _) → t ≡ form.Apply o es → ⊥)
    → IsTested (view_term t)
term_tested form.Missing p q = λ w d n. refl
term_tested (form.Literal t x) p q = λ w d n. refl
term_tested (form.Read v) p q = λ w d n. refl
term_tested (form.Apply o es) p q = absurd (q o es refl)
term_tested (form.Widened e) p q = λ w d n. refl
term_tested (form.Lazy c l r) p q = absurd (p c l r refl)
term_tested (form.Store v e) p q = λ w d n. refl
term_tested (form.Update o v e) p q = λ w d n. refl
term_tested (form.Step o g v) p q = λ w d n. refl
term_tested (form.Call t f es) p q = λ w d n. refl
term_tested (form.Print ps es) p q = λ w d n. refl
