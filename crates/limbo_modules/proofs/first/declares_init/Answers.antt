use Rattle.std.proofs.Common.{◌≡◌, ◌<◌, ◌⊎◌, inl, inr, ℕ, zero, suc, Bool, List, Some, IfSome, IfNone, map}
use Rattle.std.proofs.Common.{refl, sym, ap, subst, ◌∙◌, arith}
use Rattle.std.specs.List.{Contains}
use Rattle.std.proofs.lemmas.Bool.{false≢true}
use Rattle.limbo_entries.specs.Entries.{Entry}
use Rattle.limbo_entries.specs.View.{entries_of}
use Rattle.limbo_scope.specs.declared.meaning.Meaning.TheVariants as meaning
use Rattle.limbo_meanings.specs.Meanings.{meaning_of}
use Rattle.limbo_exports.specs.System.{IsFirst}
use Rattle.limbo_exports.proofs.Lists.{one_there}
use Rattle.limbo_typed.specs.View.{view_declared}
use Rattle.limbo_modules.specs.First.{is_draw, is_draw_context, IsDrawContext, first_init}
use Rattle.limbo_modules.proofs.first.declares_init.Goals as goal

order : (i j : ℕ) → (i < j) ⊎ ((i ≡ j) ⊎ (j < i))
order zero zero = inr (inl refl)
order zero (suc j) = inl (omega arith)
order (suc i) zero = inr (inr (omega arith))
order (suc i) (suc j) = elim (order i j) [
  | inl l ↦ inl (omega arith)
  | inr r ↦ elim r [
    | inl e ↦ inr (inl (ap suc e))
    | inr l ↦ inr (inr (omega arith))
  ]
]

-- the first for which a test holds is one
one_first : (test : Entry → Bool) (es : List Entry) (i j : ℕ) → IsFirst test es i → IsFirst test es j → i ≡ j
one_first test es i j f g = elim (order i j) [
  | inl l ↦ absurd (false≢true (sym (g.none_before i f.entry l f.there) ∙ f.holds))
  | inr r ↦ elim r [
    | inl e ↦ e
    | inr l ↦ absurd (false≢true (sym (f.none_before j g.entry l g.there) ∙ g.holds))
  ]
]

-- the built-in context is one adt
one_context : (es : List Entry) (m a b : ℕ) → IsDrawContext es m a → IsDrawContext es m b → a ≡ b
one_context es m a b x y =
    let draw : x.draw ≡ y.draw = one_first is_draw es x.draw y.draw x.first y.first in
    let context : IsFirst (is_draw_context (Some y.draw)) es x.number =
    subst (λ z. IsFirst (is_draw_context (Some z)) es x.number) draw x.context in
    let number : x.number ≡ y.number = one_first (is_draw_context (Some y.draw)) es x.number y.number context y.context in
    let entry : x.entry ≡ y.entry = one_there es x.number y.number x.entry y.entry x.there y.there (sym number) in
    let means : meaning_of es m y.number y.entry ≡ Some (meaning.Adt a) =
    subst (λ z. meaning_of es m y.number z ≡ Some (meaning.Adt a)) entry
    (subst (λ k. meaning_of es m k x.entry ≡ Some (meaning.Adt a)) number x.means) in
    let same : Some (meaning.Adt a) ≡ Some (meaning.Adt b) = sym means ∙ y.means in
    cc

pub returns-in-Some-clause-no : goal.returns-in-Some-clause-no
returns-in-Some-clause-no c = λ h d.
    let es = entries_of c.args.table.now.entries.items in
    let m = c.args.implemented in
    let found : IsDrawContext es m c.in-Some.adt = subst (λ o. IfSome o (IsDrawContext es m)) c.in-Some.is c.in_ok-adt.ensures.some in
    let same : d.adt ≡ c.in-Some.adt = one_context es m d.adt c.in-Some.adt d.context found in
    let there = subst (λ zs. Contains (map view_declared zs) d.declared) (sym c.deref.ensures.value) d.there in
    c.has_init.ensures.no h d.declared there d.named (d.of ∙ ap first_init same)

pub returns-in-None-clause-no : goal.returns-in-None-clause-no
returns-in-None-clause-no c = λ h d.
    let es = entries_of c.args.table.now.entries.items in
    let m = c.args.implemented in
    subst (λ o. IfNone o ((n : ℕ) → IsDrawContext es m n → ⊥)) c.in-None.is c.in_ok-adt.ensures.none d.adt d.context
