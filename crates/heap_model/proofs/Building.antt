-- What is known, with one thing more.
use Rattle.std.proofs.Common.{◌≡◌, ◌≢◌, ℕ, ◌<◌, cond, length, Option, Some, None, refl, sym, ap, subst, ◌∙◌, arith, ◌⊎◌, inl, inr}
use Rattle.std.specs.Prelude.{eqb}
use Rattle.std.proofs.lemmas.Bool.Decides.{eqb_tells}
use Rattle.heap_model.specs.Heap.{Heap}
use Rattle.heap_model.specs.Facts.{Fact, Named, Facts, IsUnmade, Is, Grows, Learns}
use Rattle.heap_model.specs.Contents.{Contents}
use Rattle.heap_model.specs.Worlds.{WorldsAlike}

pub if_same : {A : Type 0} (q n : ℕ) (a b : A) → q ≡ n → cond {A = A} (eqb q n) a b ≡ a
if_same {A = A} q n a b e = elim (eqb_tells q n) [ inl y ↦ ap (λ t. cond {A = A} t a b) y.0 | inr y ↦ absurd (y.1 e) ]

pub if_other : {A : Type 0} (q n : ℕ) (a b : A) → q ≢ n → cond {A = A} (eqb q n) a b ≡ b
if_other {A = A} q n a b e = elim (eqb_tells q n) [ inl y ↦ absurd (e y.1) | inr y ↦ ap (λ t. cond {A = A} t a b) y.0 ]

-- block n was made by process i, and is of this form once it stands for a heap value
module _ {B F : Type 0} (k : Facts B F) (n i : ℕ) (form : Option F) where
  abbrev pub with_maker : Facts B F
  with_maker = record {
    fact = k.fact;
    maker = λ q. cond {A = Option ℕ} (eqb q n) (Some i) (k.maker q);
    form = λ q. cond {A = Option F} (eqb q n) form (k.form q);
    once = k.once;
  }

  pub maker_is : with_maker.maker n ≡ Some i
  maker_is = if_same n n (Some i) (k.maker n) refl

  pub form_is : with_maker.form n ≡ form
  form_is = if_same n n form (k.form n) refl

  pub maker_grows : IsUnmade k n → Grows k with_maker
  maker_grows u = record {
    facts = λ q f e. e;
    makers = λ q j e.
        if_other q n (Some i) (k.maker q) (λ z. absurd (let y : None ≡ Some j = sym u.maker ∙ (ap k.maker (sym z) ∙ e) in cc)) ∙ e;
    forms = λ q o e.
        if_other q n form (k.form q) (λ z. absurd (let y : None ≡ Some o = sym u.form ∙ (ap k.form (sym z) ∙ e) in cc)) ∙ e;
  }

fact_is : {B : Type 0} (q n : ℕ) (f : Fact B) (o : Option (Fact B)) (m : ℕ) → cond {A = Option (Fact B)} (eqb q n) (Some f) o ≡ Some (Named m) → ((q ≡ n) × (f ≡ Named m)) ⊎ ((q ≢ n) × (o ≡ Some (Named m)))
fact_is {B = B} q n f o m e = elim (eqb_tells q n) [
  | inl y ↦ inl (y.1, (let z : Some f ≡ Some (Named m) = sym (if_same q n (Some f) o y.1) ∙ e in cc))
  | inr y ↦ inr (y.1, sym (if_other q n (Some f) o y.1) ∙ e)
]

name_is : {B : Type 0} (a b : ℕ) → ◌≡◌ {A = Fact B} (Named a) (Named b) → a ≡ b
name_is a b e = cc

-- block n stands for a new heap value
module _ {B F : Type 0} (k : Facts B F) (n m : ℕ) (fresh : (q : ℕ) → Is k m q → ⊥) where
  named_once : (r q q' : ℕ) → cond {A = Option (Fact B)} (eqb q n) (Some (Named m)) (k.fact q) ≡ Some (Named r) → cond {A = Option (Fact B)} (eqb q' n) (Some (Named m)) (k.fact q') ≡ Some (Named r) → q ≡ q'
  named_once r q q' e f = both (fact_is q n (Named m) (k.fact q) r e) (fact_is q' n (Named m) (k.fact q') r f)
    where
      both : ((q ≡ n) × (◌≡◌ {A = Fact B} (Named m) (Named r))) ⊎ ((q ≢ n) × (k.fact q ≡ Some (Named r))) → ((q' ≡ n) × (◌≡◌ {A = Fact B} (Named m) (Named r))) ⊎ ((q' ≢ n) × (k.fact q' ≡ Some (Named r))) → q ≡ q'
      both (inl a) (inl b) = a.0 ∙ sym b.0
      both (inl a) (inr b) = absurd (fresh q' (subst (λ r. k.fact q' ≡ Some (Named r)) (sym (name_is m r a.1)) b.1))
      both (inr a) (inl b) = absurd (fresh q (subst (λ r. k.fact q ≡ Some (Named r)) (sym (name_is m r b.1)) a.1))
      both (inr a) (inr b) = k.once r q q' a.1 b.1

  pub with_name : Facts B F
  with_name = record { fact = λ q. cond {A = Option (Fact B)} (eqb q n) (Some (Named m)) (k.fact q); maker = k.maker; form = k.form; once = named_once }

  pub name_learns : k.fact n ≡ None → Learns k with_name n (Named m)
  unfolding with_name
  name_learns none = record { before = none; now = if_same n n (Some (Named m)) (k.fact n) refl; apart = λ q d. if_other q n (Some (Named m)) (k.fact q) d; makers = λ q. refl; forms = λ q. refl }

-- block n stands for no heap value, and this is for good
module _ {B F : Type 0} (k : Facts B F) (n : ℕ) (f : Fact B) (not_named : (m : ℕ) → f ≡ Named m → ⊥) where
  plain_once : (r q q' : ℕ) → cond {A = Option (Fact B)} (eqb q n) (Some f) (k.fact q) ≡ Some (Named r) → cond {A = Option (Fact B)} (eqb q' n) (Some f) (k.fact q') ≡ Some (Named r) → q ≡ q'
  plain_once r q q' e g = both (fact_is q n f (k.fact q) r e) (fact_is q' n f (k.fact q') r g)
    where
      both : ((q ≡ n) × (f ≡ Named r)) ⊎ ((q ≢ n) × (k.fact q ≡ Some (Named r))) → ((q' ≡ n) × (f ≡ Named r)) ⊎ ((q' ≢ n) × (k.fact q' ≡ Some (Named r))) → q ≡ q'
      both (inl a) b = absurd (not_named r a.1)
      both (inr a) (inl b) = absurd (not_named r b.1)
      both (inr a) (inr b) = k.once r q q' a.1 b.1

  pub with_fact : Facts B F
  with_fact = record { fact = λ q. cond {A = Option (Fact B)} (eqb q n) (Some f) (k.fact q); maker = k.maker; form = k.form; once = plain_once }

  pub fact_learns : k.fact n ≡ None → Learns k with_fact n f
  unfolding with_fact
  fact_learns none = record { before = none; now = if_same n n (Some f) (k.fact n) refl; apart = λ q d. if_other q n (Some f) (k.fact q) d; makers = λ q. refl; forms = λ q. refl }

module _ {V B F : Type 0} (c : Contents V B F) (k : Facts B F) (n i : ℕ) (form : Option F) where
  pub maker_world : (w : Heap V) (x : Heap B) → IsUnmade k n → n < length x → WorldsAlike c k w x
      → WorldsAlike c (with_maker k n i form) w x
  maker_world w x none lt s = record {
    unmade = λ q z.
        let u = s.unmade q z in
        record {
          fact = u.fact;
          maker = if_other q n (Some i) (k.maker q) (λ e. absurd (omega (arith, e))) ∙ u.maker;
          form = if_other q n form (k.form q) (λ e. absurd (omega (arith, e))) ∙ u.form;
        };
    unnamed = s.unnamed;
    there = λ m v e. let t = s.there m v e in (t.0, t.1, t.2, t.3, c.grows k (with_maker k n i form) t.0 v t.1 (maker_grows k n i form none) t.4);
    here = s.here;
    texts = s.texts;
    parts = s.parts;
    carriers = s.carriers;
    frees = s.frees;
    bares = s.bares;
    closed = s.closed;
  }
