-- The constants with which variables begin.
use Rattle.std.proofs.Common.{◌≡◌, ◌<◌, ◌≤◌, ◌+◌, ◌⊎◌, inl, inr, ℕ, zero, suc, List, [], ◌∷◌, ◌++◌, length, Option, None, Some, slice_get}
use Rattle.std.proofs.Common.{Bool, true, false, take, count_by, get_or, refl, sym, ap, subst, ◌∙◌, arith}
use Rattle.std.specs.List.{Contains}
use Rattle.std.proofs.lemmas.List.Elements.{Contains-append_left, Contains-push, Contains-push_cases}
use Rattle.std.proofs.lemmas.Option.{slice_get_within}
use Rattle.limbo_constants.specs.declared.constant.Constant as source
use Rattle.limbo_typed.specs.declared.module.Initial.{Initial}
use Rattle.limbo_typed.specs.declared.stmt.Constant as typed
use Rattle.limbo_entries.specs.Entries.{Entry, IsEntry}
use Rattle.limbo_constant_values.specs.Answers.{IsKnown}
use Rattle.limbo_constant_values.specs.Initials.{AreInitials}
use Rattle.limbo_scope.specs.declared.meaning.Meaning.{Meaning}
use Rattle.limbo_scope.specs.declared.meaning.Meaning.TheVariants as meaning
use Rattle.limbo_source_adts.proofs.Counts.{count_yes, count_no}
use Rattle.limbo_meanings.specs.declared.kind.Kind.TheVariants as kind
use Rattle.limbo_meanings.specs.Kinds.{place, has_kind}
use Rattle.limbo_meanings.specs.Meanings.{meaning_of, many_of, AreMeanings}
use Rattle.limbo_meanings.proofs.Numbered.{number_is}
use Rattle.limbo_outline.specs.Outline.{value_of_constant}
use Rattle.limbo_imports.specs.Imports.{meaning_at}
use Rattle.limbo_source_context.specs.Beginning.{Begins, Rises, AreBeginnings, AreBeginningsTo, global_in}
use Rattle.limbo_source_context.specs.Laws.{OneBeginnings}

pub global_from : (o : Option Meaning) (g : ℕ) → global_in o ≡ Some g → o ≡ Some (meaning.Global g)
global_from (Some (meaning.Global n)) g h = ap (λ z. Some (meaning.Global z)) (let e : n ≡ g = cc in e)
global_from _ g h = absurd cc

pub meant_at : (means : List (Option Meaning)) (k : ℕ) (x : Option Meaning) → slice_get means k ≡ Some x → meaning_at means k ≡ x
meant_at means k x h = ap (λ (z : Option (Option Meaning)). elim z [ None ↦ None | Some y ↦ y ]) h

same_initial : (i j : Initial) → i.global ≡ j.global → i.value ≡ j.value → i ≡ j
same_initial i j p q = ap (λ (z : ℕ). let r : Initial = record { global = z; value = i.value } in r) p
    ∙ ap (λ (z : typed.Constant). let r : Initial = record { global = j.global; value = z } in r) q

-- ---- their order

none_there : (x : Initial) → Contains [] x → ⊥
none_there x c = let l = c.1 in absurd (omega arith)

first_there : (x : Initial) (xs : List Initial) → Contains (x ∷ xs) x
first_there x xs = (0, omega arith, refl)

there_too : (x : Initial) (xs : List Initial) (i : Initial) → Contains xs i → Contains (x ∷ xs) i
there_too x xs i c = let l : c.0 < length xs = c.1 in (suc c.0, omega arith, c.2)

first_or : (x : Initial) (xs : List Initial) (i : Initial) → Contains (x ∷ xs) i → (x ≡ i) ⊎ Contains xs i
first_or x xs i c = go c.0 c.1 c.2
  where
    go : (n : ℕ) → n < length (x ∷ xs) → get_or (x ∷ xs) n i ≡ i → (x ≡ i) ⊎ Contains xs i
    go zero l h = inl h
    go (suc n) l h = inr (n, omega arith, h)

rises_push : (xs : List Initial) (x : Initial) → Rises xs → ((i : Initial) → Contains xs i → i.global < x.global) → Rises (xs ++ (x ∷ []))
rises_push [] x r f = (λ j c. absurd (none_there j c), tt)
rises_push (y ∷ xs) x r f = (
  λ j c. elim (Contains-push_cases xs x j c) [
    | inl a ↦ r.0 j a
    | inr b ↦ subst (λ (z : Initial). y.global < z.global) b (f y (first_there y xs))
  ],
  rises_push xs x r.1 (λ i c. f i (there_too y xs i c)),
)

-- two that have the same, in order, are one
module _ (x y : Initial) (xs ys : List Initial) (r : Rises (x ∷ xs)) (s : Rises (y ∷ ys)) where
  same_first : Contains (y ∷ ys) x → Contains (x ∷ xs) y → y ≡ x
  same_first f g = elim (first_or y ys x f) [
    | inl a ↦ a
    | inr b ↦ elim (first_or x xs y g) [
      | inl c ↦ sym c
      | inr d ↦ let l : y.global < x.global = s.0 x b in let k : x.global < y.global = r.0 y d in absurd (omega arith)
    ]
  ]

  -- what stands behind the first stands behind the first
  behind_too : y ≡ x → (i : Initial) → Contains xs i → Contains (y ∷ ys) i → Contains ys i
  behind_too same i c d = elim (first_or y ys i d) [
    | inl a ↦
        let l : x.global < i.global = r.0 i c in
        let e : x.global ≡ i.global = ap (λ (z : Initial). z.global) (sym same ∙ a) in
        absurd (omega arith)
    | inr b ↦ b
  ]

one_order : (xs ys : List Initial) → Rises xs → Rises ys → ((i : Initial) → Contains xs i → Contains ys i)
    → ((i : Initial) → Contains ys i → Contains xs i) → xs ≡ ys
one_order [] [] r s f g = refl
one_order [] (y ∷ ys) r s f g = absurd (none_there y (g y (first_there y ys)))
one_order (x ∷ xs) [] r s f g = absurd (none_there x (f x (first_there x xs)))
one_order (x ∷ xs) (y ∷ ys) r s f g =
    let e = same_first x y xs ys r s (f x (first_there x xs)) (g y (first_there y ys)) in
    ap (λ z. z ∷ xs) (sym e) ∙ ap (λ zs. y ∷ zs) (one_order xs ys r.1 s.1
    (λ i c. behind_too x y xs ys r s e i c (f i (there_too x xs i c)))
    (λ i c. behind_too y x ys xs s r (sym e) i c (g i (there_too y ys i c))))

pub one_beginnings : OneBeginnings
one_beginnings es m xs ys once a b =
    one_order xs ys a.rises b.rises (λ i c. let k = a.only i c in b.all k.0 i k.1) (λ i c. let k = b.only i c in a.all k.0 i k.1)

-- ---- variables of the module are counted in order

count_less : (test : Entry → Bool) (es : List Entry) (j k : ℕ) (e : Entry) → j < k → slice_get es j ≡ Some e → test e ≡ true
    → count_by test (take j es) < count_by test (take k es)
count_less test [] j k e l at t = absurd cc
count_less test (x ∷ es) zero zero e l at t = absurd (omega arith)
count_less test (x ∷ es) (suc j) zero e l at t = absurd (omega arith)
count_less test (x ∷ es) zero (suc k) e l at t =
    let p : x ≡ e = cc in
    let c = count_yes test x (take k es) (subst (λ (z : Entry). test z ≡ true) (sym p) t) in
    let z : count_by test [] ≡ 0 = refl in
    omega arith
count_less test (x ∷ es) (suc j) (suc k) e l at t = go (test x) refl (count_less test es j k e (omega arith) at t)
  where
    go : (b : Bool) → test x ≡ b → count_by test (take j es) < count_by test (take k es)
        → count_by test (x ∷ take j es) < count_by test (x ∷ take k es)
    go true h r =
        let c = count_yes test x (take j es) h in
        let d = count_yes test x (take k es) h in
        omega arith
    go false h r =
        let c = count_no test x (take j es) h in
        let d = count_no test x (take k es) h in
        omega arith

numbers_rise : (es : List Entry) (m j k : ℕ) (i x : Initial) → j < k → Begins es m j i → Begins es m k x → i.global < x.global
numbers_rise es m j k i x l b c =
    let p = number_is es m j b.entry kind.Global i.global b.is in
    let q = number_is es m k c.entry kind.Global x.global c.is in
    let r = count_less (has_kind es m (place kind.Global)) es j k b.entry l b.there p.0 in
    subst (λ z. z < x.global) p.1 (subst (λ z. many_of es m kind.Global (take j es) < z) q.1 r)

-- ---- at a declaration

module _ (es : List Entry) (m : ℕ) where
  module _ (k : ℕ) (means : List (Option Meaning)) (initials : List (Option source.Constant)) (meant : AreMeanings es m means)
      (are : AreInitials es m initials) where
    global_is : (i : Initial) → Begins es m k i → global_in (meaning_at means k) ≡ Some i.global
    global_is i b = ap global_in (meant_at means k (meaning_of es m k b.entry) (meant k b.entry b.there) ∙ b.is)

    pub not_global : global_in (meaning_at means k) ≡ None → (i : Initial) → Begins es m k i → ⊥
    not_global h i b = let f : None ≡ Some i.global = sym h ∙ global_is i b in absurd cc

    pub no_constant : ((c : source.Constant) → IsKnown initials k c → ⊥) → (i : Initial) → Begins es m k i → ⊥
    no_constant none i b = none b.constant (are.complete k b.constant b.initial)

    module _ (x : Initial) (c : source.Constant) (is : global_in (meaning_at means k) ≡ Some x.global) (known : IsKnown initials k c)
        (value : x.value ≡ value_of_constant c) where
      pub it_begins : (e : Entry) → IsEntry es k e → Begins es m k x
      it_begins e at = record {
        entry = e;
        there = at;
        is = sym (meant_at means k (meaning_of es m k e) (meant k e at)) ∙ global_from (meaning_at means k) x.global is;
        constant = c;
        initial = are.known k c known;
        value = value;
      }

      pub begins_so : (i : Initial) → Begins es m k i → i ≡ x
      begins_so i b =
          let f : Some i.global ≡ Some x.global = sym (global_is i b) ∙ is in
          let g : i.global ≡ x.global = cc in
          let h : Some (Some b.constant) ≡ Some (Some c) = sym (are.complete k b.constant b.initial) ∙ known in
          let d : b.constant ≡ c = cc in
          same_initial i x g (b.value ∙ ap value_of_constant d ∙ sym value)

  -- ---- one after the other

  at_or : (a b : ℕ) → a < b + 1 → (a < b) ⊎ (a ≡ b)
  at_or a b l = grind arith

  pub none_begun : AreBeginningsTo es m 0 []
  none_begun = record {
    only = λ i c. absurd (none_there i c);
    all = λ k i l b. absurd (omega arith);
    rises = tt;
  }

  before_too : (k : ℕ) (i : Initial) → (j : ℕ) × (j < k) × Begins es m j i → (j : ℕ) × (j < k + 1) × Begins es m j i
  before_too k i r = let l : r.0 < k = r.1 in (r.0, omega arith, r.2)

  module _ (k : ℕ) (xs : List Initial) where
    pub begins_not : ((i : Initial) → Begins es m k i → ⊥) → AreBeginningsTo es m k xs → AreBeginningsTo es m (k + 1) xs
    begins_not none to = record {
      only = λ i c. before_too k i (to.only i c);
      all = λ j i l b. elim (at_or j k l) [
        | inl y ↦ to.all j i y b
        | inr y ↦ absurd (none i (subst (λ (z : ℕ). Begins es m z i) y b))
      ];
      rises = to.rises;
    }

    pub begins_more : (x : Initial) → Begins es m k x → ((i : Initial) → Begins es m k i → i ≡ x) → AreBeginningsTo es m k xs
        → AreBeginningsTo es m (k + 1) (xs ++ (x ∷ []))
    begins_more x begun one to = record {
      only = λ i at. elim (Contains-push_cases xs x i at) [
        | inl y ↦ before_too k i (to.only i y)
        | inr y ↦ (k, omega arith, subst (λ (z : Initial). Begins es m k z) y begun)
      ];
      all = λ j i l b. elim (at_or j k l) [
        | inl y ↦ Contains-append_left xs (x ∷ []) i (to.all j i y b)
        | inr y ↦
            subst (λ (z : Initial). Contains (xs ++ (x ∷ [])) z) (sym (one i (subst (λ (z : ℕ). Begins es m z i) y b))) (Contains-push xs x)
      ];
      rises = rises_push xs x to.rises (λ i c. let r = to.only i c in numbers_rise es m r.0 k i x r.1 r.2 begun);
    }

  pub all_begun : (k : ℕ) (xs : List Initial) → length es ≤ k → AreBeginningsTo es m k xs → AreBeginnings es m xs
  all_begun k xs l to = record {
    only = λ i c. let r = to.only i c in (r.0, r.2);
    all = λ j i b. let w = slice_get_within es j b.entry b.there in to.all j i (omega arith) b;
    rises = to.rises;
  }
