-- Declarations that are counted by their kinds, one after the other.
use Rattle.std.proofs.Common.{◌≡◌, ◌+◌, ◌<◌, ◌≤◌, ◌^◌, ◌∷◌, ◌++◌, ◌==◌, [], ℕ, zero, suc, List, Option, None, Some, Bool, true, false, cond, length, slice_get, get_or, take, count_by, add-zero, inl, inr, rules, tests, refl, sym, ap, subst, ◌∙◌, arith}
use Rattle.std.specs.Prelude.{slice_index}
use Rattle.std.proofs.Math.ListN.{set, replicate}
use Rattle.std.proofs.lemmas.List.Sums.{count_by-le-length, sum_by-append, sum_by-cons}
use Rattle.std.specs.List.{sum_by}
use Rattle.std.proofs.lemmas.Option.{slice_get_within, slice_get-get_or, get_or_from_slice_get}
use Rattle.limbo_entries.specs.Entries.{Entry, IsEntry}
use Rattle.limbo_scope.specs.declared.meaning.Meaning.{Meaning}
use Rattle.limbo_meanings.specs.declared.kind.Kind.{Kind}
use Rattle.limbo_meanings.specs.declared.kind.Kind.TheVariants as kind
use Rattle.limbo_meanings.specs.Kinds.{place, kind_of, has_kind, is_at}
use Rattle.limbo_meanings.specs.Meanings.{AreCounts, AreMeanings, meaning_of}
use Rattle.limbo_meanings.proofs.Places.{set_cases, take_many}

-- 1 where a test holds
abbrev one_if : (Entry → Bool) → Entry → ℕ
one_if p x = cond (p x) 1 0

-- one more at the end
count_more : (p : Entry → Bool) (xs : List Entry) (e : Entry) (n : ℕ) → one_if p e ≡ n → count_by p (xs ++ (e ∷ [])) ≡ count_by p xs + n
count_more p xs e n f =
    let a : sum_by (one_if p) (xs ++ (e ∷ [])) ≡ sum_by (one_if p) xs + sum_by (one_if p) (e ∷ []) = sum_by-append (one_if p) xs (e ∷ []) in
    let b : sum_by (one_if p) (e ∷ []) ≡ one_if p e + sum_by (one_if p) [] = sum_by-cons (one_if p) e [] in
    let z : sum_by (one_if p) [] ≡ 0 = refl in
    let g : sum_by (one_if p) (e ∷ []) ≡ n = b ∙ ap (λ k. one_if p e + k) z ∙ add-zero (one_if p e) ∙ f in
    a ∙ ap (λ k. sum_by (one_if p) xs + k) g

pub count_yes : (p : Entry → Bool) (xs : List Entry) (e : Entry) → p e ≡ true → count_by p (xs ++ (e ∷ [])) ≡ count_by p xs + 1
count_yes p xs e f = count_more p xs e 1 (ap (λ (b : Bool). let r : ℕ = cond b 1 0 in r) f)

pub count_no : (p : Entry → Bool) (xs : List Entry) (e : Entry) → p e ≡ false → count_by p (xs ++ (e ∷ [])) ≡ count_by p xs
count_no p xs e f = count_more p xs e 0 (ap (λ (b : Bool). let r : ℕ = cond b 1 0 in r) f) ∙ add-zero (count_by p xs)

pub itself : (a : ℕ) → (a == a) ≡ true
itself a = search (rules, tests)

pub other : (a b : ℕ) → (a ≡ b → ⊥) → (a == b) ≡ false
other a b never = go (a == b) refl
  where
    go : (r : Bool) → (a == b) ≡ r → (a == b) ≡ false
    go true h = absurd (never (search (rules, tests, h)))
    go false h = h

-- one more of a kind
pub counted_on : (es : List Entry) (m : ℕ) (before : List Entry) (e : Entry) (k : Kind) (counts : List ℕ) → kind_of es m e ≡ Some k → place k < length counts
    → AreCounts es m before counts → AreCounts es m (before ++ (e ∷ [])) (set counts (place k) (slice_index counts (place k) + 1))
counted_on es m before e k counts is l are p n h = elim (set_cases counts (place k) (slice_index counts (place k) + 1) p n h) [
  | inl y ↦
      let here : has_kind es m p e ≡ true = ap (is_at p) is ∙ ap (λ z. place k == z) y.0 ∙ itself (place k) in
      let c : slice_index counts (place k) ≡ count_by (has_kind es m (place k)) before = are (place k) (slice_index counts (place k)) (slice_get-get_or counts (place k) 0 l) in
      y.1 ∙ ap (λ z. z + 1) c ∙ ap (λ z. count_by (has_kind es m z) before + 1) (sym y.0) ∙ sym (count_yes (has_kind es m p) before e here)
  | inr y ↦
      let here : has_kind es m p e ≡ false = ap (is_at p) is ∙ other (place k) p (λ w. y.0 (sym w)) in
      are p n y.1 ∙ sym (count_no (has_kind es m p) before e here)
]

-- there are eight kinds
pub few : (k : Kind) → place k < 8
few kind.Global = omega arith
few kind.Constant = omega arith
few kind.Type = omega arith
few kind.Adt = omega arith
few kind.Module = omega arith
few kind.Function = omega arith
few kind.Import = omega arith
few kind.Exception = omega arith

-- there is room for one more
pub room : (es : List Entry) (m : ℕ) (i : ℕ) (counts : List ℕ) (p : ℕ) → AreCounts es m (take i es) counts → i < length es → length es < 2 ^ 32
    → slice_index counts p + 1 < 2 ^ 32
room es m i counts p are l small = go (slice_get counts p) refl
  where
    go : (o : Option ℕ) → slice_get counts p ≡ o → slice_index counts p + 1 < 2 ^ 32
    go None h = let z : slice_index counts p ≡ 0 = past counts p h in omega arith
      where
        past : (cs : List ℕ) (q : ℕ) → slice_get cs q ≡ None → slice_index cs q ≡ 0
        past [] q h = refl
        past (c ∷ cs) zero h = absurd cc
        past (c ∷ cs) (suc q) h = past cs q h
    go (Some n) h =
        let a : n ≡ count_by (has_kind es m p) (take i es) = are p n h in
        let b : slice_index counts p ≡ n = get_or_from_slice_get counts p n 0 h in
        let c = count_by-le-length (has_kind es m p) (take i es) in
        let d = take_many es i (omega arith) in
        omega arith

-- none is counted yet
pub none_counted : (es : List Entry) (m : ℕ) (n : ℕ) → AreCounts es m [] (replicate n 0)
none_counted es m n p k h = zeros n p k h
  where
    zeros : (n p k : ℕ) → slice_get (replicate n 0) p ≡ Some k → k ≡ 0
    zeros zero p k h = absurd cc
    zeros (suc n) zero k h = cc
    zeros (suc n) (suc p) k h = zeros n p k h

-- ---- the meanings of the first declarations

pub one_meant : (es : List Entry) (m : ℕ) (all : List (Option Meaning)) (i : ℕ) (e : Entry) (x : Option Meaning) → length all ≡ i → IsEntry es i e → x ≡ meaning_of es m i e
    → ((k : ℕ) (f : Entry) → k < i → IsEntry es k f → slice_get all k ≡ Some (meaning_of es m k f))
    → (k : ℕ) (f : Entry) → k < i + 1 → IsEntry es k f → slice_get (all ++ (x ∷ [])) k ≡ Some (meaning_of es m k f)
one_meant es m all i e x many at is before k f l there = go all k i l many (λ h. before k f h there) (λ h. last h)
  where
    last : k ≡ i → Some x ≡ Some (meaning_of es m k f)
    last h =
        let g : IsEntry es k e = subst (λ (z : ℕ). IsEntry es z e) (sym h) at in
        let s : e ≡ f = cc in
        ap Some (is ∙ ap (λ z. meaning_of es m z e) (sym h) ∙ ap (meaning_of es m k) s)

    go : (ys : List (Option Meaning)) (q j : ℕ) → q < j + 1 → length ys ≡ j → (q < j → slice_get ys q ≡ Some (meaning_of es m k f))
        → (q ≡ j → Some x ≡ Some (meaning_of es m k f)) → slice_get (ys ++ (x ∷ [])) q ≡ Some (meaning_of es m k f)
    go [] zero j l n a b = b (omega arith)
    go [] (suc q) j l n a b = absurd (omega arith)
    go (y ∷ ys) zero j l n a b = a (omega arith)
    go (y ∷ ys) (suc q) zero l n a b = absurd (omega arith)
    go (y ∷ ys) (suc q) (suc j) l n a b = go ys q j (omega arith) (omega arith) (λ h. a (omega arith)) (λ h. b (omega arith))
