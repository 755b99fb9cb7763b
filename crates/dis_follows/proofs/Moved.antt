-- Several plain words are moved at once.
use Rattle.std.proofs.Common.{◌≡◌, ℕ, zero, suc, ◌+◌, ◌<◌, ◌≤◌, true, inl, inr, List, [], ◌∷◌, length, Some, refl, sym, ap, ◌∙◌, subst}
use Rattle.std.proofs.Common.{arith, if◌then◌else◌}
use Rattle.std.specs.Prelude.{◌⊎◌, slice_get, slice_set}
use Rattle.dis_meaning.specs.Words.{Word, Plain, Refer, Address, Found, Wrong, ◌>>=◌, type_check, or_wrong, plain, fits, replaced}
use Rattle.dis_meaning.specs.Step.{plains, all_replaced}
use Rattle.dis_follows.specs.Numbers.{IsPlain}
use Rattle.dis_follows.proofs.Stores.{set_other, set_length}

-- ---- words that are plain from one on

abbrev pub PlainFrom : List Word → (from count : ℕ) → Type 0
PlainFrom words from count = (i : ℕ) → i < count → (w : Word) × (slice_get words (from + i) ≡ Some w) × IsPlain w

abbrev pub AllPlain : List Word → (count : ℕ) → Type 0
AllPlain words count = (i : ℕ) → i < count → (w : Word) × (slice_get words i ≡ Some w) × IsPlain w

plain_is : (w : Word) → IsPlain w → plain w ≡ Found w
plain_is (Plain n) p = refl
plain_is (Address place at) p = refl
plain_is (Refer r) p = absurd p

fits_is : (old new : Word) → IsPlain old → IsPlain new → fits old new ≡ true
fits_is (Plain n) (Plain m) p q = refl
fits_is (Plain n) (Address place at) p q = refl
fits_is (Plain n) (Refer r) p q = absurd q
fits_is (Address place at) (Plain m) p q = refl
fits_is (Address place at) (Address place' at') p q = refl
fits_is (Address place at) (Refer r) p q = absurd q
fits_is (Refer r) new p q = absurd p

set_same : {A : Type 0} (xs : List A) (k : ℕ) (y old : A) → slice_get xs k ≡ Some old → slice_get (slice_set xs k y) k ≡ Some y
set_same [] k y old e = absurd cc
set_same (x ∷ xs) zero y old e = refl
set_same (x ∷ xs) (suc k) y old e = set_same xs k y old e

-- ---- they are read

pub record Reads (words : List Word) (from count : ℕ) : Type 0 where
  pub found : List Word
  pub is : plains words from count ≡ Found found
  pub many : length found ≡ count
  pub each : (i : ℕ) → i < count → slice_get found i ≡ slice_get words (from + i)
  pub plain : AllPlain found count

pub reads : (words : List Word) (from count : ℕ) → PlainFrom words from count → Reads words from count
reads words from zero h = record {
  found = [];
  is = refl;
  many = refl;
  each = λ i l. absurd (omega (arith, l));
  plain = λ i l. absurd (omega (arith, l));
}
reads words from (suc n) h =
    let w = h 0 (omega arith) in
    let zero_plus : from ≡ from + 0 = omega arith in
    let there : slice_get words from ≡ Some w.0 = ap (slice_get words) zero_plus ∙ w.1 in
    let more = reads words (suc from) n (λ i l. let s = h (suc i) (omega (arith, l)) in
    (s.0, ap (slice_get words) (let q : suc from + i ≡ from + suc i = omega arith in q) ∙ s.1, s.2)) in
    record {
      found = w.0 ∷ more.found;
      is = ap (λ o. or_wrong type_check o >>= λ w. plain w >>= λ v. plains words (suc from) n >>= λ vs. Found (v ∷ vs)) there
          ∙ ap (λ a. a >>= λ v. plains words (suc from) n >>= λ vs. Found (v ∷ vs)) (plain_is w.0 w.2)
          ∙ ap (λ a. a >>= λ vs. Found (w.0 ∷ vs)) more.is;
      many = ap suc more.many;
      each = each w.0 more.found there more.each;
      plain = behind w.0 more.found w.2 more.plain;
    }
  where
    each : (w : Word) (ws : List Word) → slice_get words from ≡ Some w → ((i : ℕ) → i < n → slice_get ws i ≡ slice_get words (suc from + i))
        → (i : ℕ) → i < suc n → slice_get (w ∷ ws) i ≡ slice_get words (from + i)
    each w ws there more zero l = sym there ∙ ap (slice_get words) (omega arith)
    each w ws there more (suc i) l = more i (omega (arith, l)) ∙ ap (slice_get words) (omega arith)

    behind : (w : Word) (ws : List Word) → IsPlain w → AllPlain ws n → AllPlain (w ∷ ws) (suc n)
    behind w ws p more zero l = (w, refl, p)
    behind w ws p more (suc i) l = more i (omega (arith, l))

-- ---- they are put in place of others

pub record Put (words : List Word) (from : ℕ) (vs : List Word) : Type 0 where
  pub after : List Word
  pub is : all_replaced words from vs ≡ Found after
  pub long : length after ≡ length words
  pub each : (i : ℕ) → i < length vs → slice_get after (from + i) ≡ slice_get vs i
  pub others : (i : ℕ) → (i < from) ⊎ (from + length vs ≤ i) → slice_get after i ≡ slice_get words i

pub put : (words : List Word) (from : ℕ) (vs : List Word) → PlainFrom words from (length vs) → AllPlain vs (length vs) → Put words from vs
put words from [] h p = record { after = words; is = refl; long = refl; each = λ i l. absurd (omega (arith, l)); others = λ i l. refl }
put words from (v ∷ vs) h p =
    let old = h 0 (omega arith) in
    let new = p 0 (omega arith) in
    let same : v ≡ new.0 = let e = new.1 in cc in
    let zero_plus : from ≡ from + 0 = omega arith in
    let there : slice_get words from ≡ Some old.0 = ap (slice_get words) zero_plus ∙ old.1 in
    let set = slice_set words from v in
    let first : replaced words from v ≡ Found set =
    ap (λ o. or_wrong type_check o >>= λ old. if fits old v then Found set else Wrong type_check) there
    ∙ ap (λ b. if b then Found set else Wrong type_check) (fits_is old.0 v old.2 (subst IsPlain (sym same) new.2)) in
    let more = put set (suc from) vs (λ i l. let s = h (suc i) (omega (arith, l)) in (
      s.0,
      set_other words from (suc from + i) v (λ e. omega (arith, e))
          ∙ ap (slice_get words) (let q : suc from + i ≡ from + suc i = omega arith in q) ∙ s.1,
      s.2,
    )) (λ i l. p (suc i) (omega (arith, l))) in
    record {
      after = more.after;
      is = ap (λ a. a >>= λ after. all_replaced after (suc from) vs) first ∙ more.is;
      long = more.long ∙ set_length words from v;
      each = each more.after (more.others from (inl (omega arith)) ∙ set_same words from v old.0 there) more.each;
      others = λ i l. more.others i (further i l) ∙ set_other words from i v (apart i l);
    }
  where
    each : (after : List Word) → slice_get after from ≡ Some v → ((i : ℕ) → i < length vs → slice_get after (suc from + i) ≡ slice_get vs i)
        → (i : ℕ) → i < length (v ∷ vs) → slice_get after (from + i) ≡ slice_get (v ∷ vs) i
    each after first more zero l = ap (slice_get after) (omega arith) ∙ first
    each after first more (suc i) l = ap (slice_get after) (omega arith) ∙ more i (omega (arith, l))

    further : (i : ℕ) → (i < from) ⊎ (from + length (v ∷ vs) ≤ i) → (i < suc from) ⊎ (suc from + length vs ≤ i)
    further i (inl l) = inl (omega (arith, l))
    further i (inr l) = inr (omega (arith, l))

    apart : (i : ℕ) → (i < from) ⊎ (from + length (v ∷ vs) ≤ i) → i ≡ from → ⊥
    apart i (inl l) e = omega (arith, l, e)
    apart i (inr l) e = omega (arith, l, e)
