-- A number is written to its place in a frame.
use Rattle.std.proofs.Common.{◌≡◌, ℕ, zero, suc, ◌+◌, ◌<◌, ◌≤◌, ℤ, pos, ◌*◌, ◌/◌, Bool, true, inl, inr, List, [], ◌∷◌, Option, Some, None}
use Rattle.std.proofs.Common.{refl, sym, ap, ◌∙◌, subst, arith, if◌then◌else◌}
use Rattle.std.specs.Prelude.{◌⊎◌, slice_get, slice_set}
use Rattle.limbo_values.specs.declared.number.Kind.{Kind}
use Rattle.limbo_values.specs.declared.number.Kind.TheVariants.{Byte, Int, Big}
use Rattle.limbo_values.specs.Numbers.{InRange}
use Rattle.system_model.specs.Values.{Value, Num}
use Rattle.slot_code.specs.Layout.{number_size}
use Rattle.dis_meaning.specs.Words as dis_words
use Rattle.dis_meaning.specs.Words.{Word, Plain, Refer, Address, Access, Found, Wrong, Raises, ◌>>=◌, type_check, or_wrong, number_in, fits}
use Rattle.dis_meaning.specs.Words.{replaced, word_number, word_at}
use Rattle.dis_meaning.specs.Numbers.{number_at, with_number_at, nth_number, high_part, low_part}
use Rattle.dis_meaning.specs.Laws.{ComeAlike}
use Rattle.dis_meaning.proofs.ReadBack.{Sets, sets, read_back}
use Rattle.dis_meaning.proofs.Replacing.{numbers_are_replaced}
use Rattle.dis_follows.specs.Numbers.{Holds, IsPlain}
use Rattle.dis_follows.specs.Stands.{ArePlain}
use Rattle.dis_follows.proofs.Stores.{Apart, Changed, changed, elsewhere, goes_on, same_words, number_is, set_other, set_length}

-- ---- plain words stay plain

set_cases : {A : Type 0} (xs : List A) (k i : ℕ) (y x : A) → slice_get (slice_set xs k y) i ≡ Some x → (slice_get xs i ≡ Some x) ⊎ (y ≡ x)
set_cases [] zero i y x e = inl e
set_cases [] (suc k) i y x e = inl e
set_cases (z ∷ xs) zero zero y x e = inr cc
set_cases (z ∷ xs) zero (suc i) y x e = inl e
set_cases (z ∷ xs) (suc k) zero y x e = inl e
set_cases (z ∷ xs) (suc k) (suc i) y x e = set_cases xs k i y x e

one_plain : (words after : List Word) (k : ℕ) (z : ℤ) → Sets words after k (Plain z) → (i : ℕ) (w : Word) → slice_get after i ≡ Some w
    → (slice_get words i ≡ Some w) ⊎ IsPlain w
one_plain words after k z s i w e = go (set_cases words k i (Plain z) w (ap (λ ws. slice_get ws i) (sym s.is) ∙ e))
  where
    go : (slice_get words i ≡ Some w) ⊎ (Plain z ≡ w) → (slice_get words i ≡ Some w) ⊎ IsPlain w
    go (inl h) = inl h
    go (inr h) = inr (subst IsPlain h tt)

stays_or : (k : Kind) (words after : List Word) (at : ℕ) (z : ℤ) → with_number_at k words (pos at) z ≡ Found after → (i : ℕ) (w : Word)
    → slice_get after i ≡ Some w → (slice_get words i ≡ Some w) ⊎ IsPlain w
stays_or Byte words after at z e i w h =
    let g = goes_on (nth_number words (at / 4)) _ after e in one_plain words after (at / 4) _ (sets words after (at / 4) _ g.on) i w h
stays_or Int words after at z e i w h =
    let g = goes_on (word_number (pos at)) (λ k. replaced words k (Plain z)) after e in
    one_plain words after g.found z (sets words after g.found _ g.on) i w h
stays_or Big words after at z e i w h =
    let g = goes_on (word_number (pos at)) (λ k. replaced words k (Plain (high_part z)) >>= λ a. replaced a (suc k) (Plain (low_part z)))
    after e
    in
    let q = goes_on (replaced words g.found (Plain (high_part z))) (λ a. replaced a (suc g.found) (Plain (low_part z))) after g.on in
    go q.found (one_plain words q.found g.found _ (sets words q.found g.found _ q.is) i w)
    (one_plain q.found after (suc g.found) _ (sets q.found after (suc g.found) _ q.on) i w h)
  where
    go : (mid : List Word) → (slice_get mid i ≡ Some w → (slice_get words i ≡ Some w) ⊎ IsPlain w) → (slice_get mid i ≡ Some w) ⊎ IsPlain w
        → (slice_get words i ≡ Some w) ⊎ IsPlain w
    go mid f (inl h) = f h
    go mid f (inr p) = inr p

pub still_plain : (marks : List Bool) (k : Kind) (words after : List Word) (at : ℕ) (z : ℤ)
    → with_number_at k words (pos at) z ≡ Found after
    → ArePlain marks words → ArePlain marks after
still_plain marks k words after at z e h i w there unmarked = go (stays_or k words after at z e i w there)
  where
    go : (slice_get words i ≡ Some w) ⊎ IsPlain w → IsPlain w
    go (inl old) = h i w old unmarked
    go (inr p) = p

-- ---- a number is stored where one is

pub record Stored (k : Kind) (words : List Word) (at : ℕ) (z : ℤ) : Type 0 where
  pub after : List Word
  pub there : number_at k after (pos at) ≡ Found z
  pub others : (j : Kind) (bt : ℕ) → Apart k at j bt → number_at j after (pos bt) ≡ number_at j words (pos bt)
  pub words_stay : Changed k words after at
  pub still : (marks : List Bool) → ArePlain marks words → ArePlain marks after

-- The same for the kind by another name.
abbrev pub stored_as : (j k : Kind) → j ≡ k → (words : List Word) (at : ℕ) (z : ℤ) → Stored j words at z → Stored k words at z
stored_as j k e words at z s = record {
  after = s.after;
  there = subst (λ i. number_at i s.after (pos at) ≡ Found z) e s.there;
  others = subst (λ i. (l : Kind) (bt : ℕ) → Apart i at l bt → number_at l s.after (pos bt) ≡ number_at l words (pos bt)) e s.others;
  words_stay = subst (λ i. Changed i words s.after at) e s.words_stay;
  still = s.still;
}

-- By an instruction that stores a number, and by one that moves a plain word.
pub record StoresNumber (k : Kind) (words : List Word) (at : ℕ) (z : ℤ) : Type 0 where
  pub stored : Stored k words at z
  pub is : with_number_at k words (pos at) z ≡ Found stored.after

pub record StoresWord (words : List Word) (at : ℕ) (new : Word) (z : ℤ) : Type 0 where
  pub stored : Stored Int words at z
  pub is : dis_words.stored words (pos at) new ≡ Found stored.after

alike_found : {S T : Type 0} (a : Access S) (b : Access T) (s : S) → ComeAlike a b → a ≡ Found s → (t : T) × (b ≡ Found t)
alike_found (Found x) (Found t) s h e = (t, refl)
alike_found (Found x) (Wrong n) s h e = absurd h
alike_found (Found x) (Raises text) s h e = absurd h
alike_found (Wrong n) b s h e = absurd cc
alike_found (Raises text) b s h e = absurd cc

pub store_over : (k : Kind) (words : List Word) (at : ℕ) (old z : ℤ) → number_at k words (pos at) ≡ Found old → InRange k z
    → StoresNumber k words at z
store_over k words at old z h r =
    let found = alike_found (number_at k words (pos at)) (with_number_at k words (pos at) z) old
    (numbers_are_replaced k words (pos at) z) h in
    record {
      stored = record {
        after = found.0;
        there = read_back k words found.0 (pos at) z r found.1;
        others = λ j bt apart. elsewhere k j words found.0 at bt z r found.1 apart;
        words_stay = changed k words found.0 at z found.1;
        still = λ marks h. still_plain marks k words found.0 at z found.1 h;
      };
      is = found.1;
    }

pub store_at : (k : Kind) (words : List Word) (at : ℕ) (v : Value) (z : ℤ) → Holds k words at v → InRange k z → StoresNumber k words at z
store_at k words at v z h r = store_over k words at h.number z h.there r

-- ---- a plain word is stored where an int is

fits_plain : (old new : Word) → IsPlain old → IsPlain new → fits old new ≡ true
fits_plain (Plain n) (Plain k) h i = refl
fits_plain (Plain n) (Address p a) h i = refl
fits_plain (Plain n) (Refer r) h i = absurd i
fits_plain (Address q b) (Plain k) h i = refl
fits_plain (Address q b) (Address p a) h i = refl
fits_plain (Address q b) (Refer r) h i = absurd i
fits_plain (Refer r) new h i = absurd h

-- The word in which an int is read.
pub record IntWord (words : List Word) (at : ℕ) (z : ℤ) : Type 0 where
  pub number : ℕ
  pub word : Word
  pub place : word_number (pos at) ≡ Found number
  pub there : slice_get words number ≡ Some word
  pub reads : number_in word ≡ Found z
  pub is_plain : IsPlain word

pub int_word : (words : List Word) (at : ℕ) (z : ℤ) → number_at Int words (pos at) ≡ Found z → IntWord words at z
int_word words at z e =
    let g = goes_on (word_at words (pos at)) number_in z e in
    let h = goes_on (word_number (pos at)) (λ k. or_wrong type_check (slice_get words k)) g.found g.is in
    record {
      number = h.found;
      word = g.found;
      place = h.is;
      there = some_is (slice_get words h.found) g.found h.on;
      reads = g.on;
      is_plain = plain_is g.found g.on;
    }
  where
    some_is : (o : Option Word) (w : Word) → or_wrong type_check o ≡ Found w → o ≡ Some w
    some_is None w e = absurd cc
    some_is (Some u) w e = let same : u ≡ w = cc in ap Some same

    plain_is : (w : Word) → number_in w ≡ Found z → IsPlain w
    plain_is (Plain n) e = tt
    plain_is (Address p a) e = tt
    plain_is (Refer r) e = absurd cc

pub set_there : {A : Type 0} (xs : List A) (k : ℕ) (y old : A) → slice_get xs k ≡ Some old → slice_get (slice_set xs k y) k ≡ Some y
set_there [] k y old e = absurd cc
set_there (x ∷ xs) zero y old e = refl
set_there (x ∷ xs) (suc k) y old e = set_there xs k y old e

pub store_word_over : (words : List Word) (at : ℕ) (old : ℤ) (new : Word) (z : ℤ) → number_at Int words (pos at) ≡ Found old → IsPlain new
    → number_in new ≡ Found z → StoresWord words at new z
store_word_over words at old new z h p reads =
    let w = int_word words at old h in
    let k = w.number in
    let after = slice_set words k new in
    let is : dis_words.stored words (pos at) new ≡ Found after =
    ap (λ a. a >>= λ k. replaced words k new) w.place
    ∙ ap (λ o. or_wrong type_check o >>= λ old. if fits old new then Found after else Wrong type_check) w.there
    ∙ ap (λ b. if b then Found after else Wrong type_check) (fits_plain w.word new w.is_plain p) in
    let at_k : at ≡ 4 * k = number_is at k w.place in
    let stays : Changed Int words after at =
    record { long = set_length words k new; others = λ i apart. set_other words k i new (λ same. int_apart i k at_k apart same) } in
    record {
      stored = record {
        after = after;
        there = ap (λ a. (a >>= λ k. or_wrong type_check (slice_get after k)) >>= number_in) w.place
            ∙ ap (λ o. or_wrong type_check o >>= number_in) (set_there words k new w.word w.there) ∙ reads;
        others = λ j bt apart. same_words j after words bt (λ i a b. stays.others i (near j bt i k at_k apart a b));
        words_stay = stays;
        still = λ marks h' i u there unmarked. by_cases i u (set_cases words k i new u there) (λ old. h' i u old unmarked);
      };
      is = is;
    }
  where
    int_apart : (i k : ℕ) → at ≡ 4 * k → (4 * i + 4 ≤ at) ⊎ (at + 4 ≤ 4 * i) → i ≡ k → ⊥
    int_apart i k w (inl l) same = omega (arith, l, same, w)
    int_apart i k w (inr l) same = omega (arith, l, same, w)

    near : (j : Kind) (bt i k : ℕ) → at ≡ 4 * k → (at + 4 ≤ bt) ⊎ (bt + number_size j ≤ at) → bt < 4 * i + 4 → 4 * i < bt + number_size j
        → (4 * i + 4 ≤ at) ⊎ (at + 4 ≤ 4 * i)
    near j bt i k w (inl l) a b = inr (omega (arith, w, l, a, b))
    near j bt i k w (inr l) a b = inl (omega (arith, w, l, a, b))

    by_cases : (i : ℕ) (u : Word) → (slice_get words i ≡ Some u) ⊎ (new ≡ u) → (slice_get words i ≡ Some u → IsPlain u) → IsPlain u
    by_cases i u (inl old) f = f old
    by_cases i u (inr e) f = subst IsPlain e p

pub store_word : (words : List Word) (at : ℕ) (v : Value) (new : Word) (z : ℤ) → Holds Int words at v → IsPlain new
    → number_in new ≡ Found z
    → StoresWord words at new z
store_word words at v new z h p reads = store_word_over words at h.number new z h.there p reads

-- The word that was stored stands there.
pub word_there : (words after : List Word) (at : ℕ) (new : Word) → dis_words.stored words (pos at) new ≡ Found after
    → word_at after (pos at) ≡ Found new
word_there words after at new e =
    let g = goes_on (word_number (pos at)) (λ k. replaced words k new) after e in
    let s = sets words after g.found new g.on in
    ap (λ a. a >>= λ k. or_wrong type_check (slice_get after k)) g.is
    ∙ ap (λ ws. or_wrong type_check (slice_get ws g.found)) s.is ∙ ap (or_wrong type_check) (set_there words g.found new s.old s.stood)

-- What holds of a number that wasn't changed.
pub holds_on : (j : Kind) (words after : List Word) (bt : ℕ) (v : Value) → number_at j after (pos bt) ≡ number_at j words (pos bt)
    → Holds j words bt v → Holds j after bt v
holds_on j words after bt v e h = record { number = h.number; is = h.is; range = h.range; there = e ∙ h.there }

pub holds_new : (k : Kind) (words : List Word) (at : ℕ) (z : ℤ) → InRange k z → (s : Stored k words at z) → Holds k s.after at (Num z)
holds_new k words at z r s = record { number = z; is = refl; range = r; there = s.there }

-- Other values for the same number.
pub holds_as : (k : Kind) (words : List Word) (at : ℕ) (v u : Value) → v ≡ u → Holds k words at v → Holds k words at u
holds_as k words at v u e h = record { number = h.number; is = sym e ∙ h.is; range = h.range; there = h.there }
