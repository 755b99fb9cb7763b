-- A number that is stored changes no other.
use Rattle.std.proofs.Common.{◌≡◌, ℕ, zero, suc, ◌+◌, ◌<◌, ◌≤◌, ℤ, pos, ◌/◌, ◌%◌, ◌*◌, Bool, true, false, inl, inr, List, [], ◌∷◌, length}
use Rattle.std.proofs.Common.{refl, sym, ap, ◌∙◌, arith, if◌then◌else◌}
use Rattle.std.proofs.lemmas.Bool.{eqb-true}
use Rattle.std.specs.Prelude.{◌⊎◌, ◌==◌, slice_get, slice_set, slice_index, unsigned_abs}
use Rattle.limbo_values.specs.declared.number.Kind.{Kind}
use Rattle.limbo_values.specs.declared.number.Kind.TheVariants.{Byte, Int, Big}
use Rattle.limbo_values.specs.Numbers.{InRange}
use Rattle.slot_code.specs.Layout.{number_size}
use Rattle.dis_meaning.specs.Words.{Word, Plain, Access, Found, Wrong, Raises, ◌>>=◌, type_check, or_wrong, number_in, word_number}
use Rattle.dis_meaning.specs.Words.{replaced}
use Rattle.dis_meaning.specs.Numbers.{bytes_of, with_byte, joined, high_part, low_part, nth_number, number_at, with_number_at}
use Rattle.dis_meaning.proofs.ReadBack.{Sets, sets, bytes_stay}

-- What was found goes on.
pub record Goes {S T : Type 0} (a : Access S) (f : S → Access T) (t : T) : Type 0 where
  pub found : S
  pub is : a ≡ Found found
  pub on : f found ≡ Found t

pub goes_on : {S T : Type 0} (a : Access S) (f : S → Access T) (t : T) → (a >>= f) ≡ Found t → Goes a f t
goes_on (Found s) f t e = record { found = s; is = refl; on = e }
goes_on (Wrong n) f t e = absurd cc
goes_on (Raises text) f t e = absurd cc

-- ---- what a number's words are

-- Words that are the same there have the same number.
pub same_words : (j : Kind) (ws us : List Word) (bt : ℕ)
    → ((i : ℕ) → bt < 4 * i + 4 → 4 * i < bt + number_size j → slice_get ws i ≡ slice_get us i)
    → number_at j ws (pos bt) ≡ number_at j us (pos bt)
same_words Byte ws us bt h =
    ap (λ o. (or_wrong type_check o >>= number_in) >>= λ z. Found (pos (slice_index (bytes_of z) (bt % 4))))
    (h (bt / 4) (omega arith) (omega arith))
same_words Int ws us bt h = go (bt % 4 == 0)
  where
    at : slice_get ws (bt / 4) ≡ slice_get us (bt / 4)
    at = h (bt / 4) (omega arith) (omega arith)

    go : (b : Bool) → ((if b then Found (bt / 4) else Wrong type_check) >>= λ k. or_wrong type_check (slice_get ws k)) >>= number_in
        ≡ ((if b then Found (bt / 4) else Wrong type_check) >>= λ k. or_wrong type_check (slice_get us k)) >>= number_in
    go true = ap (λ o. or_wrong type_check o >>= number_in) at
    go false = refl
same_words Big ws us bt h = go (bt % 4 == 0)
  where
    at : nth_number ws (bt / 4) ≡ nth_number us (bt / 4)
    at = ap (λ o. or_wrong type_check o >>= number_in) (h (bt / 4) (omega arith) (omega arith))

    next : nth_number ws (suc (bt / 4)) ≡ nth_number us (suc (bt / 4))
    next = ap (λ o. or_wrong type_check o >>= number_in) (h (suc (bt / 4)) (omega arith) (omega arith))

    go : (b : Bool)
        → (if b then Found (bt / 4) else Wrong type_check) >>= (λ k. nth_number ws k >>= λ high. nth_number ws (suc k) >>= λ low.
        Found (joined high low))
        ≡ (if b then Found (bt / 4) else Wrong type_check) >>= (λ k. nth_number us k >>= λ high. nth_number us (suc k) >>= λ low.
        Found (joined high low))
    go true =
        ap (λ a. a >>= λ high. nth_number ws (suc (bt / 4)) >>= λ low. Found (joined high low)) at
        ∙ ap (λ a. nth_number us (bt / 4) >>= λ high. a >>= λ low. Found (joined high low)) next
    go false = refl

-- ---- which words a store changes

pub set_other : {A : Type 0} (xs : List A) (k j : ℕ) (y : A) → (j ≡ k → ⊥) → slice_get (slice_set xs k y) j ≡ slice_get xs j
set_other [] zero j y ne = refl
set_other [] (suc k) j y ne = refl
set_other (x ∷ xs) zero zero y ne = absurd (ne refl)
set_other (x ∷ xs) zero (suc j) y ne = refl
set_other (x ∷ xs) (suc k) zero y ne = refl
set_other (x ∷ xs) (suc k) (suc j) y ne = set_other xs k j y (λ e. ne (ap suc e))

pub set_length : {A : Type 0} (xs : List A) (k : ℕ) (y : A) → length (slice_set xs k y) ≡ length xs
set_length [] zero y = refl
set_length [] (suc k) y = refl
set_length (x ∷ xs) zero y = refl
set_length (x ∷ xs) (suc k) y = ap suc (set_length xs k y)

-- The number of the word at a byte: the byte is its first.
pub record IsWord (at k : ℕ) : Type 0 where
  pub is : at ≡ 4 * k

pub number_is : (at k : ℕ) → word_number (pos at) ≡ Found k → at ≡ 4 * k
number_is at k e = go (at % 4 == 0) refl e
  where
    go : (b : Bool) → (at % 4 == 0) ≡ b → (if b then Found (at / 4) else Wrong type_check) ≡ Found k → at ≡ 4 * k
    go true f e = let same : at / 4 ≡ k = cc in let z : at % 4 ≡ 0 = eqb-true (at % 4) 0 f in omega (arith, same, z)
    go false f e = absurd cc

-- All other words are as they were, and there are as many.
pub record Changed (k : Kind) (words after : List Word) (at : ℕ) : Type 0 where
  pub long : length after ≡ length words
  pub others : (i : ℕ) → (4 * i + 4 ≤ at) ⊎ (at + number_size k ≤ 4 * i) → slice_get after i ≡ slice_get words i

one_set : (words after : List Word) (k : ℕ) (new : Word) → Sets words after k new → (i : ℕ) → (i ≡ k → ⊥)
    → slice_get after i ≡ slice_get words i
one_set words after k new s i ne = ap (λ ws. slice_get ws i) s.is ∙ set_other words k i new ne

one_long : (words after : List Word) (k : ℕ) (new : Word) → Sets words after k new → length after ≡ length words
one_long words after k new s = ap length s.is ∙ set_length words k new

pub changed : (k : Kind) (words after : List Word) (at : ℕ) (z : ℤ) → with_number_at k words (pos at) z ≡ Found after
    → Changed k words after at
changed Byte words after at z e =
    let g = goes_on (nth_number words (at / 4)) (λ old. replaced words (at / 4) (Plain (with_byte old (at % 4) (unsigned_abs z)))) after e
    in
    let s = sets words after (at / 4) _ g.on in
    record {
      long = one_long words after (at / 4) _ s;
      others = λ i apart. one_set words after (at / 4) _ s i (λ same. byte_apart i apart same);
    }
  where
    byte_apart : (i : ℕ) → (4 * i + 4 ≤ at) ⊎ (at + 1 ≤ 4 * i) → i ≡ at / 4 → ⊥
    byte_apart i (inl l) same = omega (arith, l, same)
    byte_apart i (inr l) same = omega (arith, l, same)
changed Int words after at z e =
    let g = goes_on (word_number (pos at)) (λ k. replaced words k (Plain z)) after e in
    let s = sets words after g.found _ g.on in
    let w = number_is at g.found g.is in
    record {
      long = one_long words after g.found _ s;
      others = λ i apart. one_set words after g.found _ s i (λ same. int_apart i g.found w apart same);
    }
  where
    int_apart : (i k : ℕ) → at ≡ 4 * k → (4 * i + 4 ≤ at) ⊎ (at + 4 ≤ 4 * i) → i ≡ k → ⊥
    int_apart i k w (inl l) same = omega (arith, l, same, w)
    int_apart i k w (inr l) same = omega (arith, l, same, w)
changed Big words after at z e =
    let g = goes_on (word_number (pos at)) (λ k. replaced words k (Plain (high_part z)) >>= λ a. replaced a (suc k) (Plain (low_part z)))
    after e
    in
    let h = goes_on (replaced words g.found (Plain (high_part z))) (λ a. replaced a (suc g.found) (Plain (low_part z))) after g.on in
    let s = sets words h.found g.found _ h.is in
    let t = sets h.found after (suc g.found) _ h.on in
    let w = number_is at g.found g.is in
    record {
      long = one_long h.found after (suc g.found) _ t ∙ one_long words h.found g.found _ s;
      others = λ i apart.
          one_set h.found after (suc g.found) _ t i (λ same. second i g.found w apart same)
          ∙ one_set words h.found g.found _ s i (λ same. first i g.found w apart same);
    }
  where
    first : (i k : ℕ) → at ≡ 4 * k → (4 * i + 4 ≤ at) ⊎ (at + 8 ≤ 4 * i) → i ≡ k → ⊥
    first i k w (inl l) same = omega (arith, l, same, w)
    first i k w (inr l) same = omega (arith, l, same, w)

    second : (i k : ℕ) → at ≡ 4 * k → (4 * i + 4 ≤ at) ⊎ (at + 8 ≤ 4 * i) → i ≡ suc k → ⊥
    second i k w (inl l) same = omega (arith, l, same, w)
    second i k w (inr l) same = omega (arith, l, same, w)

-- ---- numbers apart

-- Two numbers have no byte in common.
abbrev pub Apart : (k : Kind) (at : ℕ) (j : Kind) (bt : ℕ) → Type 0
Apart k at j bt = (at + number_size k ≤ bt) ⊎ (bt + number_size j ≤ at)

-- A number other than a byte stands at a whole word.
whole_int : (words after : List Word) (at : ℕ) (z : ℤ) → with_number_at Int words (pos at) z ≡ Found after → (k : ℕ) × (at ≡ 4 * k)
whole_int words after at z e = let g = goes_on (word_number (pos at)) (λ k. replaced words k (Plain z)) after e in
    (g.found, number_is at g.found g.is)

whole_big : (words after : List Word) (at : ℕ) (z : ℤ) → with_number_at Big words (pos at) z ≡ Found after → (k : ℕ) × (at ≡ 4 * k)
whole_big words after at z e =
    let g = goes_on (word_number (pos at)) (λ k. replaced words k (Plain (high_part z)) >>= λ a. replaced a (suc k) (Plain (low_part z)))
    after e
    in (g.found, number_is at g.found g.is)

abbrev int_with : (bt : ℕ) → List Word → Bool → Access ℤ
int_with bt xs b = (if b then Found (bt / 4) else Wrong type_check) >>= (λ k. or_wrong type_check (slice_get xs k)) >>= number_in

-- A number that stands at no whole word isn't there, but a byte.
off_int : (ws us : List Word) (bt : ℕ) → ((k : ℕ) → bt ≡ 4 * k → number_at Int ws (pos bt) ≡ number_at Int us (pos bt))
    → number_at Int ws (pos bt) ≡ number_at Int us (pos bt)
off_int ws us bt h = go (bt % 4 == 0) refl
  where
    go : (b : Bool) → (bt % 4 == 0) ≡ b → number_at Int ws (pos bt) ≡ number_at Int us (pos bt)
    go true e = let z : bt % 4 ≡ 0 = eqb-true (bt % 4) 0 e in h (bt / 4) (omega (arith, z))
    go false e = ap (int_with bt ws) e ∙ sym (ap (int_with bt us) e)

abbrev big_with : (bt : ℕ) → List Word → Bool → Access ℤ
big_with bt xs b =
    (if b then Found (bt / 4) else Wrong type_check) >>= λ k. nth_number xs k >>= λ high. nth_number xs (suc k) >>= λ low.
    Found (joined high low)

off_big : (ws us : List Word) (bt : ℕ) → ((k : ℕ) → bt ≡ 4 * k → number_at Big ws (pos bt) ≡ number_at Big us (pos bt))
    → number_at Big ws (pos bt) ≡ number_at Big us (pos bt)
off_big ws us bt h = go (bt % 4 == 0) refl
  where
    go : (b : Bool) → (bt % 4 == 0) ≡ b → number_at Big ws (pos bt) ≡ number_at Big us (pos bt)
    go true e = let z : bt % 4 ≡ 0 = eqb-true (bt % 4) 0 e in h (bt / 4) (omega (arith, z))
    go false e = ap (big_with bt ws) e ∙ sym (ap (big_with bt us) e)

-- The words of the one aren't those of the other, unless both are bytes.
pub elsewhere : (k j : Kind) (words after : List Word) (at bt : ℕ) (z : ℤ) → InRange k z → with_number_at k words (pos at) z ≡ Found after
    → Apart k at j bt → number_at j after (pos bt) ≡ number_at j words (pos bt)
elsewhere Byte Byte words after at bt z r e apart =
    bytes_stay words after (pos at) z (pos bt) r e (λ same. not_same apart (nat_of same))
  where
    nat_of : pos bt ≡ pos at → bt ≡ at
    nat_of e = cc

    not_same : (at + 1 ≤ bt) ⊎ (bt + 1 ≤ at) → bt ≡ at → ⊥
    not_same (inl l) e = omega (arith, l, e)
    not_same (inr l) e = omega (arith, l, e)
elsewhere Byte Int words after at bt z r e apart =
    off_int after words bt
    (λ k w. same_words Int after words bt (λ i a b. (changed Byte words after at z e).others i (near i k w apart a b)))
  where
    near : (i k : ℕ) → bt ≡ 4 * k → (at + 1 ≤ bt) ⊎ (bt + 4 ≤ at) → bt < 4 * i + 4 → 4 * i < bt + 4 → (4 * i + 4 ≤ at) ⊎ (at + 1 ≤ 4 * i)
    near i k w (inl l) a b = inr (omega (arith, w, l, a, b))
    near i k w (inr l) a b = inl (omega (arith, w, l, a, b))
elsewhere Byte Big words after at bt z r e apart =
    off_big after words bt
    (λ k w. same_words Big after words bt (λ i a b. (changed Byte words after at z e).others i (near i k w apart a b)))
  where
    near : (i k : ℕ) → bt ≡ 4 * k → (at + 1 ≤ bt) ⊎ (bt + 8 ≤ at) → bt < 4 * i + 4 → 4 * i < bt + 8 → (4 * i + 4 ≤ at) ⊎ (at + 1 ≤ 4 * i)
    near i k w (inl l) a b = inr (omega (arith, w, l, a, b))
    near i k w (inr l) a b = inl (omega (arith, w, l, a, b))
elsewhere Int j words after at bt z r e apart =
    let w = whole_int words after at z e in
    same_words j after words bt (λ i a b. (changed Int words after at z e).others i (near i w.0 w.1 apart a b))
  where
    near : (i k : ℕ) → at ≡ 4 * k → (at + 4 ≤ bt) ⊎ (bt + number_size j ≤ at) → bt < 4 * i + 4 → 4 * i < bt + number_size j
        → (4 * i + 4 ≤ at) ⊎ (at + 4 ≤ 4 * i)
    near i k w (inl l) a b = inr (omega (arith, w, l, a, b))
    near i k w (inr l) a b = inl (omega (arith, w, l, a, b))
elsewhere Big j words after at bt z r e apart =
    let w = whole_big words after at z e in
    same_words j after words bt (λ i a b. (changed Big words after at z e).others i (near i w.0 w.1 apart a b))
  where
    near : (i k : ℕ) → at ≡ 4 * k → (at + 8 ≤ bt) ⊎ (bt + number_size j ≤ at) → bt < 4 * i + 4 → 4 * i < bt + number_size j
        → (4 * i + 4 ≤ at) ⊎ (at + 8 ≤ 4 * i)
    near i k w (inl l) a b = inr (omega (arith, w, l, a, b))
    near i k w (inr l) a b = inl (omega (arith, w, l, a, b))
