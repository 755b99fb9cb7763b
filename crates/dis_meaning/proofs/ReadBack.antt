-- Numbers that are stored in words are read again.
use Rattle.std.proofs.Common.{◌≡◌, ℕ, zero, suc, ◌+◌, ◌-◌, ◌<◌, ℤ, pos, negsuc, ◌/◌, ◌%◌, ◌*◌, ◌+ℤ◌, ◌*ℤ◌, ◌^◌, Bool, true, false, inl, inr, List, [], ◌∷◌, Option, Some, None, refl, sym, ap, ◌∙◌, arith, if◌then◌else◌}
use Rattle.std.specs.Prelude.{◌⊎◌, slice_get, slice_set, slice_index, get_or, unsigned_abs}
use Rattle.std.specs.Int.{w32, cast_signed, to_be_bytes, from_be_bytes, int_wrap}
use Rattle.std.proofs.lemmas.Int.{of_z-to_z, ints}
use Rattle.std.proofs.lemmas.Nat.{be_bytes_4}
use Rattle.limbo_values.specs.declared.number.Kind.TheVariants.{Byte, Int, Big}
use Rattle.limbo_values.specs.Numbers.{InRange}
use Rattle.dis_meaning.specs.Words.{Word, Plain, Access, Found, Wrong, Raises, ◌>>=◌, type_check, or_wrong, number_in, word_number, at_least_zero, fits, replaced}
use Rattle.dis_meaning.specs.Laws.{NumbersAreReadBack, BytesStay}
use Rattle.dis_meaning.specs.Numbers.{bytes_of, with_byte, joined, high_part, low_part, nth_number}

-- ---- a word among others

set_other : {A : Type 0} (xs : List A) (k j : ℕ) (y : A) → (j ≡ k → ⊥) → slice_get (slice_set xs k y) j ≡ slice_get xs j
set_other [] zero j y ne = refl
set_other [] (suc k) j y ne = refl
set_other (x ∷ xs) zero zero y ne = absurd (ne refl)
set_other (x ∷ xs) zero (suc j) y ne = refl
set_other (x ∷ xs) (suc k) zero y ne = refl
set_other (x ∷ xs) (suc k) (suc j) y ne = set_other xs k j y (λ e. ne (ap suc e))

set_same : {A : Type 0} (xs : List A) (k : ℕ) (y old : A) → slice_get xs k ≡ Some old → slice_get (slice_set xs k y) k ≡ Some y
set_same [] k y old e = absurd cc
set_same (x ∷ xs) zero y old e = refl
set_same (x ∷ xs) (suc k) y old e = set_same xs k y old e

-- A word was replaced, and nothing else.
pub record Sets (words after : List Word) (k : ℕ) (new : Word) : Type 0 where
  pub old : Word
  pub stood : slice_get words k ≡ Some old
  pub is : after ≡ slice_set words k new

pub sets : (words after : List Word) (k : ℕ) (new : Word) → replaced words k new ≡ Found after → Sets words after k new
sets words after k new h = go (slice_get words k) refl h
  where
    by_fit : (old : Word) → slice_get words k ≡ Some old → (b : Bool) → (if b then Found (slice_set words k new) else Wrong type_check) ≡ Found after → Sets words after k new
    by_fit old e true h = let same : slice_set words k new ≡ after = cc in record { old = old; stood = e; is = sym same }
    by_fit old e false h = absurd cc

    go : (o : Option Word) → slice_get words k ≡ o → (or_wrong type_check o >>= λ old. if fits old new then Found (slice_set words k new) else Wrong type_check) ≡ Found after → Sets words after k new
    go None e h = absurd cc
    go (Some old) e h = by_fit old e (fits old new) h

read_there : (words after : List Word) (k : ℕ) (z : ℤ) → Sets words after k (Plain z) → nth_number after k ≡ Found z
read_there words after k z s =
    ap (λ ws. nth_number ws k) s.is ∙ ap (λ o. or_wrong type_check o >>= number_in) (set_same words k (Plain z) s.old s.stood)

pub read_elsewhere : (words after : List Word) (k j : ℕ) (new : Word) → Sets words after k new → (j ≡ k → ⊥) → nth_number after j ≡ nth_number words j
read_elsewhere words after k j new s ne =
    ap (λ ws. nth_number ws j) s.is ∙ ap (λ o. or_wrong type_check o >>= number_in) (set_other words k j new ne)

-- ---- bytes

module _ (a b c d : ℕ) (la : a < 256) (lb : b < 256) (lc : c < 256) (ld : d < 256) where
  below : (i : ℕ) → get_or (a ∷ b ∷ c ∷ d ∷ []) i 0 < 256
  below zero = la
  below (suc zero) = lb
  below (suc (suc zero)) = lc
  below (suc (suc (suc zero))) = ld
  below (suc (suc (suc (suc i)))) = omega arith

  small : from_be_bytes w32 (a ∷ b ∷ c ∷ d ∷ []) < 2 ^ 32
  small = omega (arith, la, lb, lc, ld)

  -- Four bytes are those of the word that they make.
  four : bytes_of (cast_signed w32 (from_be_bytes w32 (a ∷ b ∷ c ∷ d ∷ []))) ≡ a ∷ b ∷ c ∷ d ∷ []
  four =
      ap (to_be_bytes w32) (of_z-to_z w32 (from_be_bytes w32 (a ∷ b ∷ c ∷ d ∷ [])) small)
      ∙ be_bytes_4 (a ∷ b ∷ c ∷ d ∷ []) (from_be_bytes w32 (a ∷ b ∷ c ∷ d ∷ [])) refl below refl

-- One byte of a word is replaced, and no other.
bytes_kept : (z : ℤ) (k b : ℕ) → k < 4 → b < 256 → bytes_of (with_byte z k b) ≡ slice_set (bytes_of z) k b
bytes_kept z zero b lt l = four b _ _ _ l (omega arith) (omega arith) (omega arith)
bytes_kept z (suc zero) b lt l = four _ b _ _ (omega arith) l (omega arith) (omega arith)
bytes_kept z (suc (suc zero)) b lt l = four _ _ b _ (omega arith) (omega arith) l (omega arith)
bytes_kept z (suc (suc (suc zero))) b lt l = four _ _ _ b (omega arith) (omega arith) (omega arith) l
bytes_kept z (suc (suc (suc (suc k)))) b lt l = absurd (omega (arith, lt))

its_byte : (z : ℤ) (k b : ℕ) → k < 4 → slice_index (slice_set (bytes_of z) k b) k ≡ b
its_byte z zero b lt = refl
its_byte z (suc zero) b lt = refl
its_byte z (suc (suc zero)) b lt = refl
its_byte z (suc (suc (suc zero))) b lt = refl
its_byte z (suc (suc (suc (suc k)))) b lt = absurd (omega (arith, lt))

index_other : (xs : List ℕ) (k j y : ℕ) → (j ≡ k → ⊥) → slice_index (slice_set xs k y) j ≡ slice_index xs j
index_other [] zero j y ne = refl
index_other [] (suc k) j y ne = refl
index_other (x ∷ xs) zero zero y ne = absurd (ne refl)
index_other (x ∷ xs) zero (suc j) y ne = refl
index_other (x ∷ xs) (suc k) zero y ne = refl
index_other (x ∷ xs) (suc k) (suc j) y ne = index_other xs k j y (λ e. ne (ap suc e))

-- ---- bigs

whole_pos : (a : ℕ) → high_part (pos a) *ℤ pos (2 ^ 32) +ℤ pos (a % 2 ^ 32) ≡ pos a
whole_pos a = let e : a / 2 ^ 32 * 2 ^ 32 + a % 2 ^ 32 ≡ a = omega arith in ap pos e

whole_negsuc : (a : ℕ) → high_part (negsuc a) *ℤ pos (2 ^ 32) +ℤ pos (2 ^ 32 - 1 - a % 2 ^ 32) ≡ negsuc a
whole_negsuc a = grind (arith, ints)

pub parts_join : (z : ℤ) → joined (high_part z) (low_part z) ≡ z
unfolding int_wrap
parts_join (pos a) = ap (λ low. high_part (pos a) *ℤ pos (2 ^ 32) +ℤ pos low) (of_z-to_z w32 (a % 2 ^ 32) (omega arith)) ∙ whole_pos a
parts_join (negsuc a) = ap (λ low. high_part (negsuc a) *ℤ pos (2 ^ 32) +ℤ pos low) (of_z-to_z w32 (2 ^ 32 - 1 - a % 2 ^ 32) (omega arith)) ∙ whole_negsuc a

-- ---- numbers of each kind

module _ (words after : List Word) where
  int_back : (z : ℤ) (a : Access ℕ) → (a >>= λ k. replaced words k (Plain z)) ≡ Found after → (a >>= (λ k. or_wrong type_check (slice_get after k)) >>= number_in) ≡ Found z
  int_back z (Found k) h = read_there words after k z (sets words after k (Plain z) h)
  int_back z (Wrong n) h = absurd cc
  int_back z (Raises text) h = absurd cc

  low_back : (high low : ℤ) (k : ℕ) (a : Access (List Word)) → replaced words k (Plain high) ≡ a → (a >>= λ mid. replaced mid (suc k) (Plain low)) ≡ Found after →
      (nth_number after k >>= λ high. nth_number after (suc k) >>= λ low. Found (joined high low)) ≡ Found (joined high low)
  low_back high low k (Found mid) first h =
      let second = sets mid after (suc k) (Plain low) h in
      ap (λ a. a >>= λ high. nth_number after (suc k) >>= λ low. Found (joined high low))
      (read_elsewhere mid after (suc k) k (Plain low) second (λ e. absurd (omega (arith, e))) ∙ read_there words mid k high (sets words mid k (Plain high) first))
      ∙ ap (λ a. a >>= λ low. Found (joined high low)) (read_there mid after (suc k) low second)
  low_back high low k (Wrong n) first h = absurd cc
  low_back high low k (Raises text) first h = absurd cc

  big_back : (high low : ℤ) (a : Access ℕ) → (a >>= λ k. replaced words k (Plain high) >>= λ mid. replaced mid (suc k) (Plain low)) ≡ Found after →
      (a >>= λ k. nth_number after k >>= λ high. nth_number after (suc k) >>= λ low. Found (joined high low)) ≡ Found (joined high low)
  big_back high low (Found k) h = low_back high low k (replaced words k (Plain high)) refl h
  big_back high low (Wrong n) h = absurd cc
  big_back high low (Raises text) h = absurd cc

  module _ (b : ℕ) (lt : b < 256) where
    in_word : (n : ℕ) (a : Access ℤ) → (a >>= λ old. replaced words (n / 4) (Plain (with_byte old (n % 4) b))) ≡ Found after →
        (nth_number after (n / 4) >>= λ z. Found (pos (slice_index (bytes_of z) (n % 4)))) ≡ Found (pos b)
    in_word n (Found old) h =
        ap (λ a. a >>= λ z. Found (pos (slice_index (bytes_of z) (n % 4)))) (read_there words after (n / 4) (with_byte old (n % 4) b) (sets words after (n / 4) _ h))
        ∙ ap (λ bs. Found (pos (slice_index bs (n % 4)))) (bytes_kept old (n % 4) b (omega arith) lt)
        ∙ ap (λ c. Found (pos c)) (its_byte old (n % 4) b (omega arith))
    in_word n (Wrong m) h = absurd cc
    in_word n (Raises text) h = absurd cc

    byte_back : (a : Access ℕ) → (a >>= λ n. nth_number words (n / 4) >>= λ old. replaced words (n / 4) (Plain (with_byte old (n % 4) b))) ≡ Found after →
        (a >>= λ n. nth_number after (n / 4) >>= λ z. Found (pos (slice_index (bytes_of z) (n % 4)))) ≡ Found (pos b)
    byte_back (Found n) h = in_word n (nth_number words (n / 4)) h
    byte_back (Wrong m) h = absurd cc
    byte_back (Raises text) h = absurd cc

    -- Another byte of the same word, and one of another word.
    same_word : (n m : ℕ) (a : Access ℤ) → nth_number words (n / 4) ≡ a → (a >>= λ old. replaced words (n / 4) (Plain (with_byte old (n % 4) b))) ≡ Found after → (m ≡ n → ⊥) →
        (m / 4 ≡ n / 4) ⊎ (m / 4 ≡ n / 4 → ⊥) →
        (nth_number after (m / 4) >>= λ z. Found (pos (slice_index (bytes_of z) (m % 4)))) ≡ (nth_number words (m / 4) >>= λ z. Found (pos (slice_index (bytes_of z) (m % 4))))
    same_word n m (Found old) there h ne (inl same) =
        let put = sets words after (n / 4) (Plain (with_byte old (n % 4) b)) h in
        ap (λ k. nth_number after k >>= λ z. Found (pos (slice_index (bytes_of z) (m % 4)))) same
        ∙ ap (λ a. a >>= λ z. Found (pos (slice_index (bytes_of z) (m % 4)))) (read_there words after (n / 4) (with_byte old (n % 4) b) put)
        ∙ ap (λ bs. Found (pos (slice_index bs (m % 4)))) (bytes_kept old (n % 4) b (omega arith) lt)
        ∙ ap (λ c. Found (pos c)) (index_other (bytes_of old) (n % 4) (m % 4) b (λ e. ne (omega (arith, e, same))))
        ∙ sym (ap (λ k. nth_number words k >>= λ z. Found (pos (slice_index (bytes_of z) (m % 4)))) same ∙ ap (λ a. a >>= λ z. Found (pos (slice_index (bytes_of z) (m % 4)))) there)
    same_word n m (Found old) there h ne (inr other) =
        ap (λ a. a >>= λ z. Found (pos (slice_index (bytes_of z) (m % 4)))) (read_elsewhere words after (n / 4) (m / 4) (Plain (with_byte old (n % 4) b)) (sets words after (n / 4) _ h) other)
    same_word n m (Wrong k) there h ne which = absurd cc
    same_word n m (Raises text) there h ne which = absurd cc

in_byte : (z : ℤ) → InRange Byte z → (z ≡ pos (unsigned_abs z)) × (unsigned_abs z < 256)
in_byte (pos n) r = let below = r.below in (refl, omega (arith, ints, below))
in_byte (negsuc n) r = let above = r.above in absurd (omega (arith, ints, above))

pub read_back : NumbersAreReadBack
read_back Byte words after at z r h =
    let byte = in_byte z r in
    byte_back words after (unsigned_abs z) byte.1 (at_least_zero at) h ∙ ap Found (sym byte.0)
read_back Int words after at z r h = int_back words after z (word_number at) h
read_back Big words after at z r h = big_back words after (high_part z) (low_part z) (word_number at) h ∙ ap Found (parts_join z)

which : (m n : ℕ) → (m ≡ n) ⊎ (m ≡ n → ⊥)
which zero zero = inl refl
which zero (suc n) = inr (λ e. omega (arith, e))
which (suc m) zero = inr (λ e. omega (arith, e))
which (suc m) (suc n) = go (which m n)
  where
    go : (m ≡ n) ⊎ (m ≡ n → ⊥) → (suc m ≡ suc n) ⊎ (suc m ≡ suc n → ⊥)
    go (inl e) = inl (ap suc e)
    go (inr ne) = inr (λ e. ne (omega (arith, e)))

pub bytes_stay : BytesStay
bytes_stay words after (pos n) z (pos m) r h ne =
    same_word words after (unsigned_abs z) (in_byte z r).1 n m (nth_number words (n / 4)) refl h (λ e. ne (ap pos e)) (which (m / 4) (n / 4))
bytes_stay words after (pos n) z (negsuc m) r h ne = refl
bytes_stay words after (negsuc n) z other r h ne = absurd cc
