-- Bytes that are stored in words.
use Rattle.std.proofs.Common.{◌≡◌, ℕ, zero, suc, ◌+◌, ◌*◌, ◌<◌, ◌≤◌, ◌⊎◌, ℤ, pos, ◌/◌, ◌%◌, ◌^◌, true, List, [], ◌∷◌, length}
use Rattle.std.proofs.Common.{Option, Some, None, refl, sym, ap, ◌∙◌, subst, arith, inl, inr, w32}
use Rattle.std.specs.Prelude.{slice_get, slice_set, slice_index, get_or, unsigned_abs}
use Rattle.std.specs.Int.{cast_signed, to_be_bytes, from_be_bytes, int_wrap}
use Rattle.std.proofs.lemmas.Int.{of_z-to_z}
use Rattle.std.proofs.lemmas.Nat.{be_bytes_4}
use Rattle.limbo_values.specs.declared.number.Kind.TheVariants as kind
use Rattle.limbo_values.specs.Numbers.{InRange}
use Rattle.limbo_values.proofs.Ranges.{always}
use Rattle.dis_meaning.specs.Words.{Word, Plain, Refer, Address, Access, Found, ◌>>=◌, type_check, or_wrong, number_in}
use Rattle.dis_meaning.specs.Words.{fits, replaced}
use Rattle.dis_meaning.specs.Numbers.{bytes_of, with_byte, with_number_at}
use Rattle.value_words.specs.Contents as contents
use Rattle.value_words.specs.Contents.{content, content_in, AreInRange}
use Rattle.value_words.proofs.Bytes.{Reads, byte_read}
use Rattle.value_words.proofs.Rows.{set_other, set_same}
use Rattle.value_moves.proofs.Putting.{set_long, replaced_is}

-- ---- one byte of a number

module _ (a b c d : ℕ) (la : a < 256) (lb : b < 256) (lc : c < 256) (ld : d < 256) where
  below : (i : ℕ) → get_or (a ∷ b ∷ c ∷ d ∷ []) i 0 < 256
  below zero = la
  below (suc zero) = lb
  below (suc (suc zero)) = lc
  below (suc (suc (suc zero))) = ld
  below (suc (suc (suc (suc i)))) = omega arith

  small : from_be_bytes w32 (a ∷ b ∷ c ∷ d ∷ []) < 2 ^ 32
  small = omega (arith, la, lb, lc, ld)

  -- four bytes are those of the word that they make
  four : bytes_of (cast_signed w32 (from_be_bytes w32 (a ∷ b ∷ c ∷ d ∷ []))) ≡ a ∷ b ∷ c ∷ d ∷ []
  four =
      ap (to_be_bytes w32) (of_z-to_z w32 (from_be_bytes w32 (a ∷ b ∷ c ∷ d ∷ [])) small)
      ∙ be_bytes_4 (a ∷ b ∷ c ∷ d ∷ []) (from_be_bytes w32 (a ∷ b ∷ c ∷ d ∷ [])) refl below refl

-- one byte is replaced, and no other
bytes_kept : (z : ℤ) (k b : ℕ) → k < 4 → b < 256 → bytes_of (with_byte z k b) ≡ slice_set (bytes_of z) k b
bytes_kept z zero b lt l = four b _ _ _ l (omega arith) (omega arith) (omega arith)
bytes_kept z (suc zero) b lt l = four _ b _ _ (omega arith) l (omega arith) (omega arith)
bytes_kept z (suc (suc zero)) b lt l = four _ _ b _ (omega arith) (omega arith) l (omega arith)
bytes_kept z (suc (suc (suc zero))) b lt l = four _ _ _ b (omega arith) (omega arith) (omega arith) l
bytes_kept z (suc (suc (suc (suc k)))) b lt l = absurd (omega (arith, lt))

its_byte : (z : ℤ) (k b : ℕ) → k < 4 → slice_index (slice_set (bytes_of z) k b) k ≡ b
its_byte z zero b lt = refl
its_byte z (suc zero) b lt = refl
its_byte z (suc (suc zero)) b lt = refl
its_byte z (suc (suc (suc zero))) b lt = refl
its_byte z (suc (suc (suc (suc k)))) b lt = absurd (omega (arith, lt))

index_other : (xs : List ℕ) (k j y : ℕ) → (j ≡ k → ⊥) → slice_index (slice_set xs k y) j ≡ slice_index xs j
index_other [] zero j y ne = refl
index_other [] (suc k) j y ne = refl
index_other (x ∷ xs) zero zero y ne = absurd (ne refl)
index_other (x ∷ xs) zero (suc j) y ne = refl
index_other (x ∷ xs) (suc k) zero y ne = refl
index_other (x ∷ xs) (suc k) (suc j) y ne = index_other xs k j y (λ e. ne (ap suc e))

-- a word has 32 bits
signed_ranged : (n : ℕ) → n < 2 ^ 32 → InRange kind.Int (cast_signed w32 n)
unfolding int_wrap
signed_ranged n l =
    let e : n % 2 ^ 32 ≡ n = omega (arith, l) in
    subst (λ (m : ℕ). InRange kind.Int (cast_signed w32 m)) e (always kind.Int (pos n))

byte_ranged : (z : ℤ) (k b : ℕ) → k < 4 → b < 256 → InRange kind.Int (with_byte z k b)
byte_ranged z zero b lt l = signed_ranged _ (small b _ _ _ l (omega arith) (omega arith) (omega arith))
byte_ranged z (suc zero) b lt l = signed_ranged _ (small _ b _ _ (omega arith) l (omega arith) (omega arith))
byte_ranged z (suc (suc zero)) b lt l = signed_ranged _ (small _ _ b _ (omega arith) (omega arith) l (omega arith))
byte_ranged z (suc (suc (suc zero))) b lt l = signed_ranged _ (small _ _ _ b (omega arith) (omega arith) (omega arith) l)
byte_ranged z (suc (suc (suc (suc k)))) b lt l = absurd (omega (arith, lt))

-- ---- in words

-- These bytes stand from one on, all others are as they were, and so are words without such a byte. Nothing comes to refer.
pub record BytesPut (target others : List Word) (to : ℕ) (bs : List ℕ) : Type 0 where
  pub many : length others ≡ length target
  pub there : (j b : ℕ) → slice_get bs j ≡ Some b → content others (to + j) ≡ Some (contents.Byte b)
  pub bytes : (m : ℕ) → (m < to) ⊎ (to + length bs ≤ m) → content others m ≡ content target m
  pub words : (w : ℕ) → (4 * w + 4 ≤ to) ⊎ (to + length bs ≤ 4 * w) → slice_get others w ≡ slice_get target w
  pub refer : (w : ℕ) (r : Option ℕ) → slice_get others w ≡ Some (Refer r) → slice_get target w ≡ Some (Refer r)
  pub referred : (w : ℕ) (r : Option ℕ) → slice_get target w ≡ Some (Refer r) → slice_get others w ≡ Some (Refer r)
  pub reads : (w : ℕ) (y : ℤ) → Reads (slice_get target w) y → (z : ℤ) × Reads (slice_get others w) z
  pub ranged : AreInRange target → AreInRange others

same_or_not : (m n : ℕ) → (m ≡ n) ⊎ (m ≡ n → ⊥)
same_or_not zero zero = inl refl
same_or_not zero (suc n) = inr (λ e. omega (arith, e))
same_or_not (suc m) zero = inr (λ e. omega (arith, e))
same_or_not (suc m) (suc n) = go (same_or_not m n)
  where
    go : (m ≡ n) ⊎ (m ≡ n → ⊥) → (suc m ≡ suc n) ⊎ (suc m ≡ suc n → ⊥)
    go (inl e) = inl (ap suc e)
    go (inr ne) = inr (λ e. ne (omega (arith, e)))

module _ (target : List Word) (to b : ℕ) (y : ℤ) (reads : Reads (slice_get target (to / 4)) y) where
  abbrev new : Word
  new = Plain (with_byte y (to % 4) b)

  abbrev others : List Word
  others = slice_set target (to / 4) new

  -- the word that stood there
  stood : (old : Word) × (slice_get target (to / 4) ≡ Some old) × (fits old new ≡ true)
  stood = go (slice_get target (to / 4)) reads
    where
      go : (o : Option Word) → Reads o y → (old : Word) × (o ≡ Some old) × (fits old new ≡ true)
      go None e = absurd cc
      go (Some (Plain z)) e = (Plain z, refl, refl)
      go (Some (Refer r)) e = absurd cc
      go (Some (Address p at)) e = (Address p at, refl, refl)

  found : with_number_at kind.Byte target (pos to) (pos b) ≡ Found others
  found =
      ap (λ (a : Access ℤ). a >>= λ old. replaced target (to / 4) (Plain (with_byte old (to % 4) b))) reads
      ∙ replaced_is target (to / 4) stood.0 new stood.1 stood.2

  now : slice_get others (to / 4) ≡ Some new
  now = set_same target (to / 4) new stood.0 stood.1

  untouched : (w : ℕ) → (w ≡ to / 4 → ⊥) → slice_get others w ≡ slice_get target w
  untouched w ne = set_other target (to / 4) w new ne

  not_refer : (r : Option ℕ) → slice_get target (to / 4) ≡ Some (Refer r) → ⊥
  not_refer r e =
      let f : (or_wrong type_check (Some (Refer r)) >>= number_in) ≡ Found y =
      ap (λ (o : Option Word). or_wrong type_check o >>= number_in) (sym e) ∙ reads in
      cc

  module _ (l : b < 256) where
    there : content others to ≡ Some (contents.Byte b)
    there =
        ap (λ (o : Option Word). content_in o (to % 4)) now
        ∙ ap (λ (bs : List ℕ). Some (contents.Byte (slice_index bs (to % 4)))) (bytes_kept y (to % 4) b (omega arith) l)
        ∙ ap (λ (c : ℕ). Some (contents.Byte c)) (its_byte y (to % 4) b (omega arith))

    same_byte : (m : ℕ) → (m ≡ to → ⊥) → (m / 4 ≡ to / 4) ⊎ (m / 4 ≡ to / 4 → ⊥) → content others m ≡ content target m
    same_byte m ne (inr other) = ap (λ (o : Option Word). content_in o (m % 4)) (untouched (m / 4) other)
    same_byte m ne (inl same) =
        ap (λ (w : ℕ). content_in (slice_get others w) (m % 4)) same
        ∙ ap (λ (o : Option Word). content_in o (m % 4)) now
        ∙ ap (λ (bs : List ℕ). Some (contents.Byte (slice_index bs (m % 4)))) (bytes_kept y (to % 4) b (omega arith) l)
        ∙ ap (λ (c : ℕ). Some (contents.Byte c)) (index_other (bytes_of y) (to % 4) (m % 4) b (λ e. ne (omega (arith, e, same))))
        ∙ sym (byte_read (slice_get target (to / 4)) y (m % 4) (omega arith) reads)
        ∙ sym (ap (λ (w : ℕ). content_in (slice_get target w) (m % 4)) same)

    put_one : BytesPut target others to (b ∷ [])
    put_one = record {
      many = set_long target (to / 4) new;
      there = at_first;
      bytes = λ m h. same_byte m (λ e. apart m h e) (same_or_not (m / 4) (to / 4));
      words = λ w h. untouched w (λ e. apart_word w h e);
      refer = λ w r e. was w r e (same_or_not w (to / 4));
      referred = λ w r e. stays w r e (same_or_not w (to / 4));
      reads = λ w z e. again w z e (same_or_not w (to / 4));
      ranged = λ i w z e. in_range i w z e (same_or_not w (to / 4));
    }
      where
        at_first : (j c : ℕ) → slice_get (b ∷ []) j ≡ Some c → content others (to + j) ≡ Some (contents.Byte c)
        at_first zero c e =
            let f : b ≡ c = cc in
            let g : to + 0 ≡ to = omega arith in
            ap (content others) g ∙ there ∙ ap (λ (x : ℕ). Some (contents.Byte x)) f
        at_first (suc j) c e = absurd cc

        apart : (m : ℕ) → (m < to) ⊎ (to + 1 ≤ m) → m ≡ to → ⊥
        apart m (inl h) e = omega (arith, h, e)
        apart m (inr h) e = omega (arith, h, e)

        apart_word : (w : ℕ) → (4 * w + 4 ≤ to) ⊎ (to + 1 ≤ 4 * w) → w ≡ to / 4 → ⊥
        apart_word w (inl h) e = omega (arith, h, e)
        apart_word w (inr h) e = omega (arith, h, e)

        was : (w : ℕ) (r : Option ℕ) → slice_get others w ≡ Some (Refer r) → (w ≡ to / 4) ⊎ (w ≡ to / 4 → ⊥)
            → slice_get target w ≡ Some (Refer r)
        was w r e (inr ne) = sym (untouched w ne) ∙ e
        was w r e (inl same) = let f : Some new ≡ Some (Refer r) = sym now ∙ ap (slice_get others) (sym same) ∙ e in absurd cc

        stays : (w : ℕ) (r : Option ℕ) → slice_get target w ≡ Some (Refer r) → (w ≡ to / 4) ⊎ (w ≡ to / 4 → ⊥)
            → slice_get others w ≡ Some (Refer r)
        stays w r e (inr ne) = untouched w ne ∙ e
        stays w r e (inl same) = absurd (not_refer r (ap (slice_get target) (sym same) ∙ e))

        again : (w : ℕ) (z : ℤ) → Reads (slice_get target w) z → (w ≡ to / 4) ⊎ (w ≡ to / 4 → ⊥) → (x : ℤ) × Reads (slice_get others w) x
        again w z e (inr ne) = (z, ap (λ (o : Option Word). or_wrong type_check o >>= number_in) (untouched w ne) ∙ e)
        again w z e (inl same) =
            (with_byte y (to % 4) b, ap (λ (o : Option Word). or_wrong type_check o >>= number_in) (ap (slice_get others) same ∙ now))

        in_range : AreInRange target → (w : ℕ) (z : ℤ) → slice_get others w ≡ Some (Plain z) → (w ≡ to / 4) ⊎ (w ≡ to / 4 → ⊥)
            → InRange kind.Int z
        in_range i w z e (inr ne) = i w z (sym (untouched w ne) ∙ e)
        in_range i w z e (inl same) =
            let f : Some new ≡ Some (Plain z) = sym now ∙ ap (slice_get others) (sym same) ∙ e in
            let g : with_byte y (to % 4) b ≡ z = cc in
            subst (λ (x : ℤ). InRange kind.Int x) g (byte_ranged y (to % 4) b (omega arith) l)

pub one_byte : (target : List Word) (to : ℕ) (z y : ℤ) → Reads (slice_get target (to / 4)) y
    → (others : List Word) × (with_number_at kind.Byte target (pos to) z ≡ Found others)
    × (unsigned_abs z < 256 → BytesPut target others to (unsigned_abs z ∷ []))
one_byte target to z y r =
    let b = unsigned_abs z in (others target to b y r, found target to b y r, put_one target to b y r)
