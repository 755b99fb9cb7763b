-- Words, and the numbers and references that are read in their bytes.
use Rattle.std.proofs.Common.{◌≡◌, ℕ, zero, suc, inl, inr, ◌+◌, ◌<◌, ℤ, pos, negsuc, ◌%◌, ◌/◌, ◌^◌, Bool, true, false, List, []}
use Rattle.std.proofs.Common.{◌∷◌, Option}
use Rattle.std.proofs.Common.{Some, None, refl, sym, ap, ◌∙◌, subst, arith, if◌then◌else◌, w32}
use Rattle.std.specs.Prelude.{◌==◌, slice_get, slice_index}
use Rattle.std.specs.Int.{cast_signed, cast_unsigned, from_be_bytes}
use Rattle.std.proofs.lemmas.Bool.Decides.{eqb_tells}
use Rattle.std.proofs.lemmas.Int.{ints, to_z-of_z}
use Rattle.std.proofs.lemmas.Nat.{from_be_bytes-to_be_bytes_4}
use Rattle.limbo_values.specs.declared.number.Kind.TheVariants.{Byte, Int, Big}
use Rattle.limbo_values.specs.Numbers.{InRange}
use Rattle.limbo_values.proofs.Ranges.{fits_int}
use Rattle.dis_meaning.specs.Words.{Word, Plain, Refer, Address, Access, Found, Wrong, Raises, ◌>>=◌, type_check, or_wrong, number_in}
use Rattle.dis_meaning.specs.Words.{word_at}
use Rattle.dis_meaning.specs.Numbers.{bytes_of, joined, number_at}
use Rattle.value_words.specs.Contents as contents
use Rattle.value_words.specs.Contents.{Content, Reference, content_of, content_in, content}

-- ---- where words are found

found : {A : Type 0} (o : Option A) (w : A) → or_wrong type_check o ≡ Found w → o ≡ Some w
found None w e = absurd cc
found (Some u) w e = cc

pub is_zero : (n : ℕ) → (n == 0) ≡ true → n ≡ 0
is_zero n e = elim (eqb_tells n 0) [
  | inl y ↦ y.1
  | inr y ↦ absurd (let f = y.0 in cc)
]

pub word_found : (words : List Word) (at : ℕ) (w : Word) → word_at words (pos at) ≡ Found w
    → (at % 4 ≡ 0) × (slice_get words (at / 4) ≡ Some w)
word_found words at w e = go (at % 4 == 0) refl e
  where
    go : (b : Bool) → (at % 4 == 0) ≡ b
        → ((if b then Found (at / 4) else Wrong type_check) >>= λ k. or_wrong type_check (slice_get words k)) ≡ Found w
        → (at % 4 ≡ 0) × (slice_get words (at / 4) ≡ Some w)
    go true f e = (is_zero (at % 4) f, found (slice_get words (at / 4)) w e)
    go false f e = absurd cc

pub word_there : (words : List Word) (at : ℕ) (w : Word) → at % 4 ≡ 0 → slice_get words (at / 4) ≡ Some w → word_at words (pos at) ≡ Found w
word_there words at w a e =
    ap (λ n. (if n == 0 then Found (at / 4) else Wrong type_check) >>= λ k. or_wrong type_check (slice_get words k)) a
    ∙ ap (or_wrong type_check) e

-- A number is read in a word.
abbrev pub Reads : Option Word → ℤ → Type 0
Reads o z = (or_wrong type_check o >>= number_in) ≡ Found z

pub int_found : (words : List Word) (at : ℕ) (z : ℤ) → number_at Int words (pos at) ≡ Found z
    → (at % 4 ≡ 0) × Reads (slice_get words (at / 4)) z
int_found words at z e = go (at % 4 == 0) refl e
  where
    go : (b : Bool) → (at % 4 == 0) ≡ b
        → (((if b then Found (at / 4) else Wrong type_check) >>= λ k. or_wrong type_check (slice_get words k)) >>= number_in) ≡ Found z
        → (at % 4 ≡ 0) × Reads (slice_get words (at / 4)) z
    go true f e = (is_zero (at % 4) f, e)
    go false f e = absurd cc

pub int_there : (words : List Word) (at : ℕ) (z : ℤ) → at % 4 ≡ 0 → Reads (slice_get words (at / 4)) z
    → number_at Int words (pos at) ≡ Found z
int_there words at z a e =
    ap (λ n. ((if n == 0 then Found (at / 4) else Wrong type_check) >>= λ k. or_wrong type_check (slice_get words k)) >>= number_in) a ∙ e

pub record ReadsTwo (words : List Word) (at : ℕ) (z : ℤ) : Type 0 where
  pub even : at % 4 ≡ 0
  pub high : ℤ
  pub low : ℤ
  pub first : Reads (slice_get words (at / 4)) high
  pub second : Reads (slice_get words (suc (at / 4))) low
  pub is : joined high low ≡ z

pub big_found : (words : List Word) (at : ℕ) (z : ℤ) → number_at Big words (pos at) ≡ Found z → ReadsTwo words at z
big_found words at z e = go (at % 4 == 0) refl e
  where
    third : (high : ℤ) (a : Access ℤ) → (a >>= λ low. Found (joined high low)) ≡ Found z
        → (low : ℤ) × (a ≡ Found low) × (joined high low ≡ z)
    third high (Found low) e = (low, refl, cc)
    third high (Wrong n) e = absurd cc
    third high (Raises s) e = absurd cc

    second : (b a : Access ℤ) → (b >>= λ high. a >>= λ low. Found (joined high low)) ≡ Found z
        → (high : ℤ) × (low : ℤ) × (b ≡ Found high) × (a ≡ Found low) × (joined high low ≡ z)
    second (Found high) a e = let t = third high a e in (high, t.0, refl, t.1, t.2)
    second (Wrong n) a e = absurd cc
    second (Raises s) a e = absurd cc

    go : (b : Bool) → (at % 4 == 0) ≡ b
        → ((if b then Found (at / 4) else Wrong type_check) >>= λ k. (or_wrong type_check (slice_get words k) >>= number_in)
        >>= λ high. (or_wrong type_check (slice_get words (suc k)) >>= number_in) >>= λ low. Found (joined high low)) ≡ Found z
        → ReadsTwo words at z
    go true f e =
        let t = second (or_wrong type_check (slice_get words (at / 4)) >>= number_in)
        (or_wrong type_check (slice_get words (suc (at / 4))) >>= number_in) e in
        record { even = is_zero (at % 4) f; high = t.0; low = t.1; first = t.2; second = t.3; is = t.4 }
    go false f e = absurd cc

pub big_there : (words : List Word) (at : ℕ) (z : ℤ) → ReadsTwo words at z → number_at Big words (pos at) ≡ Found z
big_there words at z t =
    ap (λ n. (if n == 0 then Found (at / 4) else Wrong type_check) >>= λ k. (or_wrong type_check (slice_get words k) >>= number_in)
    >>= λ high. (or_wrong type_check (slice_get words (suc k)) >>= number_in) >>= λ low. Found (joined high low)) t.even
    ∙ ap (λ (a : Access ℤ). a
    >>= λ high. (or_wrong type_check (slice_get words (suc (at / 4))) >>= number_in) >>= λ low. Found (joined high low)) t.first
    ∙ ap (λ (a : Access ℤ). a >>= λ low. Found (joined t.high low)) t.second
    ∙ ap Found t.is

pub byte_found : (words : List Word) (at : ℕ) (z : ℤ) → number_at Byte words (pos at) ≡ Found z
    → (y : ℤ) × Reads (slice_get words (at / 4)) y × (pos (slice_index (bytes_of y) (at % 4)) ≡ z)
byte_found words at z e = go (or_wrong type_check (slice_get words (at / 4)) >>= number_in) e
  where
    go : (a : Access ℤ) → (a >>= λ y. Found (pos (slice_index (bytes_of y) (at % 4)))) ≡ Found z
        → (y : ℤ) × (a ≡ Found y) × (pos (slice_index (bytes_of y) (at % 4)) ≡ z)
    go (Found y) e = (y, refl, cc)
    go (Wrong n) e = absurd cc
    go (Raises s) e = absurd cc

pub byte_there : (words : List Word) (at : ℕ) (y : ℤ) → Reads (slice_get words (at / 4)) y
    → number_at Byte words (pos at) ≡ Found (pos (slice_index (bytes_of y) (at % 4)))
byte_there words at y e = ap (λ (a : Access ℤ). a >>= λ x. Found (pos (slice_index (bytes_of x) (at % 4)))) e

-- ---- what stands in bytes

-- a byte of the word at a multiple of 4
pub content_at : (words : List Word) (at o : ℕ) → at % 4 ≡ 0 → o < 4 → content words (at + o) ≡ content_in (slice_get words (at / 4)) o
content_at words at o a l =
    let d : (at + o) / 4 ≡ at / 4 = omega arith in
    let r : (at + o) % 4 ≡ o = omega arith in
    ap (λ n. content_in (slice_get words n) ((at + o) % 4)) d ∙ ap (λ n. content_in (slice_get words (at / 4)) n) r

-- and of the next word
pub content_next : (words : List Word) (at o : ℕ) → at % 4 ≡ 0 → o < 4
    → content words (at + (4 + o)) ≡ content_in (slice_get words (suc (at / 4))) o
content_next words at o a l =
    let d : (at + (4 + o)) / 4 ≡ suc (at / 4) = omega arith in
    let r : (at + (4 + o)) % 4 ≡ o = omega arith in
    ap (λ n. content_in (slice_get words n) ((at + (4 + o)) % 4)) d ∙ ap (λ n. content_in (slice_get words (suc (at / 4))) n) r

pub refer_same : (w : Option Word) (r : Option ℕ) → content_in w 0 ≡ Some (Reference r 0) → w ≡ Some (Refer r)
refer_same None r e = absurd cc
refer_same (Some (Plain z)) r e = absurd cc
refer_same (Some (Refer s)) r e = let f : s ≡ r = cc in ap (λ x. Some (Refer x)) f
refer_same (Some (Address p at)) r e = absurd cc

pub zero_byte : (k : ℕ) → k < 4 → slice_index (bytes_of (pos 0)) k ≡ 0
zero_byte zero l = refl
zero_byte (suc zero) l = refl
zero_byte (suc (suc zero)) l = refl
zero_byte (suc (suc (suc zero))) l = refl
zero_byte (suc (suc (suc (suc n)))) l = absurd (omega (arith, l))

-- the bytes of the number that is read in a word
pub byte_read : (w : Option Word) (z : ℤ) (k : ℕ) → k < 4 → Reads w z → content_in w k ≡ Some (contents.Byte (slice_index (bytes_of z) k))
byte_read None z k l e = absurd cc
byte_read (Some (Plain y)) z k l e = let f : y ≡ z = cc in ap (λ x. Some (contents.Byte (slice_index (bytes_of x) k))) f
byte_read (Some (Refer r)) z k l e = absurd cc
byte_read (Some (Address p at)) z k l e =
    let f : pos 0 ≡ z = cc in
    ap (λ b. Some (contents.Byte b)) (sym (zero_byte k l)) ∙ ap (λ x. Some (contents.Byte (slice_index (bytes_of x) k))) f

-- a number is read where a byte stands
pub read_byte : (w : Option Word) (k b : ℕ) → k < 4 → content_in w k ≡ Some (contents.Byte b)
    → (z : ℤ) × Reads w z × (slice_index (bytes_of z) k ≡ b)
read_byte None k b l e = absurd cc
read_byte (Some (Plain y)) k b l e = (y, refl, cc)
read_byte (Some (Refer r)) k b l e = absurd cc
read_byte (Some (Address p at)) k b l e = (pos 0, refl, let f : 0 ≡ b = cc in zero_byte k l ∙ f)

pub zero_within : InRange Int (pos 0)
zero_within = record { above = omega (arith, ints); below = omega (arith, ints) }

pub read_within : (w : Option Word) (z : ℤ) → ((y : ℤ) → w ≡ Some (Plain y) → InRange Int y) → Reads w z → InRange Int z
read_within None z h e = absurd cc
read_within (Some (Plain y)) z h e = let f : y ≡ z = cc in subst (λ x. InRange Int x) f (h y refl)
read_within (Some (Refer r)) z h e = absurd cc
read_within (Some (Address p at)) z h e = let f : pos 0 ≡ z = cc in subst (λ x. InRange Int x) f zero_within

-- ---- numbers with the same bytes are the same

small : (z : ℤ) → InRange Int z → cast_unsigned w32 z < 2 ^ 32
small (pos n) i = let below = i.below in omega (arith, ints)
small (negsuc n) i = omega arith

four_same : (a b c d e f g h : ℕ) → a ≡ e → b ≡ f → c ≡ g → d ≡ h → a ∷ b ∷ c ∷ d ∷ [] ≡ e ∷ f ∷ g ∷ h ∷ []
four_same a b c d e f g h p q r s = cc

pub same_number : (y z : ℤ) → InRange Int y → InRange Int z
    → ((k : ℕ) → k < 4 → slice_index (bytes_of y) k ≡ slice_index (bytes_of z) k) → y ≡ z
same_number y z i j h =
    let e : bytes_of y ≡ bytes_of z =
    four_same _ _ _ _ _ _ _ _ (h 0 (omega arith)) (h 1 (omega arith)) (h 2 (omega arith)) (h 3 (omega arith)) in
    sym (to_z-of_z w32 y (fits_int y i))
    ∙ ap (cast_signed w32) (sym (from_be_bytes-to_be_bytes_4 (cast_unsigned w32 y) (small y i)))
    ∙ ap (λ bs. cast_signed w32 (from_be_bytes w32 bs)) e
    ∙ ap (cast_signed w32) (from_be_bytes-to_be_bytes_4 (cast_unsigned w32 z) (small z j))
    ∙ to_z-of_z w32 z (fits_int z j)
