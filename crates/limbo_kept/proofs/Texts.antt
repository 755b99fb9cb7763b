-- Texts of characters.
use Rattle.std.proofs.Common.{◌≡◌, ℕ, ℤ, zero, suc, pos, negsuc, ◌+◌, ◌-◌, ◌<◌, ◌≤◌, Bool, true, false, ◌&&◌, List, [], ◌∷◌, ◌++◌, length}
use Rattle.std.proofs.Common.{◌/◌, ◌%◌, cond}
use Rattle.std.proofs.Common.{take, drop, Option, None, Some, refl, arith, inl, inr, ◌⊎◌}
use Rattle.std.proofs.lemmas.Bool.Decides.{nat_tests}
use Rattle.std.proofs.Math.Utf8.{scalar_cases}
use lib.Utf8.{scalar}
use Rattle.std.specs.Str.{all_scalars}
use Rattle.std.specs.Prelude.{slice_get, slice_set, slice_range, encode_utf8, encode_utf8_all, if◌then◌else◌, ◌==◌, nat_lt, nat_le, ◌||◌}
use Rattle.std.specs.Prelude.{chars}
use Rattle.std.specs.Fmt.{digits, digits_onto, digit_glyph, signed_decimal}
use Rattle.limbo_bytes.specs.Bytes.{is_front, spelled, first_character, characters}
use Rattle.system_model.specs.Verbs.{character}
use Rattle.limbo_kept.specs.Values.{AreCharacters}

pub front_and_behind : (s t : List ℕ) → AreCharacters s → AreCharacters t → AreCharacters (s ++ t)
front_and_behind [] t a b = b
front_and_behind (c ∷ s) t a b = (a.0, front_and_behind s t a.1 b)

pub taken : (n : ℕ) (s : List ℕ) → AreCharacters s → AreCharacters (take n s)
taken zero s a = tt
taken (suc n) [] a = tt
taken (suc n) (c ∷ s) a = (a.0, taken n s a.1)

pub dropped : (n : ℕ) (s : List ℕ) → AreCharacters s → AreCharacters (drop n s)
dropped zero s a = a
dropped (suc n) [] a = tt
dropped (suc n) (c ∷ s) a = dropped n s a.1

pub ranged : (s : List ℕ) (i j : ℕ) → AreCharacters s → AreCharacters (slice_range s i j)
ranged s i j a = taken (j - i) (drop i s) (dropped i s a)

pub put : (s : List ℕ) (i c : ℕ) → AreCharacters s → c < 1114112 → AreCharacters (slice_set s i c)
put [] i c a b = tt
put (d ∷ s) zero c a b = (b, a.1)
put (d ∷ s) (suc i) c a b = (a.0, put s i c a.1 b)

either : (x y : Bool) → (x || y) ≡ true → (x ≡ true) ⊎ (y ≡ true)
either true y e = inl refl
either false y e = inr e

both : (x y : Bool) → (x && y) ≡ true → (x ≡ true) × (y ≡ true)
both true y e = (refl, e)
both false y e = absurd cc

pub character_is : (z : ℤ) → character z < 1114112
character_is (pos c) = go (nat_lt c 0xD800 || (nat_le 0xE000 c && nat_le c 0x10FFFF)) refl
  where
    go : (b : Bool) → (nat_lt c 0xD800 || (nat_le 0xE000 c && nat_le c 0x10FFFF)) ≡ b → (if b then c else 65533) < 1114112
    go true e = elim (either (nat_lt c 0xD800) (nat_le 0xE000 c && nat_le c 0x10FFFF) e) [
      | inl f ↦ grind (arith, nat_tests, f)
      | inr f ↦ let g = (both (nat_le 0xE000 c) (nat_le c 0x10FFFF) f).1 in grind (arith, nat_tests, g)
    ]
    go false e = omega arith
character_is (negsuc c) = omega arith

-- ---- digits

glyph : (d : ℕ) → d < 16 → digit_glyph false d < 1114112
glyph d l = go (nat_lt d 10)
  where
    go : (b : Bool) → (if b then 48 + d else 87 + d) < 1114112
    go true = omega arith
    go false = omega arith

onto : (k base n : ℕ) (behind : List ℕ) → 0 < base → base ≤ 16 → AreCharacters behind → AreCharacters (digits_onto k base false n behind)
onto zero base n behind l m a = a
onto (suc k) base n behind l m a = go (onto k base (n / base) (digit_glyph false (n % base) ∷ behind) l m first) (n / base == 0)
  where
    first : AreCharacters (digit_glyph false (n % base) ∷ behind)
    first = (glyph (n % base) (omega arith), a)

    go : AreCharacters (digits_onto k base false (n / base) (digit_glyph false (n % base) ∷ behind)) → (b : Bool)
        → AreCharacters (if b then digit_glyph false (n % base) ∷ behind else digits_onto k base false (n / base)
        (digit_glyph false (n % base) ∷ behind))
    go again true = first
    go again false = again

pub digits_are : (base n : ℕ) → 0 < base → base ≤ 16 → AreCharacters (digits base false n)
unfolding digits
digits_are base n l m = onto 64 base n [] l m tt

pub decimal_is : (z : ℤ) → AreCharacters (signed_decimal z)
decimal_is (pos n) = digits_are 10 n (omega arith) (omega arith)
decimal_is (negsuc n) = (omega arith, digits_are 10 (suc n) (omega arith) (omega arith))

-- ---- bytes

scalar_there : (bs : List ℕ) (o : Option ℕ) (c : ℕ) → spelled bs o ≡ Some c → c < 1114112
scalar_there bs None c e = absurd cc
scalar_there bs (Some d) c e = go (all_scalars (d ∷ []) && is_front (encode_utf8 d) bs) refl e
  where
    go : (b : Bool) → (all_scalars (d ∷ []) && is_front (encode_utf8 d) bs) ≡ b → (if b then Some d else None) ≡ Some c → c < 1114112
    go true f e =
        let q = both (scalar d) true (both (all_scalars (d ∷ [])) (is_front (encode_utf8 d) bs) f).0 in
        let same : d ≡ c = cc in
        let l : d < 1114112 = elim (scalar_cases d q.0) [ inl l ↦ omega arith | inr l ↦ l.1 ] in
        omega arith
    go false f e = absurd cc

pub read_are : (n : ℕ) (bs : List ℕ) → AreCharacters (characters n bs)
read_are n [] = tt
read_are (suc n) (b ∷ bs) = read_are n bs
read_are zero (b ∷ bs) = go (λ n. read_are n bs) (first_character (b ∷ bs)) refl
  where
    go : ((n : ℕ) → AreCharacters (characters n bs)) → (o : Option ℕ) → first_character (b ∷ bs) ≡ o
        → AreCharacters (elim o as (λ _. List ℕ) [
          | None ↦ 65533 ∷ characters 0 bs
          | Some c ↦ c ∷ characters (length (encode_utf8 c) - 1)
              bs
        ])
    go again None e = (omega arith, again 0)
    go again (Some c) e = (scalar_there (b ∷ bs) (slice_get (chars (b ∷ bs)) 0) c e, again (length (encode_utf8 c) - 1))

-- Each number is a byte's.
abbrev pub AreBytes : List ℕ → Type 0
AreBytes [] = Unit {0}
AreBytes (b ∷ bs) = (b < 256) × AreBytes bs

bytes_more : (xs ys : List ℕ) → AreBytes xs → AreBytes ys → AreBytes (xs ++ ys)
bytes_more [] ys a b = b
bytes_more (x ∷ xs) ys a b = (a.0, bytes_more xs ys a.1 b)

spelled_by : (c : ℕ) → c < 1114112 → (x y z : Bool) → nat_lt c 128 ≡ x → nat_lt c 2048 ≡ y → nat_lt c 65536 ≡ z
    → AreBytes (cond x (c ∷ []) (cond y ((192 + c / 64) ∷ (128 + c % 64) ∷ [])
    (cond z ((224 + c / 4096) ∷ (128 + (c / 64) % 64) ∷ (128 + c % 64) ∷ [])
    ((240 + c / 262144) ∷ (128 + (c / 4096) % 64) ∷ (128 + (c / 64) % 64) ∷ (128 + c % 64) ∷ []))))
spelled_by c l true y z e f g = let a : c < 128 = grind (arith, nat_tests, e) in (omega arith, tt)
spelled_by c l false true z e f g = let a : c < 2048 = grind (arith, nat_tests, f) in (omega arith, (omega arith, tt))
spelled_by c l false false true e f g =
    let a : c < 65536 = grind (arith, nat_tests, g) in (omega arith, (omega arith, (omega arith, tt)))
spelled_by c l false false false e f g = (omega arith, (omega arith, (omega arith, (omega arith, tt))))

one_spelled : (c : ℕ) → c < 1114112 → AreBytes (encode_utf8 c)
unfolding lib.Utf8.encode
one_spelled c l = spelled_by c l (nat_lt c 128) (nat_lt c 2048) (nat_lt c 65536) refl refl refl

pub spelled_are : (s : List ℕ) → AreCharacters s → AreBytes (encode_utf8_all s)
spelled_are [] a = tt
spelled_are (c ∷ s) a = bytes_more (encode_utf8 c) (encode_utf8_all s) (one_spelled c a.0) (spelled_are s a.1)
