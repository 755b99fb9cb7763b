-- What operations give of strings are strings.
use Rattle.std.proofs.Common.{◌≡◌, ℕ, ℤ, zero, suc, pos, negsuc, ◌+◌, ◌-◌, ◌^◌, ◌<◌, ◌≤◌, Bool, true, false, if◌then◌else◌, List, [], ◌∷◌, ◌++◌, length, take, drop, Result, Ok, Err, refl, subst, arith, rules, length-append}
use Rattle.std.specs.Prelude.{nat_le, slice_range}
use Rattle.std.specs.Int.Signed.{mag}
use Rattle.std.proofs.lemmas.Int.{ints}
use Rattle.std.proofs.lemmas.Fmt.{length_signed_le}
use Rattle.inf_text.specs.Steps.{◌>>=◌}
use Rattle.limbo_bytes.specs.Bytes.{characters}
use Rattle.limbo_values.specs.Conversions.{number_text}
use Rattle.limbo_values.specs.Numbers.{InRange}
use Rattle.limbo_values.specs.Texts.{longest, joined, slice_in, bounds_in}
use Rattle.limbo_values.specs.declared.number.Kind.TheVariants.{Int}
use Rattle.limbo_values.specs.declared.raised.Raised.{Raised}
use Rattle.limbo_values.specs.declared.raised.Raised.TheVariants.{StringTooLong}
use Rattle.limbo_kept.proofs.Texts.{front_and_behind, ranged, decimal_is, read_are}
use Rattle.value_words.specs.Facts.{IsString}

same : (s t : List ℕ) → ◌≡◌ {A = Result (List ℕ) Raised} (Ok s) (Ok t) → s ≡ t
same s t e = cc

-- one behind another
pub joined_string : (s t both : List ℕ) → IsString s → IsString t → joined s t ≡ Ok both → IsString both
joined_string s t both a b e = go (nat_le (length s + length t) longest) refl e
  where
    go : (few : Bool) → nat_le (length s + length t) longest ≡ few
        → ((if few then Ok (length s + length t) else Err StringTooLong) >>= λ _. Ok (s ++ t)) ≡ Ok both → IsString both
    go true few f =
        let low : length s + length t ≤ longest = search rules in
        let long = length-append s t in
        subst IsString (same (s ++ t) both f) (front_and_behind s t a.0 b.0, omega (arith, low, long))
    go false few f = absurd cc

-- ---- part of one

long_dropped : (n : ℕ) (s : List ℕ) → length (drop n s) ≤ length s
long_dropped zero s = omega arith
long_dropped (suc n) [] = omega arith
long_dropped (suc n) (c ∷ s) = let h = long_dropped n s in omega (arith, h)

long_taken : (n : ℕ) (s : List ℕ) → length (take n s) ≤ length s
long_taken zero s = omega arith
long_taken (suc n) [] = omega arith
long_taken (suc n) (c ∷ s) = let h = long_taken n s in omega (arith, h)

pub part_string : (s : List ℕ) (from to : ℤ) (part : List ℕ) → IsString s → slice_in s from to ≡ Ok part → IsString part
part_string s from to part a e = go (bounds_in (length s) from to) e
  where
    go : (r : Result (ℕ × ℕ) Raised) → (r >>= λ bounds. Ok (slice_range s bounds.0 bounds.1)) ≡ Ok part → IsString part
    go (Ok bounds) f =
        let front = long_taken (bounds.1 - bounds.0) (drop bounds.0 s) in
        let behind = long_dropped bounds.0 s in
        let few = a.1 in
        subst IsString (same (slice_range s bounds.0 bounds.1) part f) (ranged s bounds.0 bounds.1 a.0, omega (arith, front, behind, few))
    go (Err raised) f = absurd cc

-- ---- a number

pub number_string : (z : ℤ) → InRange Int z → IsString (number_text z)
number_string z range =
    let few = length_signed_le 10 z (small z range) (least z range) in
    (decimal_is z, omega (arith, few))
  where
    small : (z : ℤ) → InRange Int z → mag z + 1 < 10 ^ 10
    small (pos n) range = let b = range.below in omega (arith, ints, b)
    small (negsuc n) range = let a = range.above in omega (arith, ints, a)

    least : (z : ℤ) → InRange Int z → mag z < 2 ^ 63
    least (pos n) range = let b = range.below in omega (arith, ints, b)
    least (negsuc n) range = let a = range.above in omega (arith, ints, a)

-- ---- bytes that are read

pub read_string : (bs : List ℕ) → length (characters 0 bs) ≤ longest → IsString (characters 0 bs)
read_string bs few = (read_are 0 bs, few)
