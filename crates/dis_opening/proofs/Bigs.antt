-- The first big of bytes.
use Rattle.std.proofs.Common.{◌≡◌, ℕ, ℤ, ◌≤◌, List, [], ◌∷◌, map, length, get_or, refl, sym, ap, arith}
use Rattle.std.specs.Int.{w64, cast_signed, from_be_bytes}
use Rattle.limbo_values.specs.declared.number.Kind.TheVariants.{Big as BigKind}
use Rattle.limbo_values.specs.declared.number.Number.TheVariants.{Big}
use Rattle.dis_meaning.specs.Words.{Access, Found, Wrong, Raises, ◌>>=◌}
use Rattle.dis_counts.specs.Opening.{eights}
use Rattle.dis_opening.specs.Numbers.{BeginsWith}

abbrev of_eight : (a b c d e f g h : ℕ) → ℤ
of_eight a b c d e f g h = cast_signed w64 (from_be_bytes w64 (a ∷ b ∷ c ∷ d ∷ e ∷ f ∷ g ∷ h ∷ []))

then_others : (n : ℕ) (z : ℤ) → z ≡ cast_signed w64 n → (r : Access (List ℕ)) →
    (r >>= (λ ns. Found (n ∷ ns)) >>= λ ns. Found (map (cast_signed w64) ns)) ≡ (r >>= (λ ns. Found (map (cast_signed w64) ns)) >>= λ zs. Found (z ∷ zs))
then_others n z is (Found ns) = ap (λ z. Found (z ∷ map (cast_signed w64) ns)) (sym is)
then_others n z is (Wrong m) = refl
then_others n z is (Raises text) = refl

pub begins_big : (bytes : List ℕ) (z : ℤ) → 8 ≤ length bytes →
    z ≡ of_eight (get_or bytes 0 0) (get_or bytes 1 0) (get_or bytes 2 0) (get_or bytes 3 0) (get_or bytes 4 0) (get_or bytes 5 0) (get_or bytes 6 0) (get_or bytes 7 0) →
    BeginsWith BigKind bytes (Big z)
begins_big (a ∷ b ∷ c ∷ d ∷ e ∷ f ∷ g ∷ h ∷ rest) z long is = record {
  sort = refl;
  long = long;
  first = then_others (from_be_bytes w64 (a ∷ b ∷ c ∷ d ∷ e ∷ f ∷ g ∷ h ∷ [])) z is (eights rest);
}
begins_big [] z long is = absurd (omega (arith, long))
begins_big (a ∷ []) z long is = absurd (omega (arith, long))
begins_big (a ∷ b ∷ []) z long is = absurd (omega (arith, long))
begins_big (a ∷ b ∷ c ∷ []) z long is = absurd (omega (arith, long))
begins_big (a ∷ b ∷ c ∷ d ∷ []) z long is = absurd (omega (arith, long))
begins_big (a ∷ b ∷ c ∷ d ∷ e ∷ []) z long is = absurd (omega (arith, long))
begins_big (a ∷ b ∷ c ∷ d ∷ e ∷ f ∷ []) z long is = absurd (omega (arith, long))
begins_big (a ∷ b ∷ c ∷ d ∷ e ∷ f ∷ g ∷ []) z long is = absurd (omega (arith, long))
