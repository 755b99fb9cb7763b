-- Divisions, remainders, shifts and conversions.
use Rattle.std.proofs.Common.{◌≡◌, suc, ◌+◌, ◌*◌, ◌^◌, ◌<◌, ℤ, pos, negsuc, ◌≤ℤ◌, ◌+ℤ◌, ◌*ℤ◌, sym, ap, subst, ◌∙◌, arith, Bool, cond, Ok, Err}
use borrow.Author.Differences.{up, down, same_in, same_out, sum_is_lem, product_is}
use Rattle.std.specs.Prelude.{unsigned_abs, int_div, int_rem}
use Rattle.std.specs.Ordering.{int_eq}
use Rattle.std.proofs.Math.Nat.{mod-eq_of_lt, mod-le}
use Rattle.std.proofs.lemmas.Int.{ints, quot-rem}
use Rattle.limbo_values.specs.declared.number.Kind.{Kind}
use Rattle.limbo_values.specs.declared.number.Kind.TheVariants.{Byte, Int, Big}
use Rattle.limbo_values.specs.declared.raised.Raised.TheVariants.{ZeroDivide}
use Rattle.limbo_values.specs.Numbers.{InRange, width, wrapped, least, greatest}
use Rattle.limbo_values.specs.Laws.{DivisionGivesBack, RemainderHasSign, ShiftMultiplies, CountsAreReduced, ConversionsKeep}
use Rattle.limbo_values.proofs.Signed.{remainder_below}
use Rattle.limbo_values.proofs.Wrapping.{alike, apart, same_remainder, wrapped_again}
use Rattle.limbo_values.proofs.Ranges.{within}

-- what was given, where nothing was raised
given : (t : Bool) (z q : ℤ) → cond t (Err ZeroDivide) (Ok z) ≡ Ok q → q ≡ z
given t z q e = grind arith

-- to wrap two terms first changes nothing
wrapped_sum : (kind : Kind) (x y b : ℤ) → wrapped kind (wrapped kind x *ℤ b +ℤ wrapped kind y) ≡ wrapped kind (x *ℤ b +ℤ y)
wrapped_sum kind x y b =
    let m = 2 ^ width kind in
    let p = apart kind x in
    let q = apart kind y in
    let sum : up (wrapped kind x) + p.0 * m + down x ≡ up x + p.1 * m + down (wrapped kind x) = omega (arith, same_out, sum_is_lem, p.2) in
    let over = ap (λ s. s * up b) sum in
    let under = ap (λ s. s * down b) sum in
    alike kind (wrapped kind x *ℤ b +ℤ wrapped kind y) (x *ℤ b +ℤ y) (p.0 * up b + p.1 * down b + q.0) (p.1 * up b + p.0 * down b + q.1)
    (omega (arith, same_in, same_out, sum_is_lem, product_is, q.2))

pub gives_back : DivisionGivesBack
gives_back kind a b q r range d e =
    let quotient : q ≡ wrapped kind (int_div a b) = given (int_eq b (pos 0)) (wrapped kind (int_div a b)) q d in
    let rest : r ≡ wrapped kind (int_rem a b) = given (int_eq b (pos 0)) (wrapped kind (int_rem a b)) r e in
    ap (λ x. wrapped kind (x *ℤ b +ℤ r)) quotient ∙ ap (λ y. wrapped kind (wrapped kind (int_div a b) *ℤ b +ℤ y)) rest
    ∙ wrapped_sum kind (int_div a b) (int_rem a b) b ∙ ap (wrapped kind) (quot-rem a b) ∙ within kind a range

low : (kind : Kind) → least kind ≤ℤ pos 0
low Byte = omega (arith, ints)
low Int = omega (arith, ints)
low Big = omega (arith, ints)

high : (kind : Kind) → pos 0 ≤ℤ greatest kind
high Byte = omega (arith, ints)
high Int = omega (arith, ints)
high Big = omega (arith, ints)

-- a remainder is no farther from 0 than the dividend, on the same side
nearer : (kind : Kind) (a b : ℤ) → InRange kind a → InRange kind (int_rem a b)
nearer kind (pos n) b r =
    let above = r.above in
    let below = r.below in
    record { above = omega (arith, ints, low kind); below = omega (arith, ints, mod-le n (unsigned_abs b)) }
nearer kind (negsuc n) b r =
    let above = r.above in
    let below = r.below in
    record { above = omega (arith, ints, mod-le (suc n) (unsigned_abs b)); below = omega (arith, ints, high kind) }

sign_of : (a b : ℤ) → (pos 0 ≤ℤ a → pos 0 ≤ℤ int_rem a b) × (a ≤ℤ pos 0 → int_rem a b ≤ℤ pos 0)
sign_of (pos n) b = (λ h. omega (arith, ints), λ h. omega (arith, ints, mod-le n (unsigned_abs b)))
sign_of (negsuc n) b = (λ h. absurd (omega (arith, ints)), λ h. omega (arith, ints))

pub has_sign : RemainderHasSign
has_sign kind a b r range e =
    let rest : r ≡ int_rem a b = given (int_eq b (pos 0)) (wrapped kind (int_rem a b)) r e
    ∙ within kind (int_rem a b) (nearer kind a b range) in
    let P : ℤ → Type 0 = λ z. (pos 0 ≤ℤ a → pos 0 ≤ℤ z) × (a ≤ℤ pos 0 → z ≤ℤ pos 0) in
    subst P (sym rest) (sign_of a b)

some : (kind : Kind) → 0 < width kind
some Byte = omega arith
some Int = omega arith
some Big = omega arith

pub multiplies : ShiftMultiplies
multiplies kind a count few = ap (λ n. wrapped kind (a *ℤ pos (2 ^ n))) (mod-eq_of_lt few)

pub reduced : CountsAreReduced
reduced kind count = (
  ap unsigned_abs (same_remainder (width kind) (count +ℤ pos (width kind)) count 0 1 (some kind) (omega (arith, ints))),
  remainder_below count (width kind) (some kind),
)

pub keeps : ConversionsKeep
keeps Byte Byte z le = let a = apart Byte z in let e = a.2 in alike Byte (wrapped Byte z) z a.0 a.1 e
keeps Byte Int z le =
    let a = apart Int z in
    let e = a.2 in
    alike Byte (wrapped Int z) z (a.0 * 2 ^ 24) (a.1 * 2 ^ 24) (omega (arith, ints, e))
keeps Byte Big z le = wrapped_again Byte z
keeps Int Byte z le = absurd (omega (arith, le))
keeps Int Int z le = let a = apart Int z in let e = a.2 in alike Int (wrapped Int z) z a.0 a.1 e
keeps Int Big z le = wrapped_again Int z
keeps Big Byte z le = absurd (omega (arith, le))
keeps Big Int z le = absurd (omega (arith, le))
keeps Big Big z le = wrapped_again Big z
