-- A number and what is left of it in the bits of a kind differ by a multiple of 2 ^ width, and numbers that differ so leave the same.
use Rattle.std.proofs.Common.{◌≡◌, ℕ, suc, ◌+◌, ◌-◌, ◌*◌, ◌/◌, ◌^◌, ◌<◌, ◌≤◌, Bool, true, false, cond, nat_lt, ℤ, pos, negsuc, ◌+ℤ◌, refl, sym, ap, ◌∙◌, arith, w32, w64, to_z}
use borrow.Author.Differences.{up, down, same_in, same_out, sum_is_lem}
use Rattle.std.specs.Prelude.{unsigned_abs}
use Rattle.std.specs.Int.{int_wrap, int_rem_euclid}
use Rattle.std.proofs.Math.Nat.{mod-lt, div-add-mod', mul-le-mul_left}
use Rattle.std.proofs.lemmas.Int.{ints, int_rem_euclid_is, int_wrap_fits, SFits-int_wrap}
use Rattle.limbo_values.specs.declared.number.Kind.{Kind}
use Rattle.limbo_values.specs.declared.number.Kind.TheVariants.{Byte, Int, Big}
use Rattle.limbo_values.specs.Numbers.{width, wrapped}

-- numbers that differ by a multiple of m have one remainder
pub same_remainder : (m : ℕ) (a b : ℤ) (j k : ℕ) → 0 < m
    → a +ℤ pos (j * m) ≡ b +ℤ pos (k * m) → int_rem_euclid a (pos m) ≡ int_rem_euclid b (pos m)
same_remainder m a b j k some e =
    let t = down a + down b in
    let far : t * 1 ≤ t * m = mul-le-mul_left t some in
    let n = up a + (j + t) * m - down a in
    int_rem_euclid_is a (pos m) m (j + t) n some refl (omega (arith, ints))
    ∙ sym (int_rem_euclid_is b (pos m) m (k + t) n some refl (omega (arith, ints)))

pub alike : (kind : Kind) (a b : ℤ) (j k : ℕ)
    → a +ℤ pos (j * 2 ^ width kind) ≡ b +ℤ pos (k * 2 ^ width kind) → wrapped kind a ≡ wrapped kind b
unfolding int_wrap
alike Byte a b j k e = same_remainder (2 ^ 8) a b j k (omega arith) e
alike Int a b j k e = ap (λ r. to_z w32 (unsigned_abs r)) (same_remainder (2 ^ 32) a b j k (omega arith) e)
alike Big a b j k e = ap (λ r. to_z w64 (unsigned_abs r)) (same_remainder (2 ^ 64) a b j k (omega arith) e)

-- a number and its remainder
remainder_apart : (m : ℕ) (z : ℤ) → 0 < m
    → (j : ℕ) × (k : ℕ) × (pos (unsigned_abs (int_rem_euclid z (pos m))) +ℤ pos (j * m) ≡ z +ℤ pos (k * m))
remainder_apart m (pos a) some = (a / m, 0, omega (arith, same_in, same_out, sum_is_lem, div-add-mod' a m))
remainder_apart m (negsuc a) some = (0, a / m + 1, omega (arith, same_in, same_out, sum_is_lem, div-add-mod' a m, mod-lt a some))

-- the signed number of some bits and the bits as a number
signed_32 : (n : ℕ) → n < 2 ^ 32 → (j : ℕ) × (to_z w32 n +ℤ pos (j * 2 ^ 32) ≡ pos n)
signed_32 n small = by (nat_lt n (2 ^ 31)) refl
  where
    by : (t : Bool) → nat_lt n (2 ^ 31) ≡ t → (j : ℕ) × (to_z w32 n +ℤ pos (j * 2 ^ 32) ≡ pos n)
    by true e = (0, let is : to_z w32 n ≡ pos n = ap (λ t. cond t (pos n) (negsuc (2 ^ 32 - suc n))) e in omega (arith, ints, is))
    by false e =
        (1, let is : to_z w32 n ≡ negsuc (2 ^ 32 - suc n) = ap (λ t. cond t (pos n) (negsuc (2 ^ 32 - suc n))) e in omega (arith, ints, is))

signed_64 : (n : ℕ) → n < 2 ^ 64 → (j : ℕ) × (to_z w64 n +ℤ pos (j * 2 ^ 64) ≡ pos n)
signed_64 n small = by (nat_lt n (2 ^ 63)) refl
  where
    by : (t : Bool) → nat_lt n (2 ^ 63) ≡ t → (j : ℕ) × (to_z w64 n +ℤ pos (j * 2 ^ 64) ≡ pos n)
    by true e = (0, let is : to_z w64 n ≡ pos n = ap (λ t. cond t (pos n) (negsuc (2 ^ 64 - suc n))) e in omega (arith, ints, is))
    by false e =
        (1, let is : to_z w64 n ≡ negsuc (2 ^ 64 - suc n) = ap (λ t. cond t (pos n) (negsuc (2 ^ 64 - suc n))) e in omega (arith, ints, is))

remainder_small : (m : ℕ) (z : ℤ) → 0 < m → unsigned_abs (int_rem_euclid z (pos m)) < m
remainder_small m (pos a) some = mod-lt a some
remainder_small m (negsuc a) some = omega (arith, mod-lt a some)

natural : (m : ℕ) (z : ℤ) → int_rem_euclid z (pos m) ≡ pos (unsigned_abs (int_rem_euclid z (pos m)))
natural m (pos a) = refl
natural m (negsuc a) = refl

pub apart : (kind : Kind) (z : ℤ) → (j : ℕ) × (k : ℕ) × (wrapped kind z +ℤ pos (j * 2 ^ width kind) ≡ z +ℤ pos (k * 2 ^ width kind))
unfolding int_wrap
apart Byte z =
    let r = remainder_apart (2 ^ 8) z (omega arith) in
    (r.0, r.1, ap (λ x. x +ℤ pos (r.0 * 2 ^ 8)) (natural (2 ^ 8) z) ∙ r.2)
apart Int z =
    let r = remainder_apart (2 ^ 32) z (omega arith) in
    let s = signed_32 (unsigned_abs (int_rem_euclid z (pos (2 ^ 32)))) (remainder_small (2 ^ 32) z (omega arith)) in
    (s.0 + r.0, r.1, omega (arith, ints, s.1, r.2))
apart Big z =
    let r = remainder_apart (2 ^ 64) z (omega arith) in
    let s = signed_64 (unsigned_abs (int_rem_euclid z (pos (2 ^ 64)))) (remainder_small (2 ^ 64) z (omega arith)) in
    (s.0 + r.0, r.1, omega (arith, ints, s.1, r.2))

-- what is left in the bits of a kind of what is left in the bits of a big
pub wrapped_again : (kind : Kind) (z : ℤ) → wrapped kind (wrapped Big z) ≡ wrapped kind z
wrapped_again Byte z =
    let a = apart Big z in
    let e = a.2 in
    alike Byte (wrapped Big z) z (a.0 * 2 ^ 56) (a.1 * 2 ^ 56) (omega (arith, ints, e))
wrapped_again Int z =
    let a = apart Big z in
    let e = a.2 in
    alike Int (wrapped Big z) z (a.0 * 2 ^ 32) (a.1 * 2 ^ 32) (omega (arith, ints, e))
wrapped_again Big z = int_wrap_fits w64 (int_wrap w64 z) (SFits-int_wrap w64 z)
