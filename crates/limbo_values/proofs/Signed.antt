-- What the code's operations on signed numbers leave is what is left of the results.
use Rattle.std.proofs.Common.{◌≡◌, ℕ, zero, suc, ◌/◌, ◌%◌, ◌^◌, ◌<◌, ◌≤◌, ℤ, pos, negsuc, ◌*ℤ◌, refl, sym, ap, ap₂, ◌∙◌, arith, SFits, to_z, of_z}
use Rattle.std.specs.Prelude.{unsigned_abs, neg_ℤ, int_div}
use Rattle.std.specs.Int.{Width, int_wrap, int_rem_euclid, int_shl, w32}
use mir.Val.{bits, hbits}
use Rattle.std.proofs.Math.Nat.{mod-eq_of_lt, mod-lt, div-le_self}
use Rattle.std.proofs.lemmas.Int.{to_z-of_z, int_wrap_fits, int_wrap-mul_right, wrapping_mul-bits}

-- the bits of a number in range, as the code has them
pub bits_are : (w : Width) (z : ℤ) → SFits w z → 2 ^ hbits w ≤ 2 ^ bits w → unsigned_abs (int_rem_euclid z (pos (2 ^ bits w))) ≡ of_z w z
bits_are w (pos n) f le = mod-eq_of_lt (omega (arith, f.sfits))
bits_are w (negsuc n) f le =
    let small : n % 2 ^ bits w ≡ n = mod-eq_of_lt (omega (arith, f.sfits)) in
    omega (arith, small)

-- the number that bits spell
pub wrap_pos : (w : Width) (m : ℕ) → m < 2 ^ bits w → int_wrap w (pos m) ≡ to_z w m
unfolding int_wrap
wrap_pos w m h = ap (to_z w) (mod-eq_of_lt h)

-- one above the range, as the least number divided by -1, is the least number
pub read_wrapped : (w : Width) (z : ℤ) → unsigned_abs z ≤ 2 ^ hbits w → 2 ^ hbits w < 2 ^ bits w → to_z w (of_z w z) ≡ int_wrap w z
read_wrapped w (pos n) h le = sym (wrap_pos w n (omega arith))
read_wrapped w (negsuc n) h le =
    let f : SFits w (negsuc n) = record { sfits = omega arith } in
    to_z-of_z w (negsuc n) f ∙ sym (int_wrap_fits w (negsuc n) f)

unsigned_abs-neg : (n : ℕ) → unsigned_abs (neg_ℤ (pos n)) ≡ n
unsigned_abs-neg zero = refl
unsigned_abs-neg (suc n) = omega arith

pub unsigned_abs-div : (a b : ℤ) → unsigned_abs (int_div a b) ≤ unsigned_abs a
unsigned_abs-div (pos a) (pos b) = div-le_self a b
unsigned_abs-div (pos a) (negsuc b) = omega (arith, unsigned_abs-neg (a / suc b), div-le_self a (suc b))
unsigned_abs-div (negsuc a) (pos b) = omega (arith, unsigned_abs-neg (suc a / b), div-le_self (suc a) b)
unsigned_abs-div (negsuc a) (negsuc b) = omega (arith, div-le_self (suc a) (suc b))

pub unsigned_abs-fits : (w : Width) (a : ℤ) → SFits w a → unsigned_abs a ≤ 2 ^ hbits w
unsigned_abs-fits w (pos n) f = omega (arith, f.sfits)
unsigned_abs-fits w (negsuc n) f = omega (arith, f.sfits)

pub shl_is : (w : Width) (a : ℤ) (k : ℕ) → SFits w a → of_z w a < 2 ^ bits w → 2 ^ k < 2 ^ bits w
    → int_shl w a k ≡ int_wrap w (a *ℤ pos (2 ^ k))
shl_is w a k f p q =
    wrapping_mul-bits w (of_z w a) (2 ^ k) p q
    ∙ ap (λ x. int_wrap w (x *ℤ to_z w (2 ^ k))) (to_z-of_z w a f)
    ∙ ap (λ y. int_wrap w (a *ℤ y)) (sym (wrap_pos w (2 ^ k) q))
    ∙ int_wrap-mul_right w a (pos (2 ^ k))

-- operations on the bits of two numbers in range
module _
    (w : Width) (a b : ℤ) (f : SFits w a) (g : SFits w b)
    (p : of_z w a < 2 ^ bits w) (q : of_z w b < 2 ^ bits w) (le : 2 ^ hbits w ≤ 2 ^ bits w) where
  abbrev spelled : ℤ → ℕ
  spelled z = unsigned_abs (int_rem_euclid z (pos (2 ^ bits w)))

  pub both : (op : ℕ → ℕ → ℕ) → op (of_z w a) (of_z w b) < 2 ^ bits w
      → to_z w (op (of_z w a) (of_z w b)) ≡ int_wrap w (pos (op (spelled a) (spelled b)))
  both op h = sym (wrap_pos w _ h) ∙ ap₂ (λ m n. int_wrap w (pos (op m n))) (sym (bits_are w a f le)) (sym (bits_are w b g le))

-- counts of shifts, as the code takes them modulo a width
pub count_32 : (z : ℤ) → SFits w32 z → of_z w32 z % 32 ≡ unsigned_abs (int_rem_euclid z (pos 32))
count_32 (pos n) f = refl
count_32 (negsuc n) f = let h = f.sfits in omega (arith, h)

pub count_64 : (z : ℤ) → SFits w32 z → of_z w32 z % 64 ≡ unsigned_abs (int_rem_euclid z (pos 64))
count_64 (pos n) f = refl
count_64 (negsuc n) f = let h = f.sfits in omega (arith, h)

pub remainder_below : (z : ℤ) (n : ℕ) → 0 < n → unsigned_abs (int_rem_euclid z (pos n)) < n
remainder_below (pos a) n h = mod-lt a h
remainder_below (negsuc a) n h = omega (arith, mod-lt a h)
