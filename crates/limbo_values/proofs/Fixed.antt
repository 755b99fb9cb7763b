-- For a fixed operator: what the code's own operation leaves is what the definition of the operator gives.
use Rattle.std.proofs.Common.{◌≡◌, ℕ, ◌+◌, ◌-◌, ◌%◌, ◌^◌, ◌<◌, ℤ, pos, Ok, sym, ap, ap₂, ◌∙◌, arith, w32, w64, SFits, to_z, of_z, bit_and, bit_or, bit_xor}
use Rattle.std.proofs.Math.Nat.{mod-eq_of_lt}
use Rattle.std.proofs.Math.Facts.{Fits-of_z, Fits-lt-pow}
use Rattle.std.proofs.lemmas.Nat.{and_le_l, or_lt, xor_lt}
use Rattle.std.proofs.lemmas.Int.{wrapping_add_is, wrapping_sub_is}
use Rattle.limbo_values.specs.declared.number.Kind.TheVariants.{Byte, Int, Big}
use Rattle.limbo_values.specs.declared.operator.Operator.TheVariants.{Add, Subtract, And, Xor, Or}
use Rattle.limbo_values.specs.Operators.{applied}
use Rattle.limbo_values.proofs.Signed.{both}

-- two ints
module _ (a b : ℤ) (f : SFits w32 a) (g : SFits w32 b) where
  low_int : of_z w32 a < 2 ^ 32
  low_int = Fits-lt-pow (Fits-of_z f)

  high_int : of_z w32 b < 2 ^ 32
  high_int = Fits-lt-pow (Fits-of_z g)

  pub int_add : Ok (to_z w32 ((of_z w32 a + of_z w32 b) % 2 ^ 32)) ≡ applied Int Add a b
  int_add = ap Ok (wrapping_add_is w32 a b f g)

  pub int_subtract : Ok (to_z w32 ((of_z w32 a + (2 ^ 32 - of_z w32 b)) % 2 ^ 32)) ≡ applied Int Subtract a b
  int_subtract = ap Ok (wrapping_sub_is w32 a b f g)

  pub int_and : Ok (to_z w32 (bit_and (of_z w32 a) (of_z w32 b))) ≡ applied Int And a b
  int_and =
      let small : bit_and (of_z w32 a) (of_z w32 b) < 2 ^ 32 = omega (arith, and_le_l (of_z w32 a) (of_z w32 b), low_int) in
      ap Ok (both w32 a b f g low_int high_int (omega arith) bit_and small)

  pub int_xor : Ok (to_z w32 (bit_xor (of_z w32 a) (of_z w32 b))) ≡ applied Int Xor a b
  int_xor = ap Ok (both w32 a b f g low_int high_int (omega arith) bit_xor (xor_lt 32 _ _ low_int high_int))

  pub int_or : Ok (to_z w32 (bit_or (of_z w32 a) (of_z w32 b))) ≡ applied Int Or a b
  int_or = ap Ok (both w32 a b f g low_int high_int (omega arith) bit_or (or_lt 32 _ _ low_int high_int))

-- two bigs
module _ (a b : ℤ) (f : SFits w64 a) (g : SFits w64 b) where
  low_big : of_z w64 a < 2 ^ 64
  low_big = Fits-lt-pow (Fits-of_z f)

  high_big : of_z w64 b < 2 ^ 64
  high_big = Fits-lt-pow (Fits-of_z g)

  pub big_add : Ok (to_z w64 ((of_z w64 a + of_z w64 b) % 2 ^ 64)) ≡ applied Big Add a b
  big_add = ap Ok (wrapping_add_is w64 a b f g)

  pub big_subtract : Ok (to_z w64 ((of_z w64 a + (2 ^ 64 - of_z w64 b)) % 2 ^ 64)) ≡ applied Big Subtract a b
  big_subtract = ap Ok (wrapping_sub_is w64 a b f g)

  pub big_and : Ok (to_z w64 (bit_and (of_z w64 a) (of_z w64 b))) ≡ applied Big And a b
  big_and =
      let small : bit_and (of_z w64 a) (of_z w64 b) < 2 ^ 64 = omega (arith, and_le_l (of_z w64 a) (of_z w64 b), low_big) in
      ap Ok (both w64 a b f g low_big high_big (omega arith) bit_and small)

  pub big_xor : Ok (to_z w64 (bit_xor (of_z w64 a) (of_z w64 b))) ≡ applied Big Xor a b
  big_xor = ap Ok (both w64 a b f g low_big high_big (omega arith) bit_xor (xor_lt 64 _ _ low_big high_big))

  pub big_or : Ok (to_z w64 (bit_or (of_z w64 a) (of_z w64 b))) ≡ applied Big Or a b
  big_or = ap Ok (both w64 a b f g low_big high_big (omega arith) bit_or (or_lt 64 _ _ low_big high_big))

-- two bytes
module _ (a b : ℕ) (f : a < 256) (g : b < 256) where
  both_bytes : (op : ℕ → ℕ → ℕ) → op a b < 256 → pos (op a b) ≡ pos (op (a % 256) (b % 256) % 256)
  both_bytes op h = ap pos (sym (mod-eq_of_lt h) ∙ ap₂ (λ m n. op m n % 256) (sym (mod-eq_of_lt f)) (sym (mod-eq_of_lt g)))

  pub byte_and : Ok (pos (bit_and a b)) ≡ applied Byte And (pos a) (pos b)
  byte_and = ap Ok (both_bytes bit_and (omega (arith, and_le_l a b, f)))

  pub byte_xor : Ok (pos (bit_xor a b)) ≡ applied Byte Xor (pos a) (pos b)
  byte_xor = ap Ok (both_bytes bit_xor (xor_lt 8 a b f g))

  pub byte_or : Ok (pos (bit_or a b)) ≡ applied Byte Or (pos a) (pos b)
  byte_or = ap Ok (both_bytes bit_or (or_lt 8 a b f g))
