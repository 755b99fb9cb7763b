-- The map of a type says which words are references.
use Rattle.std.proofs.Common.{◌≡◌, ℕ, zero, suc, ◌+◌, ◌-◌, ◌*◌, ◌/◌, ◌%◌, ◌^◌, ◌==◌, ◌<◌, ◌≤◌, Bool, true, false, List, [], ◌∷◌, length}
use Rattle.std.proofs.Common.{refl, sym, ap, ◌∙◌, arith}
use Rattle.std.specs.Prelude.{slice_index, slice_index_or, drop}
use Rattle.std.proofs.Math.Nat.{zero-div, mul-add-div, mul-add-mod_self_left, div-eq_of_lt}
use Rattle.std.proofs.lemmas.Nat.{pow_pos, pow-add}
use Rattle.std.proofs.lemmas.List.{get_or-drop}
use Rattle.dis_file.specs.References.{marks}
use Rattle.dis_objects.specs.Objects.{bit, bits, bytes_of, map_of}

-- ---- a byte

doubles : (n : ℕ) → 2 ^ suc n ≡ 2 * 2 ^ n
doubles n = let e : suc n ≡ 1 + n = omega arith in ap (λ k. 2 ^ k) e ∙ pow-add 2 1 n

bits_below : (n : ℕ) (bs : List Bool) → bits n bs < 2 ^ n
bits_below zero bs = omega arith
bits_below (suc n) [] = pow_pos (suc n)
bits_below (suc n) (true ∷ bs) = let r = bits_below n bs in let p = doubles n in omega (arith, r, p)
bits_below (suc n) (false ∷ bs) = let r = bits_below n bs in let p = doubles n in omega (arith, r, p)

-- A bit above does nothing to one below.
above_parts : (b : Bool) (n j r : ℕ) → j ≤ n → ((bit b (suc n) + r) / 2 ^ (n - j)) % 2 ≡ (r / 2 ^ (n - j)) % 2
above_parts false n j r le = ap (λ x. (x / 2 ^ (n - j)) % 2) (omega arith)
above_parts true n j r le =
    let e : suc n ≡ (n - j) + suc j = omega (arith, le) in
    let p : 2 ^ suc n ≡ 2 ^ (n - j) * 2 ^ suc j = ap (λ k. 2 ^ k) e ∙ pow-add 2 (n - j) (suc j) in
    let q = doubles j in
    ap (λ x. ((x + r) / 2 ^ (n - j)) % 2) p
    ∙ ap (λ x. x % 2) (mul-add-div (pow_pos (n - j)) (2 ^ suc j) r)
    ∙ ap (λ x. (x + r / 2 ^ (n - j)) % 2) q
    ∙ mul-add-mod_self_left 2 (2 ^ j) (r / 2 ^ (n - j))

bit_at : (n i : ℕ) (bs : List Bool) → i ≤ n → ((bits (suc n) bs / 2 ^ (n - i)) % 2 == 1) ≡ slice_index_or bs i false
bit_at n i [] le = ap (λ x. x % 2 == 1) (zero-div (2 ^ (n - i))) ∙ none i
  where
    none : (i : ℕ) → false ≡ slice_index_or [] i false
    none zero = refl
    none (suc i) = refl
bit_at n zero (true ∷ bs) le =
    let z : n - 0 ≡ n = omega arith in
    let m : 2 ^ n + bits n bs ≡ 2 ^ n * 1 + bits n bs = omega arith in
    ap (λ k. ((2 ^ n + bits n bs) / 2 ^ k) % 2 == 1) z
    ∙ ap (λ x. (x / 2 ^ n) % 2 == 1) m
    ∙ ap (λ x. x % 2 == 1) (mul-add-div (pow_pos n) 1 (bits n bs))
    ∙ ap (λ x. (1 + x) % 2 == 1) (div-eq_of_lt (bits_below n bs))
bit_at n zero (false ∷ bs) le =
    let z : n - 0 ≡ n = omega arith in
    let m : 0 + bits n bs ≡ bits n bs = omega arith in
    ap (λ k. ((0 + bits n bs) / 2 ^ k) % 2 == 1) z
    ∙ ap (λ x. (x / 2 ^ n) % 2 == 1) m
    ∙ ap (λ x. x % 2 == 1) (div-eq_of_lt (bits_below n bs))
bit_at zero (suc i) (b ∷ bs) le = absurd (omega (arith, le))
bit_at (suc n) (suc i) (b ∷ bs) le =
    let z : suc n - suc i ≡ n - i = omega arith in
    ap (λ k. ((bit b (suc n) + bits (suc n) bs) / 2 ^ k) % 2 == 1) z
    ∙ ap (λ x. x == 1) (above_parts b n i (bits (suc n) bs) (omega (arith, le)))
    ∙ bit_at n i bs (omega (arith, le))

-- ---- the bytes

drop_none : (k : ℕ) → drop {A = Bool} k [] ≡ []
drop_none zero = refl
drop_none (suc k) = refl

none : (q : ℕ) → slice_index [] q ≡ 0
none zero = refl
none (suc q) = refl

drop_both : (a k : ℕ) (bs : List Bool) → drop k (drop a bs) ≡ drop (a + k) bs
drop_both zero k bs = ap (λ n. drop n bs) (omega arith)
drop_both (suc a) k [] = drop_none k ∙ sym (drop_none (suc a + k))
drop_both (suc a) k (b ∷ bs) = let e : suc a + k ≡ suc (a + k) = omega arith in drop_both a k bs ∙ ap (λ n. drop n (b ∷ bs)) (sym e)

drop_length : (a : ℕ) (bs : List Bool) → length (drop a bs) ≤ length bs - a
drop_length zero bs = omega arith
drop_length (suc a) [] = omega arith
drop_length (suc a) (b ∷ bs) = let h = drop_length a bs in omega (arith, h)

byte_at : (n q : ℕ) (bs : List Bool) → length bs ≤ n → slice_index (bytes_of n bs) q ≡ bits 8 (drop (8 * q) bs)
byte_at zero q [] le = none q ∙ ap (bits 8) (sym (drop_none (8 * q)))
byte_at (suc n) q [] le = none q ∙ ap (bits 8) (sym (drop_none (8 * q)))
byte_at zero q (b ∷ bs) le = absurd (omega (arith, le))
byte_at (suc n) zero (b ∷ bs) le = refl
byte_at (suc n) (suc q) (b ∷ bs) le =
    let e : 8 * suc q ≡ 8 + 8 * q = omega arith in
    byte_at n q (drop 8 (b ∷ bs)) (let l = drop_length 8 (b ∷ bs) in omega (arith, l, le))
    ∙ ap (bits 8) (drop_both 8 (8 * q) (b ∷ bs) ∙ ap (λ k. drop k (b ∷ bs)) (sym e))

pub marks_is : (bs : List Bool) (k : ℕ) → marks (map_of bs) k ≡ slice_index_or bs k false
marks_is bs k =
    let i = k % 8 in let q = k / 8 in
    let z : 8 * (k / 8) + k % 8 ≡ k = omega arith in
    ap (λ b. (b / 2 ^ (7 - k % 8)) % 2 == 1) (byte_at (length bs) (k / 8) bs (omega arith))
    ∙ bit_at 7 (k % 8) (drop (8 * (k / 8)) bs) (omega arith)
    ∙ get_or-drop (8 * (k / 8)) bs (k % 8) false
    ∙ ap (λ n. slice_index_or bs n false) z
