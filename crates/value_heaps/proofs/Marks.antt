-- The map of a type for values says which words are references: those at the offsets of its room.
use Rattle.std.proofs.Common.{◌≡◌, ℕ, zero, suc, ◌+◌, ◌-◌, ◌*◌, ◌/◌, ◌%◌, ◌^◌, ◌==◌, ◌<◌, ◌≤◌, Bool, true, false, List, [], ◌∷◌, length}
use Rattle.std.proofs.Common.{refl, sym, ap, ◌∙◌, arith, subst, inl, inr, map, ◌||◌, if◌then◌else◌, Some}
use Rattle.std.specs.Prelude.{slice_index, slice_index_or, drop}
use Rattle.std.proofs.Math.Nat.{zero-div, mul-add-div, mul-add-mod_self_left, div-eq_of_lt}
use Rattle.std.proofs.lemmas.Nat.{pow_pos, pow-add}
use Rattle.std.specs.Int.{next_multiple_of}
use Rattle.std.proofs.lemmas.Bool.Decides.{eqb_tells, leb_tells}
use Rattle.std.proofs.lemmas.List.FromFn.{get_or-map-range_with_len, length-map-range_with_len}
use Rattle.std.proofs.lemmas.List.{get_or_past}
use Rattle.std.proofs.lemmas.List.{get_or-drop}
use Rattle.dis_file.specs.References.{marks}
use Rattle.limbo_types.specs.Types as ty
use Rattle.limbo_types.specs.Types.{Ty}
use Rattle.limbo_layout.specs.Adts.{Def, Has, parts, listed}
use Rattle.limbo_layout.specs.Layout as layout
use Rattle.limbo_layout.specs.Layout.{Room, Laid, AllLaid, is_alone, none_laid, more_laid, alone, nothing, number, reference, behind}
use Rattle.limbo_layout.specs.Layout.{all_behind, in_order, is_in, map_of, words}
use Rattle.limbo_layout.proofs.Rooms.{has_cases}
use Rattle.limbo_layout.proofs.Placed.{whole_aligned}
use Rattle.value_words.proofs.Aligned.{IsPower, laid_power, stays_aligned, suits}
use Rattle.value_words.proofs.Blank.{mapped, laid_within}
use Rattle.std.specs.List.{list_any}
use Rattle.value_heaps.specs.Types.{bit, bits, bytes, map_bytes, desc_of}

-- ---- a byte

doubles : (n : ℕ) → 2 ^ suc n ≡ 2 * 2 ^ n
doubles n = let e : suc n ≡ 1 + n = omega arith in ap (λ k. 2 ^ k) e ∙ pow-add 2 1 n

bits_below : (n : ℕ) (bs : List Bool) → bits n bs < 2 ^ n
bits_below zero bs = omega arith
bits_below (suc n) [] = pow_pos (suc n)
bits_below (suc n) (true ∷ bs) = let r = bits_below n bs in let p = doubles n in omega (arith, r, p)
bits_below (suc n) (false ∷ bs) = let r = bits_below n bs in let p = doubles n in omega (arith, r, p)

-- A bit above does nothing to one below.
above_parts : (b : Bool) (n j r : ℕ) → j ≤ n → ((bit b (suc n) + r) / 2 ^ (n - j)) % 2 ≡ (r / 2 ^ (n - j)) % 2
above_parts false n j r le = ap (λ x. (x / 2 ^ (n - j)) % 2) (omega arith)
above_parts true n j r le =
    let e : suc n ≡ (n - j) + suc j = omega (arith, le) in
    let p : 2 ^ suc n ≡ 2 ^ (n - j) * 2 ^ suc j = ap (λ k. 2 ^ k) e ∙ pow-add 2 (n - j) (suc j) in
    let q = doubles j in
    ap (λ x. ((x + r) / 2 ^ (n - j)) % 2) p
    ∙ ap (λ x. x % 2) (mul-add-div (pow_pos (n - j)) (2 ^ suc j) r)
    ∙ ap (λ x. (x + r / 2 ^ (n - j)) % 2) q
    ∙ mul-add-mod_self_left 2 (2 ^ j) (r / 2 ^ (n - j))

bit_at : (n i : ℕ) (bs : List Bool) → i ≤ n → ((bits (suc n) bs / 2 ^ (n - i)) % 2 == 1) ≡ slice_index_or bs i false
bit_at n i [] le = ap (λ x. x % 2 == 1) (zero-div (2 ^ (n - i))) ∙ none i
  where
    none : (i : ℕ) → false ≡ slice_index_or [] i false
    none zero = refl
    none (suc i) = refl
bit_at n zero (true ∷ bs) le =
    let z : n - 0 ≡ n = omega arith in
    let m : 2 ^ n + bits n bs ≡ 2 ^ n * 1 + bits n bs = omega arith in
    ap (λ k. ((2 ^ n + bits n bs) / 2 ^ k) % 2 == 1) z
    ∙ ap (λ x. (x / 2 ^ n) % 2 == 1) m
    ∙ ap (λ x. x % 2 == 1) (mul-add-div (pow_pos n) 1 (bits n bs))
    ∙ ap (λ x. (1 + x) % 2 == 1) (div-eq_of_lt (bits_below n bs))
bit_at n zero (false ∷ bs) le =
    let z : n - 0 ≡ n = omega arith in
    let m : 0 + bits n bs ≡ bits n bs = omega arith in
    ap (λ k. ((0 + bits n bs) / 2 ^ k) % 2 == 1) z
    ∙ ap (λ x. (x / 2 ^ n) % 2 == 1) m
    ∙ ap (λ x. x % 2 == 1) (div-eq_of_lt (bits_below n bs))
bit_at zero (suc i) (b ∷ bs) le = absurd (omega (arith, le))
bit_at (suc n) (suc i) (b ∷ bs) le =
    let z : suc n - suc i ≡ n - i = omega arith in
    ap (λ k. ((bit b (suc n) + bits (suc n) bs) / 2 ^ k) % 2 == 1) z
    ∙ ap (λ x. x == 1) (above_parts b n i (bits (suc n) bs) (omega (arith, le)))
    ∙ bit_at n i bs (omega (arith, le))

-- ---- the bytes

drop_none : (k : ℕ) → drop {A = Bool} k [] ≡ []
drop_none zero = refl
drop_none (suc k) = refl

none : (q : ℕ) → slice_index [] q ≡ 0
none zero = refl
none (suc q) = refl

drop_both : (a k : ℕ) (bs : List Bool) → drop k (drop a bs) ≡ drop (a + k) bs
drop_both zero k bs = ap (λ n. drop n bs) (omega arith)
drop_both (suc a) k [] = drop_none k ∙ sym (drop_none (suc a + k))
drop_both (suc a) k (b ∷ bs) = let e : suc a + k ≡ suc (a + k) = omega arith in drop_both a k bs ∙ ap (λ n. drop n (b ∷ bs)) (sym e)

drop_length : (a : ℕ) (bs : List Bool) → length (drop a bs) ≤ length bs - a
drop_length zero bs = omega arith
drop_length (suc a) [] = omega arith
drop_length (suc a) (b ∷ bs) = let h = drop_length a bs in omega (arith, h)

byte_at : (n q : ℕ) (bs : List Bool) → length bs ≤ n → slice_index (bytes n bs) q ≡ bits 8 (drop (8 * q) bs)
byte_at zero q [] le = none q ∙ ap (bits 8) (sym (drop_none (8 * q)))
byte_at (suc n) q [] le = none q ∙ ap (bits 8) (sym (drop_none (8 * q)))
byte_at zero q (b ∷ bs) le = absurd (omega (arith, le))
byte_at (suc n) zero (b ∷ bs) le = refl
byte_at (suc n) (suc q) (b ∷ bs) le =
    let e : 8 * suc q ≡ 8 + 8 * q = omega arith in
    byte_at n q (drop 8 (b ∷ bs)) (let l = drop_length 8 (b ∷ bs) in omega (arith, l, le))
    ∙ ap (bits 8) (drop_both 8 (8 * q) (b ∷ bs) ∙ ap (λ k. drop k (b ∷ bs)) (sym e))

all_marked : (bs : List Bool) (k : ℕ) → marks (bytes (length bs) bs) k ≡ slice_index_or bs k false
all_marked bs k =
    let i = k % 8 in let q = k / 8 in
    let z : 8 * (k / 8) + k % 8 ≡ k = omega arith in
    ap (λ b. (b / 2 ^ (7 - k % 8)) % 2 == 1) (byte_at (length bs) (k / 8) bs (omega arith))
    ∙ bit_at 7 (k % 8) (drop (8 * (k / 8)) bs) (omega arith)
    ∙ get_or-drop (8 * (k / 8)) bs (k % 8) false
    ∙ ap (λ n. slice_index_or bs n false) z

none_marked : (k : ℕ) → marks [] k ≡ false
none_marked k = ap (λ b. (b / 2 ^ (7 - k % 8)) % 2 == 1) (none (k / 8)) ∙ ap (λ b. b % 2 == 1) (zero-div (2 ^ (7 - k % 8)))

none_set : (bs : List Bool) (k : ℕ) → list_any (λ b. b) bs ≡ false → slice_index_or bs k false ≡ false
none_set [] zero e = refl
none_set [] (suc k) e = refl
none_set (true ∷ bs) k e = absurd cc
none_set (false ∷ bs) zero e = refl
none_set (false ∷ bs) (suc k) e = none_set bs k e

pub marks_is : (bs : List Bool) (k : ℕ) → marks (map_bytes bs) k ≡ slice_index_or bs k false
marks_is bs k = go (list_any (λ b. b) bs) refl
  where
    go : (some : Bool) → list_any (λ b. b) bs ≡ some → marks (if some then bytes (length bs) bs else []) k ≡ slice_index_or bs k false
    go true e = all_marked bs k
    go false e = none_marked k ∙ sym (none_set bs k e)

-- ---- the offsets

-- Words that refer lie at multiples of 4, in a room that lies at one.
abbrev AreEven : Room → Type 0
AreEven r = (p : ℕ) → Has r.references p → (p % 4 ≡ 0) × (4 ≤ r.align)

alone_even : (t : Ty) (r : Room) → alone t ≡ Some r → AreEven r
alone_even (ty.Tuple ts) r e = absurd cc
alone_even (ty.Adt n) r e = absurd cc
alone_even ty.Byte r e = let f : number 1 ≡ r = cc in subst AreEven f (λ p h. absurd h)
alone_even ty.Int r e = let f : number 4 ≡ r = cc in subst AreEven f (λ p h. absurd h)
alone_even ty.Big r e = let f : number 8 ≡ r = cc in subst AreEven f (λ p h. absurd h)
alone_even ty.Nothing r e = let f : nothing ≡ r = cc in subst AreEven f (λ p h. absurd h)
alone_even _ r e = let f : reference ≡ r = cc in subst AreEven f at_first
  where
    at_first : AreEven reference
    at_first p (inl e) = (ap (λ n. n % 4) (sym e), omega arith)
    at_first p (inr h) = absurd h

behind_even : (w r : Room) → IsPower r.align → next_multiple_of w.size r.align % r.align ≡ 0 → AreEven w → AreEven r → AreEven (behind w r)
behind_even w r a s h k p i = elim (has_cases w.references (map (λ o. next_multiple_of w.size r.align + o) r.references) p i) [
  | inl j ↦ let l = h p j in (l.0, let m = l.1 in omega arith)
  | inr j ↦
      let m = mapped (λ o. next_multiple_of w.size r.align + o) r.references p j in
      let l = k m.0 m.1 in
      let four : IsPower 4 = inr (inl refl) in (
        ap (λ n. n % 4) (sym m.2) ∙ stays_aligned (next_multiple_of w.size r.align) m.0 4 r.align four a l.1 s l.0,
        let b = l.1 in omega arith,
      )
]

alone_size : (t : Ty) (r : Room) → alone t ≡ Some r → r.size % r.align ≡ 0
alone_size (ty.Tuple ts) r e = absurd cc
alone_size (ty.Adt n) r e = absurd cc
alone_size ty.Byte r e = let f : number 1 ≡ r = cc in subst (λ (z : Room). z.size % z.align ≡ 0) f refl
alone_size ty.Int r e = let f : number 4 ≡ r = cc in subst (λ (z : Room). z.size % z.align ≡ 0) f refl
alone_size ty.Big r e = let f : number 8 ≡ r = cc in subst (λ (z : Room). z.size % z.align ≡ 0) f refl
alone_size ty.Nothing r e = let f : nothing ≡ r = cc in subst (λ (z : Room). z.size % z.align ≡ 0) f refl
alone_size _ r e = let f : reference ≡ r = cc in subst (λ (z : Room). z.size % z.align ≡ 0) f refl

module _ (defs : List Def) where
  mutual
    laid_even : (t : Ty) (r : Room) → Laid defs t r → AreEven r
    laid_even _ _ (is_alone t r e) = alone_even t r e
    laid_even _ _ (layout.of_tuple ts rs l) = all_even nothing (listed ts) rs (λ q i. absurd i) l
    laid_even _ _ (layout.of_adt n d rs e l) = all_even nothing (parts d) rs (λ q i. absurd i) l

    pub all_even : (w : Room) (ts : List Ty) (rs : List Room) → AreEven w → AllLaid defs ts rs → AreEven (all_behind w rs)
    all_even w _ _ h none_laid = h
    all_even w _ _ h (more_laid t ts r rs l ls) =
        all_even (behind w r) ts rs
        (behind_even w r (laid_power defs t r l) (suits defs w t ts r rs (more_laid t ts r rs l ls)) h (laid_even t r l)) ls

  -- A room takes a multiple of its alignment.
  pub laid_size : (t : Ty) (r : Room) → Laid defs t r → r.size % r.align ≡ 0
  laid_size _ _ (is_alone t r e) = alone_size t r e
  laid_size _ _ (layout.of_tuple ts rs l) = whole_aligned rs
  laid_size _ _ (layout.of_adt n d rs e l) = whole_aligned rs

  -- where something refers, whole words
  pub whole_words : (t : Ty) (r : Room) (o : ℕ) → Laid defs t r → Has r.references o → r.size % 4 ≡ 0
  whole_words t r o l h =
      let four : IsPower 4 = inr (inl refl) in
      let a = stays_aligned r.size 0 4 r.align four (laid_power defs t r l) (laid_even t r l o h).1 (laid_size t r l) refl in
      omega arith

  -- the offset of a word that refers
  pub at_word : (t : Ty) (r : Room) (o : ℕ) → Laid defs t r → Has r.references o → o % 4 ≡ 0
  at_word t r o l h = (laid_even t r l o h).0

-- ---- the words at the offsets

pub among : (n : ℕ) (ms : List ℕ) → is_in n ms ≡ true → Has ms n
among n [] e = absurd cc
among n (m ∷ ms) e = elim (eqb_tells m n) [
  | inl y ↦ inl y.1
  | inr y ↦ inr (among n ms (sym (ap (λ b. b || is_in n ms) y.0) ∙ e))
]

pub is_among : (n : ℕ) (ms : List ℕ) → Has ms n → is_in n ms ≡ true
is_among n [] h = absurd h
is_among n (m ∷ ms) h = elim (eqb_tells m n) [
  | inl y ↦ ap (λ b. b || is_in n ms) y.0
  | inr y ↦ elim h [
    | inl e ↦ absurd (y.1 e)
    | inr i ↦ ap (λ b. b || is_in n ms) y.0 ∙ is_among n ms i
  ]
]

same_word : (m w : ℕ) → m % 4 ≡ 0 → (m / 4 == w) ≡ (m == 4 * w)
same_word m w e = elim (eqb_tells (m / 4) w) [
  | inl x ↦ elim (eqb_tells m (4 * w)) [
    | inl y ↦ x.0 ∙ sym y.0
    | inr y ↦ absurd (y.1 (let f = x.1 in omega arith))
  ]
  | inr x ↦ elim (eqb_tells m (4 * w)) [
    | inl y ↦ absurd (x.1 (let f = y.1 in omega arith))
    | inr y ↦ x.0 ∙ sym y.0
  ]
]

by_words : (w : ℕ) (os : List ℕ) → ((o : ℕ) → Has os o → o % 4 ≡ 0) → is_in w (map (λ o. o / 4) os) ≡ is_in (4 * w) os
by_words w [] h = refl
by_words w (o ∷ os) h =
    ap (λ b. b || is_in w (map (λ o. o / 4) os)) (same_word o w (h o (inl refl)))
    ∙ ap (λ b. (o == 4 * w) || b) (by_words w os (λ p i. h p (inr i)))

not_true : (b : Bool) → (b ≡ true → ⊥) → b ≡ false
not_true true h = absurd (h refl)
not_true false h = refl

pub marks_at : (defs : List Def) (t : Ty) (r : Room) (w : ℕ) → Laid defs t r → marks (desc_of r).map w ≡ is_in (4 * w) r.references
marks_at defs t r w l = marks_is (map_of r) w ∙ elim (leb_tells (words r.size) w) [
  | inl y ↦
      let long = length-map-range_with_len marked 0 (words r.size) in
      let past = y.1 in
      get_or_past (map_of r) w false (omega (arith, long, past)) ∙ sym (not_true (is_in (4 * w) r.references)
      (λ e. let i = laid_within defs t r l (4 * w) (among (4 * w) r.references e) in omega (arith, i, past)))
  | inr y ↦
      get_or-map-range_with_len marked 0 (words r.size) w w false y.1 (omega arith)
      ∙ by_words w r.references (λ o h. at_word defs t r o l h)
]
  where
    marked : ℕ → Bool
    marked w = is_in w (map (λ o. o / 4) r.references)
