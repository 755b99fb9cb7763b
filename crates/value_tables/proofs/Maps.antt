-- The bytes of a map, one at a time.
use Rattle.std.proofs.Common.{◌≡◌, ℕ, zero, suc, ◌+◌, ◌-◌, ◌*◌, ◌<◌, ◌≤◌, Bool, true, false, List, [], ◌∷◌, ◌++◌, length, take, drop, refl}
use Rattle.std.proofs.Common.{sym, ap, ◌∙◌, arith, append_assoc, if◌then◌else◌}
use Rattle.std.specs.Prelude.{slice_index_or}
use Rattle.std.proofs.lemmas.List.{length-drop, drop-drop}
use Rattle.value_heaps.specs.Types.{bit, bits, bytes}

-- The bytes of a map.
abbrev pub map_all : List Bool → List ℕ
map_all bs = bytes (length bs) bs

weighs : (b : Bool) (n w : ℕ) → bit true n ≡ w → bit b n ≡ (if b then w else 0)
weighs true n w e = e
weighs false n w e = refl

-- A mark at a place, by its weight.
abbrev pub mark : List Bool → ℕ → ℕ → ℕ
mark bs k w = if slice_index_or bs k false then w else 0

none : (n : ℕ) → bits n [] ≡ 0
none zero = refl
none (suc n) = refl

more : (n w : ℕ) (bs : List Bool) → bit true n ≡ w → bits (suc n) bs ≡ mark bs 0 w + bits n (drop 1 bs)
more n w [] e = let z = none n in omega (arith, z)
more n w (b ∷ bs) e = ap (λ x. x + bits n bs) (weighs b n w e)

-- The byte of the marks from a place on begins with the mark there.
at : (j n w : ℕ) (bs : List Bool) → bit true n ≡ w → bits (suc n) (drop j bs) ≡ mark bs j w + bits n (drop (suc j) bs)
at zero n w bs e = more n w bs e
at (suc j) n w [] e = let z = none n in omega (arith, z)
at (suc j) n w (b ∷ bs) e = at j n w bs e

summed : (b8 b7 b6 b5 b4 b3 b2 b1 m0 m1 m2 m3 m4 m5 m6 m7 : ℕ) → b8 ≡ m0 + b7 → b7 ≡ m1 + b6 → b6 ≡ m2 + b5 → b5 ≡ m3 + b4 → b4 ≡ m4 + b3 →
    b3 ≡ m5 + b2 → b2 ≡ m6 + b1 → b1 ≡ m7 + 0 →
    b8 ≡ (m0 + m1) + (m2 + m3) + (m4 + m5) + (m6 + m7)
summed b8 b7 b6 b5 b4 b3 b2 b1 m0 m1 m2 m3 m4 m5 m6 m7 e0 e1 e2 e3 e4 e5 e6 e7 = omega arith

-- A byte by its marks.
pub byte_is : (bs : List Bool) → bits 8 bs ≡ (mark bs 0 128 + mark bs 1 64) + (mark bs 2 32 + mark bs 3 16) + (mark bs 4 8 + mark bs 5 4) +
    (mark bs 6 2 + mark bs 7 1)
byte_is bs =
    summed _ _ _ _ _ _ _ _ _ _ _ _ _ _ _ _ (at 0 7 128 bs refl) (at 1 6 64 bs refl) (at 2 5 32 bs refl) (at 3 4 16 bs refl)
    (at 4 3 8 bs refl) (at 5 2 4 bs refl) (at 6 1 2 bs refl) (at 7 0 1 bs refl)

shorter : (b : Bool) (bs : List Bool) (n : ℕ) → length bs ≤ n → length (drop 8 (b ∷ bs)) ≤ n
shorter b bs n le = omega (arith, length-drop 8 (b ∷ bs))

enough : (n m : ℕ) (bs : List Bool) → length bs ≤ n → length bs ≤ m → bytes n bs ≡ bytes m bs
enough zero zero [] h g = refl
enough zero (suc m) [] h g = refl
enough (suc n) zero [] h g = refl
enough (suc n) (suc m) [] h g = refl
enough zero m (b ∷ bs) h g = absurd (omega (arith, h))
enough (suc n) zero (b ∷ bs) h g = absurd (omega (arith, g))
enough (suc n) (suc m) (b ∷ bs) h g = ap (λ xs. bits 8 (b ∷ bs) ∷ xs)
    (enough n m (drop 8 (b ∷ bs)) (shorter b bs n (omega (arith, h))) (shorter b bs m (omega (arith, g))))

-- A map's first byte, and the map of the rest.
pub map_all-first : (bs : List Bool) → 0 < length bs → map_all bs ≡ bits 8 bs ∷ map_all (drop 8 bs)
map_all-first [] h = absurd (omega (arith, h))
map_all-first (b ∷ bs) h = ap (λ xs. bits 8 (b ∷ bs) ∷ xs) (enough (length bs) (length (drop 8 (b ∷ bs))) (drop 8 (b ∷ bs))
    (shorter b bs (length bs) (omega arith)) (omega arith))

-- ---- a map, byte by byte

-- The marks from a place on, as a range of them.
from_range : {A : Type 0} (n : ℕ) (xs : List A) → length xs ≤ n → take n xs ≡ xs
from_range zero [] h = refl
from_range (suc n) [] h = refl
from_range zero (x ∷ xs) h = absurd (omega (arith, h))
from_range (suc n) (x ∷ xs) h = ap (λ ys. x ∷ ys) (from_range n xs (omega (arith, h)))

pub range_is : (n : ℕ) (marks : List Bool) → take (length marks - n) (drop n marks) ≡ drop n marks
range_is n marks = from_range (length marks - n) (drop n marks) (let l = length-drop n marks in omega (arith, l))

pub next_byte : (made whole : List ℕ) (marks : List Bool) (n : ℕ) → 8 * n < length marks → made ++ map_all (drop (8 * n) marks) ≡ whole →
    (made ++ bits 8 (drop (8 * n) marks) ∷ []) ++ map_all (drop (8 * (n + 1)) marks) ≡ whole
next_byte made whole marks n lt e =
    let some : 0 < length (drop (8 * n) marks) = omega (arith, length-drop (8 * n) marks, lt) in
    let on : 8 * n + 8 ≡ 8 * (n + 1) = omega arith in
    let rest : map_all (drop (8 * (n + 1)) marks) ≡ map_all (drop 8 (drop (8 * n) marks)) = ap (λ k. map_all (drop k marks)) (sym on)
    ∙ ap map_all (sym (drop-drop 8 (8 * n) marks)) in
    append_assoc made (bits 8 (drop (8 * n) marks) ∷ []) (map_all (drop (8 * (n + 1)) marks))
    ∙ ap (λ xs. made ++ bits 8 (drop (8 * n) marks) ∷ xs) rest
    ∙ ap (λ xs. made ++ xs) (sym (map_all-first (drop (8 * n) marks) some))
    ∙ e
