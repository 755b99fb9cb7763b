-- Which parts of an object some bytes spell.
use Rattle.std.proofs.Common.{◌≡◌, ℕ, ◌*◌, ◌^◌, ◌<◌, pos, true, List, [], ◌∷◌, ◌++◌, refl, inr}
use Rattle.std.specs.Prelude.{encode_utf8_all}
use Rattle.std.specs.List.{flat_map}
use Rattle.std.specs.Str.{all_scalars}
use Rattle.std.proofs.lemmas.Bool.{lt-ltb}
use Rattle.byteorder.specs.Endian.{big_bytes}
use Rattle.dis_format.specs.Operands.{four_bytes, fits_form, form_bytes, within}
use Rattle.dis_format.specs.Parts.{Part, byte, below, word, number, item, utf8, name, raw, natural, no_zero, IsPart, AreParts}

-- A part whose numbers fit their fields, and whose characters can be there.
abbrev pub Can : Part → Type 0
Can (byte b) = Unit {0}
Can (below limit b) = b < limit
Can (word n) = n < 2 ^ 32
Can (number range n) = (within range n ≡ true) × (fits_form four_bytes n ≡ true)
Can (item kind count) = (kind < 16) × (fits_form four_bytes (pos count) ≡ true)
Can (utf8 cs) = all_scalars cs ≡ true
Can (name cs) = (all_scalars cs ≡ true) × (no_zero cs ≡ true)
Can (raw own) = Unit {0}

abbrev pub AllCan : List Part → Type 0
AllCan [] = Unit {0}
AllCan (p ∷ ps) = Can p × AllCan ps

part_spelled : (p : Part) → Can p → (bytes : List ℕ) × IsPart p bytes
part_spelled (byte b) h = (b ∷ [], refl)
part_spelled (below limit b) h = (b ∷ [], (h, refl))
part_spelled (word n) h = (big_bytes 4 n, (h, refl))
part_spelled (number range n) h = (form_bytes four_bytes n, (four_bytes, (h.0, h.1, refl)))
part_spelled (item kind count) h = ((16 * kind) ∷ form_bytes four_bytes (pos count), (h.0, inr (four_bytes, (h.1, refl))))
part_spelled (utf8 cs) h = (encode_utf8_all cs, (h, refl))
part_spelled (name cs) h = (encode_utf8_all cs ++ 0 ∷ [], (h.0, h.1, refl))
part_spelled (raw own) h = (own, refl)

-- Bytes spell such parts.
pub parts_spelled : (ps : List Part) → AllCan ps → (bytes : List ℕ) × AreParts ps bytes
parts_spelled [] h = ([], refl)
parts_spelled (p ∷ ps) h =
    let a = part_spelled p h.0 in
    let r = parts_spelled ps h.1 in
    (a.0 ++ r.0, (a.0, (r.0, (a.1, r.1, refl))))

pub can_both : (a b : List Part) → AllCan a → AllCan b → AllCan (a ++ b)
can_both [] b x y = y
can_both (p ∷ a) b x y = (x.0, can_both a b x.1 y)

-- What each gives can be spelled.
abbrev pub Each : {A : Type 0} → (A → Type 0) → List A → Type 0
Each P [] = Unit {0}
Each P (x ∷ xs) = P x × Each P xs

pub flat_can : {A : Type 0} (parts : A → List Part) (xs : List A) → Each (λ x. AllCan (parts x)) xs → AllCan (flat_map parts xs)
flat_can parts [] h = tt
flat_can parts (x ∷ xs) h = can_both (parts x) (flat_map parts xs) h.0 (flat_can parts xs h.1)

pub each_both : {A : Type 0} (P : A → Type 0) (xs ys : List A) → Each P xs → Each P ys → Each P (xs ++ ys)
each_both P [] ys x y = y
each_both P (a ∷ xs) ys x y = (x.0, each_both P xs ys x.1 y)

-- ---- numbers

-- A number of at most 29 bits.
pub natural_can : (n : ℕ) → n < 536870912 → Can (natural n)
natural_can n h = (refl, lt-ltb n 536870912 h)
