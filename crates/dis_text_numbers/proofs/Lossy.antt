-- Bytes that may be ill-formed are read in one way.
use Rattle.std.proofs.Common.{◌≡◌, ℕ, ◌-◌, ◌<◌, Bool, true, false, ◌&&◌, List, [], ◌∷◌, ◌++◌, length, drop, Option, None, Some, refl, sym, ap, ◌∙◌, arith, append-nil, eq-eqb}
use Rattle.std.proofs.lemmas.Bool.{eqb-true}
use Rattle.std.proofs.lemmas.Str.{chars-encodes, chars-append, IsUtf8-encode, length-le-encodes}
use Rattle.std.specs.Prelude.{chars, slice_get, encode_utf8, if◌then◌else◌, ◌==◌}
use Rattle.std.specs.Char.{IsScalar}
use Rattle.std.specs.Str.{all_scalars, StartsWithNoChar}
use lib.Utf8.{scalar}
use Rattle.inf_text.specs.Lossy.{ReadsLossy, Nothing, Character, BadByte}
use Rattle.limbo_bytes.specs.Bytes.{is_front, spelled, first_character, characters}

both : (x y : Bool) → (x && y) ≡ true → (x ≡ true) × (y ≡ true)
both true y e = (refl, e)
both false y e = absurd cc

front_of : (xs bs : List ℕ) → is_front xs bs ≡ true → bs ≡ xs ++ drop (length xs) bs
front_of [] bs e = refl
front_of (x ∷ xs) [] e = absurd cc
front_of (x ∷ xs) (b ∷ bs) e =
    let p = both (x == b) (is_front xs bs) e in
    let same = eqb-true x b p.0 in
    let rest = front_of xs bs p.1 in
    ap (λ y. y ∷ bs) (sym same) ∙ ap (λ ys. x ∷ ys) rest

is_its_front : (xs rest : List ℕ) → is_front xs (xs ++ rest) ≡ true
is_its_front [] rest = refl
is_its_front (x ∷ xs) rest = let e : (x == x) ≡ true = eq-eqb x x refl in rw e (is_its_front xs rest)

-- The first character that bytes would spell, where they begin with a spelling.
first_is : (c : ℕ) (rest : List ℕ) → IsScalar c → slice_get (chars (encode_utf8 c ++ rest)) 0 ≡ Some c
first_is c rest s =
    let one : chars (encode_utf8 c) ≡ c ∷ [] =
    ap chars (sym (append-nil (encode_utf8 c))) ∙ chars-encodes (c ∷ []) (let z : (scalar c && true) ≡ true = rw s refl in z) in
    ap (λ cs. slice_get cs 0) (chars-append (encode_utf8 c) rest (IsUtf8-encode c s) ∙ ap (λ cs. cs ++ chars rest) one)

found : (c : ℕ) (rest : List ℕ) → IsScalar c → first_character (encode_utf8 c ++ rest) ≡ Some c
found c rest s =
    ap (spelled (encode_utf8 c ++ rest)) (first_is c rest s)
    ∙ ap (λ b. if b then Some c else None) (let z : ((scalar c && true) && is_front (encode_utf8 c) (encode_utf8 c ++ rest)) ≡ true =
    rw s (is_its_front (encode_utf8 c) rest) in z)

-- What is found is there.
none_found : (bs : List ℕ) (o : Option ℕ) → StartsWithNoChar bs → spelled bs o ≡ None
none_found bs None none = refl
none_found bs (Some d) none = go (all_scalars (d ∷ []) && is_front (encode_utf8 d) bs) refl
  where
    go : (b : Bool) → (all_scalars (d ∷ []) && is_front (encode_utf8 d) bs) ≡ b → (if b then Some d else None) ≡ None
    go true f =
        let p = both (all_scalars (d ∷ [])) (is_front (encode_utf8 d) bs) f in
        let q = both (scalar d) true p.0 in
        absurd (none d (drop (length (encode_utf8 d)) bs) q.0 (front_of (encode_utf8 d) bs p.1))
    go false f = refl

skipped : (xs bs : List ℕ) → characters (length xs) (xs ++ bs) ≡ characters 0 bs
skipped [] bs = refl
skipped (x ∷ xs) bs = skipped xs bs

takes_bytes : (c : ℕ) → 0 < length (encode_utf8 c)
takes_bytes c = omega (arith, length-le-encodes (c ∷ []), ap length (append-nil (encode_utf8 c)))

character_read : (c : ℕ) (rest spelling : List ℕ) → encode_utf8 c ≡ spelling → 0 < length spelling → first_character (spelling ++ rest) ≡ Some c →
    characters 0 (spelling ++ rest) ≡ c ∷ characters 0 rest
character_read c rest [] e some first = absurd (omega (arith, some))
character_read c rest (b ∷ bs) e some first =
    ap (λ o. elim o [ None ↦ 65533 ∷ characters 0 (bs ++ rest) | Some c ↦ c ∷ characters (length (encode_utf8 c) - 1) (bs ++ rest) ]) first
    ∙ ap (λ n. c ∷ characters n (bs ++ rest)) (let z : length (encode_utf8 c) - 1 ≡ length bs = omega (arith, ap length e) in z)
    ∙ ap (λ cs. c ∷ cs) (skipped bs rest)

-- What they are read as.
pub read_once : (bs text : List ℕ) → ReadsLossy bs text → text ≡ characters 0 bs
read_once _ _ Nothing = refl
read_once _ _ (Character c rest text s more) =
    ap (λ cs. c ∷ cs) (read_once rest text more) ∙ sym (character_read c rest (encode_utf8 c) refl (takes_bytes c) (found c rest s))
read_once _ _ (BadByte b rest text none more) =
    ap (λ cs. 65533 ∷ cs) (read_once rest text more)
    ∙ sym (ap (λ o. elim o [ None ↦ 65533 ∷ characters 0 rest | Some c ↦ c ∷ characters (length (encode_utf8 c) - 1) rest ])
    (none_found (b ∷ rest) (slice_get (chars (b ∷ rest)) 0) none))
