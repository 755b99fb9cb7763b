-- Bytes as strings are read as bytes are that may be ill-formed.
use Rattle.std.proofs.Common.{◌≡◌, ℕ, zero, suc, ◌-◌, ◌<◌, ◌≤◌, Bool, true, false, ◌&&◌, List, [], ◌∷◌, ◌++◌, length, drop, Option, None}
use Rattle.std.proofs.Common.{Some, refl, sym, ap, subst, ◌∙◌, arith, append-nil, eq-eqb}
use Rattle.std.proofs.lemmas.Bool.{eqb-true}
use Rattle.std.proofs.lemmas.Str.{chars-encodes, chars-append, IsUtf8-encode, length-le-encodes}
use Rattle.std.specs.Prelude.{chars, slice_get, encode_utf8, if◌then◌else◌, ◌==◌}
use Rattle.std.specs.Char.{IsScalar}
use Rattle.std.specs.Str.{all_scalars, StartsWithNoChar}
use lib.Utf8.{scalar}
use Rattle.inf_text.specs.Lossy.{ReadsLossy, Nothing, Character, BadByte}
use Rattle.limbo_bytes.specs.Bytes.{is_front, spelled, first_character, characters, BytesAreRead}

both : (x y : Bool) → (x && y) ≡ true → (x ≡ true) × (y ≡ true)
both true y e = (refl, e)
both false y e = absurd cc

front_of : (xs bs : List ℕ) → is_front xs bs ≡ true → bs ≡ xs ++ drop (length xs) bs
front_of [] bs e = refl
front_of (x ∷ xs) [] e = absurd cc
front_of (x ∷ xs) (b ∷ bs) e =
    let p = both (x == b) (is_front xs bs) e in
    let same = eqb-true x b p.0 in
    let rest = front_of xs bs p.1 in
    ap (λ y. y ∷ bs) (sym same) ∙ ap (λ ys. x ∷ ys) rest

is_its_front : (xs rest : List ℕ) → is_front xs (xs ++ rest) ≡ true
is_its_front [] rest = refl
is_its_front (x ∷ xs) rest = let e : (x == x) ≡ true = eq-eqb x x refl in rw e (is_its_front xs rest)

-- the first character that bytes would spell, where they begin with a spelling
first_is : (c : ℕ) (rest : List ℕ) → IsScalar c → slice_get (chars (encode_utf8 c ++ rest)) 0 ≡ Some c
first_is c rest s =
    let one : chars (encode_utf8 c) ≡ c ∷ [] =
    ap chars (sym (append-nil (encode_utf8 c))) ∙ chars-encodes (c ∷ []) (let z : (scalar c && true) ≡ true = rw s refl in z) in
    ap (λ cs. slice_get cs 0) (chars-append (encode_utf8 c) rest (IsUtf8-encode c s) ∙ ap (λ cs. cs ++ chars rest) one)

found : (c : ℕ) (rest : List ℕ) → IsScalar c → first_character (encode_utf8 c ++ rest) ≡ Some c
found c rest s =
    ap (spelled (encode_utf8 c ++ rest)) (first_is c rest s)
    ∙ ap (λ b. if b then Some c else None) (let z : ((scalar c && true) && is_front (encode_utf8 c) (encode_utf8 c ++ rest)) ≡ true =
    rw s (is_its_front (encode_utf8 c) rest) in z)

no_character : (bs : List ℕ) → first_character bs ≡ None → StartsWithNoChar bs
no_character bs e c rest s same = let z : None ≡ Some c = sym e ∙ (ap first_character same ∙ found c rest s) in absurd cc

-- what is found is there
pub record Begins (bs : List ℕ) (c : ℕ) : Type 0 where
  pub is_scalar : IsScalar c
  pub front : bs ≡ encode_utf8 c ++ drop (length (encode_utf8 c)) bs

begins : (bs : List ℕ) (o : Option ℕ) (c : ℕ) → spelled bs o ≡ Some c → Begins bs c
begins bs None c e = absurd cc
begins bs (Some d) c e = go (all_scalars (d ∷ []) && is_front (encode_utf8 d) bs) refl e
  where
    go : (b : Bool) → (all_scalars (d ∷ []) && is_front (encode_utf8 d) bs) ≡ b → (if b then Some d else None) ≡ Some c → Begins bs c
    go true f e =
        let p = both (all_scalars (d ∷ [])) (is_front (encode_utf8 d) bs) f in
        let q = both (scalar d) true p.0 in
        let same : d ≡ c = cc in
        subst (Begins bs) same (record { is_scalar = q.0; front = front_of (encode_utf8 d) bs p.1 })
    go false f e = absurd cc

skipped : (n : ℕ) (bs : List ℕ) → characters n bs ≡ characters 0 (drop n bs)
skipped zero bs = refl
skipped (suc n) [] = refl
skipped (suc n) (b ∷ bs) = skipped n bs

takes_bytes : (c : ℕ) → 0 < length (encode_utf8 c)
takes_bytes c = omega (arith, length-le-encodes (c ∷ []), ap length (append-nil (encode_utf8 c)))

shorter : (n : ℕ) (bs : List ℕ) → length (drop n bs) ≤ length bs
shorter zero bs = omega arith
shorter (suc n) [] = omega arith
shorter (suc n) (b ∷ bs) = let z = shorter n bs in omega arith

reads : (most : ℕ) (bs : List ℕ) → length bs ≤ most → ReadsLossy bs (characters 0 bs)
reads most [] l = Nothing
reads zero (b ∷ bs) l = absurd (omega (arith, l))
reads (suc most) (b ∷ bs) l = go (first_character (b ∷ bs)) refl (λ n. reads most (drop n bs) (let z = shorter n bs in omega (arith, z, l)))
  where
    go : (o : Option ℕ) → first_character (b ∷ bs) ≡ o → ((n : ℕ) → ReadsLossy (drop n bs) (characters 0 (drop n bs)))
        → ReadsLossy (b ∷ bs) (elim o [ None ↦ 65533 ∷ characters 0 bs | Some c ↦ c ∷ characters (length (encode_utf8 c) - 1) bs ])
    go None e rest = BadByte b bs (characters 0 bs) (no_character (b ∷ bs) e) (rest 0)
    go (Some c) e rest =
        let there = begins (b ∷ bs) (slice_get (chars (b ∷ bs)) 0) c e in
        behind (length (encode_utf8 c)) (takes_bytes c) refl there
      where
        behind : (k : ℕ) → 0 < k → length (encode_utf8 c) ≡ k → Begins (b ∷ bs) c
            → ReadsLossy (b ∷ bs) (c ∷ characters (length (encode_utf8 c) - 1) bs)
        behind zero p f there = absurd (omega (arith, p))
        behind (suc k) p f there =
            let text : characters (length (encode_utf8 c) - 1) bs ≡ characters 0 (drop k bs) =
            ap (λ n. characters n bs) (let z : length (encode_utf8 c) - 1 ≡ k = omega (arith, f) in z) ∙ skipped k bs in
            let front : b ∷ bs ≡ encode_utf8 c ++ drop k bs =
            there.front ∙ ap (λ n. encode_utf8 c ++ drop n (b ∷ bs)) f in
            subst (λ bytes. ReadsLossy bytes (c ∷ characters (length (encode_utf8 c) - 1) bs)) (sym front)
            (subst (λ cs. ReadsLossy (encode_utf8 c ++ drop k bs) (c ∷ cs)) (sym text)
            (Character c (drop k bs) (characters 0 (drop k bs)) there.is_scalar (rest k)))

pub bytes_are_read : BytesAreRead
bytes_are_read bs = reads (length bs) bs (omega arith)
