-- Numbers that were moved by whole words, and the places of parameters.
use Rattle.std.proofs.Common.{◌≡◌, ℕ, zero, suc, ◌+◌, ◌<◌, ◌≤◌, ℤ, pos, ◌%◌, ◌/◌, ◌*◌, Bool, true, false, List, [], ◌∷◌, length, Option}
use Rattle.std.proofs.Common.{Some, None, refl, sym, ap, ◌∙◌, subst, arith, if◌then◌else◌}
use Rattle.std.specs.Prelude.{◌==◌, slice_get, slice_index, take}
use Rattle.limbo_values.specs.declared.number.Kind.{Kind}
use Rattle.limbo_values.specs.declared.number.Kind.TheVariants.{Byte, Int, Big}
use Rattle.slot_code.specs.Layout.{number_size, size_of, place_for, place_in, end_of}
use Rattle.dis_meaning.specs.Words.{Word, Access, Found, Wrong, ◌>>=◌, type_check, or_wrong, number_in}
use Rattle.dis_meaning.specs.Numbers.{bytes_of, joined, number_at}
use Rattle.dis_follows.proofs.Places.{in_least, end_least}

-- ---- a number so many bytes behind a word

abbrev found_at : Kind → List Word → (a o : ℕ) → Access ℤ
found_at Byte ws a o = (or_wrong type_check (slice_get ws (a + o / 4)) >>= number_in) >>= λ z.
    Found (pos (slice_index (bytes_of z) (o % 4)))
found_at Int ws a o = ((if o % 4 == 0 then Found (a + o / 4) else Wrong type_check) >>= λ k.
    or_wrong type_check (slice_get ws k)) >>= number_in
found_at Big ws a o =
    (if o % 4 == 0 then Found (a + o / 4) else Wrong type_check) >>= λ k. (or_wrong type_check (slice_get ws k) >>= number_in)
    >>= λ high. (or_wrong type_check (slice_get ws (suc k)) >>= number_in) >>= λ low. Found (joined high low)

is_found : (k : Kind) (ws : List Word) (a o : ℕ) → number_at k ws (pos (4 * a + o)) ≡ found_at k ws a o
is_found k ws a o = go k
  where
    d : (4 * a + o) / 4 ≡ a + o / 4
    d = omega arith

    r : (4 * a + o) % 4 ≡ o % 4
    r = omega arith

    go : (k : Kind) → number_at k ws (pos (4 * a + o)) ≡ found_at k ws a o
    go Byte =
        ap (λ n. (or_wrong type_check (slice_get ws n) >>= number_in) >>= λ z. Found (pos (slice_index (bytes_of z) ((4 * a + o) % 4)))) d
        ∙ ap (λ m. (or_wrong type_check (slice_get ws (a + o / 4)) >>= number_in) >>= λ z. Found (pos (slice_index (bytes_of z) m))) r
    go Int =
        ap (λ n. ((if (4 * a + o) % 4 == 0 then Found n else Wrong type_check) >>= λ k. or_wrong type_check (slice_get ws k)) >>= number_in)
        d
        ∙ ap (λ m. ((if m == 0 then Found (a + o / 4) else Wrong type_check) >>= λ k. or_wrong type_check (slice_get ws k)) >>= number_in) r
    go Big =
        ap (λ n. (if (4 * a + o) % 4 == 0 then Found n else Wrong type_check) >>= λ k. (or_wrong type_check (slice_get ws k) >>= number_in)
        >>= λ high. (or_wrong type_check (slice_get ws (suc k)) >>= number_in) >>= λ low. Found (joined high low)) d
        ∙ ap (λ m. (if m == 0 then Found (a + o / 4) else Wrong type_check) >>= λ k. (or_wrong type_check (slice_get ws k) >>= number_in)
        >>= λ high. (or_wrong type_check (slice_get ws (suc k)) >>= number_in) >>= λ low. Found (joined high low)) r

same_found : (k : Kind) (ws us : List Word) (a b o : ℕ)
    → ((i : ℕ) → o < 4 * i + 4 → 4 * i < o + number_size k → slice_get ws (a + i) ≡ slice_get us (b + i))
    → found_at k ws a o ≡ found_at k us b o
same_found Byte ws us a b o h =
    ap (λ w. (or_wrong type_check w >>= number_in) >>= λ z. Found (pos (slice_index (bytes_of z) (o % 4))))
    (h (o / 4) (omega arith) (omega arith))
same_found Int ws us a b o h = go (o % 4 == 0)
  where
    go : (t : Bool) → ((if t then Found (a + o / 4) else Wrong type_check) >>= λ k. or_wrong type_check (slice_get ws k)) >>= number_in
        ≡ ((if t then Found (b + o / 4) else Wrong type_check) >>= λ k. or_wrong type_check (slice_get us k)) >>= number_in
    go true = ap (λ w. or_wrong type_check w >>= number_in) (h (o / 4) (omega arith) (omega arith))
    go false = refl
same_found Big ws us a b o h = go (o % 4 == 0)
  where
    first : slice_get ws (a + o / 4) ≡ slice_get us (b + o / 4)
    first = h (o / 4) (omega arith) (omega arith)

    second : slice_get ws (suc (a + o / 4)) ≡ slice_get us (suc (b + o / 4))
    second =
        let q : suc (a + o / 4) ≡ a + suc (o / 4) = omega arith in
        let q' : b + suc (o / 4) ≡ suc (b + o / 4) = omega arith in
        ap (slice_get ws) q ∙ h (suc (o / 4)) (omega arith) (omega arith) ∙ ap (slice_get us) q'

    go : (t : Bool) → (if t then Found (a + o / 4) else Wrong type_check) >>= (λ k. (or_wrong type_check (slice_get ws k) >>= number_in)
        >>= λ high. (or_wrong type_check (slice_get ws (suc k)) >>= number_in) >>= λ low. Found (joined high low))
        ≡ (if t then Found (b + o / 4) else Wrong type_check) >>= (λ k. (or_wrong type_check (slice_get us k) >>= number_in)
        >>= λ high. (or_wrong type_check (slice_get us (suc k)) >>= number_in) >>= λ low. Found (joined high low))
    go true =
        ap (λ w. (or_wrong type_check w >>= number_in) >>= λ high.
        (or_wrong type_check (slice_get ws (suc (a + o / 4))) >>= number_in) >>= λ low.
        Found (joined high low)) first
        ∙ ap (λ w. (or_wrong type_check (slice_get us (b + o / 4)) >>= number_in) >>= λ high.
        (or_wrong type_check w >>= number_in) >>= λ low.
        Found (joined high low)) second
    go false = refl

-- The same words at another distance have the same number.
pub shifted : (k : Kind) (ws us : List Word) (at bt a b o : ℕ) → at ≡ 4 * a + o → bt ≡ 4 * b + o
    → ((i : ℕ) → o < 4 * i + 4 → 4 * i < o + number_size k → slice_get ws (a + i) ≡ slice_get us (b + i))
    → number_at k ws (pos at) ≡ number_at k us (pos bt)
shifted k ws us at bt a b o e e' h =
    ap (λ n. number_at k ws (pos n)) e ∙ is_found k ws a o ∙ same_found k ws us a b o h ∙ sym (is_found k us b o)
    ∙ ap (λ n. number_at k us (pos n)) (sym e')

-- ---- parameters

-- A variable behind so many stands behind their end.
pub behind_take : (from : ℕ) (ks : List (Option Kind)) (n x : ℕ) → n ≤ x → x < length ks → end_of from (take n ks) ≤ place_in from ks x
behind_take from [] n x l l' = absurd (omega (arith, l'))
behind_take from (k ∷ ks) zero x l l' = in_least from (k ∷ ks) x
behind_take from (k ∷ ks) (suc n) zero l l' = absurd (omega (arith, l))
behind_take from (k ∷ ks) (suc n) (suc x) l l' = behind_take (place_for k from + size_of k) ks n x (omega (arith, l)) (omega (arith, l'))

pub end_take : (from : ℕ) (ks : List (Option Kind)) (n : ℕ) → end_of from (take n ks) ≤ end_of from ks
end_take from [] zero = omega arith
end_take from [] (suc n) = omega arith
end_take from (k ∷ ks) zero = end_least from (k ∷ ks)
end_take from (k ∷ ks) (suc n) = end_take (place_for k from + size_of k) ks n

-- A reference begins with a word.
pub reference_aligned : (from : ℕ) (ks : List (Option Kind)) (x : ℕ) → slice_get ks x ≡ Some None → place_in from ks x % 4 ≡ 0
reference_aligned from [] x e = absurd cc
reference_aligned from (k ∷ ks) zero e =
    let same : k ≡ None = cc in
    let q : place_for None from % 4 ≡ 0 = omega arith in subst (λ k. place_for k from % 4 ≡ 0) (sym same) q
reference_aligned from (k ∷ ks) (suc x) e = reference_aligned (place_for k from + size_of k) ks x e
