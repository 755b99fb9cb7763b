-- Bytes that go over those of words: the words in which they lie, and no others, have to be looked at.
use Rattle.std.proofs.Common.{◌≡◌, ℕ, ℤ, pos, zero, suc, ◌+◌, ◌*◌, ◌/◌, ◌%◌, ◌≤◌, ◌<◌, Bool, true, false, List, [], ◌∷◌, length, Option, Some, None, ◌⊎◌, inl, inr, refl, sym, ap, ◌∙◌, subst, arith, add-zero, if◌then◌else◌}
use Rattle.std.specs.Prelude.{slice_get, slice_set, not, ◌&&◌}
use Rattle.std.proofs.lemmas.Nat.{div-mul-add, mod-mul-add}
use Rattle.std.proofs.Math.Nat.{div-add-mod}
use Rattle.limbo_values.specs.declared.number.Kind.TheVariants.{Byte}
use Rattle.dis_meaning.specs.Words.{Word, Plain, Refer, Address, Access, Found, Wrong, Raises, ◌>>=◌, type_check, or_wrong, fits, number_in, plain, replaced}
use Rattle.dis_meaning.specs.Numbers.{nth_number, with_number_at, with_byte}
use Rattle.dis_memory.specs.Copies.{plain_words, put, put_bytes}
use Rattle.dis_copies.specs.Spans.{is_refer, kinds, meets, none_refers, over}
use Rattle.dis_copies.proofs.Overs.{put_over}
use Rattle.dis_stores.proofs.Takes.{set_again}
use Rattle.dis_moves.specs.Bytes.{touched}
use Rattle.ref_heap.specs.declared.word.Word as code_word
use Rattle.dis_places.specs.declared.fault.Halt.{Halt}
use Rattle.dis_places.specs.declared.fault.Halt.TheVariants as halt
use Rattle.dis_places.specs.Words.{view_word, view_words, Halts}
use Rattle.std.proofs.lemmas.List.{map-set}

-- ---- words that stand among others

-- These words stand there from one on.
abbrev pub AreAt : List Word → (from : ℕ) → List Word → Type 0
AreAt ws j [] = Unit {0}
AreAt ws j (v ∷ vs) = (slice_get ws j ≡ Some v) × AreAt ws (suc j) vs

at_get : (ws : List Word) (j i : ℕ) (vs : List Word) → AreAt ws j vs → i < length vs → slice_get ws (j + i) ≡ slice_get vs i
at_get ws j i [] a lt = absurd (omega (arith, lt))
at_get ws j zero (v ∷ vs) a lt = ap (slice_get ws) (add-zero j) ∙ a.0
at_get ws j (suc i) (v ∷ vs) a lt = ap (slice_get ws) (omega arith) ∙ at_get ws (suc j) i vs a.1 (omega (arith, lt))

get_set_same : (ws : List Word) (k : ℕ) (v w : Word) → slice_get ws k ≡ Some w → slice_get (slice_set ws k v) k ≡ Some v
get_set_same [] k v w e = absurd cc
get_set_same (u ∷ us) zero v w e = refl
get_set_same (u ∷ us) (suc k) v w e = get_set_same us k v w e

get_set_before : (ws : List Word) (k j : ℕ) (v : Word) → j < k → slice_get (slice_set ws k v) j ≡ slice_get ws j
get_set_before [] k j v lt = refl
get_set_before (u ∷ us) zero j v lt = absurd (omega (arith, lt))
get_set_before (u ∷ us) (suc k) zero v lt = refl
get_set_before (u ∷ us) (suc k) (suc j) v lt = get_set_before us k j v (omega (arith, lt))

get_set_past : (ws : List Word) (k j : ℕ) (v : Word) → k < j → slice_get (slice_set ws k v) j ≡ slice_get ws j
get_set_past [] k j v lt = refl
get_set_past (u ∷ us) zero zero v lt = absurd (omega (arith, lt))
get_set_past (u ∷ us) zero (suc j) v lt = refl
get_set_past (u ∷ us) (suc k) zero v lt = absurd (omega (arith, lt))
get_set_past (u ∷ us) (suc k) (suc j) v lt = get_set_past us k j v (omega (arith, lt))

at_past : (ws : List Word) (k j : ℕ) (v : Word) (vs : List Word) → k < j → AreAt ws j vs → AreAt (slice_set ws k v) j vs
at_past ws k j v [] lt a = tt
at_past ws k j v (u ∷ us) lt a = (get_set_past ws k j v lt ∙ a.0, at_past ws k (suc j) v us (omega (arith, lt)) a.1)

at_set : (ws : List Word) (j i : ℕ) (v : Word) (vs : List Word) → AreAt ws j vs → i < length vs → AreAt (slice_set ws (j + i) v) j (slice_set vs i v)
at_set ws j i v [] a lt = absurd (omega (arith, lt))
at_set ws j zero v (u ∷ us) a lt =
    subst (λ k. AreAt (slice_set ws k v) j (v ∷ us)) (sym (add-zero j)) (get_set_same ws j v u a.0, at_past ws j (suc j) v us (omega arith) a.1)
at_set ws j (suc i) v (u ∷ us) a lt =
    subst (λ k. AreAt (slice_set ws k v) j (u ∷ slice_set us i v)) (omega arith)
    (get_set_before ws (suc j + i) j v (omega arith) ∙ a.0, at_set ws (suc j) i v us a.1 (omega (arith, lt)))

set_itself : (ws : List Word) (k : ℕ) (v : Word) → slice_get ws k ≡ Some v → slice_set ws k v ≡ ws
set_itself [] k v e = absurd cc
set_itself (u ∷ us) zero v e = let same : u ≡ v = cc in ap (λ w. w ∷ us) (sym same)
set_itself (u ∷ us) (suc k) v e = ap (λ vs. u ∷ vs) (set_itself us k v e)

-- Words that stand there go over themselves.
over_itself : (ws : List Word) (j : ℕ) (vs : List Word) → AreAt ws j vs → over ws j vs ≡ ws
over_itself ws j [] a = refl
over_itself ws j (v ∷ vs) a = ap (λ us. over us (suc j) vs) (set_itself ws j v a.0) ∙ over_itself ws (suc j) vs a.1

set_swap : (ws : List Word) (k j : ℕ) (v u : Word) → j < k → slice_set (slice_set ws k v) j u ≡ slice_set (slice_set ws j u) k v
set_swap [] k j v u lt = refl
set_swap (w ∷ ws) zero j v u lt = absurd (omega (arith, lt))
set_swap (w ∷ ws) (suc k) zero v u lt = refl
set_swap (w ∷ ws) (suc k) (suc j) v u lt = ap (λ vs. w ∷ vs) (set_swap ws k j v u (omega (arith, lt)))

-- What goes over a word hides it.
over_hides : (ws : List Word) (j i : ℕ) (v : Word) (vs : List Word) → i < length vs → over (slice_set ws (j + i) v) j vs ≡ over ws j vs
over_hides ws j i v [] lt = absurd (omega (arith, lt))
over_hides ws j zero v (u ∷ us) lt =
    ap (λ k. over (slice_set (slice_set ws k v) j u) (suc j) us) (add-zero j) ∙ ap (λ vs. over vs (suc j) us) (set_again ws j v u)
over_hides ws j (suc i) v (u ∷ us) lt =
    ap (λ vs. over vs (suc j) us) (set_swap ws (j + suc i) j v u (omega arith))
    ∙ ap (λ k. over (slice_set (slice_set ws j u) k v) (suc j) us) (omega arith)
    ∙ over_hides (slice_set ws j u) (suc j) i v us (omega (arith, lt))

-- ---- one byte

-- A byte goes into a word that is plain.
byte_in : (w : Word) (z : ℤ) → number_in w ≡ Found z → (v : ℤ) → fits w (Plain v) ≡ true
byte_in (Plain n) z e v = refl
byte_in (Refer r) z e v = absurd cc
byte_in (Address q at) z e v = refl

as_kind : (w : Word) (z : ℤ) → number_in w ≡ Found z → is_refer w ≡ false
as_kind (Plain n) z e = refl
as_kind (Refer r) z e = absurd cc
as_kind (Address q at) z e = refl

plain_number : (w : Word) → is_refer w ≡ false → (z : ℤ) × (number_in w ≡ Found z)
plain_number (Plain n) e = (n, refl)
plain_number (Refer r) e = absurd cc
plain_number (Address q at) e = (pos 0, refl)

-- A byte in the word of this number.
abbrev pub byte_at : List Word → (k r b : ℕ) → Access (List Word)
byte_at ws k r b = nth_number ws k >>= λ old. replaced ws k (Plain (with_byte old r b))

record Plainly (ws : List Word) (k : ℕ) : Type 0 where
  word : Word
  there : slice_get ws k ≡ Some word
  number : ℤ
  is : number_in word ≡ Found number

byte_goes : (ws : List Word) (k r b : ℕ) (p : Plainly ws k) → byte_at ws k r b ≡ Found (slice_set ws k (Plain (with_byte p.number r b)))
byte_goes ws k r b p =
    ap (λ o. or_wrong type_check o >>= number_in >>= λ old. replaced ws k (Plain (with_byte old r b))) p.there
    ∙ ap (λ a. a >>= λ old. replaced ws k (Plain (with_byte old r b))) p.is
    ∙ ap (λ o. or_wrong type_check o >>= λ old. if fits old (Plain (with_byte p.number r b)) then Found (slice_set ws k (Plain (with_byte p.number r b))) else Wrong type_check) p.there
    ∙ ap (λ c. if c then Found (slice_set ws k (Plain (with_byte p.number r b))) else Wrong type_check) (byte_in p.word p.number p.is (with_byte p.number r b))

-- Where it isn't one, that is the fault.
plainly : (ws : List Word) (k : ℕ) → Plainly ws k ⊎ ((r b : ℕ) → byte_at ws k r b ≡ Wrong type_check)
plainly ws k = go (slice_get ws k) refl
  where
    with_word : (w : Word) → slice_get ws k ≡ Some w → (a : Access ℤ) → number_in w ≡ a → Plainly ws k ⊎ ((r b : ℕ) → byte_at ws k r b ≡ Wrong type_check)
    with_word w there (Found z) is = inl (record { word = w; there = there; number = z; is = is })
    with_word (Plain n) there (Wrong m) is = absurd cc
    with_word (Refer q) there (Wrong m) is = inr (λ r b. ap (λ o. or_wrong type_check o >>= number_in >>= λ old. replaced ws k (Plain (with_byte old r b))) there)
    with_word (Address q at) there (Wrong m) is = absurd cc
    with_word (Plain n) there (Raises text) is = absurd cc
    with_word (Refer q) there (Raises text) is = absurd cc
    with_word (Address q at) there (Raises text) is = absurd cc

    go : (o : Option Word) → slice_get ws k ≡ o → Plainly ws k ⊎ ((r b : ℕ) → byte_at ws k r b ≡ Wrong type_check)
    go None is = inr (λ r b. ap (λ o. or_wrong type_check o >>= number_in >>= λ old. replaced ws k (Plain (with_byte old r b))) is)
    go (Some w) is = with_word w is (number_in w) refl

-- ---- many bytes

as_bytes : (ws : List Word) (n b : ℕ) (bs : List ℕ) → put_bytes ws n (b ∷ bs) ≡ (byte_at ws (n / 4) (n % 4) b >>= λ after. put_bytes after (suc n) bs)
as_bytes ws n b bs = refl

-- Where the words lie in which bytes do.
quotient : (j off : ℕ) → (4 * j + off) / 4 ≡ j + off / 4
quotient j off =
    let e = div-add-mod off 4 in let lt : off % 4 < 4 = omega arith in
    ap (λ n. n / 4) (omega (arith, e)) ∙ div-mul-add (j + off / 4) 4 (off % 4) lt

remainder : (j off : ℕ) → (4 * j + off) % 4 ≡ off % 4
remainder j off =
    let e = div-add-mod off 4 in let lt : off % 4 < 4 = omega arith in
    ap (λ n. n % 4) (omega (arith, e)) ∙ mod-mul-add (j + off / 4) 4 (off % 4) lt

-- Bytes leave each word of its kind.
fits_kinds : (ws : List Word) (k : ℕ) (w : Word) (v : ℤ) → slice_get ws k ≡ Some w → is_refer w ≡ false → kinds (slice_set ws k (Plain v)) ≡ kinds ws
fits_kinds [] k w v e f = absurd cc
fits_kinds (u ∷ us) zero w v e f = let same : u ≡ w = cc in ap (λ b. b ∷ kinds us) (sym f ∙ ap is_refer (sym same))
fits_kinds (u ∷ us) (suc k) w v e f = ap (λ bs. is_refer u ∷ bs) (fits_kinds us k w v e f)

pub bytes_kinds : (ws : List Word) (n : ℕ) (bs : List ℕ) (after : List Word) → put_bytes ws n bs ≡ Found after → kinds after ≡ kinds ws
bytes_kinds ws n [] after e = let same : ws ≡ after = cc in ap kinds (sym same)
bytes_kinds ws n (b ∷ bs) after e = go (plainly ws (n / 4)) e (λ v f. bytes_kinds (slice_set ws (n / 4) v) (suc n) bs after f)
  where
    go : Plainly ws (n / 4) ⊎ ((r b : ℕ) → byte_at ws (n / 4) r b ≡ Wrong type_check) → (byte_at ws (n / 4) (n % 4) b >>= λ after. put_bytes after (suc n) bs) ≡ Found after →
        ((v : Word) → put_bytes (slice_set ws (n / 4) v) (suc n) bs ≡ Found after → kinds after ≡ kinds (slice_set ws (n / 4) v)) → kinds after ≡ kinds ws
    go (inl p) e more =
        more (Plain (with_byte p.number (n % 4) b)) (sym (ap (λ a. a >>= λ after. put_bytes after (suc n) bs) (byte_goes ws (n / 4) (n % 4) b p)) ∙ e)
        ∙ fits_kinds ws (n / 4) p.word (with_byte p.number (n % 4) b) p.there (as_kind p.word p.number p.is)
    go (inr w) e more =
        let a : Wrong type_check ≡ Found after = sym (ap (λ a. a >>= λ after. put_bytes after (suc n) bs) (w (n % 4) b)) ∙ e in absurd cc

as_long : (ws vs : List Word) → kinds ws ≡ kinds vs → length ws ≡ length vs
as_long [] [] e = refl
as_long [] (v ∷ vs) e = absurd cc
as_long (w ∷ ws) [] e = absurd cc
as_long (w ∷ ws) (v ∷ vs) e = let more : kinds ws ≡ kinds vs = cc in ap suc (as_long ws vs more)

-- A word that is no reference.
plain_at : (row : List Word) (i : ℕ) → none_refers row ≡ true → i < length row → Plainly row i
plain_at [] i e lt = absurd (omega (arith, lt))
plain_at (w ∷ ws) i e lt = go (is_refer w) refl e i lt (plain_at ws)
  where
    go : (c : Bool) → is_refer w ≡ c → (not c && none_refers ws) ≡ true → (i : ℕ) → i < length (w ∷ ws) → ((i : ℕ) → none_refers ws ≡ true → i < length ws → Plainly ws i) →
        Plainly (w ∷ ws) i
    go true is e i lt more = absurd cc
    go false is e zero lt more = let p = plain_number w is in record { word = w; there = refl; number = p.0; is = p.1 }
    go false is e (suc i) lt more = let p = more i e (omega (arith, lt)) in record { word = p.word; there = p.there; number = p.number; is = p.is }

then_found : {S T : Type 0} (a : Access S) (f g : S → Access T) → ((s : S) → a ≡ Found s → f s ≡ g s) → (a >>= f) ≡ (a >>= g)
then_found (Found s) f g e = e s refl
then_found (Wrong n) f g e = refl
then_found (Raises text) f g e = refl

pub all_as : (ws vs : List Word) → kinds ws ≡ kinds vs → none_refers ws ≡ none_refers vs
all_as [] [] e = refl
all_as [] (v ∷ vs) e = absurd cc
all_as (w ∷ ws) [] e = absurd cc
all_as (w ∷ ws) (v ∷ vs) e =
    let one : is_refer w ≡ is_refer v = cc in let more : kinds ws ≡ kinds vs = cc in
    ap (λ b. not b && none_refers ws) one ∙ ap (λ b. not (is_refer v) && b) (all_as ws vs more)

-- Bytes over words that stand among others.
window : (ws row : List Word) (j off : ℕ) (bs : List ℕ) → AreAt ws j row → none_refers row ≡ true → (0 < length bs → off + length bs ≤ 4 * length row) →
    put_bytes ws (4 * j + off) bs ≡ (put_bytes row off bs >>= λ after. Found (over ws j after))
window ws row j off [] a plain fill = ap Found (sym (over_itself ws j row a))
window ws row j off (b ∷ bs) a plain fill =
    let le = fill (omega arith) in
    let i = off / 4 in
    let d = div-add-mod off 4 in
    let lt : i < length row = omega (arith, d, le) in
    let p = plain_at row i plain lt in
    let v = Plain (with_byte p.number (off % 4) b) in
    let q : Plainly ws (j + i) = record { word = p.word; there = at_get ws j i row a lt ∙ p.there; number = p.number; is = p.is } in
    let ws1 = slice_set ws (j + i) v in
    let row1 = slice_set row i v in
    let same = fits_kinds row i p.word (with_byte p.number (off % 4) b) p.there (as_kind p.word p.number p.is) in
    let long = as_long row1 row same in
    ap (λ k. byte_at ws k ((4 * j + off) % 4) b >>= λ after. put_bytes after (suc (4 * j + off)) bs) (quotient j off)
    ∙ ap (λ r. byte_at ws (j + i) r b >>= λ after. put_bytes after (suc (4 * j + off)) bs) (remainder j off)
    ∙ ap (λ a. a >>= λ after. put_bytes after (suc (4 * j + off)) bs) (byte_goes ws (j + i) (off % 4) b q)
    ∙ ap (λ n. put_bytes ws1 n bs) (omega arith)
    ∙ window ws1 row1 j (suc off) bs (at_set ws j i v row a lt) (all_as row1 row same ∙ plain) (λ some. omega (arith, le, long))
    ∙ then_found (put_bytes row1 (suc off) bs) (λ after. Found (over ws1 j after)) (λ after. Found (over ws j after))
    (λ after e. ap Found (over_hides ws j i v after (let l = as_long after row1 (bytes_kinds row1 (suc off) bs after e) in omega (arith, lt, l, long))))
    ∙ sym (ap (λ a. a >>= (λ after. put_bytes after (suc off) bs) >>= λ after. Found (over ws j after)) (byte_goes row i (off % 4) b p))

fits_refers : (v u : Word) → is_refer u ≡ is_refer v → fits v u ≡ true
fits_refers (Refer r) (Refer s) e = refl
fits_refers (Refer r) (Plain n) e = absurd cc
fits_refers (Refer r) (Address q at) e = absurd cc
fits_refers (Plain n) (Refer s) e = absurd cc
fits_refers (Plain n) (Plain m) e = refl
fits_refers (Plain n) (Address q at) e = refl
fits_refers (Address p n) (Refer s) e = absurd cc
fits_refers (Address p n) (Plain m) e = refl
fits_refers (Address p n) (Address q at) e = refl

pub meets_as : (ws : List Word) (j : ℕ) (row after : List Word) → AreAt ws j row → kinds after ≡ kinds row → meets ws j after ≡ Found tt
meets_as ws j [] [] a e = refl
meets_as ws j [] (u ∷ us) a e = absurd cc
meets_as ws j (v ∷ vs) [] a e = absurd cc
meets_as ws j (v ∷ vs) (u ∷ us) a e =
    let one : is_refer u ≡ is_refer v = cc in let more : kinds us ≡ kinds vs = cc in
    ap (λ o. or_wrong type_check o >>= λ old. if fits old u then meets ws (suc j) us else Wrong type_check) a.0
    ∙ ap (λ b. if b then meets ws (suc j) us else Wrong type_check) (fits_refers v u one)
    ∙ meets_as ws (suc j) vs us a.1 more

-- ---- plain words that are found, and that aren't

record There (ws : List Word) (j n : ℕ) (row : List Word) : Type 0 where
  at : AreAt ws j row
  plain : none_refers row ≡ true
  long : length row ≡ n

abbrev Lacks : List Word → (j n : ℕ) → Type 0
Lacks ws j n = (i : ℕ) × ((i < n) × (Plainly ws (j + i) → ⊥))

record Looked (ws : List Word) (j n : ℕ) (a : Access (List Word)) : Type 0 where
  found : (row : List Word) → a ≡ Found row → There ws j n row
  wrong : (m : ℕ) → a ≡ Wrong m → (m ≡ type_check) × Lacks ws j n
  never : (text : List ℕ) → a ≡ Raises text → ⊥

refers_not : (w : Word) (z : ℤ) → is_refer w ≡ true → number_in w ≡ Found z → ⊥
refers_not (Plain n) z e f = absurd cc
refers_not (Refer r) z e f = absurd cc
refers_not (Address q at) z e f = absurd cc

looked : (ws : List Word) (j n : ℕ) → Looked ws j n (plain_words ws j n)
looked ws j zero = record {
  found = λ row e. let same : [] ≡ row = cc in subst (There ws j 0) same (record { at = tt; plain = refl; long = refl });
  wrong = λ m e. absurd cc;
  never = λ text e. absurd cc;
}
looked ws j (suc n) = go (slice_get ws j) refl (looked ws (suc j) n)
  where
    lacking : (Plainly ws j → ⊥) → Looked ws j (suc n) (Wrong type_check)
    lacking absent = record {
      found = λ row e. absurd cc;
      wrong = λ m e. let same : type_check ≡ m = cc in (sym same, (0, (omega arith, λ p. absent (subst (Plainly ws) (add-zero j) p))));
      never = λ text e. absurd cc;
    }

    rest : (w : Word) → slice_get ws j ≡ Some w → is_refer w ≡ false → (a : Access (List Word)) → Looked ws (suc j) n a → Looked ws j (suc n) (a >>= λ vs. Found (w ∷ vs))
    rest w there is (Found vs) l = record {
      found = λ row e.
          let same : w ∷ vs ≡ row = cc in let t = l.found vs refl in
          subst (There ws j (suc n)) same
          (record { at = (there, t.at); plain = ap (λ b. not b && none_refers vs) is ∙ t.plain; long = let h = t.long in omega (arith, h) });
      wrong = λ m e. absurd cc;
      never = λ text e. absurd cc;
    }
    rest w there is (Wrong k) l = record {
      found = λ row e. absurd cc;
      wrong = λ m e.
          let same : k ≡ m = cc in let h = l.wrong k refl in
          (sym same ∙ h.0, (suc h.1.0, ((let lt = h.1.1.0 in omega (arith, lt)), λ p. h.1.1.1 (subst (Plainly ws) (omega arith) p))));
      never = λ text e. absurd cc;
    }
    rest w there is (Raises text) l = record { found = λ row e. absurd cc; wrong = λ m e. absurd cc; never = λ t e. l.never text refl }

    no_refer : (w : Word) → slice_get ws j ≡ Some w → is_refer w ≡ true → Plainly ws j → ⊥
    no_refer w there is p =
        let a : Some w ≡ Some p.word = sym there ∙ p.there in let same : w ≡ p.word = cc in
        refers_not w p.number is (ap number_in same ∙ p.is)

    none_there : slice_get ws j ≡ None → Plainly ws j → ⊥
    none_there is p = let a : None ≡ Some p.word = sym is ∙ p.there in absurd cc

    with_word : (w : Word) → slice_get ws j ≡ Some w → Looked ws (suc j) n (plain_words ws (suc j) n) →
        Looked ws j (suc n) (plain w >>= λ v. plain_words ws (suc j) n >>= λ vs. Found (v ∷ vs))
    with_word (Plain z) there l = rest (Plain z) there refl (plain_words ws (suc j) n) l
    with_word (Refer r) there l = lacking (no_refer (Refer r) there refl)
    with_word (Address q at) there l = rest (Address q at) there refl (plain_words ws (suc j) n) l

    go : (o : Option Word) → slice_get ws j ≡ o → Looked ws (suc j) n (plain_words ws (suc j) n) →
        Looked ws j (suc n) (or_wrong type_check o >>= λ w. plain w >>= λ v. plain_words ws (suc j) n >>= λ vs. Found (v ∷ vs))
    go None is l = lacking (none_there is)
    go (Some w) is l = with_word w is l

-- Bytes that meet a word that isn't plain.
bytes_lack : (ws : List Word) (n : ℕ) (bs : List ℕ) (k : ℕ) → n / 4 ≤ k → 4 * k < n + length bs → 0 < length bs → (Plainly ws k → ⊥) → put_bytes ws n bs ≡ Wrong type_check
bytes_lack ws n [] k a lt some absent = absurd (omega (arith, some))
bytes_lack ws n (b ∷ bs) k a lt some absent = go (plainly ws (n / 4)) (λ v. bytes_lack (slice_set ws (n / 4) v) (suc n) bs k)
  where
    go : Plainly ws (n / 4) ⊎ ((r b : ℕ) → byte_at ws (n / 4) r b ≡ Wrong type_check) →
        ((v : Word) → suc n / 4 ≤ k → 4 * k < suc n + length bs → 0 < length bs → (Plainly (slice_set ws (n / 4) v) k → ⊥) → put_bytes (slice_set ws (n / 4) v) (suc n) bs ≡ Wrong type_check) →
        (byte_at ws (n / 4) (n % 4) b >>= λ after. put_bytes after (suc n) bs) ≡ Wrong type_check
    go (inl p) more =
        let v = Plain (with_byte p.number (n % 4) b) in
        let past : n / 4 < k = before p in
        let d = div-add-mod n 4 in let e = div-add-mod (suc n) 4 in let r : suc n % 4 < 4 = omega arith in
        ap (λ a. a >>= λ after. put_bytes after (suc n) bs) (byte_goes ws (n / 4) (n % 4) b p)
        ∙ more v (omega (arith, past, d, e)) (omega (arith, lt)) (omega (arith, past, d, lt)) (λ q. absent (record { word = q.word; there = sym (get_set_past ws (n / 4) k v past) ∙ q.there; number = q.number; is = q.is }))
      where
        before : Plainly ws (n / 4) → n / 4 < k
        before p = by_order (plainly_here p)
          where
            plainly_here : Plainly ws (n / 4) → n / 4 ≡ k → ⊥
            plainly_here p same = absent (subst (Plainly ws) same p)

            by_order : (n / 4 ≡ k → ⊥) → n / 4 < k
            by_order ne = omega (arith, a, ne)
    go (inr w) more = ap (λ a. a >>= λ after. put_bytes after (suc n) bs) (w (n % 4) b)

-- ---- what the program does with them

pub bytes_wrong : (ws : List Word) (to : ℕ) (bs : List ℕ) (m : ℕ) → plain_words ws (to / 4) (touched to (length bs)) ≡ Wrong m → put_bytes ws to bs ≡ Wrong m
bytes_wrong ws to [] m e = absurd cc
bytes_wrong ws to (b ∷ bs) m e =
    let h = (looked ws (to / 4) (touched to (length (b ∷ bs)))).wrong m e in
    let lt = h.1.1.0 in
    let d = div-add-mod to 4 in
    let q = div-add-mod (to % 4 + suc (length bs) + 3) 4 in
    bytes_lack ws to (b ∷ bs) (to / 4 + h.1.0) (omega arith) (omega (arith, lt, d, q)) (omega arith) h.1.1.1 ∙ ap Wrong (sym h.0)

-- Bytes over the words that they touch.
pub record BytesOver (ws : List Word) (to : ℕ) (bs : List ℕ) (row : List Word) : Type 0 where
  pub window : put_bytes ws to bs ≡ (put_bytes row (to % 4) bs >>= λ after. Found (over ws (to / 4) after))
  pub put : (after : List Word) → put_bytes row (to % 4) bs ≡ Found after → put_bytes ws to bs ≡ put ws (to / 4) after
  pub plain : (after : List Word) → put_bytes row (to % 4) bs ≡ Found after → none_refers after ≡ true

pub bytes_over : (ws : List Word) (to : ℕ) (bs : List ℕ) (row : List Word) → plain_words ws (to / 4) (touched to (length bs)) ≡ Found row → BytesOver ws to bs row
bytes_over ws to bs row e =
    let t = (looked ws (to / 4) (touched to (length bs))).found row e in
    let d = div-add-mod to 4 in
    let all : put_bytes ws to bs ≡ (put_bytes row (to % 4) bs >>= λ after. Found (over ws (to / 4) after)) =
    ap (λ n. put_bytes ws n bs) (omega (arith, d)) ∙ window ws row (to / 4) (to % 4) bs t.at t.plain (fills bs t.long) in
    record {
      window = all;
      put = λ after f.
          all ∙ ap (λ a. a >>= λ after. Found (over ws (to / 4) after)) f
          ∙ sym (put_over ws (to / 4) after ∙ ap (λ m. m >>= λ u. Found (over ws (to / 4) after)) (meets_as ws (to / 4) row after t.at (bytes_kinds row (to % 4) bs after f)));
      plain = λ after f. all_as after row (bytes_kinds row (to % 4) bs after f) ∙ t.plain;
    }
  where
    fills : (bs : List ℕ) → length row ≡ touched to (length bs) → 0 < length bs → to % 4 + length bs ≤ 4 * length row
    fills [] l some = absurd (omega (arith, some))
    fills (b ∷ bs) l some = let q = div-add-mod (to % 4 + suc (length bs) + 3) 4 in omega (arith, q, l)

pub wrong_then : (ws : List Word) (to : ℕ) (bs : List ℕ) (h : Halt) → Halts h (plain_words ws (to / 4) (touched to (length bs))) → Halts h (put_bytes ws to bs)
wrong_then ws to bs halt.NoMemory e = tt
wrong_then ws to bs (halt.Fault f) e = bytes_wrong ws to bs _ e
wrong_then ws to bs (halt.Raises r) e = absurd ((looked ws (to / 4) (touched to (length bs))).never _ e)

-- ---- a byte of a row

number_plainly : (ws : List Word) (k : ℕ) (z : ℤ) → nth_number ws k ≡ Found z → (p : Plainly ws k) × (p.number ≡ z)
number_plainly ws k z e = go (slice_get ws k) refl e
  where
    go : (o : Option Word) → slice_get ws k ≡ o → (or_wrong type_check o >>= number_in) ≡ Found z → (p : Plainly ws k) × (p.number ≡ z)
    go None is e = absurd cc
    go (Some w) is e = (record { word = w; there = is; number = z; is = e }, refl)

pub set_gives : (row : List code_word.Word) (n b : ℕ) (old : ℤ) (w : code_word.Word) → nth_number (view_words row) (n / 4) ≡ Found old →
    view_word w ≡ Plain (with_byte old (n % 4) b) → with_number_at Byte (view_words row) (pos n) (pos b) ≡ Found (view_words (slice_set row (n / 4) w))
set_gives row n b old w e f =
    let p = number_plainly (view_words row) (n / 4) old e in
    byte_goes (view_words row) (n / 4) (n % 4) b p.0
    ∙ ap (λ z. Found (slice_set (view_words row) (n / 4) (Plain (with_byte z (n % 4) b)))) p.1
    ∙ ap (λ v. Found (slice_set (view_words row) (n / 4) v)) (sym f)
    ∙ ap Found (sym (map-set view_word row (n / 4) w))

-- Words that are found plain are no references.
pub words_plain : (ws : List Word) (j n : ℕ) (row : List Word) → plain_words ws j n ≡ Found row → none_refers row ≡ true
words_plain ws j n row e = ((looked ws j n).found row e).plain

pub words_long : (ws : List Word) (j n : ℕ) (row : List Word) → plain_words ws j n ≡ Found row → length row ≡ n
words_long ws j n row e = ((looked ws j n).found row e).long
