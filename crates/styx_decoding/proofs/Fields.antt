-- A field that is read is the field that was written, and what was written is read again.
use Rattle.std.proofs.Common.{◌≡◌, ℕ, zero, suc, ◌+◌, ◌*◌, ◌%◌, ◌^◌, ◌<◌, ◌≤◌, Bool, true, false, cond, ltb}
use Rattle.std.proofs.Common.{List, [], ◌∷◌, ◌++◌, length, get_or, take, drop, Option, Some, None, refl}
use Rattle.std.proofs.Common.{sym, ap, subst, ◌∙◌, append_assoc, arith, inl, inr}
use Rattle.std.specs.Prelude.{encode_utf8_all}
use Rattle.std.specs.List.{flat_map, AllByRecursion}
use Rattle.std.specs.Str.{chars, is_utf8, all_scalars}
use Rattle.std.proofs.lemmas.Bool.{cases_lt, ltb-false, le-ltb}
use Rattle.std.proofs.lemmas.List.{take_at, drop_at, take-append-drop, length-append, length-take, get_or-drop}
use Rattle.std.proofs.lemmas.List.{get_or-take, get_or_past, append-nil}
use Rattle.std.proofs.lemmas.Nat.{le_bytes_2, le_bytes_4, le_bytes_8}
use Rattle.std.proofs.lemmas.Str.{IsUtf8-from_is_utf8, is_utf8-from_IsUtf8, encodes-chars, scalars-chars}
use Rattle.std.proofs.lemmas.Str.{chars-encodes}
use Rattle.byteorder.specs.Endian.{little_bytes, little_number}
use Rattle.byteorder.specs.Numbers.{little_number-reads_back, little_from-lt, little_from-take}
use Rattle.byteorder.specs.Numbers.{length-bytes_low_first}
use Rattle.styx_msg.specs.declared.message.Qid.{Qid}
use Rattle.styx_msg.specs.Styx.{Field, number, text_bytes, qid_bytes}
use Rattle.styx_msg.specs.Styx.{field_bytes, fields_bytes, Row, row, IsText}
use Rattle.styx_msg.specs.Styx.{IsQid, IsField}
use Rattle.inf_text.specs.Options.{◌>>=◌}
use Rattle.styx_decoding.specs.Reading.{Read, number_at, characters, text_at, qid_at, items_at, walk_at}
use Rattle.styx_decoding.specs.Reading.{counted_at}

-- ---- bytes

abbrev pub IsBytes : List ℕ → Type 0
IsBytes bytes = (i : ℕ) → get_or bytes i 0 < 256

pub IsBytes-drop : (n : ℕ) (bytes : List ℕ) → IsBytes bytes → IsBytes (drop n bytes)
IsBytes-drop n bytes h i = rw get_or-drop (h (n + i))

pub IsBytes-take : (n : ℕ) (bytes : List ℕ) → IsBytes bytes → IsBytes (take n bytes)
IsBytes-take n bytes h i =
    elim (cases_lt i n) [
      | inl lt ↦ rw (get_or-take n bytes i 0 lt) (h i)
      | inr le ↦ rw (get_or_past (take n bytes) i 0 (omega (arith, length-take n bytes))) (omega arith)
    ]

pub bytes_below : (bytes : List ℕ) → IsBytes bytes → AllByRecursion (λ b. b < 256) bytes
bytes_below [] h = tt
bytes_below (b ∷ bytes) h = (h 0, bytes_below bytes (λ i. h (suc i)))

-- ---- steps

-- the value of a step that gave one
pub bind_some : {A B : Type 0} (r : Option A) (f : A → Option B) (y : B) → (r >>= f) ≡ Some y → (x : A) × (r
    ≡ Some x) × (f x ≡ Some y)
bind_some (Some x) f y e = (x, refl, e)
bind_some None f y e = absurd cc

-- a test that let a value through
pub guard_some : {A : Type 0} (b : Bool) (x : Option A) (y : A) → cond b None x ≡ Some y → (b ≡ false) × (x ≡ Some y)
guard_some true x y e = absurd cc
guard_some false x y e = (refl, e)

pub guard_true : {A : Type 0} (b : Bool) (x : Option A) (y : A) → cond b x None ≡ Some y → (b ≡ true) × (x ≡ Some y)
guard_true true x y e = (refl, e)
guard_true false x y e = absurd cc

abbrev some : {A : Type 0} → A → Option A
some x = Some x

pub some_is : {A : Type 0} (x y : A) → some x ≡ some y → x ≡ y
some_is x y e = cc

-- what a reader took from the front
pub record Takes (bytes text rest : List ℕ) : Type 0 where
  pub parts : bytes ≡ text ++ rest
  pub rest_fits : IsBytes rest

pub Takes-then : (a x b y c : List ℕ) → Takes a x b → Takes b y c → Takes a (x ++ y) c
Takes-then a x b y c p q = record {
  parts = p.parts ∙ ap (λ (t : List ℕ). x ++ t) q.parts
      ∙ sym (append_assoc x y c);
  rest_fits = q.rest_fits;
}

pub Takes-cut : (n : ℕ) (bytes : List ℕ) → IsBytes bytes → Takes bytes (take n bytes) (drop n bytes)
Takes-cut n bytes fits = record { parts = sym (take-append-drop n bytes); rest_fits = IsBytes-drop n bytes fits }

-- ---- one field

-- The reader reads what spells a value, and nothing else.
pub record Exact {A : Type 0} (read : List ℕ → Read A) (spell : A → List ℕ) (Is : A → Type 0) : Type 0 where
  pub takes : (bytes : List ℕ) (a : A) (rest : List ℕ) → IsBytes bytes → read bytes ≡ Some (a, rest)
      → Takes bytes (spell a) rest × Is a
  pub again : (a : A) (rest : List ℕ) → Is a → read (spell a ++ rest) ≡ Some (a, rest)

-- numbers of so many bytes
record IsWide (w : ℕ) : Type 0 where
  back : (bytes : List ℕ) → length bytes ≡ w → IsBytes bytes → little_bytes w (little_number w bytes) ≡ bytes

wide1 : IsWide 1
wide1 = record { back = back1 }
  where
    back1 : (bytes : List ℕ) → length bytes ≡ 1 → IsBytes bytes → little_bytes 1 (little_number 1 bytes) ≡ bytes
    back1 [] e fits = absurd (omega arith)
    back1 (b ∷ []) e fits = let below = fits 0 in let same : (b + 256 * 0) % 256 ≡ b =
        omega arith in ap (λ (x : ℕ). x ∷ []) same
    back1 (b ∷ c ∷ bytes) e fits = absurd (omega arith)

wide2 : IsWide 2
wide2 = record { back = λ bytes len fits. le_bytes_2 bytes _ len fits (omega arith) }

wide4 : IsWide 4
wide4 = record { back = λ bytes len fits. le_bytes_4 bytes _ len fits (omega arith) }

wide8 : IsWide 8
wide8 = record { back = λ bytes len fits. le_bytes_8 bytes _ len fits (omega arith) }

number_takes : (w : ℕ) → IsWide w → (bytes : List ℕ) (n : ℕ) (rest : List ℕ) → IsBytes bytes
    → number_at w bytes ≡ Some (n, rest) → Takes bytes (little_bytes w n) rest × (n < 256 ^ w)
number_takes w wide bytes n rest fits e =
    let g = guard_some (ltb (length bytes) w) (Some (little_number w bytes, drop w bytes)) (n, rest) e in
    let long : w ≤ length bytes = ltb-false _ _ g.0 in
    let front : little_bytes w (little_number w bytes) ≡ take w bytes =
    ap (little_bytes w) (sym (little_from-take 0 w w bytes (omega arith)))
    ∙ wide.back (take w bytes) (omega (arith, length-take w bytes)) (IsBytes-take w bytes fits) in
    let made : Takes bytes (little_bytes w (little_number w bytes)) (drop w bytes) =
    rw front (Takes-cut w bytes fits) in
    subst (λ (x : ℕ × List ℕ). Takes bytes (little_bytes w x.0) x.1
    × (x.0 < 256 ^ w)) (some_is (little_number w bytes, drop w bytes) (n, rest) g.1)
    (made, little_from-lt 0 w bytes fits)

number_again : (w n : ℕ) (rest : List ℕ) → n < 256 ^ w → number_at w (little_bytes w n ++ rest) ≡ Some (n, rest)
number_again w n rest lt =
    let len = length-bytes_low_first 0 w n in
    let long : ltb (length (little_bytes w n ++ rest)) w ≡ false =
    le-ltb _ _ (omega (arith, length-append (little_bytes w n) rest)) in
    rw (long, little_number-reads_back w n rest lt, drop_at (little_bytes w n) rest w len) refl

exact_number : (w : ℕ) → IsWide w → Exact (number_at w) (little_bytes w) (λ n. n < 256 ^ w)
exact_number w wide = record { takes = number_takes w wide; again = number_again w }

pub exact1 : Exact (number_at 1) (little_bytes 1) (λ n. n < 256 ^ 1)
exact1 = exact_number 1 wide1

pub exact2 : Exact (number_at 2) (little_bytes 2) (λ n. n < 256 ^ 2)
exact2 = exact_number 2 wide2

pub exact4 : Exact (number_at 4) (little_bytes 4) (λ n. n < 256 ^ 4)
exact4 = exact_number 4 wide4

pub exact8 : Exact (number_at 8) (little_bytes 8) (λ n. n < 256 ^ 8)
exact8 = exact_number 8 wide8

-- ---- texts

characters_takes : (own cs : List ℕ) → characters own ≡ Some cs → (encode_utf8_all cs ≡ own) × (all_scalars cs ≡ true)
unfolding characters
characters_takes own cs e =
    let g = guard_true (is_utf8 own) (Some (chars own)) cs e in
    let u = IsUtf8-from_is_utf8 own g.0 in
    subst (λ (x : List ℕ). (encode_utf8_all x ≡ own) × (all_scalars x
    ≡ true)) (some_is (chars own) cs g.1) (encodes-chars own u, scalars-chars own u)

characters_again : (cs : List ℕ) → all_scalars cs ≡ true → characters (encode_utf8_all cs) ≡ Some cs
unfolding characters
characters_again cs s = rw (is_utf8-from_IsUtf8 (encode_utf8_all cs) (cs, (s, refl)), chars-encodes cs s) refl

-- so many bytes from the front
cut : (n : ℕ × List ℕ) (bytes : List ℕ) → Takes bytes (little_bytes 2 n.0) n.1 → n.0 ≤ length n.1
    → (own : List ℕ) → own ≡ take n.0 n.1 → Takes bytes (little_bytes 2 (length own) ++ own) (drop n.0 n.1)
cut n bytes t long own is =
    let len : length (take n.0 n.1) ≡ n.0 = omega (arith, length-take n.0 n.1) in
    let both = Takes-then bytes (little_bytes 2 n.0) n.1 (take n.0 n.1) (drop n.0 n.1) t
    (Takes-cut n.0 n.1 t.rest_fits) in
    let whole : Takes bytes (little_bytes 2 (length (take n.0 n.1)) ++ take n.0 n.1) (drop n.0 n.1) =
    subst (λ (k : ℕ). Takes bytes (little_bytes 2 k ++ take n.0 n.1) (drop n.0 n.1)) (sym len) both in
    subst (λ (o : List ℕ). Takes bytes (little_bytes 2 (length o) ++ o) (drop n.0 n.1)) (sym is) whole

text_takes : (bytes cs rest : List ℕ) → IsBytes bytes → text_at bytes ≡ Some (cs, rest)
    → Takes bytes (text_bytes cs) rest × IsText cs
unfolding text_at
text_takes bytes cs rest fits e =
    let b = bind_some (number_at 2 bytes) (λ n. cond (ltb (length n.1) n.0) None (characters
    (take n.0 n.1) >>= λ own. Some (own, drop n.0 n.1))) (cs, rest) e in
    let n = b.0 in
    let t = exact2.takes bytes n.0 n.1 fits b.1 in
    let g = guard_some (ltb (length n.1) n.0) (characters (take n.0 n.1) >>= λ own. Some (own, drop n.0 n.1))
    (cs, rest) b.2 in
    let long : n.0 ≤ length n.1 = ltb-false _ _ g.0 in
    let c = bind_some (characters (take n.0 n.1)) (λ own. Some (own, drop n.0 n.1)) (cs, rest) g.1 in
    let own = characters_takes (take n.0 n.1) c.0 c.1 in
    let short : length (encode_utf8_all c.0) ≤ 65535 = omega (arith, t.1, ap length own.0, length-take n.0 n.1) in
    subst (λ (x : List ℕ × List ℕ). Takes bytes (text_bytes x.0) x.1
    × IsText x.0) (some_is (c.0, drop n.0 n.1) (cs, rest) c.2) (
      cut n bytes t.0 long
          (encode_utf8_all c.0) own.0,
      record { scalars = own.1; short = short },
    )

text_again : (cs rest : List ℕ) → IsText cs → text_at (text_bytes cs ++ rest) ≡ Some (cs, rest)
unfolding text_at
text_again cs rest is =
    let own = encode_utf8_all cs in
    let short : length (encode_utf8_all cs) < 256 ^ 2 = omega (arith, is.short) in
    let long : ltb (length (encode_utf8_all cs ++ rest)) (length (encode_utf8_all cs)) ≡ false =
    le-ltb _ _ (omega (arith, length-append (encode_utf8_all cs) rest)) in
    rw (
      exact2.again (length (encode_utf8_all cs)) (encode_utf8_all cs ++ rest) short,
      long,
      take_at
          (encode_utf8_all cs) rest (length (encode_utf8_all cs)) refl,
      drop_at (encode_utf8_all cs) rest (length
          (encode_utf8_all cs)) refl,
      characters_again cs is.scalars,
    ) refl

pub exact_text : Exact text_at text_bytes IsText
exact_text = record { takes = text_takes; again = text_again }

-- ---- bytes behind their count

abbrev pub IsPiece : List ℕ → Type 0
IsPiece piece = (length piece < 2 ^ 32) × AllByRecursion (λ b. b < 256) piece

abbrev pub piece_bytes : List ℕ → List ℕ
piece_bytes piece = little_bytes 4 (length piece) ++ piece

counted_takes : (bytes piece rest : List ℕ) → IsBytes bytes → counted_at bytes ≡ Some (piece, rest)
    → Takes bytes (piece_bytes piece) rest × IsPiece piece
unfolding counted_at
counted_takes bytes piece rest fits e =
    let b = bind_some (number_at 4 bytes) (λ n. cond (ltb (length n.1) n.0) None (Some
    (take n.0 n.1, drop n.0 n.1))) (piece, rest) e in
    let n = b.0 in
    let t = exact4.takes bytes n.0 n.1 fits b.1 in
    let g = guard_some (ltb (length n.1) n.0) (Some (take n.0 n.1, drop n.0 n.1)) (piece, rest) b.2 in
    let long : n.0 ≤ length n.1 = ltb-false _ _ g.0 in
    let len : length (take n.0 n.1) ≡ n.0 = omega (arith, length-take n.0 n.1) in
    let both = Takes-then bytes (little_bytes 4 n.0) n.1 (take n.0 n.1) (drop n.0 n.1) t.0
    (Takes-cut n.0 n.1 t.0.rest_fits) in
    let whole : Takes bytes (piece_bytes (take n.0 n.1)) (drop n.0 n.1) =
    subst (λ (k : ℕ). Takes bytes (little_bytes 4 k ++ take n.0 n.1) (drop n.0 n.1)) (sym len) both in
    let small : length (take n.0 n.1) < 2 ^ 32 = omega (arith, t.1) in
    subst (λ (x : List ℕ × List ℕ). Takes bytes (piece_bytes x.0) x.1
    × IsPiece x.0) (some_is (take n.0 n.1, drop n.0 n.1) (piece, rest) g.1) (
      whole,
      (
        small,
        bytes_below
            (take n.0 n.1) (IsBytes-take n.0 n.1 t.0.rest_fits),
      ),
    )

counted_again : (piece rest : List ℕ) → IsPiece piece → counted_at (piece_bytes piece ++ rest) ≡ Some (piece, rest)
unfolding counted_at
counted_again piece rest is =
    let short : length piece < 256 ^ 4 = omega (arith, is.0) in
    let long : ltb (length (piece ++ rest)) (length piece) ≡ false =
    le-ltb _ _ (omega (arith, length-append piece rest)) in
    rw (
      exact4.again (length piece) (piece ++ rest) short,
      long,
      take_at piece rest
          (length piece) refl,
      drop_at piece rest (length piece) refl,
    ) refl

pub exact_counted : Exact counted_at piece_bytes IsPiece
exact_counted = record { takes = counted_takes; again = counted_again }

-- ---- names and qids

items_take : {A : Type 0} (item_at : List ℕ → Read A) (spell : A → List ℕ) (Is : A
    → Type 0) (exact : Exact item_at spell Is) (n : ℕ) (bytes : List ℕ) (x : List A × List ℕ) → IsBytes bytes
    → items_at item_at n bytes ≡ Some x → Takes bytes (flat_map spell x.0) x.1 × (length x.0 ≡ n)
    × AllByRecursion Is x.0
unfolding items_at
items_take {A} item_at spell Is exact zero bytes x fits e =
    subst (λ (y : List A × List ℕ). Takes bytes (flat_map spell y.0) y.1 × (length y.0 ≡ 0)
    × AllByRecursion Is y.0) (some_is ([], bytes) x e) (record { parts = refl; rest_fits = fits }, refl, tt)
items_take {A} item_at spell Is exact (suc n) bytes x fits e =
    let a = bind_some (item_at bytes) (λ first. items_at item_at n first.1 >>= λ others. Some
    (first.0 ∷ others.0, others.1)) x e in
    let b = bind_some (items_at item_at n a.0.1) (λ others. Some (a.0.0 ∷ others.0, others.1)) x a.2 in
    let first = exact.takes bytes a.0.0 a.0.1 fits a.1 in
    let second = items_take item_at spell Is exact n a.0.1 b.0 first.0.rest_fits b.1 in
    let both = Takes-then bytes (spell a.0.0) a.0.1 (flat_map spell b.0.0) b.0.1 first.0 second.0 in
    let made : List A × List ℕ = (a.0.0 ∷ b.0.0, b.0.1) in
    subst (λ (y : List A × List ℕ). Takes bytes (flat_map spell y.0) y.1 × (length y.0 ≡ suc n)
    × AllByRecursion Is y.0) (some_is made x b.2) (both, ap suc second.1, (first.1, second.2))

items_again : {A : Type 0} (item_at : List ℕ → Read A) (spell : A → List ℕ) (Is : A
    → Type 0) (exact : Exact item_at spell Is) (xs : List A) (rest : List ℕ) → AllByRecursion Is xs
    → items_at item_at (length xs) (flat_map spell xs ++ rest) ≡ Some (xs, rest)
unfolding items_at
items_again item_at spell Is exact [] rest fits = refl
items_again item_at spell Is exact (x ∷ xs) rest fits =
    ap (items_at item_at (suc (length xs))) (append_assoc (spell x) (flat_map spell xs) rest)
    ∙ rw (exact.again x (flat_map spell xs ++ rest) fits.0, items_again item_at spell Is exact xs rest fits.1) refl

abbrev pub walk_bytes : {A : Type 0} → (A → List ℕ) → List A → List ℕ
walk_bytes spell xs = little_bytes 2 (length xs) ++ flat_map spell xs

abbrev pub IsWalk : {A : Type 0} → (A → Type 0) → List A → Type 0
IsWalk Is xs = (length xs ≤ 16) × AllByRecursion Is xs

walk_takes : {A : Type 0} (item_at : List ℕ → Read A) (spell : A → List ℕ) (Is : A
    → Type 0) (exact : Exact item_at spell Is) (bytes : List ℕ) (xs : List A) (rest : List ℕ) → IsBytes bytes
    → walk_at item_at bytes ≡ Some (xs, rest) → Takes bytes (walk_bytes spell xs) rest × IsWalk Is xs
unfolding walk_at
walk_takes {A} item_at spell Is exact bytes xs rest fits e =
    let b = bind_some (number_at 2 bytes) (λ n. cond (ltb 16 n.0) None (items_at item_at n.0 n.1)) (xs, rest) e in
    let n = b.0 in
    let t = exact2.takes bytes n.0 n.1 fits b.1 in
    let g = guard_some (ltb 16 n.0) (items_at item_at n.0 n.1) (xs, rest) b.2 in
    let few : n.0 ≤ 16 = ltb-false _ _ g.0 in
    let i = items_take item_at spell Is exact n.0 n.1 (xs, rest) t.0.rest_fits g.1 in
    let both = Takes-then bytes (little_bytes 2 n.0) n.1 (flat_map spell xs) rest t.0 i.0 in (
      subst (λ (k : ℕ). Takes bytes (little_bytes 2 k ++ flat_map spell xs) rest) (sym i.1) both,
      (
        omega
            (arith, i.1),
        i.2,
      ),
    )

walk_again : {A : Type 0} (item_at : List ℕ → Read A) (spell : A → List ℕ) (Is : A
    → Type 0) (exact : Exact item_at spell Is) (xs : List A) (rest : List ℕ) → IsWalk Is xs
    → walk_at item_at (walk_bytes spell xs ++ rest) ≡ Some (xs, rest)
unfolding walk_at
walk_again item_at spell Is exact xs rest is =
    let short : length xs < 256 ^ 2 = omega (arith, is.0) in
    let few : ltb 16 (length xs) ≡ false = le-ltb _ _ is.0 in
    rw (exact2.again (length xs) (flat_map spell xs ++ rest) short, few)
    (items_again item_at spell Is exact xs rest is.1)

pub exact_walk : {A : Type 0} (item_at : List ℕ → Read A) (spell : A → List ℕ) (Is : A → Type 0)
    → Exact item_at spell Is → Exact (walk_at item_at) (walk_bytes spell) (IsWalk Is)
exact_walk item_at spell Is exact = record {
  takes = walk_takes item_at spell Is exact;
  again =
      walk_again item_at spell Is exact;
}

-- ---- fields one after the other

abbrev pub AllFit : List Field → Type 0
AllFit fields = AllByRecursion IsField fields

pub record Rest {M : Type 0} (table : M → Row) (type : ℕ) (before : List Field) (m : M)
    (bytes rest : List ℕ) : Type 0 where
  pub fields : List Field
  pub is : table m ≡ row type (before ++ fields)
  pub took : Takes bytes (fields_bytes fields) rest
  pub fit : AllFit fields

-- Behind the fields before, the reader reads what spells the others of a message's row.
pub record Continues {M : Type 0} (table : M → Row) (type : ℕ) (before : List Field) (read : List ℕ
    → Read M) : Type 0 where
  pub takes : (bytes : List ℕ) (m : M) (rest : List ℕ) → IsBytes bytes → read bytes ≡ Some (m, rest)
      → Rest table type before m bytes rest

pub step : {A M : Type 0} {read : List ℕ → Read A} (f : A
    → Field) (exact : Exact read (λ a. field_bytes (f a)) (λ a. IsField (f a))) {table : M
    → Row} {type : ℕ} {before : List Field} (k : A × List ℕ → Read M)
    → ((a : A) → Continues table type (before ++ f a ∷ []) (λ after. k (a, after)))
    → Continues table type before (λ bytes. read bytes >>= k)
step {read = read} f exact {type = type} {before = before} k next = record {
  takes = λ bytes m rest fits e.
      let b = bind_some (read bytes) k (m, rest) e in
      let t = exact.takes bytes b.0.0 b.0.1 fits b.1 in
      let n = (next b.0.0).takes b.0.1 m rest t.0.rest_fits b.2 in
      record {
        fields = f b.0.0 ∷ n.fields;
        is = n.is ∙ ap (row type) (append_assoc before (f b.0.0 ∷ []) n.fields);
        took = Takes-then bytes (field_bytes (f b.0.0)) b.0.1 (fields_bytes n.fields) rest t.0 n.took;
        fit = (t.1, n.fit);
      };
}

pub done : {M : Type 0} {table : M → Row} {type : ℕ} {before : List Field} (m : M) → table m ≡ row type before
    → Continues table type before (λ bytes. Some (m, bytes))
done {M = M} {table = table} {type = type} {before = before} m is = record {
  takes = λ bytes m' rest fits e.
      subst (λ (x : M × List ℕ). Rest table type before x.0 bytes x.1) (some_is (m, bytes) (m', rest) e)
      (record {
        fields = [];
        is = is ∙ ap (row type) (sym (append-nil before));
        took = record {
          parts =
              refl;
          rest_fits = fits;
        };
        fit = tt;
      });
}

-- What the fields spell is read as the message.
pub record Again {M : Type 0} (read : List ℕ → Read M) (fields : List Field) (m : M) : Type 0 where
  pub again : (rest : List ℕ) → read (fields_bytes fields ++ rest) ≡ Some (m, rest)

pub first : {A M : Type 0} {read : List ℕ → Read A} (f : A
    → Field) (exact : Exact read (λ a. field_bytes (f a)) (λ a. IsField (f a))) {fields : List Field} {m : M}
    (k : A × List ℕ → Read M) (a : A)
    → IsField (f a) → Again (λ after. k (a, after)) fields m → Again (λ bytes. read bytes >>= k) (f a ∷ fields) m
first {read = read} f exact {fields = fields} k a fits next = record {
  again = λ rest. ap (λ (bs : List ℕ). read bs >>= k) (append_assoc (field_bytes (f a))
      (fields_bytes fields) rest) ∙ rw (exact.again a (fields_bytes fields ++ rest) fits) (next.again rest);
}

pub end : {M : Type 0} {m : M} → Again (λ bytes. Some (m, bytes)) [] m
end = record { again = λ rest. refl }

-- ---- qids

abbrev qid_row : Qid → Row
qid_row q = row 0 (number 1 q.kind ∷ number 4 q.vers ∷ number 8 q.path ∷ [])

qid_continues : Continues qid_row 0 [] qid_at
unfolding qid_at
qid_continues = step (number 1) exact1 _ (λ kind. step (number 4) exact4 _ (λ vers. step (number 8) exact8 _
    (λ path. done (record { kind = kind; vers = vers; path = path }) refl)))

qid_takes : (bytes : List ℕ) (q : Qid) (rest : List ℕ) → IsBytes bytes → qid_at bytes ≡ Some (q, rest)
    → Takes bytes (qid_bytes q) rest × IsQid q
qid_takes bytes q rest fits e =
    let r = qid_continues.takes bytes q rest fits e in
    let is : (number 1 q.kind ∷ number 4 q.vers ∷ number 8 q.path ∷ []) ≡ r.fields =
    ap (λ (x : Row). x.fields) r.is in
    let took : Takes bytes (qid_bytes q) rest =
    subst (λ (fs : List Field). Takes bytes (fields_bytes fs) rest) (sym is) r.took in
    let fit : AllFit (number 1 q.kind ∷ number 4 q.vers ∷ number 8 q.path ∷ []) =
    subst (λ (fs : List Field). AllFit fs) (sym is) r.fit in
    (took, record { kind = fit.0; vers = fit.1.0; path = fit.1.1.0 })

qid_again : (q : Qid) (rest : List ℕ) → IsQid q → qid_at (qid_bytes q ++ rest) ≡ Some (q, rest)
unfolding qid_at
qid_again q rest is =
    let a : Again qid_at (number 1 q.kind ∷ number 4 q.vers ∷ number 8 q.path ∷ []) q =
    first (number 1) exact1 _ q.kind is.kind (first (number 4) exact4 _ q.vers is.vers (first
    (number 8) exact8 _ q.path is.path end)) in
    a.again rest

pub exact_qid : Exact qid_at qid_bytes IsQid
exact_qid = record { takes = qid_takes; again = qid_again }
