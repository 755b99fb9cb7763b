-- A field that is read is the field that was written, and what was written is read again.
use Rattle.std.proofs.Common.{◌≡◌, ℕ, zero, suc, ◌+◌, ◌-◌, ◌*◌, ◌/◌, ◌%◌, ◌^◌, ◌<◌, ◌≤◌, Bool, true, false, cond, ltb, eqb}
use Rattle.std.proofs.Common.{List, [], ◌∷◌, ◌++◌, length, take, drop, Option, Some, None, Result, Ok, Err, refl}
use Rattle.std.proofs.Common.{sym, ap, subst, ◌∙◌, append_assoc, arith, inl, inr, ℤ, pos, negsuc}
use Rattle.std.specs.Prelude.{encode_utf8_all, ⊤, ◌&&◌, not}
use Rattle.std.specs.List.{flat_map, AllByRecursion}
use Rattle.std.specs.Str.{chars, is_utf8, all_scalars}
use Rattle.std.proofs.lemmas.Bool.{eqb-true, ne_eqb}
use Rattle.std.proofs.lemmas.Bool.{cases_lt, ltb-false, ltb-true, le-ltb, lt-ltb}
use Rattle.std.proofs.lemmas.List.{take_at, drop_at, take-append-drop, length-append, length-take, get_or-drop}
use Rattle.std.proofs.lemmas.List.{get_or-take, get_or_past, append-nil}
use Rattle.std.proofs.lemmas.Nat.{be_bytes_2, be_bytes_4}
use Rattle.std.proofs.lemmas.Str.{IsUtf8-from_is_utf8, is_utf8-from_IsUtf8, encodes-chars, scalars-chars}
use Rattle.std.proofs.lemmas.Str.{chars-encodes}
use lib.Utf8.{encode}
use Rattle.byteorder.specs.Endian.{big_bytes, big_number}
use Rattle.byteorder.specs.Numbers.{big_number-reads_back, big_from-lt, big_from-take, length-bytes_high_first}
use Rattle.dis_format.specs.declared.fault.Cause.{Cause}
use Rattle.dis_format.specs.declared.fault.Cause.TheVariants.{Short, BadOperand, BadData}
use Rattle.dis_format.specs.declared.fault.Refusal.{Refusal}
use Rattle.dis_format.specs.Operands.{Form, one_byte, two_bytes, four_bytes, width, bits, mark, magnitude, fits_form}
use Rattle.dis_format.specs.Operands.{low_bits, signed, form_bytes, Range, any, from_zero, within}
use Rattle.dis_format.specs.Parts.{Part, byte, below, word, number, utf8, name, raw, natural, IsNumber, IsPart}
use Rattle.dis_format.specs.Parts.{AreParts, no_zero}
use Rattle.inf_text.specs.Steps.{◌>>=◌}
use Rattle.dis_format.specs.Reading.{Read, AreBytes, refused, byte_at, below_at, bytes_at, word_at, form_of, in_form}
use Rattle.dis_format.specs.Reading.{operand_at, number_at, size, natural_at, utf8_at, many, before_zero, name_before, name_at}

-- ---- bytes

pub AreBytes-drop : (n : ℕ) (bytes : List ℕ) → AreBytes bytes → AreBytes (drop n bytes)
AreBytes-drop n bytes h i = rw get_or-drop (h (n + i))

pub AreBytes-take : (n : ℕ) (bytes : List ℕ) → AreBytes bytes → AreBytes (take n bytes)
AreBytes-take n bytes h i =
    elim (cases_lt i n) [
      | inl lt ↦ rw (get_or-take n bytes i 0 lt) (h i)
      | inr le ↦ rw (get_or_past (take n bytes) i 0 (omega (arith, length-take n bytes))) (omega arith)
    ]

-- ---- steps

-- the value of a step that gave one
pub bind_ok : {A B : Type 0} (r : Result A Refusal) (f : A → Result B Refusal) (y : B) → (r >>= f) ≡ Ok y → (x : A)
    × ((r ≡ Ok x) × (f x ≡ Ok y))
bind_ok (Ok x) f y e = (x, (refl, e))
bind_ok (Err r) f y e = absurd cc

-- a test that let a value through
pub guard_ok : {A : Type 0} (b : Bool) (r : Refusal) (x : Result A Refusal) (y : A) → cond b x (Err r) ≡ Ok y
    → (b ≡ true) × (x ≡ Ok y)
guard_ok true r x y e = (refl, e)
guard_ok false r x y e = absurd cc

pub guard_not : {A : Type 0} (b : Bool) (r : Refusal) (x : Result A Refusal) (y : A) → cond b (Err r) x ≡ Ok y
    → (b ≡ false) × (x ≡ Ok y)
guard_not true r x y e = absurd cc
guard_not false r x y e = (refl, e)

abbrev pub ok : {A : Type 0} → A → Result A Refusal
ok x = Ok x

pub ok_is : {A : Type 0} (x y : A) → ok x ≡ ok y → x ≡ y
ok_is x y e = cc

-- what was taken from the front
pub record Takes (parts : List Part) (bytes rest : List ℕ) : Type 0 where
  pub front : List ℕ
  pub spelled : AreParts parts front
  pub whole : bytes ≡ front ++ rest
  pub rest_fits : AreBytes rest

pub parts_join : (ps qs : List Part) (f g : List ℕ) → AreParts ps f → AreParts qs g → AreParts (ps ++ qs) (f ++ g)
parts_join [] qs f g p q = subst (λ (x : List ℕ). AreParts qs (x ++ g)) (sym p) q
parts_join (p ∷ ps) qs f g h q = (
  h.0,
  (h.1.0 ++ g, (h.1.1.0, parts_join ps qs h.1.0 g h.1.1.1 q, rw h.1.1.2 (append_assoc h.0 h.1.0 g))),
)

pub record Split (ps qs : List Part) (bytes : List ℕ) : Type 0 where
  pub front : List ℕ
  pub back : List ℕ
  pub front_is : AreParts ps front
  pub back_is : AreParts qs back
  pub whole : bytes ≡ front ++ back

pub parts_split : (ps qs : List Part) (bytes : List ℕ) → AreParts (ps ++ qs) bytes → Split ps qs bytes
parts_split [] qs bytes h = record { front = []; back = bytes; front_is = refl; back_is = h; whole = refl }
parts_split (p ∷ ps) qs bytes h =
    let s = parts_split ps qs h.1.0 h.1.1.1 in
    record {
      front = h.0 ++ s.front;
      back = s.back;
      front_is = (h.0, (s.front, (h.1.1.0, s.front_is, refl)));
      back_is = s.back_is;
      whole = h.1.1.2 ∙ ap (λ (x : List ℕ). h.0 ++ x) s.whole ∙ sym (append_assoc h.0 s.front s.back);
    }

pub Takes-then : (ps qs : List Part) (a b c : List ℕ) → Takes ps a b → Takes qs b c → Takes (ps ++ qs) a c
Takes-then ps qs a b c p q = record {
  front = p.front ++ q.front;
  spelled = parts_join ps qs p.front q.front p.spelled q.spelled;
  whole = p.whole ∙ ap (λ (t : List ℕ). p.front ++ t) q.whole ∙ sym (append_assoc p.front q.front c);
  rest_fits = q.rest_fits;
}

-- one part
pub one_part : (part : Part) (bytes : List ℕ) → IsPart part bytes → AreParts (part ∷ []) bytes
one_part part bytes h = (bytes, ([], (h, refl, sym (append-nil bytes))))

pub part_of : (part : Part) (bytes : List ℕ) → AreParts (part ∷ []) bytes → IsPart part bytes
part_of part bytes h =
    let same : h.0 ≡ bytes = sym (h.1.1.2 ∙ ap (λ (x : List ℕ). h.0 ++ x) h.1.1.1 ∙ append-nil h.0) in
    subst (λ (x : List ℕ). IsPart part x) same h.1.1.0

-- ---- one field

-- The reader reads what spells a value, and nothing else.
pub record Exact {A : Type 0} (read : List ℕ → Read A) (parts : A → List Part) (Is : A → Type 0) : Type 0 where
  pub takes : (bytes : List ℕ) (a : A) (rest : List ℕ) → AreBytes bytes → read bytes ≡ Ok (a, rest)
      → Takes (parts a) bytes rest × Is a
  pub again : (a : A) (front rest : List ℕ) → Is a → AreParts (parts a) front → read (front ++ rest) ≡ Ok (a, rest)

pub exact_byte : Exact byte_at (λ b. byte b ∷ []) (λ b. b < 256)
exact_byte = record { takes = takes; again = again }
  where
    takes : (bytes : List ℕ) (a : ℕ) (rest : List ℕ) → AreBytes bytes → byte_at bytes ≡ Ok (a, rest)
        → Takes (byte a ∷ []) bytes rest × (a < 256)
    takes [] a rest fits e = absurd cc
    takes (b ∷ bytes) a rest fits e =
        subst (λ (x : ℕ × List ℕ). Takes (byte x.0 ∷ []) (b ∷ bytes) x.1 × (x.0 < 256)) (ok_is (b, bytes) (a, rest) e) (
          record {
            front = b ∷ [];
            spelled = one_part (byte b) (b ∷ []) refl;
            whole = refl;
            rest_fits = λ i. fits (suc i);
          },
          fits 0,
        )

    again : (a : ℕ) (front rest : List ℕ) → a < 256 → AreParts (byte a ∷ []) front → byte_at (front ++ rest) ≡ Ok (a, rest)
    again a front rest is h = rw (part_of (byte a) front h) refl

-- a field that has to pass a test too
pub guarded : {A : Type 0} (read : List ℕ → Read A) (parts : A → List Part) (Is : A → Type 0) (test : A → Bool)
    (cause : Cause) → Exact read parts Is
    → Exact (λ bytes. read bytes >>= λ x. cond (test x.0) (Ok x) (refused cause bytes)) parts (λ a. Is a × (test a ≡ true))
guarded {A} read parts Is test cause exact = record { takes = takes; again = again }
  where
    takes : (bytes : List ℕ) (a : A) (rest : List ℕ) → AreBytes bytes
        → (read bytes >>= λ x. cond (test x.0) (Ok x) (refused cause bytes)) ≡ Ok (a, rest)
        → Takes (parts a) bytes rest × (Is a × (test a ≡ true))
    takes bytes a rest fits e =
        let b = bind_ok (read bytes) (λ x. cond (test x.0) (Ok x) (refused cause bytes)) (a, rest) e in
        let g = guard_ok (test b.0.0) (record { cause = cause; left = length bytes }) (Ok b.0) (a, rest) b.1.1 in
        let t = exact.takes bytes b.0.0 b.0.1 fits b.1.0 in
        subst (λ (x : A × List ℕ). Takes (parts x.0) bytes x.1 × (Is x.0 × (test x.0 ≡ true)))
        (ok_is b.0 (a, rest) g.1) (t.0, (t.1, g.0))

    again : (a : A) (front rest : List ℕ) → Is a × (test a ≡ true) → AreParts (parts a) front
        → (read (front ++ rest) >>= λ x. cond (test x.0) (Ok x) (refused cause (front ++ rest))) ≡ Ok (a, rest)
    again a front rest is h = rw (exact.again a front rest is.0 h, is.1) refl

pub exact_below : (limit : ℕ) → Exact (below_at limit) (λ b. below limit b ∷ []) (λ b. ⊤)
unfolding below_at
exact_below limit = record { takes = takes; again = again }
  where
    takes : (bytes : List ℕ) (a : ℕ) (rest : List ℕ) → AreBytes bytes → below_at limit bytes ≡ Ok (a, rest)
        → Takes (below limit a ∷ []) bytes rest × ⊤
    takes bytes a rest fits e =
        let b = bind_ok (byte_at bytes) (λ x. cond (ltb x.0 limit) (Ok x) (refused BadOperand bytes)) (a, rest) e in
        let g = guard_ok (ltb b.0.0 limit) (record { cause = BadOperand; left = length bytes }) (Ok b.0) (a, rest) b.1.1 in
        let t = (exact_byte.takes bytes b.0.0 b.0.1 fits b.1.0).0 in
        subst (λ (x : ℕ × List ℕ). Takes (below limit x.0 ∷ []) bytes x.1 × ⊤) (ok_is b.0 (a, rest) g.1) (
          record {
            front = t.front;
            spelled = one_part (below limit b.0.0) t.front
                (ltb-true _ _ g.0, part_of (byte b.0.0) t.front t.spelled);
            whole = t.whole;
            rest_fits = t.rest_fits;
          },
          tt,
        )

    again : (a : ℕ) (front rest : List ℕ) → ⊤ → AreParts (below limit a ∷ []) front
        → below_at limit (front ++ rest) ≡ Ok (a, rest)
    again a front rest is h =
        let p = part_of (below limit a) front h in
        rw (p.1, lt-ltb a limit p.0) refl

-- so many bytes
pub taken : (n : ℕ) (part : Part) (bytes : List ℕ) → AreBytes bytes → IsPart part (take n bytes)
    → Takes (part ∷ []) bytes (drop n bytes)
taken n part bytes fits is = record {
  front = take n bytes;
  spelled = one_part part (take n bytes) is;
  whole = sym (take-append-drop n bytes);
  rest_fits = AreBytes-drop n bytes fits;
}

pub exact_bytes : (n : ℕ) → Exact (bytes_at n) (λ xs. raw xs ∷ []) (λ xs. length xs ≡ n)
exact_bytes n = record { takes = takes; again = again }
  where
    takes : (bytes : List ℕ) (a : List ℕ) (rest : List ℕ) → AreBytes bytes → bytes_at n bytes ≡ Ok (a, rest)
        → Takes (raw a ∷ []) bytes rest × (length a ≡ n)
    takes bytes a rest fits e =
        let g = guard_not (ltb (length bytes) n) (record { cause = Short; left = length bytes })
        (Ok (take n bytes, drop n bytes)) (a, rest) e in
        let long : n ≤ length bytes = ltb-false _ _ g.0 in
        subst (λ (x : List ℕ × List ℕ). Takes (raw x.0 ∷ []) bytes x.1 × (length x.0 ≡ n))
        (ok_is (take n bytes, drop n bytes) (a, rest) g.1)
        (taken n (raw (take n bytes)) bytes fits refl, omega (arith, length-take n bytes))

    again : (a : List ℕ) (front rest : List ℕ) → length a ≡ n → AreParts (raw a ∷ []) front
        → bytes_at n (front ++ rest) ≡ Ok (a, rest)
    again a front rest is h =
        let p : front ≡ a = part_of (raw a) front h in
        let long : ltb (length (a ++ rest)) n ≡ false = le-ltb _ _ (omega (arith, length-append a rest, is)) in
        rw (p, long, take_at a rest n is, drop_at a rest n is) refl

pub exact_word : Exact word_at (λ n. word n ∷ []) (λ n. ⊤)
exact_word = record { takes = takes; again = again }
  where
    takes : (bytes : List ℕ) (a : ℕ) (rest : List ℕ) → AreBytes bytes → word_at bytes ≡ Ok (a, rest)
        → Takes (word a ∷ []) bytes rest × ⊤
    takes bytes a rest fits e =
        let g = guard_not (ltb (length bytes) 4) (record { cause = Short; left = length bytes })
        (Ok (big_number 4 bytes, drop 4 bytes)) (a, rest) e in
        let long : 4 ≤ length bytes = ltb-false _ _ g.0 in
        let front : big_bytes 4 (big_number 4 bytes) ≡ take 4 bytes =
        ap (big_bytes 4) (sym (big_from-take 0 4 4 bytes (omega arith)))
        ∙ be_bytes_4 (take 4 bytes) _ (omega (arith, length-take 4 bytes)) (AreBytes-take 4 bytes fits) (omega arith) in
        subst (λ (x : ℕ × List ℕ). Takes (word x.0 ∷ []) bytes x.1 × ⊤)
        (ok_is (big_number 4 bytes, drop 4 bytes) (a, rest) g.1)
        (taken 4 (word (big_number 4 bytes)) bytes fits (big_from-lt 0 4 bytes fits, sym front), tt)

    again : (a : ℕ) (front rest : List ℕ) → ⊤ → AreParts (word a ∷ []) front → word_at (front ++ rest) ≡ Ok (a, rest)
    again a front rest is h =
        let p = part_of (word a) front h in
        let len = length-bytes_high_first 4 a in
        let long : ltb (length (big_bytes 4 a ++ rest)) 4 ≡ false =
        le-ltb _ _ (omega (arith, length-append (big_bytes 4 a) rest)) in
        rw (p.1, long, big_number-reads_back 4 a rest p.0, drop_at (big_bytes 4 a) rest 4 len) refl

-- ---- operands

-- a number in two's complement, by half of what its bits count to and the greatest number of the bits
abbrev sign_of : ℕ → ℕ → ℕ → ℤ
sign_of half top u = cond (ltb u half) (pos u) (negsuc (top - u))

abbrev low_of : ℕ → ℤ → ℕ
low_of top (pos n) = n
low_of top (negsuc n) = top - n

-- a number that so many bits hold comes back
low_signed : (half top u : ℕ) → top + 1 ≡ 2 * half → u ≤ top
    → (low_of top (sign_of half top u) ≡ u) × (ltb (magnitude (sign_of half top u)) half ≡ true)
low_signed half top u twice le = at (ltb u half) refl
  where
    at : (b : Bool) → ltb u half ≡ b
        → (low_of top (sign_of half top u) ≡ u) × (ltb (magnitude (sign_of half top u)) half ≡ true)
    at true e = rw e (refl, e)
    at false e = let over = ltb-false _ _ e in rw e (omega arith, lt-ltb _ _ (omega arith))

signed_low : (half top : ℕ) (n : ℤ) → top + 1 ≡ 2 * half → ltb (magnitude n) half ≡ true
    → (sign_of half top (low_of top n) ≡ n) × (low_of top n ≤ top)
signed_low half top (pos n) twice fits = let lt = ltb-true _ _ fits in (rw fits refl, omega arith)
signed_low half top (negsuc n) twice fits =
    let lt = ltb-true _ _ fits in
    let over : ltb (top - n) half ≡ false = le-ltb _ _ (omega arith) in
    let back : top - (top - n) ≡ n = omega arith in (rw (over, back) refl, omega arith)

-- how a form holds a number
record Holds (form : Form) : Type 0 where
  there : (u : ℕ) → u < 2 ^ bits form
      → (low_bits (bits form) (signed (bits form) u) ≡ u) × (fits_form form (signed (bits form) u) ≡ true)
  back : (n : ℤ) → fits_form form n ≡ true
      → (signed (bits form) (low_bits (bits form) n) ≡ n) × (low_bits (bits form) n < 2 ^ bits form)

holds : (form : Form) → Holds form
holds one_byte = record {
  there = λ u lt. low_signed 64 127 u refl (omega arith);
  back = λ n fits. let h = signed_low 64 127 n refl fits in (h.0, omega (arith, h.1));
}
holds two_bytes = record {
  there = λ u lt. low_signed 8192 16383 u refl (omega arith);
  back = λ n fits. let h = signed_low 8192 16383 n refl fits in (h.0, omega (arith, h.1));
}
holds four_bytes = record {
  there = λ u lt. low_signed 536870912 1073741823 u refl (omega arith);
  back = λ n fits. let h = signed_low 536870912 1073741823 n refl fits in (h.0, omega (arith, h.1));
}

-- the bytes of a form are what their number is made of
back_of : (form : Form) (bytes : List ℕ) → AreBytes bytes → length bytes ≡ width form
    → big_bytes (width form) (big_number (width form) bytes) ≡ bytes
back_of one_byte [] fits e = absurd (omega arith)
back_of one_byte (b ∷ []) fits e =
    let below = fits 0 in
    let same : (b * 256 ^ 0 + 0) % 256 ≡ b = omega arith in ap (λ (x : ℕ). x ∷ []) same
back_of one_byte (b ∷ c ∷ bytes) fits e = absurd (omega arith)
back_of two_bytes bytes fits e = be_bytes_2 bytes _ e fits (omega arith)
back_of four_bytes bytes fits e = be_bytes_4 bytes _ e fits (omega arith)

-- the first byte of a form
abbrev begins : Form → ℕ → Type 0
begins one_byte b = b < 128
begins two_bytes b = (128 ≤ b) × (b < 192)
begins four_bytes b = 192 ≤ b

begins_so : (b : ℕ) → begins (form_of b) b
begins_so b = at (ltb b 128) (ltb b 192) refl refl
  where
    at : (p q : Bool) → ltb b 128 ≡ p → ltb b 192 ≡ q
        → begins (cond p one_byte (cond q two_bytes four_bytes)) b
    at true q ep eq = ltb-true _ _ ep
    at false true ep eq = (ltb-false _ _ ep, ltb-true _ _ eq)
    at false false ep eq = ltb-false _ _ eq

begins_is : (b : ℕ) (form : Form) → begins form b → form_of b ≡ form
begins_is b one_byte h = rw (lt-ltb b 128 h) refl
begins_is b two_bytes h = rw (le-ltb b 128 h.0, lt-ltb b 192 h.1) refl
begins_is b four_bytes h = let le : 128 ≤ b = omega (arith, h) in rw (le-ltb b 128 le, le-ltb b 192 h) refl

-- a form's number lies behind the form's mark
marked : (form : Form) (b : ℕ) (bytes : List ℕ) → AreBytes (b ∷ bytes) → begins form b
    → (mark form ≤ big_number (width form) (b ∷ bytes))
    × (big_number (width form) (b ∷ bytes) < mark form + 2 ^ bits form)
marked one_byte b bytes fits h = (omega arith, omega arith)
marked two_bytes b bytes fits h = let c = fits 1 in (omega arith, omega arith)
marked four_bytes b bytes fits h =
    let b0 = fits 0 in
    let c = fits 1 in
    let d = fits 2 in
    let e = fits 3 in (omega arith, omega arith)

number_of : Form → List ℕ → ℕ
number_of form bytes = big_number (width form) bytes

in_form_takes : (form : Form) (b : ℕ) (bytes : List ℕ) (n : ℤ) (rest : List ℕ) → AreBytes (b ∷ bytes) → begins form b
    → in_form form (b ∷ bytes) ≡ Ok (n, rest)
    → (fits_form form n ≡ true) × (take (width form) (b ∷ bytes) ≡ form_bytes form n)
    × (rest ≡ drop (width form) (b ∷ bytes))
in_form_takes form b bytes n rest fits begin e =
    let all = b ∷ bytes in
    let low = big_number (width form) all - mark form in
    let g = guard_not (ltb (length all) (width form)) (record { cause = Short; left = length all })
    (Ok (signed (bits form) low, drop (width form) all)) (n, rest) e in
    let long : width form ≤ length all = ltb-false _ _ g.0 in
    let m = marked form b bytes fits begin in
    let h = (holds form).there low (omega (arith, m.0, m.1)) in
    let whole : mark form + low_bits (bits form) (signed (bits form) low) ≡ big_number (width form) all =
    rw h.0 (omega (arith, m.0)) in
    let front : take (width form) all ≡ form_bytes form (signed (bits form) low) =
    sym (ap (big_bytes (width form)) whole
    ∙ ap (big_bytes (width form)) (sym (big_from-take 0 (width form) (width form) all (omega arith)))
    ∙ back_of form (take (width form) all) (AreBytes-take (width form) all fits)
    (omega (arith, length-take (width form) all))) in
    subst (λ (x : ℤ × List ℕ). (fits_form form x.0 ≡ true) × (take (width form) all ≡ form_bytes form x.0)
    × (x.1 ≡ drop (width form) all))
    (ok_is (signed (bits form) low, drop (width form) all) (n, rest) g.1) (h.1, front, refl)

in_form_again : (form : Form) (n : ℤ) (rest : List ℕ) → fits_form form n ≡ true
    → in_form form (form_bytes form n ++ rest) ≡ Ok (n, rest)
in_form_again form n rest fits =
    let h = (holds form).back n fits in
    let low = low_bits (bits form) n in
    let len = length-bytes_high_first (width form) (mark form + low) in
    let long : ltb (length (form_bytes form n ++ rest)) (width form) ≡ false =
    le-ltb _ _ (omega (arith, length-append (form_bytes form n) rest, len)) in
    let back : big_number (width form) (form_bytes form n ++ rest) ≡ mark form + low =
    big_number-reads_back (width form) (mark form + low) rest (room form low h.1) in
    let bare : mark form + low - mark form ≡ low = omega arith in
    rw (long, back, bare, h.0, drop_at (form_bytes form n) rest (width form) len) refl
  where
    room : (f : Form) (low : ℕ) → low < 2 ^ bits f → mark f + low < 256 ^ width f
    room one_byte low lt = omega arith
    room two_bytes low lt = omega arith
    room four_bytes low lt = omega arith

record Begins (form : Form) (bytes : List ℕ) : Type 0 where
  first : ℕ
  others : List ℕ
  is : bytes ≡ first ∷ others
  begin : begins form first

form_begins : (form : Form) (n : ℤ) → fits_form form n ≡ true → Begins form (form_bytes form n)
form_begins form n fits = at form (low_bits (bits form) n) ((holds form).back n fits).1
  where
    at : (f : Form) (low : ℕ) → low < 2 ^ bits f → Begins f (big_bytes (width f) (mark f + low))
    at one_byte low lt = record { first = _; others = _; is = refl; begin = omega arith }
    at two_bytes low lt = record { first = _; others = _; is = refl; begin = (omega arith, omega arith) }
    at four_bytes low lt = record { first = _; others = _; is = refl; begin = omega arith }

operand_front : (form : Form) (bytes rest : List ℕ) → Begins form bytes
    → operand_at (bytes ++ rest) ≡ in_form form (bytes ++ rest)
unfolding operand_at
operand_front form bytes rest b = rw (b.is, begins_is b.first form b.begin) refl

pub operand_takes : (bytes : List ℕ) (n : ℤ) (rest : List ℕ) → AreBytes bytes → operand_at bytes ≡ Ok (n, rest)
    → Takes (number any n ∷ []) bytes rest
unfolding operand_at
operand_takes [] n rest fits e = absurd cc
operand_takes (b ∷ bytes) n rest fits e =
    let form = form_of b in
    let h = in_form_takes form b bytes n rest fits (begins_so b) e in
    subst (λ (x : List ℕ). Takes (number any n ∷ []) (b ∷ bytes) x) (sym h.2)
    (taken (width form) (number any n) (b ∷ bytes) fits (form, (refl, h.0, h.1)))

pub operand_again : (range : Range) (n : ℤ) (front rest : List ℕ) → IsNumber range n front
    → operand_at (front ++ rest) ≡ Ok (n, rest)
operand_again range n front rest h =
    let b = form_begins h.0 n h.1.1 in
    rw h.1.2 (operand_front h.0 (form_bytes h.0 n) rest b ∙ in_form_again h.0 n rest h.1.1)

pub exact_operand : Exact operand_at (λ n. number any n ∷ []) (λ n. ⊤)
exact_operand = record {
  takes = λ bytes n rest fits e. (operand_takes bytes n rest fits e, tt);
  again = λ n front rest is h. operand_again any n front rest (part_of (number any n) front h);
}

pub exact_number : (range : Range) → Exact (number_at range) (λ n. number range n ∷ []) (λ n. ⊤)
unfolding number_at
exact_number range = record { takes = takes; again = again }
  where
    takes : (bytes : List ℕ) (a : ℤ) (rest : List ℕ) → AreBytes bytes → number_at range bytes ≡ Ok (a, rest)
        → Takes (number range a ∷ []) bytes rest × ⊤
    takes bytes a rest fits e =
        let b = bind_ok (operand_at bytes) (λ x. cond (within range x.0) (Ok x) (refused BadOperand bytes)) (a, rest) e in
        let g = guard_ok (within range b.0.0) (record { cause = BadOperand; left = length bytes }) (Ok b.0) (a, rest)
        b.1.1 in
        let t = operand_takes bytes b.0.0 b.0.1 fits b.1.0 in
        let is = part_of (number any b.0.0) t.front t.spelled in
        subst (λ (x : ℤ × List ℕ). Takes (number range x.0 ∷ []) bytes x.1 × ⊤) (ok_is b.0 (a, rest) g.1) (
          record {
            front = t.front;
            spelled = one_part (number range b.0.0) t.front (is.0, (g.0, is.1.1, is.1.2));
            whole = t.whole;
            rest_fits = t.rest_fits;
          },
          tt,
        )

    again : (a : ℤ) (front rest : List ℕ) → ⊤ → AreParts (number range a ∷ []) front
        → number_at range (front ++ rest) ≡ Ok (a, rest)
    again a front rest is h =
        let p = part_of (number range a) front h in
        rw (operand_again range a front rest p, p.1.0) refl

-- what isn't below 0 is its size
sized : (n : ℤ) → within from_zero n ≡ true → n ≡ pos (size n)
sized (pos n) h = refl
sized (negsuc n) h = absurd cc

pub exact_natural : Exact natural_at (λ n. natural n ∷ []) (λ n. ⊤)
unfolding natural_at
exact_natural = record { takes = takes; again = again }
  where
    takes : (bytes : List ℕ) (a : ℕ) (rest : List ℕ) → AreBytes bytes → natural_at bytes ≡ Ok (a, rest)
        → Takes (natural a ∷ []) bytes rest × ⊤
    takes bytes a rest fits e =
        let b = bind_ok (number_at from_zero bytes) (λ x. Ok (size x.0, x.1)) (a, rest) e in
        let t = ((exact_number from_zero).takes bytes b.0.0 b.0.1 fits b.1.0).0 in
        let is = part_of (number from_zero b.0.0) t.front t.spelled in
        subst (λ (x : ℕ × List ℕ). Takes (natural x.0 ∷ []) bytes x.1 × ⊤)
        (ok_is (size b.0.0, b.0.1) (a, rest) b.1.1)
        (subst (λ (z : ℤ). Takes (number from_zero z ∷ []) bytes b.0.1) (sized b.0.0 is.1.0) t, tt)

    again : (a : ℕ) (front rest : List ℕ) → ⊤ → AreParts (natural a ∷ []) front
        → natural_at (front ++ rest) ≡ Ok (a, rest)
    again a front rest is h = rw ((exact_number from_zero).again (pos a) front rest tt h) refl

-- ---- texts

characters : (own cs : List ℕ) → is_utf8 own ≡ true → chars own ≡ cs
    → (encode_utf8_all cs ≡ own) × (all_scalars cs ≡ true)
characters own cs good e =
    let u = IsUtf8-from_is_utf8 own good in
    subst (λ (x : List ℕ). (encode_utf8_all x ≡ own) × (all_scalars x ≡ true)) e (encodes-chars own u, scalars-chars own u)

pub well_formed : (cs : List ℕ) → all_scalars cs ≡ true → is_utf8 (encode_utf8_all cs) ≡ true
well_formed cs s = is_utf8-from_IsUtf8 (encode_utf8_all cs) (cs, (s, refl))

pub exact_utf8 : (n : ℕ) → Exact (utf8_at n) (λ cs. utf8 cs ∷ []) (λ cs. length (encode_utf8_all cs) ≡ n)
unfolding utf8_at
exact_utf8 n = record { takes = takes; again = again }
  where
    takes : (bytes : List ℕ) (a : List ℕ) (rest : List ℕ) → AreBytes bytes → utf8_at n bytes ≡ Ok (a, rest)
        → Takes (utf8 a ∷ []) bytes rest × (length (encode_utf8_all a) ≡ n)
    takes bytes a rest fits e =
        let b = bind_ok (bytes_at n bytes) (λ x. cond (is_utf8 x.0) (Ok (chars x.0, x.1)) (refused BadData bytes))
        (a, rest) e in
        let own = b.0.0 in
        let g = guard_ok (is_utf8 own) (record { cause = BadData; left = length bytes }) (Ok (chars own, b.0.1)) (a, rest)
        b.1.1 in
        let t = (exact_bytes n).takes bytes own b.0.1 fits b.1.0 in
        let c = characters own (chars own) g.0 refl in
        let same : t.0.front ≡ encode_utf8_all (chars own) = part_of (raw own) t.0.front t.0.spelled ∙ sym c.0 in
        subst (λ (x : List ℕ × List ℕ). Takes (utf8 x.0 ∷ []) bytes x.1 × (length (encode_utf8_all x.0) ≡ n))
        (ok_is (chars own, b.0.1) (a, rest) g.1) (
          record {
            front = t.0.front;
            spelled = one_part (utf8 (chars own)) t.0.front (c.1, same);
            whole = t.0.whole;
            rest_fits = t.0.rest_fits;
          },
          ap length c.0 ∙ t.1,
        )

    again : (a : List ℕ) (front rest : List ℕ) → length (encode_utf8_all a) ≡ n → AreParts (utf8 a ∷ []) front
        → utf8_at n (front ++ rest) ≡ Ok (a, rest)
    again a front rest is h =
        let p = part_of (utf8 a) front h in
        rw (
          p.1,
          (exact_bytes n).again (encode_utf8_all a) (encode_utf8_all a) rest is
              (one_part (raw (encode_utf8_all a)) (encode_utf8_all a) refl),
          well_formed a p.0,
          chars-encodes a p.0,
        ) refl

-- ---- names

over_zero : (a : ℕ) → 0 < a → eqb a 0 ≡ false
over_zero a lt = ne_eqb a 0 (λ h. omega (arith, h))

-- UTF-8 has a byte 0 exactly for a character 0
zero_char : (c : ℕ) (rest : List ℕ) → no_zero (encode c ++ rest) ≡ (not (eqb c 0) && no_zero rest)
unfolding encode
zero_char c rest = at (ltb c 128) (ltb c 2048) (ltb c 65536) refl refl refl
  where
    at : (p q r : Bool) → ltb c 128 ≡ p → ltb c 2048 ≡ q → ltb c 65536 ≡ r
        → no_zero (encode c ++ rest) ≡ (not (eqb c 0) && no_zero rest)
    at true q r ep eq er = rw ep refl
    at false true r ep eq er =
        let le = ltb-false _ _ ep in
        rw (ep, eq, over_zero c (omega arith), over_zero (192 + c / 64) (omega arith), over_zero (128 + c % 64) (omega arith)) refl
    at false false true ep eq er =
        let le = ltb-false _ _ ep in
        rw (
          ep,
          eq,
          er,
          over_zero c (omega arith),
          over_zero (224 + c / 4096) (omega arith),
          over_zero (128 + c / 64 % 64) (omega arith),
          over_zero (128 + c % 64) (omega arith),
        ) refl
    at false false false ep eq er =
        let le = ltb-false _ _ ep in
        rw (
          ep,
          eq,
          er,
          over_zero c (omega arith),
          over_zero (240 + c / 262144) (omega arith),
          over_zero (128 + c / 4096 % 64) (omega arith),
          over_zero (128 + c / 64 % 64) (omega arith),
          over_zero (128 + c % 64) (omega arith),
        ) refl

pub zero_text : (cs : List ℕ) → no_zero (encode_utf8_all cs) ≡ no_zero cs
zero_text [] = refl
zero_text (c ∷ cs) = zero_char c (encode_utf8_all cs) ∙ ap (λ (b : Bool). not (eqb c 0) && b) (zero_text cs)

-- what stands before the first byte 0
pub record UpToZero (bytes : List ℕ) (n : ℕ) : Type 0 where
  pub whole : bytes ≡ take n bytes ++ 0 ∷ drop (suc n) bytes
  pub none : no_zero (take n bytes) ≡ true
  pub within : n < length bytes

zero_takes : (bytes : List ℕ) (n : ℕ) → before_zero bytes ≡ Some n → UpToZero bytes n
zero_takes [] n e = absurd cc
zero_takes (b ∷ bytes) n e = at (zero_takes bytes) (eqb b 0) refl
  where
    later : ((m : ℕ) → before_zero bytes ≡ Some m → UpToZero bytes m)
        → (o : Option ℕ) → before_zero bytes ≡ o → eqb b 0 ≡ false
        → elim o [ Some m ↦ Some (suc m) | None ↦ None ] ≡ Some n → UpToZero (b ∷ bytes) n
    later up None is differs e = absurd cc
    later up (Some m) is differs e =
        let r = up m is in
        let same : suc m ≡ n = cc in
        subst (λ (k : ℕ). UpToZero (b ∷ bytes) k) same (record {
          whole = ap (λ (x : List ℕ). b ∷ x) r.whole;
          none = rw differs r.none;
          within = omega (arith, r.within);
        })

    at : ((m : ℕ) → before_zero bytes ≡ Some m → UpToZero bytes m)
        → (z : Bool) → eqb b 0 ≡ z → UpToZero (b ∷ bytes) n
    at up true is =
        let zero_is : b ≡ 0 = eqb-true _ _ is in
        let same : 0 ≡ n = cc in
        subst (λ (k : ℕ). UpToZero (b ∷ bytes) k) same (record {
          whole = ap (λ (x : ℕ). x ∷ bytes) zero_is;
          none = refl;
          within = omega arith;
        })
    at up false is = later up (before_zero bytes) refl is (sym (rw is refl) ∙ e)

zero_again : (xs rest : List ℕ) → no_zero xs ≡ true → before_zero (xs ++ 0 ∷ rest) ≡ Some (length xs)
zero_again [] rest none = refl
zero_again (x ∷ xs) rest none = at (zero_again xs rest) (eqb x 0) refl none
  where
    differ : false ≡ true → ⊥
    differ e = cc

    at : (no_zero xs ≡ true → before_zero (xs ++ 0 ∷ rest) ≡ Some (length xs)) → (z : Bool) → eqb x 0 ≡ z
        → (not (eqb x 0) && no_zero xs) ≡ true → before_zero (x ∷ (xs ++ 0 ∷ rest)) ≡ Some (suc (length xs))
    at up true is none = absurd (differ (sym (rw is refl) ∙ none))
    at up false is none = rw (is, up (sym (rw is refl) ∙ none)) refl

pub exact_name : Exact name_at (λ cs. name cs ∷ []) (λ cs. ⊤)
unfolding name_at
exact_name = record { takes = takes; again = again }
  where
    found : (bytes : List ℕ) (a rest : List ℕ) → AreBytes bytes → (o : Option ℕ) → before_zero bytes ≡ o
        → name_before o bytes ≡ Ok (a, rest) → Takes (name a ∷ []) bytes rest × ⊤
    found bytes a rest fits None is e = absurd cc
    found bytes a rest fits (Some n) is e =
        let own = take n bytes in
        let g = guard_ok (is_utf8 own) (record { cause = BadData; left = length bytes })
        (Ok (chars own, drop (suc n) bytes)) (a, rest) e in
        let z = zero_takes bytes n is in
        let c = characters own (chars own) g.0 refl in
        let none : no_zero (chars own) ≡ true = sym (zero_text (chars own)) ∙ ap no_zero c.0 ∙ z.none in
        subst (λ (x : List ℕ × List ℕ). Takes (name x.0 ∷ []) bytes x.1 × ⊤)
        (ok_is (chars own, drop (suc n) bytes) (a, rest) g.1) (
          record {
            front = own ++ 0 ∷ [];
            spelled = one_part (name (chars own)) (own ++ 0 ∷ []) (c.1, none, ap (λ (x : List ℕ). x ++ 0 ∷ []) (sym c.0));
            whole = z.whole ∙ sym (append_assoc own (0 ∷ []) (drop (suc n) bytes));
            rest_fits = AreBytes-drop (suc n) bytes fits;
          },
          tt,
        )

    takes : (bytes : List ℕ) (a : List ℕ) (rest : List ℕ) → AreBytes bytes → name_at bytes ≡ Ok (a, rest)
        → Takes (name a ∷ []) bytes rest × ⊤
    takes bytes a rest fits e = found bytes a rest fits (before_zero bytes) refl e

    again : (a : List ℕ) (front rest : List ℕ) → ⊤ → AreParts (name a ∷ []) front
        → name_at (front ++ rest) ≡ Ok (a, rest)
    again a front rest is h =
        let p = part_of (name a) front h in
        let own = encode_utf8_all a in
        let all : front ++ rest ≡ own ++ 0 ∷ rest = ap (λ (x : List ℕ). x ++ rest) p.2 ∙ append_assoc own (0 ∷ []) rest in
        let none : no_zero own ≡ true = zero_text a ∙ p.1 in
        let after : drop (suc (length own)) (own ++ 0 ∷ rest) ≡ rest =
        ap (drop (suc (length own))) (sym (append_assoc own (0 ∷ []) rest))
        ∙ drop_at (own ++ 0 ∷ []) rest (suc (length own)) (length-append own (0 ∷ []) ∙ omega arith) in
        rw (
          all,
          zero_again own rest none,
          take_at own (0 ∷ rest) (length own) refl,
          well_formed a p.0,
          chars-encodes a p.0,
          after,
        ) refl

-- ---- items one after the other

many_takes : {A : Type 0} (item_at : List ℕ → Read A) (parts : A → List Part) (Is : A → Type 0) → Exact item_at parts Is
    → (n : ℕ) (bytes : List ℕ) (x : List A × List ℕ) → AreBytes bytes → many item_at n bytes ≡ Ok x
    → Takes (flat_map parts x.0) bytes x.1 × ((length x.0 ≡ n) × AllByRecursion Is x.0)
unfolding many
many_takes {A} item_at parts Is exact zero bytes x fits e =
    subst (λ (y : List A × List ℕ). Takes (flat_map parts y.0) bytes y.1 × ((length y.0 ≡ 0) × AllByRecursion Is y.0))
    (ok_is ([], bytes) x e) (record { front = []; spelled = refl; whole = refl; rest_fits = fits }, (refl, tt))
many_takes {A} item_at parts Is exact (suc n) bytes x fits e =
    let a = bind_ok (item_at bytes) (λ first. many item_at n first.1 >>= λ others. Ok (first.0 ∷ others.0, others.1))
    x e in
    let b = bind_ok (many item_at n a.0.1) (λ others. Ok (a.0.0 ∷ others.0, others.1)) x a.1.1 in
    let first = exact.takes bytes a.0.0 a.0.1 fits a.1.0 in
    let second = many_takes item_at parts Is exact n a.0.1 b.0 first.0.rest_fits b.1.0 in
    let both = Takes-then (parts a.0.0) (flat_map parts b.0.0) bytes a.0.1 b.0.1 first.0 second.0 in
    let made : List A × List ℕ = (a.0.0 ∷ b.0.0, b.0.1) in
    subst (λ (y : List A × List ℕ). Takes (flat_map parts y.0) bytes y.1 × ((length y.0 ≡ suc n)
    × AllByRecursion Is y.0)) (ok_is made x b.1.1) (both, (ap suc second.1.0, (first.1, second.1.1)))

many_again : {A : Type 0} (item_at : List ℕ → Read A) (parts : A → List Part) (Is : A → Type 0) → Exact item_at parts Is
    → (xs : List A) (front rest : List ℕ) → AllByRecursion Is xs → AreParts (flat_map parts xs) front
    → many item_at (length xs) (front ++ rest) ≡ Ok (xs, rest)
unfolding many
many_again item_at parts Is exact [] front rest is h = rw h refl
many_again item_at parts Is exact (x ∷ xs) front rest is h =
    let s = parts_split (parts x) (flat_map parts xs) front h in
    ap (many item_at (suc (length xs))) (ap (λ (y : List ℕ). y ++ rest) s.whole ∙ append_assoc s.front s.back rest)
    ∙ rw (
      exact.again x s.front (s.back ++ rest) is.0 s.front_is,
      many_again item_at parts Is exact xs s.back rest is.1 s.back_is,
    ) refl

pub exact_many : {A : Type 0} (item_at : List ℕ → Read A) (parts : A → List Part) (Is : A → Type 0) (n : ℕ)
    → Exact item_at parts Is
    → Exact (many item_at n) (flat_map parts) (λ xs. (length xs ≡ n) × AllByRecursion Is xs)
exact_many {A} item_at parts Is n exact = record { takes = takes n; again = λ a front rest is. again n a front rest is.0 is.1 }
  where
    takes : (n : ℕ) (bytes : List ℕ) (a : List A) (rest : List ℕ) → AreBytes bytes → many item_at n bytes ≡ Ok (a, rest)
        → Takes (flat_map parts a) bytes rest × ((length a ≡ n) × AllByRecursion Is a)
    takes n bytes a rest fits e = many_takes item_at parts Is exact n bytes (a, rest) fits e

    again : (n : ℕ) (a : List A) (front rest : List ℕ) → length a ≡ n → AllByRecursion Is a
        → AreParts (flat_map parts a) front → many item_at n (front ++ rest) ≡ Ok (a, rest)
    again n a front rest len is h =
        subst (λ (k : ℕ). many item_at k (front ++ rest) ≡ Ok (a, rest)) len
        (many_again item_at parts Is exact a front rest is h)
