-- What stands between the quotes of constants.
use Rattle.std.proofs.Common.{◌≡◌, ℕ, ◌<◌, true, false, eqb, List, [], ◌∷◌, ◌++◌, length, get_or, drop, refl, sym, ap, ◌∙◌, arith, map, append-nil, ⊎_elim, ◌||◌, ◌&&◌, is_some}
use Rattle.std.proofs.lemmas.Bool.{and_parts, and_from, both_ways, eqb-false, eqb-true, or_cases, false≢true, ne_eqb}
use Rattle.std.proofs.lemmas.Bool.Decides.{nat_tests}
use Rattle.std.specs.List.{list_all, flat_map}
use Rattle.limbo_lexer.proofs.Fronts.{head_same, tail_same}
use Rattle.limbo_lexer.specs.declared.fault.Cause.{Cause}
use Rattle.limbo_lexer.specs.declared.fault.Cause.TheVariants as cause
use Rattle.limbo_lexer.specs.Constants.{Part, Plain, Escape, Code, escaped, is_part, part_spelling, part_char, ends_line, is_line_end}
use Rattle.limbo_lexer.specs.Pieces.{BeginsPart, HasNoPart, GoesOn, EndsString, IsStuck}

pub plain_not : (q c : ℕ) → is_part q (Plain c) ≡ true → (c ≡ q → ⊥) × (c ≡ 92 → ⊥) × (c ≡ 10 → ⊥)
plain_not q c h = (λ e. grind (arith, nat_tests), λ e. grind (arith, nat_tests), λ e. grind (arith, nat_tests))

heads : (x y : ℕ) (s t : List ℕ) → x ∷ s ≡ y ∷ t → x ≡ y
heads x y s t e = head_same {A = ℕ} x x y s t e

differ : (x y : ℕ) (s t : List ℕ) → eqb x y ≡ false → x ∷ s ≡ y ∷ t → ⊥
differ x y s t h e = eqb-false x y h (heads x y s t e)

not_u : (q c : ℕ) → is_part q (Escape c) ≡ true → c ≡ 117 → ⊥
not_u q c h e = false≢true (let k : is_some (escaped 117) ≡ true = ap (λ x. is_some (escaped x)) (sym e) ∙ h in k)

not_newline : (q c : ℕ) → is_part q (Escape c) ≡ true → c ≡ 10 → ⊥
not_newline q c h e = false≢true (let k : is_some (escaped 10) ≡ true = ap (λ x. is_some (escaped x)) (sym e) ∙ h in k)

-- Two parts at the front of one text are one, and leave one rest.
pub one_part : (q : ℕ) (p o : Part) (r u : List ℕ) → is_part q p ≡ true → is_part q o ≡ true → part_spelling p ++ r ≡ part_spelling o ++ u → (p ≡ o) × (r ≡ u)
one_part q (Plain c) (Plain d) r u hp ho e = (ap Plain (heads c d r u e), tail_same c d r u e)
one_part q (Plain c) (Escape d) r u hp ho e = absurd ((plain_not q c hp).1 (heads c 92 r (d ∷ u) e))
one_part q (Plain c) (Code x y z w) r u hp ho e = absurd ((plain_not q c hp).1 (heads c 92 r (117 ∷ x ∷ y ∷ z ∷ w ∷ u) e))
one_part q (Escape c) (Plain d) r u hp ho e = absurd ((plain_not q d ho).1 (sym (heads 92 d (c ∷ r) u e)))
one_part q (Escape c) (Escape d) r u hp ho e =
    let t = tail_same 92 92 (c ∷ r) (d ∷ u) e in
    (ap Escape (heads c d r u t), tail_same c d r u t)
one_part q (Escape c) (Code x y z w) r u hp ho e =
    absurd (not_u q c hp (heads c 117 r (x ∷ y ∷ z ∷ w ∷ u) (tail_same 92 92 (c ∷ r) (117 ∷ x ∷ y ∷ z ∷ w ∷ u) e)))
one_part q (Code x y z w) (Plain d) r u hp ho e = absurd ((plain_not q d ho).1 (sym (heads 92 d (117 ∷ x ∷ y ∷ z ∷ w ∷ r) u e)))
one_part q (Code x y z w) (Escape d) r u hp ho e =
    absurd (not_u q d ho (sym (heads 117 d (x ∷ y ∷ z ∷ w ∷ r) u (tail_same 92 92 (117 ∷ x ∷ y ∷ z ∷ w ∷ r) (d ∷ u) e))))
one_part q (Code a b c d) (Code x y z w) r u hp ho e =
    let t0 = tail_same 92 92 (117 ∷ a ∷ b ∷ c ∷ d ∷ r) (117 ∷ x ∷ y ∷ z ∷ w ∷ u) e in
    let t1 = tail_same 117 117 (a ∷ b ∷ c ∷ d ∷ r) (x ∷ y ∷ z ∷ w ∷ u) t0 in
    let t2 = tail_same a x (b ∷ c ∷ d ∷ r) (y ∷ z ∷ w ∷ u) t1 in
    let t3 = tail_same b y (c ∷ d ∷ r) (z ∷ w ∷ u) t2 in
    let t4 = tail_same c z (d ∷ r) (w ∷ u) t3 in
    let h1 : a ≡ x = heads a x (b ∷ c ∷ d ∷ r) (y ∷ z ∷ w ∷ u) t1 in
    let h2 : b ≡ y = heads b y (c ∷ d ∷ r) (z ∷ w ∷ u) t2 in
    let h3 : c ≡ z = heads c z (d ∷ r) (w ∷ u) t3 in
    let h4 : d ≡ w = heads d w r u t4 in
    (cc, tail_same d w r u t4)

pub part_not_quote : (q : ℕ) (p : Part) (r u : List ℕ) → eqb 92 q ≡ false → is_part q p ≡ true → part_spelling p ++ r ≡ q ∷ u → ⊥
part_not_quote q (Plain c) r u k h e = (plain_not q c h).0 (heads c q r u e)
part_not_quote q (Escape c) r u k h e = differ 92 q (c ∷ r) u k e
part_not_quote q (Code x y z w) r u k h e = differ 92 q (117 ∷ x ∷ y ∷ z ∷ w ∷ r) u k e

part_some : (p : Part) (r : List ℕ) → part_spelling p ++ r ≡ [] → ⊥
part_some (Plain c) r e = absurd (cc)
part_some (Escape c) r e = absurd (cc)
part_some (Code x y z w) r e = absurd (cc)

-- No part is spelled where a line ends.
pub line_end_no_part : (q : ℕ) (text : List ℕ) → is_line_end text ≡ true → HasNoPart q text
line_end_no_part q [] h p rest k e = part_some p rest e
line_end_no_part q (x ∷ s) h p rest k e = by_part p k e where
  by_part : (p : Part) → is_part q p ≡ true → part_spelling p ++ rest ≡ x ∷ s → ⊥
  by_part (Plain c) k e =
      let is : c ≡ x = heads c x rest s e in
      let not_it = plain_not q c k in
      ⊎_elim (λ a. not_it.2 (is ∙ eqb-true x 10 a)) (λ a. not_it.1 (is ∙ eqb-true x 92 (and_parts (eqb x 92) (ends_line s) a).0)) (or_cases (eqb x 10) (eqb x 92 && ends_line s) h)
  by_part (Escape c) k e =
      let is : 92 ≡ x = heads 92 x (c ∷ rest) s e in
      let tail : c ∷ rest ≡ s = tail_same 92 x (c ∷ rest) s e in
      ⊎_elim (λ a. eqb-false 92 10 refl (is ∙ eqb-true x 10 a)) (λ a. not_newline q c k (eqb-true c 10 (ap ends_line tail ∙ (and_parts (eqb x 92) (ends_line s) a).1))) (or_cases (eqb x 10) (eqb x 92 && ends_line s) h)
  by_part (Code a b c d) k e =
      let is : 92 ≡ x = heads 92 x (117 ∷ a ∷ b ∷ c ∷ d ∷ rest) s e in
      let tail : 117 ∷ a ∷ b ∷ c ∷ d ∷ rest ≡ s = tail_same 92 x (117 ∷ a ∷ b ∷ c ∷ d ∷ rest) s e in
      ⊎_elim (λ g. eqb-false 92 10 refl (is ∙ eqb-true x 10 g)) (λ g. eqb-false 117 10 refl (eqb-true 117 10 (ap ends_line tail ∙ (and_parts (eqb x 92) (ends_line s) g).1))) (or_cases (eqb x 10) (eqb x 92 && ends_line s) h)

line_end_no_quote : (q : ℕ) (text after : List ℕ) → eqb q 10 ≡ false → eqb q 92 ≡ false → is_line_end text ≡ true → text ≡ q ∷ after → ⊥
line_end_no_quote q text after n b h e =
    let k : (eqb q 10 || (eqb q 92 && ends_line after)) ≡ true = ap is_line_end (sym e) ∙ h in
    ⊎_elim (λ a. both_ways (eqb q 10) n a) (λ a. both_ways (eqb q 92) b (and_parts (eqb q 92) (ends_line after) a).0) (or_cases (eqb q 10) (eqb q 92 && ends_line after) k)

pub stuck_no_part : (q : ℕ) (text : List ℕ) (fault : Cause) → IsStuck text fault → HasNoPart q text
stuck_no_part q text cause.BadEscape h = h.unlisted q
stuck_no_part q text cause.Unclosed h = line_end_no_part q text h
stuck_no_part q text cause.NoMemory h = absurd h
stuck_no_part q text cause.BadChar h = absurd h
stuck_no_part q text cause.NumberTooWide h = absurd h

pub stuck_no_quote : (q : ℕ) (text after : List ℕ) (fault : Cause) → eqb q 10 ≡ false → eqb q 92 ≡ false → IsStuck text fault → text ≡ q ∷ after → ⊥
stuck_no_quote q text after cause.BadEscape n b h e = eqb-false q 92 b (sym (heads 92 q h.behind after (h.spelled ∙ e)))
stuck_no_quote q text after cause.Unclosed n b h e = line_end_no_quote q text after n b h e
stuck_no_quote q text after cause.NoMemory n b h e = absurd h
stuck_no_quote q text after cause.BadChar n b h e = absurd h
stuck_no_quote q text after cause.NumberTooWide n b h e = absurd h

flat_cons : (p : Part) (ps : List Part) (u : List ℕ) → flat_map part_spelling (p ∷ ps) ++ u ≡ part_spelling p ++ (flat_map part_spelling ps ++ u)
flat_cons (Plain c) ps u = refl
flat_cons (Escape c) ps u = refl
flat_cons (Code x y z w) ps u = refl

-- What is left of a string constant behind the parts that were read.
pub record Left (ps qs : List Part) (rest after : List ℕ) : Type 0 where
  pub more : List Part
  pub formed : list_all (is_part 34) more ≡ true
  pub spelled : flat_map part_spelling more ++ 34 ∷ after ≡ rest
  pub all : qs ≡ ps ++ more

pub strip : (ps qs : List Part) (rest after : List ℕ) → list_all (is_part 34) ps ≡ true → list_all (is_part 34) qs ≡ true → flat_map part_spelling ps ++ rest ≡ flat_map part_spelling qs ++ 34 ∷ after → Left ps qs rest after
strip [] qs rest after hp hq e = record { more = qs; formed = hq; spelled = sym e; all = refl }
strip (p ∷ ps) [] rest after hp hq e =
    absurd (part_not_quote 34 p (flat_map part_spelling ps ++ rest) after refl (and_parts (is_part 34 p) (list_all (is_part 34) ps) hp).0 (sym (flat_cons p ps rest) ∙ e))
strip (p ∷ ps) (q ∷ qs) rest after hp hq e =
    let a = and_parts (is_part 34 p) (list_all (is_part 34) ps) hp in
    let b = and_parts (is_part 34 q) (list_all (is_part 34) qs) hq in
    let one = one_part 34 p q (flat_map part_spelling ps ++ rest) (flat_map part_spelling qs ++ 34 ∷ after) a.0 b.0 (sym (flat_cons p ps rest) ∙ e ∙ flat_cons q qs (34 ∷ after)) in
    let left = strip ps qs rest after a.1 b.1 one.1 in
    record { more = left.more; formed = left.formed; spelled = left.spelled; all = let h : p ≡ q = one.0 in let k : qs ≡ ps ++ left.more = left.all in cc }

-- A string constant's text, and where it ends, follow from where it begins.
pub one_text : (ps qs : List Part) (r u : List ℕ) → list_all (is_part 34) ps ≡ true → list_all (is_part 34) qs ≡ true → flat_map part_spelling ps ++ 34 ∷ r ≡ flat_map part_spelling qs ++ 34 ∷ u → (ps ≡ qs) × (r ≡ u)
one_text ps qs r u hp hq e = by_left left.more left.formed left.spelled left.all where
  left : Left ps qs (34 ∷ r) u
  left = strip ps qs (34 ∷ r) u hp hq e

  by_left : (more : List Part) → list_all (is_part 34) more ≡ true → flat_map part_spelling more ++ 34 ∷ u ≡ 34 ∷ r → qs ≡ ps ++ more → (ps ≡ qs) × (r ≡ u)
  by_left [] h k a = (sym (a ∙ append-nil ps), sym (tail_same 34 34 u r k))
  by_left (p ∷ more) h k a =
      absurd (part_not_quote 34 p (flat_map part_spelling more ++ 34 ∷ u) r refl (and_parts (is_part 34 p) (list_all (is_part 34) more) h).0 (sym (flat_cons p more (34 ∷ u)) ∙ k))

-- Where the parts stop before a closing quote, no string constant stands at the start.
pub no_string : (text chars rest : List ℕ) (fault : Cause) → GoesOn text chars rest → IsStuck rest fault → (all after : List ℕ) → EndsString text all after → ⊥
no_string text chars rest fault g stuck all after s = by_left left.more left.formed left.spelled where
  left : Left g.parts s.parts rest after
  left = strip g.parts s.parts rest after g.formed s.formed (g.spelled ∙ sym s.spelled)

  by_left : (more : List Part) → list_all (is_part 34) more ≡ true → flat_map part_spelling more ++ 34 ∷ after ≡ rest → ⊥
  by_left [] h k = stuck_no_quote 34 rest after fault refl refl stuck (sym k)
  by_left (p ∷ more) h k =
      stuck_no_part 34 rest fault stuck p (flat_map part_spelling more ++ 34 ∷ after) (and_parts (is_part 34 p) (list_all (is_part 34) more) h).0 (sym (flat_cons p more (34 ∷ after)) ∙ k)

all_more : (ps : List Part) (p : Part) → list_all (is_part 34) ps ≡ true → is_part 34 p ≡ true → list_all (is_part 34) (ps ++ p ∷ []) ≡ true
all_more [] p h k = and_from (is_part 34 p) true k refl
all_more (q ∷ ps) p h k =
    let a = and_parts (is_part 34 q) (list_all (is_part 34) ps) h in
    and_from (is_part 34 q) (list_all (is_part 34) (ps ++ p ∷ [])) a.0 (all_more ps p a.1 k)

spell_more : (ps : List Part) (p : Part) (r : List ℕ) → flat_map part_spelling (ps ++ p ∷ []) ++ r ≡ flat_map part_spelling ps ++ (part_spelling p ++ r)
spell_more [] p r = flat_cons p [] r
spell_more (q ∷ ps) p r = flat_cons q (ps ++ p ∷ []) r ∙ ap (λ x. part_spelling q ++ x) (spell_more ps p r) ∙ sym (flat_cons q ps (part_spelling p ++ r))

chars_more : (ps : List Part) (p : Part) → map part_char (ps ++ p ∷ []) ≡ map part_char ps ++ part_char p ∷ []
chars_more [] p = refl
chars_more (q ∷ ps) p = ap (λ x. part_char q ∷ x) (chars_more ps p)

pub goes_none : (text : List ℕ) → GoesOn text [] text
goes_none text = record { parts = []; formed = refl; spelled = refl; given = refl }

pub goes_more : (text chars rest : List ℕ) (char : ℕ) (behind : List ℕ) → GoesOn text chars rest → BeginsPart 34 rest char behind → GoesOn text (chars ++ char ∷ []) behind
goes_more text chars rest char behind g b = record {
  parts = g.parts ++ b.part ∷ [];
  formed = all_more g.parts b.part g.formed b.formed;
  spelled = spell_more g.parts b.part behind ∙ ap (λ x. flat_map part_spelling g.parts ++ x) b.spelled ∙ g.spelled;
  given = let x : map part_char g.parts ≡ chars = g.given in let y : part_char b.part ≡ char = b.given in chars_more g.parts b.part ∙ cc;
}

pub shorter_part : (q : ℕ) (text : List ℕ) (char : ℕ) (rest : List ℕ) → BeginsPart q text char rest → length rest < length text
shorter_part q text char rest b = by_part b.part b.spelled where
  by_part : (p : Part) → part_spelling p ++ rest ≡ text → length rest < length text
  by_part (Plain c) e = let n = ap length e in omega (arith, n)
  by_part (Escape c) e = let n = ap length e in omega (arith, n)
  by_part (Code x y z w) e = let n = ap length e in omega (arith, n)

-- A character that is neither the quote nor a backslash, and not at the line's end, stands for itself.
pub plain_begins : (q : ℕ) (s : List ℕ) (x : ℕ) → ends_line s ≡ false → x ≡ get_or s 0 x → (x ≡ q → ⊥) → (x ≡ 92 → ⊥) → BeginsPart q s x (drop 1 s)
plain_begins q [] x h e n m = absurd (false≢true (sym h))
plain_begins q (y ∷ s) x h e n m =
    let k : x ≡ y = e in
    let l : eqb x 10 ≡ false = ap (λ z. eqb z 10) k ∙ h in
    record { part = Plain x; formed = plain x l n m; spelled = ap (λ z. z ∷ s) k; given = refl }
  where
    plain : (x : ℕ) → eqb x 10 ≡ false → (x ≡ q → ⊥) → (x ≡ 92 → ⊥) → is_part q (Plain x) ≡ true
    plain x h n m = rw (ne_eqb x q n, ne_eqb x 92 m, h) refl
