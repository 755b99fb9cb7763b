-- The longest piece at the front of a text.
use Rattle.std.proofs.Common.{◌≡◌, ℕ, ◌+◌, ◌<◌, ◌≤◌, Bool, true, false, not, eqb, leb, List, [], ◌∷◌, ◌++◌, length, take, drop, refl, sym, ap, ◌∙◌, subst, arith, append_assoc, ◌||◌, ◌&&◌, ◌⊎◌, ⊎_elim, inl, inr, Option, Some, None}
use Rattle.std.proofs.lemmas.Bool.{and_parts, or_cases, and_from, eqb-true, cases_lt, both_ways}
use Rattle.std.proofs.lemmas.List.{take-append-drop, length-append, length-take}
use Rattle.std.proofs.lemmas.List.Sums.{prefix_len-le-length}
use Rattle.std.specs.List.{list_all, flat_map, prefix_len}
use Rattle.limbo_lexer.specs.declared.token.Kind.{Kind}
use Rattle.limbo_lexer.specs.declared.token.Mark.{Mark}
use Rattle.limbo_lexer.proofs.Fronts.{head_same, tail_same, same_fronts, front_passes, front_longest, front_cons}
use Rattle.limbo_lexer.proofs.Parts.{one_part, one_text}
use Rattle.limbo_lexer.proofs.Tables.{row_passes}
use Rattle.limbo_lexer.proofs.FirstKinds.{kind, kind_at, kind_at_blank, kind_at_letter, first_kind, same_kind, based_parts, at_comment, at_string, at_character}
use Rattle.limbo_lexer.proofs.NumberPieces.{Fits, based_split, decimal, all_of, sign_no_digit}
use Rattle.limbo_lexer.specs.Words.{listed, marks}
use Rattle.limbo_lexer.specs.Constants.{part_spelling, quoted}
use Rattle.limbo_lexer.specs.Tokens.{Piece, Blank, Comment, Letters, Sign, Decimal, Based, Quoted, Character, IsPiece, IsLongest, spelling, tokens_of, is_narrow, is_whole, is_blank, is_letter, is_name_char, is_word}
use Rattle.limbo_lexer.specs.Pieces.{BeginsPiece, BeginsPart, BeginsMark, EndsString, HasNoMark}

-- A comment goes on with a character.
abbrev pub stays : ℕ → Bool
stays c = not (eqb c 10)

-- A piece that fits, if it is no number that is too great or the front of a fraction, is the piece that stands here.
pub fits_begins : (text : List ℕ) (piece : Piece) (rest : List ℕ) (list : List Kind) → Fits text piece rest → is_narrow piece ≡ true → is_whole piece rest ≡ true → tokens_of piece ≡ list → BeginsPiece text list rest
fits_begins text piece rest list f n w g = record {
  piece = piece;
  stands = record { formed = f.formed; longest = f.longest; narrow = n; whole = w };
  spelled = f.spelled;
  given = g;
}

pub blank_fits : (c : ℕ) (t : List ℕ) → is_blank c ≡ true → Fits (c ∷ t) (Blank c) t
blank_fits c t h = record { formed = h; spelled = refl; longest = λ o after p e. by_kind o (first_kind o c t after p e ∙ kind_at_blank c h) } where
  by_kind : (o : Piece) → kind o ≡ 0 → length (spelling o) ≤ 1
  by_kind (Blank b) q = omega arith
  by_kind (Comment s) q = absurd (omega arith)
  by_kind (Letters s) q = absurd (omega arith)
  by_kind (Sign s mark) q = absurd (omega arith)
  by_kind (Decimal s) q = absurd (omega arith)
  by_kind (Based b r s) q = absurd (omega arith)
  by_kind (Quoted s) q = absurd (omega arith)
  by_kind (Character s) q = absurd (omega arith)

pub comment_fits : (t : List ℕ) → Fits (35 ∷ t) (Comment (take (prefix_len stays t) t)) (drop (prefix_len stays t) t)
comment_fits t = record {
  formed = front_passes stays t;
  spelled = whole;
  longest = λ o after p e. by_kind o after p (e ∙ whole) (first_kind o 35 t after p (e ∙ whole) ∙ at_comment);
} where
  whole : 35 ∷ (take (prefix_len stays t) t ++ drop (prefix_len stays t) t) ≡ 35 ∷ t
  whole = ap (λ x. 35 ∷ x) (take-append-drop (prefix_len stays t) t)

  by_kind : (o : Piece) (after : List ℕ) → IsPiece o → spelling o ++ after ≡ 35 ∷ t → kind o ≡ 1 → length (spelling o) ≤ length (35 ∷ take (prefix_len stays t) t)
  by_kind (Blank b) after p e q = absurd (omega arith)
  by_kind (Comment s) after p e q =
      let le = front_longest stays t s after p (tail_same 35 35 (s ++ after) t e) in
      let bound = prefix_len-le-length stays t in
      omega (arith, length-take (prefix_len stays t) t)
  by_kind (Letters s) after p e q = absurd (omega arith)
  by_kind (Sign s mark) after p e q = absurd (omega arith)
  by_kind (Decimal s) after p e q = absurd (omega arith)
  by_kind (Based b r s) after p e q = absurd (omega arith)
  by_kind (Quoted s) after p e q = absurd (omega arith)
  by_kind (Character s) after p e q = absurd (omega arith)

name_char : (c : ℕ) → is_letter c ≡ true → is_name_char c ≡ true
name_char c h = ap (λ x. x || (leb 48 c && leb c 57)) h

word_chars : (o : List ℕ) → is_word o ≡ true → list_all is_name_char o ≡ true
word_chars [] p = refl
word_chars (b ∷ o) p =
    let parts = and_parts (is_letter b) (list_all is_name_char o) p in
    and_from (is_name_char b) (list_all is_name_char o) (name_char b parts.0) parts.1

word_formed : (c : ℕ) (t : List ℕ) → is_letter c ≡ true → is_word (take (prefix_len is_name_char (c ∷ t)) (c ∷ t)) ≡ true
word_formed c t h =
    subst (λ x. is_word x ≡ true) (sym (front_cons is_name_char c t (name_char c h))) (and_from (is_letter c) _ h (front_passes is_name_char t))

pub word_fits : (s : List ℕ) (c : ℕ) (t : List ℕ) → s ≡ c ∷ t → is_letter c ≡ true → Fits s (Letters (take (prefix_len is_name_char s) s)) (drop (prefix_len is_name_char s) s)
word_fits s c t is h = record {
  formed = subst (λ x. is_word (take (prefix_len is_name_char x) x) ≡ true) (sym is) (word_formed c t h);
  spelled = take-append-drop (prefix_len is_name_char s) s;
  longest = λ o after p e.
      let k = e ∙ take-append-drop (prefix_len is_name_char s) s in
      by_kind o after p k (first_kind o c t after p (k ∙ is) ∙ kind_at_letter c h);
} where
  by_kind : (o : Piece) (after : List ℕ) → IsPiece o → spelling o ++ after ≡ s → kind o ≡ 2 → length (spelling o) ≤ length (take (prefix_len is_name_char s) s)
  by_kind (Blank b) after p e q = absurd (omega arith)
  by_kind (Comment o) after p e q = absurd (omega arith)
  by_kind (Letters o) after p e q =
      let le = front_longest is_name_char s o after (word_chars o p) e in
      let bound = prefix_len-le-length is_name_char s in
      omega (arith, length-take (prefix_len is_name_char s) s)
  by_kind (Sign o mark) after p e q = absurd (omega arith)
  by_kind (Decimal o) after p e q = absurd (omega arith)
  by_kind (Based b r o) after p e q = absurd (omega arith)
  by_kind (Quoted o) after p e q = absurd (omega arith)
  by_kind (Character o) after p e q = absurd (omega arith)

pub string_fits : (t chars rest : List ℕ) (h : EndsString t chars rest) → Fits (34 ∷ t) (Quoted h.parts) rest
string_fits t chars rest h = record {
  formed = h.formed;
  spelled = whole;
  longest = λ o after p e. by_kind o after p (e ∙ whole) (first_kind o 34 t after p (e ∙ whole) ∙ at_string);
} where
  inside : quoted h.parts ++ rest ≡ t
  inside = append_assoc (flat_map part_spelling h.parts) (34 ∷ []) rest ∙ h.spelled

  whole : 34 ∷ (quoted h.parts ++ rest) ≡ 34 ∷ t
  whole = ap (λ x. 34 ∷ x) inside

  by_kind : (o : Piece) (after : List ℕ) → IsPiece o → spelling o ++ after ≡ 34 ∷ t → kind o ≡ 3 → length (spelling o) ≤ length (34 ∷ quoted h.parts)
  by_kind (Blank b) after p e q = absurd (omega arith)
  by_kind (Comment o) after p e q = absurd (omega arith)
  by_kind (Letters o) after p e q = absurd (omega arith)
  by_kind (Sign o mark) after p e q = absurd (omega arith)
  by_kind (Decimal o) after p e q = absurd (omega arith)
  by_kind (Based b r o) after p e q = absurd (omega arith)
  by_kind (Quoted o) after p e q =
      let tails : quoted o ++ after ≡ t = tail_same 34 34 (quoted o ++ after) t e in
      let same = one_text o h.parts after rest p h.formed (sym (append_assoc (flat_map part_spelling o) (34 ∷ []) after) ∙ tails ∙ sym h.spelled) in
      let lens : length (quoted o) ≡ length (quoted h.parts) = ap (λ x. length (quoted x)) same.0 in
      omega arith
  by_kind (Character o) after p e q = absurd (omega arith)

pub character_fits : (t : List ℕ) (char : ℕ) (rest : List ℕ) (h : BeginsPart 39 t char (39 ∷ rest)) → Fits (39 ∷ t) (Character h.part) rest
character_fits t char rest h = record {
  formed = h.formed;
  spelled = whole;
  longest = λ o after p e. by_kind o after p (e ∙ whole) (first_kind o 39 t after p (e ∙ whole) ∙ at_character);
} where
  whole : 39 ∷ ((part_spelling h.part ++ 39 ∷ []) ++ rest) ≡ 39 ∷ t
  whole = ap (λ x. 39 ∷ x) (append_assoc (part_spelling h.part) (39 ∷ []) rest ∙ h.spelled)

  by_kind : (o : Piece) (after : List ℕ) → IsPiece o → spelling o ++ after ≡ 39 ∷ t → kind o ≡ 6 → length (spelling o) ≤ length (39 ∷ (part_spelling h.part ++ 39 ∷ []))
  by_kind (Blank b) after p e q = absurd (omega arith)
  by_kind (Comment o) after p e q = absurd (omega arith)
  by_kind (Letters o) after p e q = absurd (omega arith)
  by_kind (Sign o mark) after p e q = absurd (omega arith)
  by_kind (Decimal o) after p e q = absurd (omega arith)
  by_kind (Based b r o) after p e q = absurd (omega arith)
  by_kind (Quoted o) after p e q = absurd (omega arith)
  by_kind (Character o) after p e q =
      let tails : (part_spelling o ++ 39 ∷ []) ++ after ≡ t = tail_same 39 39 ((part_spelling o ++ 39 ∷ []) ++ after) t e in
      let same = one_part 39 o h.part (39 ∷ after) (39 ∷ rest) p h.formed (sym (append_assoc (part_spelling o) (39 ∷ []) after) ∙ tails ∙ sym h.spelled) in
      let lens : length (part_spelling o ++ 39 ∷ []) ≡ length (part_spelling h.part ++ 39 ∷ []) = ap (λ x. length (part_spelling x ++ 39 ∷ [])) same.0 in
      omega arith

-- Each operator or sign has one to three characters.
mark_len_in : List ℕ → Bool
mark_len_in s = eqb (length s) 1 || eqb (length s) 2 || eqb (length s) 3

all_lens : list_all (λ row. mark_len_in row.0) marks ≡ true
unfolding mark_len_in marks
all_lens = refl

pub mark_lens : (s : List ℕ) (mark : Mark) → listed marks s ≡ Some mark → (length s ≡ 1) ⊎ ((length s ≡ 2) ⊎ (length s ≡ 3))
unfolding mark_len_in
mark_lens s mark h =
    let t : mark_len_in s ≡ true = row_passes mark_len_in marks s mark all_lens h in
    ⊎_elim (λ a. ⊎_elim (λ b. inl (eqb-true (length s) 1 b)) (λ b. inr (inl (eqb-true (length s) 2 b))) (or_cases (eqb (length s) 1) (eqb (length s) 2) a)) (λ a. inr (inr (eqb-true (length s) 3 a))) (or_cases (eqb (length s) 1 || eqb (length s) 2) (eqb (length s) 3) t)

some_none : {A : Type 0} (o : Option A) (x : A) → o ≡ None → o ≡ Some x → ⊥
some_none {A = A} o x h k = let e : ◌≡◌ {A = Option A} None (Some x) = sym h ∙ k in absurd (cc)

taken : (o after s : List ℕ) → o ++ after ≡ s → take (length o) s ≡ o
taken o after s e = ap (λ x. take (length o) x) (sym e) ∙ front o after where
  front : (o after : List ℕ) → take (length o) (o ++ after) ≡ o
  front [] after = refl
  front (c ∷ o) after = ap (λ x. c ∷ x) (front o after)

-- A mark is no mark of its length where there is none of that length.
pub not_marked : (s o after : List ℕ) (mark : Mark) → HasNoMark s (length o) → listed marks o ≡ Some mark → o ++ after ≡ s → ⊥
not_marked s o after mark none h e =
    let n : length o + length after ≡ length s = sym (length-append o after) ∙ ap length e in
    some_none (listed marks o) mark (ap (listed marks) (sym (taken o after s e)) ∙ none (omega (arith, n))) h

-- The mark of n characters at the front is the longest piece, if none of more characters, up to three, is there.
pub mark_fits : (s : List ℕ) (c : ℕ) (t : List ℕ) (mark : Mark) (n : ℕ) → s ≡ c ∷ t → kind_at c ≡ 4 → BeginsMark s mark n → Fits s (Sign (take n s) mark) (drop n s)
mark_fits s c t mark n is k b = record {
  formed = b.listed;
  spelled = take-append-drop n s;
  longest = λ o after p e.
      let whole = e ∙ take-append-drop n s in
      by_kind o after p whole (first_kind o c t after p (whole ∙ is) ∙ k);
} where
  by_kind : (o : Piece) (after : List ℕ) → IsPiece o → spelling o ++ after ≡ s → kind o ≡ 4 → length (spelling o) ≤ length (take n s)
  by_kind (Blank b) after p e q = absurd (omega arith)
  by_kind (Comment o) after p e q = absurd (omega arith)
  by_kind (Letters o) after p e q = absurd (omega arith)
  by_kind (Sign o m) after p e q =
      let bound : n ≤ length s = b.bound in
      let len : length (take n s) ≡ n = omega (arith, length-take n s) in
      let three : length o ≤ 3 = ⊎_elim (λ a. omega arith) (λ w. ⊎_elim (λ a. omega arith) (λ a. omega arith) w) (mark_lens o m p) in
      ⊎_elim (λ lt. absurd (not_marked s o after m (b.longest (length o) lt three) p e)) (λ le. omega arith) (cases_lt n (length o))
  by_kind (Decimal o) after p e q = absurd (omega arith)
  by_kind (Based b r o) after p e q = absurd (omega arith)
  by_kind (Quoted o) after p e q = absurd (omega arith)
  by_kind (Character o) after p e q = absurd (omega arith)

pub no_mark : (s : List ℕ) (c : ℕ) (t : List ℕ) → s ≡ c ∷ t → kind_at c ≡ 4 → ((m : ℕ) → 0 < m → m ≤ 3 → HasNoMark s m) → (piece : Piece) (after : List ℕ) → IsPiece piece → spelling piece ++ after ≡ s → ⊥
no_mark s c t is k none piece after p e = by_kind piece p e (first_kind piece c t after p (e ∙ is) ∙ k) where
  by_kind : (o : Piece) → IsPiece o → spelling o ++ after ≡ s → kind o ≡ 4 → ⊥
  by_kind (Blank b) p e q = absurd (omega arith)
  by_kind (Comment o) p e q = absurd (omega arith)
  by_kind (Letters o) p e q = absurd (omega arith)
  by_kind (Sign o m) p e q =
      let lens = mark_lens o m p in
      let least : 0 < length o = ⊎_elim (λ a. omega arith) (λ w. ⊎_elim (λ a. omega arith) (λ a. omega arith) w) lens in
      let most : length o ≤ 3 = ⊎_elim (λ a. omega arith) (λ w. ⊎_elim (λ a. omega arith) (λ a. omega arith) w) lens in
      not_marked s o after m (none (length o) least most) p e
  by_kind (Decimal o) p e q = absurd (omega arith)
  by_kind (Based b r o) p e q = absurd (omega arith)
  by_kind (Quoted o) p e q = absurd (omega arith)
  by_kind (Character o) p e q = absurd (omega arith)

same_some : {A : Type 0} (x y : A) → Some x ≡ Some y → x ≡ y
same_some x y e = cc

by_digits : (a b : List ℕ) (t : ℕ) (d : List ℕ) → list_all decimal a ≡ true → decimal t ≡ false → a ≡ b ++ t ∷ d → ⊥
by_digits [] [] t d h n e = absurd (cc)
by_digits [] (y ∷ b) t d h n e = absurd (cc)
by_digits (x ∷ a) [] t d h n e =
    both_ways (decimal t) n (ap decimal (sym (head_same x x t a d e)) ∙ (and_parts (decimal x) (list_all decimal a) h).0)
by_digits (x ∷ a) (y ∷ b) t d h n e = by_digits a b t d (and_parts (decimal x) (list_all decimal a) h).1 n (tail_same x y a (b ++ t ∷ d) e)

decimal_no_radix : (a b : List ℕ) (t : ℕ) (d : List ℕ) → IsPiece (Decimal a) → IsPiece (Based b t d) → a ≡ b ++ t ∷ d → ⊥
decimal_no_radix a b t d h k e = by_digits a b t d (all_of 10 a h) (sign_no_digit t (based_parts b t d k).2) e

-- Two longest pieces at one text are one, and leave the same rest.
by_kinds : (p q : Piece) (r u : List ℕ) → IsPiece p → IsPiece q → spelling p ++ r ≡ spelling q ++ u → spelling p ≡ spelling q → kind p ≡ kind q → p ≡ q
by_kinds (Blank a) (Blank b) r u hp hq e s k = ap Blank (head_same a a b [] [] s)
by_kinds (Comment a) (Comment b) r u hp hq e s k = ap Comment (tail_same 35 35 a b s)
by_kinds (Letters a) (Letters b) r u hp hq e s k = ap Letters s
by_kinds (Sign a m) (Sign b n) r u hp hq e s k =
    let marks_same : m ≡ n = same_some m n (sym hp ∙ ap (listed marks) s ∙ hq) in
    let spelled : a ≡ b = s in
    cc
by_kinds (Decimal a) (Decimal b) r u hp hq e s k = ap Decimal s
by_kinds (Decimal a) (Based b t d) r u hp hq e s k = absurd (decimal_no_radix a b t d hp hq s)
by_kinds (Based b t d) (Decimal a) r u hp hq e s k = absurd (decimal_no_radix a b t d hq hp (sym s))
by_kinds (Based a t c) (Based b v d) r u hp hq e s k =
    let one = based_split a t c r (spelling (Based b v d) ++ u) hp e in
    let two = based_split b v d u (spelling (Based b v d) ++ u) hq refl in
    let fronts : a ≡ b = one.0 ∙ sym two.0 in
    let ends : t ∷ c ≡ v ∷ d = (same_fronts a b (t ∷ c) (v ∷ d) s (ap length fronts)).1 in
    let signs : t ≡ v = head_same t t v c d ends in
    let digits : c ≡ d = tail_same t v c d ends in
    cc
by_kinds (Quoted a) (Quoted b) r u hp hq e s k =
    let tails : quoted a ++ r ≡ quoted b ++ u = tail_same 34 34 (quoted a ++ r) (quoted b ++ u) e in
    ap Quoted (one_text a b r u hp hq (sym (append_assoc (flat_map part_spelling a) (34 ∷ []) r) ∙ tails ∙ append_assoc (flat_map part_spelling b) (34 ∷ []) u)).0
by_kinds (Character a) (Character b) r u hp hq e s k =
    let tails : (part_spelling a ++ 39 ∷ []) ++ r ≡ (part_spelling b ++ 39 ∷ []) ++ u = tail_same 39 39 ((part_spelling a ++ 39 ∷ []) ++ r) ((part_spelling b ++ 39 ∷ []) ++ u) e in
    ap Character (one_part 39 a b (39 ∷ r) (39 ∷ u) hp hq (sym (append_assoc (part_spelling a) (39 ∷ []) r) ∙ tails ∙ append_assoc (part_spelling b) (39 ∷ []) u)).0
by_kinds p q r u hp hq e s k = absurd (omega arith)

pub one_piece : (p q : Piece) (r u : List ℕ) → IsPiece p → IsPiece q → IsLongest p r → IsLongest q u → spelling p ++ r ≡ spelling q ++ u → (p ≡ q) × (r ≡ u)
one_piece p q r u hp hq lp lq e =
    let a = lp q u hq (sym e) in
    let b = lq p r hp e in
    let len : length (spelling p) ≡ length (spelling q) = omega arith in
    let same = same_fronts (spelling p) (spelling q) r u e len in
    (by_kinds p q r u hp hq e same.0 (same_kind p q r u hp hq e), same.1)
