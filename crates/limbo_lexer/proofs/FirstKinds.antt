-- What kind of piece begins with a character.
use Rattle.std.proofs.Common.{◌≡◌, ℕ, ◌<◌, Bool, true, false, cond, eqb, List, [], ◌∷◌, ◌++◌, refl, sym, ap, ◌∙◌, arith, ◌&&◌, Some}
use Rattle.std.proofs.lemmas.Bool.{and_parts, false≢true, eqb-true, ne_eqb}
use Rattle.std.proofs.lemmas.Bool.Decides.{nat_tests}
use Rattle.std.specs.List.{list_all}
use Rattle.std.specs.Char.{is_digit}
use Rattle.limbo_lexer.specs.declared.token.Mark.{Mark}
use Rattle.limbo_lexer.proofs.Fronts.{head_same}
use Rattle.limbo_lexer.proofs.Tables.{row_passes}
use Rattle.limbo_lexer.specs.Words.{listed, marks}
use Rattle.limbo_lexer.specs.Numbers.{are_digits, digits_value, is_radix, is_radix_sign}
use Rattle.limbo_lexer.specs.Constants.{part_spelling, quoted}
use Rattle.limbo_lexer.specs.Tokens.{Piece, Blank, Comment, Letters, Sign, Decimal, Based, Quoted, Character, IsPiece, spelling, is_blank, is_letter, is_name_char}

-- The kinds: 0 a blank, 1 a comment, 2 a word, 3 a string constant, 4 an operator or sign, 5 a number, 6 a character
-- constant.
abbrev pub kind : Piece → ℕ
kind (Blank c) = 0
kind (Comment s) = 1
kind (Letters s) = 2
kind (Sign s mark) = 4
kind (Decimal s) = 5
kind (Based radix sign s) = 5
kind (Quoted s) = 3
kind (Character part) = 6

unfoldable pub kind_at : ℕ → ℕ
kind_at c = cond (is_blank c) 0 (cond (eqb c 35) 1 (cond (eqb c 34) 3 (cond (eqb c 39) 6 (cond (is_letter c) 2 (cond (is_digit c 10) 5 4)))))

pub kind_at_blank : (c : ℕ) → is_blank c ≡ true → kind_at c ≡ 0
unfolding kind_at
kind_at_blank c h = rw h

letter_above : (c : ℕ) → is_letter c ≡ true → 64 < c
letter_above c h = grind (arith, nat_tests)

not_blank : (c : ℕ) → 39 < c → is_blank c ≡ false
not_blank c h = grind (arith, nat_tests)

no_eqb : (c n : ℕ) → n < c → eqb c n ≡ false
no_eqb c n h = ne_eqb c n (λ e. omega arith)

pub kind_at_letter : (c : ℕ) → is_letter c ≡ true → kind_at c ≡ 2
unfolding kind_at
kind_at_letter c h =
    let above = letter_above c h in
    let b = not_blank c (omega arith) in
    let e = no_eqb c 35 (omega arith) in
    let f = no_eqb c 34 (omega arith) in
    let g = no_eqb c 39 (omega arith) in
    rw b (rw e (rw f (rw g (rw h))))

-- The decimal digits are '0' to '9'.
pub digit_range : (c : ℕ) → is_digit c 10 ≡ true → (47 < c) × (c < 58)
digit_range c h = grind (arith, nat_tests)

not_letter : (c : ℕ) → 47 < c → c < 58 → is_letter c ≡ false
not_letter c h k = grind (arith, nat_tests)

pub kind_at_digit : (c : ℕ) → is_digit c 10 ≡ true → kind_at c ≡ 5
unfolding kind_at
kind_at_digit c h =
    let r = digit_range c h in
    let b = not_blank c (omega (arith, r.0)) in
    let e = no_eqb c 35 (omega (arith, r.0)) in
    let f = no_eqb c 34 (omega (arith, r.0)) in
    let g = no_eqb c 39 (omega (arith, r.0)) in
    let l = not_letter c r.0 r.1 in
    rw b (rw e (rw f (rw g (rw l (rw h)))))

begins_mark : List ℕ → Bool
begins_mark [] = false
begins_mark (c ∷ s) = eqb (kind_at c) 4

all_marks : list_all (λ row. begins_mark row.0) marks ≡ true
unfolding kind_at begins_mark marks
all_marks = refl

mark_begins : (s : List ℕ) (mark : Mark) → listed marks s ≡ Some mark → begins_mark s ≡ true
mark_begins s mark h = row_passes begins_mark marks s mark all_marks h

pub based_parts : (radix : List ℕ) (sign : ℕ) (s : List ℕ) → IsPiece (Based radix sign s) → (are_digits 10 radix ≡ true) × (is_radix radix ≡ true) × (is_radix_sign sign ≡ true) × (are_digits (digits_value 10 radix) s ≡ true)
based_parts radix sign s h =
    let a = and_parts (are_digits 10 radix && is_radix radix && is_radix_sign sign) (are_digits (digits_value 10 radix) s) h in
    let b = and_parts (are_digits 10 radix && is_radix radix) (is_radix_sign sign) a.0 in
    let c = and_parts (are_digits 10 radix) (is_radix radix) b.0 in
    (c.0, c.1, b.1, a.1)

-- The kind of a piece shows in its first character.
pub first_kind : (p : Piece) (c : ℕ) (t rest : List ℕ) → IsPiece p → spelling p ++ rest ≡ c ∷ t → kind p ≡ kind_at c
unfolding kind_at begins_mark
first_kind (Blank b) c t rest h e = sym (ap kind_at (sym (head_same b b c rest t e)) ∙ kind_at_blank b h)
first_kind (Comment s) c t rest h e = ap kind_at (head_same c 35 c (s ++ rest) t e)
first_kind (Letters []) c t rest h e = absurd (false≢true h)
first_kind (Letters (b ∷ s)) c t rest h e =
    let parts = and_parts (is_letter b) (list_all is_name_char s) h in
    sym (ap kind_at (sym (head_same b b c (s ++ rest) t e)) ∙ kind_at_letter b parts.0)
first_kind (Sign [] mark) c t rest h e = absurd (false≢true (mark_begins [] mark h))
first_kind (Sign (b ∷ s) mark) c t rest h e =
    sym (eqb-true (kind_at b) 4 (mark_begins (b ∷ s) mark h)) ∙ ap kind_at (head_same b b c (s ++ rest) t e)
first_kind (Decimal []) c t rest h e = absurd (false≢true h)
first_kind (Decimal (b ∷ s)) c t rest h e =
    let parts = and_parts (is_digit b 10) (list_all (λ d. is_digit d 10) (b ∷ s)) h in
    sym (ap kind_at (sym (head_same b b c (s ++ rest) t e)) ∙ kind_at_digit b parts.0)
first_kind (Based [] sign s) c t rest h e = absurd (false≢true (based_parts [] sign s h).0)
first_kind (Based (b ∷ radix) sign s) c t rest h e =
    let parts = and_parts (is_digit b 10) (list_all (λ d. is_digit d 10) (b ∷ radix)) (based_parts (b ∷ radix) sign s h).0 in
    sym (ap kind_at (sym (head_same b b c ((radix ++ sign ∷ s) ++ rest) t e)) ∙ kind_at_digit b parts.0)
first_kind (Quoted parts) c t rest h e = ap kind_at (head_same c 34 c (quoted parts ++ rest) t e)
first_kind (Character part) c t rest h e = ap kind_at (head_same c 39 c ((part_spelling part ++ 39 ∷ []) ++ rest) t e)

-- A piece has a first character.
pub some_first : (p : Piece) → IsPiece p → (c : ℕ) × (t : List ℕ) × (spelling p ≡ c ∷ t)
unfolding begins_mark
some_first (Blank c) h = (c, [], refl)
some_first (Comment s) h = (35, s, refl)
some_first (Letters []) h = absurd (false≢true h)
some_first (Letters (b ∷ s)) h = (b, s, refl)
some_first (Sign [] mark) h = absurd (false≢true (mark_begins [] mark h))
some_first (Sign (b ∷ s) mark) h = (b, s, refl)
some_first (Decimal []) h = absurd (false≢true h)
some_first (Decimal (b ∷ s)) h = (b, s, refl)
some_first (Based [] sign s) h = absurd (false≢true (based_parts [] sign s h).0)
some_first (Based (b ∷ radix) sign s) h = (b, radix ++ sign ∷ s, refl)
some_first (Quoted parts) h = (34, quoted parts, refl)
some_first (Character part) h = (39, part_spelling part ++ 39 ∷ [], refl)

-- Two pieces that begin one text are of one kind.
pub same_kind : (p q : Piece) (r u : List ℕ) → IsPiece p → IsPiece q → spelling p ++ r ≡ spelling q ++ u → kind p ≡ kind q
same_kind p q r u hp hq e =
    let first = some_first p hp in
    let f : spelling p ++ r ≡ first.0 ∷ (first.1 ++ r) = ap (λ x. x ++ r) first.2 in
    first_kind p first.0 (first.1 ++ r) r hp f ∙ sym (first_kind q first.0 (first.1 ++ r) u hq (sym e ∙ f))

pub kind_at_other : (c : ℕ) → is_blank c ≡ false → (c ≡ 35 → ⊥) → (c ≡ 34 → ⊥) → (c ≡ 39 → ⊥) → is_letter c ≡ false → is_digit c 10 ≡ false → kind_at c ≡ 4
unfolding kind_at
kind_at_other c b h q a l d = rw (b, ne_eqb c 35 h, ne_eqb c 34 q, ne_eqb c 39 a, l, d)

pub at_comment : kind_at 35 ≡ 1
unfolding kind_at
at_comment = refl

pub at_string : kind_at 34 ≡ 3
unfolding kind_at
at_string = refl

pub at_character : kind_at 39 ≡ 6
unfolding kind_at
at_character = refl
