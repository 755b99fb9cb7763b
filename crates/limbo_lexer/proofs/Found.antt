-- What the functions that read pieces find, by the first character of a text, and why they refuse.
use Rattle.std.proofs.Common.{◌≡◌, ℕ, ◌<◌, ◌≤◌, Bool, true, false, not, eqb, List, [], ◌∷◌, ◌++◌, length, take, drop, refl, sym, ap, ◌∙◌, subst, arith, append_assoc, inl, inr, pos}
use Rattle.std.proofs.Math.Numerals.{one-add}
use Rattle.std.proofs.lemmas.Bool.{ne_eqb, eqb-true, false≢true}
use Rattle.std.proofs.lemmas.Bool.Decides.{nat_tests}
use Rattle.std.specs.List.{prefix_len}
use Rattle.std.specs.Char.{is_digit}
use Rattle.limbo_lexer.specs.declared.token.Kind.{Kind}
use Rattle.limbo_lexer.specs.declared.token.Kind.TheVariants as kinds
use Rattle.limbo_lexer.specs.declared.token.Mark.{Mark}
use Rattle.limbo_lexer.specs.declared.fault.Cause.{Cause}
use Rattle.limbo_lexer.specs.declared.fault.Cause.TheVariants as cause
use Rattle.limbo_lexer.proofs.Fronts.{tail_same}
use Rattle.limbo_lexer.proofs.Parts.{part_not_quote}
use Rattle.limbo_lexer.proofs.Codes.{no_true}
use Rattle.limbo_lexer.proofs.FirstKinds.{kind, kind_at, kind_at_other, first_kind, at_character}
use Rattle.limbo_lexer.proofs.NumberPieces.{Fits}
use Rattle.limbo_lexer.proofs.PieceLemmas.{stays, fits_begins, blank_fits, comment_fits, word_fits, string_fits, character_fits, mark_fits, no_mark}
use Rattle.limbo_lexer.specs.Words.{word_kind}
use Rattle.limbo_lexer.specs.Numbers.{begins, begins_fraction}
use Rattle.limbo_lexer.specs.Constants.{part_spelling}
use Rattle.limbo_lexer.specs.Tokens.{Piece, Blank, Comment, Letters, Sign, Decimal, Based, Quoted, Character, IsPiece, spelling, is_narrow, is_whole, is_blank, is_letter, is_name_char}
use Rattle.limbo_lexer.specs.Pieces.{BeginsPiece, BeginsMark, HasNoMark, EndsString, EndsCharacter, IsBadString, IsBadCharacter, IsBadNumber, is_token_char}
use Rattle.limbo_lexer.specs.Causes.{IsCauseAt, opens_constant}

pub blank_first : (s : List ℕ) (x : ℕ) → s ≡ x ∷ drop 1 s → is_blank x ≡ true → BeginsPiece s [] (drop 1 s)
blank_first s x is h =
    fits_begins s (Blank x) (drop 1 s) [] (subst (λ y. Fits y (Blank x) (drop 1 s)) (sym is) (blank_fits x (drop 1 s) h)) refl refl refl

comment_len : (t : List ℕ) → drop (prefix_len stays (35 ∷ t)) (35 ∷ t) ≡ drop (prefix_len stays t) t
comment_len t = rw one-add refl

pub comment_first : (s rest : List ℕ) → s ≡ 35 ∷ drop 1 s → rest ≡ drop (prefix_len stays s) s → BeginsPiece s [] rest
comment_first s rest is e =
    let t = drop 1 s in
    let len : rest ≡ drop (prefix_len stays t) t = e ∙ ap (λ x. drop (prefix_len stays x) x) is ∙ comment_len t in
    let b = fits_begins (35 ∷ t) (Comment (take (prefix_len stays t) t)) (drop (prefix_len stays t) t) [] (comment_fits t) refl refl refl in
    subst (λ x. BeginsPiece s [] x) (sym len) (subst (λ x. BeginsPiece x [] (drop (prefix_len stays t) t)) (sym is) b)

pub word_first : (s : List ℕ) (x : ℕ) (word rest : List ℕ) (k : Kind) (n : ℕ) → s ≡ x ∷ drop 1 s → is_letter x ≡ true → n ≡ prefix_len is_name_char s → word ≡ take n s → rest ≡ drop n s → k ≡ word_kind word → BeginsPiece s (k ∷ []) rest
word_first s x word rest k n is h len front back given =
    let f : word ≡ take (prefix_len is_name_char s) s = front ∙ ap (λ y. take y s) len in
    let b : rest ≡ drop (prefix_len is_name_char s) s = back ∙ ap (λ y. drop y s) len in
    subst (λ y. BeginsPiece s (k ∷ []) y) (sym b)
    (fits_begins s (Letters (take (prefix_len is_name_char s) s)) (drop (prefix_len is_name_char s) s) (k ∷ []) (word_fits s x (drop 1 s) is h) refl refl
    (ap (λ y. y ∷ []) (ap word_kind (sym f) ∙ sym given)))

pub string_first : (s chars rest : List ℕ) → s ≡ 34 ∷ drop 1 s → EndsString (drop 1 s) chars rest → BeginsPiece s (kinds.Chars chars ∷ []) rest
string_first s chars rest is h =
    fits_begins s (Quoted h.parts) rest (kinds.Chars chars ∷ []) (subst (λ y. Fits y (Quoted h.parts) rest) (sym is) (string_fits (drop 1 s) chars rest h)) refl refl
    (ap (λ y. kinds.Chars y ∷ []) h.given)

pub character_first : (s : List ℕ) (char : ℕ) (rest : List ℕ) → s ≡ 39 ∷ drop 1 s → EndsCharacter (drop 1 s) char rest → BeginsPiece s (kinds.Number (pos char) false ∷ []) rest
character_first s char rest is h =
    fits_begins s (Character h.part) rest (kinds.Number (pos char) false ∷ []) (subst (λ y. Fits y (Character h.part) rest) (sym is) (character_fits (drop 1 s) char rest h)) refl refl
    (ap (λ y. kinds.Number (pos y) false ∷ []) h.given)

token_char : (x : ℕ) → is_token_char x ≡ true → (is_blank x ≡ true → ⊥) × (x ≡ 35 → ⊥) × (x ≡ 34 → ⊥) × (x ≡ 39 → ⊥)
token_char x h = (λ e. grind (arith, nat_tests), λ e. grind (arith, nat_tests), λ e. grind (arith, nat_tests), λ e. grind (arith, nat_tests))

first_passes : (s : List ℕ) (x : ℕ) → s ≡ x ∷ drop 1 s → begins is_token_char s ≡ true → is_token_char x ≡ true
first_passes s x is h = ap (begins is_token_char) (sym is) ∙ h

mark_kind : (s : List ℕ) (x : ℕ) → s ≡ x ∷ drop 1 s → begins is_token_char s ≡ true → is_letter x ≡ false → is_digit x 10 ≡ false → kind_at x ≡ 4
mark_kind s x is h l d =
    let t = token_char x (first_passes s x is h) in
    kind_at_other x (no_true (is_blank x) t.0) t.1 t.2 t.3 l d

pub mark_first : (s : List ℕ) (x : ℕ) (mark : Mark) (n : ℕ) → s ≡ x ∷ drop 1 s → begins is_token_char s ≡ true → is_letter x ≡ false → is_digit x 10 ≡ false → BeginsMark s mark n → BeginsPiece s (kinds.Mark mark ∷ []) (drop n s)
mark_first s x mark n is h l d b =
    fits_begins s (Sign (take n s) mark) (drop n s) (kinds.Mark mark ∷ []) (mark_fits s x (drop 1 s) mark n is (mark_kind s x is h l d) b) refl refl refl

pub no_mark_first : (s : List ℕ) (x : ℕ) → s ≡ x ∷ drop 1 s → begins is_token_char s ≡ true → is_letter x ≡ false → is_digit x 10 ≡ false → ((m : ℕ) → 0 < m → m ≤ 3 → HasNoMark s m) → IsCauseAt s cause.BadChar
no_mark_first s x is h l d none =
    let t = token_char x (first_passes s x is h) in
    inl (record {
      left = let n = ap length is in omega (arith, n);
      none = no_mark s x (drop 1 s) is (mark_kind s x is h l d) none;
      unopened = ap opens_constant is ∙ rw (ne_eqb x 34 t.2, ne_eqb x 39 t.3) refl;
    })

pub bad_number : (s : List ℕ) (piece : Piece) (rest : List ℕ) (narrow : Bool) (fault : Cause) → Fits s piece rest → is_narrow piece ≡ narrow → is_whole piece rest ≡ not (begins_fraction rest) → IsBadNumber narrow rest fault → IsCauseAt s fault
bad_number s piece rest narrow cause.BadChar f n w h = inr (record { piece = piece; after = rest; formed = f.formed; spelled = f.spelled; longest = f.longest; met = w ∙ ap not h })
bad_number s piece rest narrow cause.NumberTooWide f n w h = record { piece = piece; after = rest; formed = f.formed; spelled = f.spelled; longest = f.longest; wide = n ∙ h }
bad_number s piece rest narrow cause.NoMemory f n w h = tt
bad_number s piece rest narrow cause.BadEscape f n w h = absurd h
bad_number s piece rest narrow cause.Unclosed f n w h = absurd h

pub string_cause : (s : List ℕ) (fault : Cause) → s ≡ 34 ∷ drop 1 s → IsBadString (drop 1 s) fault → IsCauseAt s fault
string_cause s cause.NoMemory is h = tt
string_cause s cause.BadChar is h = absurd h.3
string_cause s cause.NumberTooWide is h = absurd h.3
string_cause s cause.BadEscape is h = record { tail = h.1; opened = inr (drop 1 s, h.0, sym is, h.2); misspelled = h.3 }
string_cause s cause.Unclosed is h = inl (h.1, inr (drop 1 s, h.0, sym is, h.2), h.3)

begins_quote : (t : List ℕ) → begins (λ c. eqb c 39) t ≡ true → t ≡ 39 ∷ drop 1 t
begins_quote [] h = absurd (false≢true h)
begins_quote (c ∷ t) h = ap (λ x. x ∷ t) (eqb-true c 39 h)

no_character : (t : List ℕ) → t ≡ 39 ∷ drop 1 t → (piece : Piece) (after : List ℕ) → IsPiece piece → spelling piece ++ after ≡ 39 ∷ t → ⊥
no_character t is piece after p e = by_kind piece p e (first_kind piece 39 t after p e ∙ at_character) where
  by_kind : (o : Piece) → IsPiece o → spelling o ++ after ≡ 39 ∷ t → kind o ≡ 6 → ⊥
  by_kind (Blank b) p e q = absurd (omega arith)
  by_kind (Comment o) p e q = absurd (omega arith)
  by_kind (Letters o) p e q = absurd (omega arith)
  by_kind (Sign o mark) p e q = absurd (omega arith)
  by_kind (Decimal o) p e q = absurd (omega arith)
  by_kind (Based b r o) p e q = absurd (omega arith)
  by_kind (Quoted o) p e q = absurd (omega arith)
  by_kind (Character o) p e q =
      let tails : (part_spelling o ++ 39 ∷ []) ++ after ≡ t = tail_same 39 39 ((part_spelling o ++ 39 ∷ []) ++ after) t e in
      part_not_quote 39 o (39 ∷ after) (drop 1 t) refl p (sym (append_assoc (part_spelling o) (39 ∷ []) after) ∙ tails ∙ is)

pub character_cause : (s : List ℕ) (fault : Cause) → s ≡ 39 ∷ drop 1 s → IsBadCharacter (drop 1 s) fault → IsCauseAt s fault
character_cause s cause.NoMemory is h = tt
character_cause s cause.NumberTooWide is h = absurd h
character_cause s cause.BadChar is h = inl (record {
  left = let l = ap length is in omega (arith, l);
  none = λ piece after p e. no_character (drop 1 s) (begins_quote (drop 1 s) h) piece after p (e ∙ is);
  unopened = ap opens_constant is ∙ ap not h;
})
character_cause s cause.BadEscape is h = record { tail = drop 1 s; opened = inl (sym is); misspelled = h }
character_cause s cause.Unclosed is (inl h) = inl (drop 1 s, inl (sym is), h)
character_cause s cause.Unclosed is (inr h) = inr (drop 1 s, sym is, h)
