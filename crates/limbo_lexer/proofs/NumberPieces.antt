-- Numbers at the front of a text.
use Rattle.std.proofs.Common.{◌≡◌, ℕ, suc, ◌≤◌, Bool, true, false, eqb, List, [], ◌∷◌, ◌++◌, length, get_or, take, drop, refl, sym, ap, ◌∙◌, subst, arith, append_assoc, ◌&&◌, ⊎_elim}
use Rattle.std.proofs.lemmas.Bool.{and_parts, and_from, or_cases, both_ways, eqb-true, false≢true}
use Rattle.std.proofs.lemmas.List.{take-append-drop, length-append, length-take}
use Rattle.std.proofs.lemmas.List.Sums.{prefix_len-le-length}
use Rattle.std.specs.List.{list_all, prefix_len}
use Rattle.std.specs.Char.{is_digit}
use Rattle.limbo_lexer.proofs.Fronts.{tail_same, same_fronts, front_passes, front_longest, front_cons}
use Rattle.limbo_lexer.proofs.FirstKinds.{kind, kind_at_digit, first_kind, based_parts}
use Rattle.limbo_lexer.specs.Numbers.{begins, are_digits, digits_value, is_radix, is_radix_sign}
use Rattle.limbo_lexer.specs.Tokens.{Piece, Blank, Comment, Letters, Sign, Decimal, Based, Quoted, Character, IsPiece, IsLongest, spelling}
use Rattle.limbo_lexer.specs.Pieces.{goes_on}

-- A well-formed piece stands at the front, none that begins there is longer, and the rest stands behind it.
pub record Fits (text : List ℕ) (piece : Piece) (rest : List ℕ) : Type 0 where
  pub formed : IsPiece piece
  pub spelled : spelling piece ++ rest ≡ text
  pub longest : IsLongest piece rest

abbrev pub decimal : ℕ → Bool
decimal c = is_digit c 10

stop_len : (p : ℕ → Bool) (c : ℕ) (r : List ℕ) → p c ≡ false → prefix_len p (c ∷ r) ≡ 0
stop_len p c r h = rw h refl

go_len : (p : ℕ → Bool) (c : ℕ) (s : List ℕ) → p c ≡ true → prefix_len p (c ∷ s) ≡ suc (prefix_len p s)
go_len p c s h = rw h (omega arith)

front_whole : (p : ℕ → Bool) (t r : List ℕ) → list_all p t ≡ true → begins p r ≡ false → prefix_len p (t ++ r) ≡ length t
front_whole p [] [] h k = refl
front_whole p [] (c ∷ r) h k = stop_len p c r k
front_whole p (c ∷ t) r h k =
    let parts = and_parts (p c) (list_all p t) h in
    go_len p c (t ++ r) parts.0 ∙ ap suc (front_whole p t r parts.1 k)

are_front : (p : ℕ → Bool) (s : List ℕ) → begins p s ≡ true → (begins p (take (prefix_len p s) s) && list_all p (take (prefix_len p s) s)) ≡ true
are_front p [] h = absurd (false≢true h)
are_front p (c ∷ s) h = subst (λ x. (begins p x && list_all p x) ≡ true) (sym (front_cons p c s h)) (and_from (p c) (p c && list_all p (take (prefix_len p s) s)) h (and_from (p c) (list_all p (take (prefix_len p s) s)) h (front_passes p s)))

pub sign_no_digit : (c : ℕ) → is_radix_sign c ≡ true → is_digit c 10 ≡ false
sign_no_digit c h = ⊎_elim (λ e. ap decimal (eqb-true c 114 e)) (λ e. ap decimal (eqb-true c 82 e)) (or_cases (eqb c 114) (eqb c 82) h)

pub all_of : (radix : ℕ) (s : List ℕ) → are_digits radix s ≡ true → list_all (λ c. is_digit c radix) s ≡ true
all_of radix s h = (and_parts (begins (λ c. is_digit c radix) s) (list_all (λ c. is_digit c radix) s) h).1

first_of_digits : (radix : ℕ) (s r : List ℕ) → are_digits radix s ≡ true → begins (λ c. is_digit c radix) (s ++ r) ≡ true
first_of_digits radix [] r h = absurd (false≢true h)
first_of_digits radix (c ∷ s) r h = (and_parts (is_digit c radix) (list_all (λ d. is_digit d radix) (c ∷ s)) h).0

-- Where a number with a radix begins a text: its radix is all the digits at the front.
pub based_split : (b : List ℕ) (r : ℕ) (t after s : List ℕ) → IsPiece (Based b r t) → spelling (Based b r t) ++ after ≡ s → (b ≡ take (prefix_len decimal s) s) × (r ∷ (t ++ after) ≡ drop (prefix_len decimal s) s)
based_split b r t after s h e =
    let p = based_parts b r t h in
    let split : b ++ r ∷ (t ++ after) ≡ s = sym (append_assoc b (r ∷ t) after) ∙ e in
    let len : prefix_len decimal s ≡ length b = ap (prefix_len decimal) (sym split) ∙ front_whole decimal b (r ∷ (t ++ after)) (all_of 10 b p.0) (sign_no_digit r p.2) in
    let bound = prefix_len-le-length decimal s in
    same_fronts b (take (prefix_len decimal s) s) (r ∷ (t ++ after)) (drop (prefix_len decimal s) s) (split ∙ sym (take-append-drop (prefix_len decimal s) s)) (omega (arith, len, bound, length-take (prefix_len decimal s) s))

-- Then a number with a radix goes on behind these digits.
based_goes_on : (b : List ℕ) (r : ℕ) (t after s : List ℕ) → IsPiece (Based b r t) → spelling (Based b r t) ++ after ≡ s → goes_on (take (prefix_len decimal s) s) (drop (prefix_len decimal s) s) ≡ true
based_goes_on b r t after s h e =
    let split = based_split b r t after s h e in
    let p = based_parts b r t h in
    let on : goes_on b (r ∷ (t ++ after)) ≡ true = and_from (is_radix_sign r && is_radix b) (begins (λ d. is_digit d (digits_value 10 b)) (t ++ after)) (and_from (is_radix_sign r) (is_radix b) p.2 p.1) (first_of_digits (digits_value 10 b) t after p.3) in
    subst (λ x. goes_on (take (prefix_len decimal s) s) x ≡ true) split.1 (subst (λ x. goes_on x (r ∷ (t ++ after)) ≡ true) split.0 on)

number_kind : (s : List ℕ) (o : Piece) (after : List ℕ) → begins decimal s ≡ true → IsPiece o → spelling o ++ after ≡ s → kind o ≡ 5
number_kind [] o after d h e = absurd (false≢true d)
number_kind (c ∷ t) o after d h e = first_kind o c t after h e ∙ kind_at_digit c d

-- Where no number with a radix goes on, the longest piece is the decimal number of all the digits at the front.
pub decimal_fits : (s : List ℕ) → begins decimal s ≡ true → goes_on (take (prefix_len decimal s) s) (drop (prefix_len decimal s) s) ≡ false → Fits s (Decimal (take (prefix_len decimal s) s)) (drop (prefix_len decimal s) s)
decimal_fits s d none = record {
  formed = are_front decimal s d;
  spelled = take-append-drop (prefix_len decimal s) s;
  longest = λ o after h e.
      let k = e ∙ take-append-drop (prefix_len decimal s) s in
      by_kind o after h k (number_kind s o after d h k);
} where
  by_kind : (o : Piece) (after : List ℕ) → IsPiece o → spelling o ++ after ≡ s → kind o ≡ 5 → length (spelling o) ≤ length (take (prefix_len decimal s) s)
  by_kind (Blank b) after h e k = absurd (omega arith)
  by_kind (Comment o) after h e k = absurd (omega arith)
  by_kind (Letters o) after h e k = absurd (omega arith)
  by_kind (Sign o mark) after h e k = absurd (omega arith)
  by_kind (Decimal o) after h e k =
      let le = front_longest decimal s o after (all_of 10 o h) e in
      let bound = prefix_len-le-length decimal s in
      omega (arith, le, bound, length-take (prefix_len decimal s) s)
  by_kind (Based b r t) after h e k = absurd (both_ways _ none (based_goes_on b r t after s h e))
  by_kind (Quoted o) after h e k = absurd (omega arith)
  by_kind (Character o) after h e k = absurd (omega arith)

-- A number with a radix whose parts are these is the longest piece.
pub based_fits : (s digits : List ℕ) (sign : ℕ) (tail : List ℕ) → begins decimal s ≡ true → take (prefix_len decimal s) s ≡ digits → drop (prefix_len decimal s) s ≡ sign ∷ tail → goes_on digits (sign ∷ tail) ≡ true → Fits s (Based digits sign (take (prefix_len (λ c. is_digit c (digits_value 10 digits)) tail) tail)) (drop (prefix_len (λ c. is_digit c (digits_value 10 digits)) tail) tail)
based_fits s digits sign tail d front back on = record {
  formed = formed;
  spelled = spelled;
  longest = λ o after h e.
      let k = e ∙ spelled in
      by_kind o after h k (number_kind s o after d h k);
} where
  p : ℕ → Bool
  p c = is_digit c (digits_value 10 digits)

  parts : (is_radix_sign sign ≡ true) × (is_radix digits ≡ true) × (begins (λ c. is_digit c (digits_value 10 digits)) tail ≡ true)
  parts =
      let a = and_parts (is_radix_sign sign && is_radix digits) (begins (λ c. is_digit c (digits_value 10 digits)) tail) on in
      let b = and_parts (is_radix_sign sign) (is_radix digits) a.0 in
      (b.0, b.1, a.1)

  are : are_digits 10 digits ≡ true
  are = subst (λ x. are_digits 10 x ≡ true) front (are_front decimal s d)

  formed : IsPiece (Based digits sign (take (prefix_len (λ c. is_digit c (digits_value 10 digits)) tail) tail))
  formed = and_from (are_digits 10 digits && is_radix digits && is_radix_sign sign) _ (and_from (are_digits 10 digits && is_radix digits) (is_radix_sign sign) (and_from (are_digits 10 digits) (is_radix digits) are parts.1) parts.0) (are_front (λ c. is_digit c (digits_value 10 digits)) tail parts.2)

  spelled : (digits ++ sign ∷ take (prefix_len (λ c. is_digit c (digits_value 10 digits)) tail) tail) ++ drop (prefix_len (λ c. is_digit c (digits_value 10 digits)) tail) tail ≡ s
  spelled =
      append_assoc digits (sign ∷ take (prefix_len (λ c. is_digit c (digits_value 10 digits)) tail) tail) (drop (prefix_len (λ c. is_digit c (digits_value 10 digits)) tail) tail)
      ∙ ap (λ x. digits ++ sign ∷ x) (take-append-drop (prefix_len (λ c. is_digit c (digits_value 10 digits)) tail) tail)
      ∙ ap (λ x. digits ++ x) (sym back)
      ∙ ap (λ x. x ++ drop (prefix_len decimal s) s) (sym front)
      ∙ take-append-drop (prefix_len decimal s) s

  by_kind : (o : Piece) (after : List ℕ) → IsPiece o → spelling o ++ after ≡ s → kind o ≡ 5 → length (spelling o) ≤ length (digits ++ sign ∷ take (prefix_len (λ c. is_digit c (digits_value 10 digits)) tail) tail)
  by_kind (Blank b) after h e k = absurd (omega arith)
  by_kind (Comment o) after h e k = absurd (omega arith)
  by_kind (Letters o) after h e k = absurd (omega arith)
  by_kind (Sign o mark) after h e k = absurd (omega arith)
  by_kind (Decimal o) after h e k =
      let le = front_longest decimal s o after (all_of 10 o h) e in
      let bound = prefix_len-le-length decimal s in
      let len : length (take (prefix_len decimal s) s) ≡ length digits = ap length front in
      omega (arith, le, bound, len, length-take (prefix_len decimal s) s, length-append digits (sign ∷ take (prefix_len (λ c. is_digit c (digits_value 10 digits)) tail) tail))
  by_kind (Based b r t) after h e k =
      let split = based_split b r t after s h e in
      let same : b ≡ digits = split.0 ∙ front in
      let rest : t ++ after ≡ tail = tail_same r sign (t ++ after) tail (split.1 ∙ back) in
      let all : list_all (λ c. is_digit c (digits_value 10 digits)) t ≡ true = subst (λ x. list_all (λ c. is_digit c (digits_value 10 x)) t ≡ true) same (all_of (digits_value 10 b) t (based_parts b r t h).3) in
      let le = front_longest (λ c. is_digit c (digits_value 10 digits)) tail t after all rest in
      let bound = prefix_len-le-length (λ c. is_digit c (digits_value 10 digits)) tail in
      let len : length b ≡ length digits = ap length same in
      omega (arith, le, bound, len, length-append b (r ∷ t), length-take (prefix_len (λ c. is_digit c (digits_value 10 digits)) tail) tail, length-append digits (sign ∷ take (prefix_len (λ c. is_digit c (digits_value 10 digits)) tail) tail))
  by_kind (Quoted o) after h e k = absurd (omega arith)
  by_kind (Character o) after h e k = absurd (omega arith)

-- The same, of what a function found.
pub decimal_front : (s digits behind : List ℕ) (n : ℕ) → begins decimal s ≡ true → n ≡ prefix_len decimal s → digits ≡ take n s → behind ≡ drop n s → goes_on digits behind ≡ false → Fits s (Decimal digits) behind
decimal_front s digits behind n d len front back none =
    let f : digits ≡ take (prefix_len decimal s) s = front ∙ ap (λ x. take x s) len in
    let b : behind ≡ drop (prefix_len decimal s) s = back ∙ ap (λ x. drop x s) len in
    let g : goes_on (take (prefix_len decimal s) s) (drop (prefix_len decimal s) s) ≡ false = subst (λ x. goes_on (take (prefix_len decimal s) s) x ≡ false) b (subst (λ x. goes_on x behind ≡ false) f none) in
    subst (λ x. Fits s (Decimal digits) x) (sym b) (subst (λ x. Fits s (Decimal x) (drop (prefix_len decimal s) s)) (sym f) (decimal_fits s d g))

behind_is : (digits behind : List ℕ) → goes_on digits behind ≡ true → behind ≡ get_or behind 0 0 ∷ drop 1 behind
behind_is digits [] h = absurd (false≢true h)
behind_is digits (c ∷ s) h = refl

pub based_front : (s digits behind : List ℕ) (n radix : ℕ) (ds rest : List ℕ) (m : ℕ) → begins decimal s ≡ true → n ≡ prefix_len decimal s → digits ≡ take n s → behind ≡ drop n s → goes_on digits behind ≡ true → radix ≡ digits_value 10 digits → m ≡ prefix_len (λ c. is_digit c radix) (drop 1 behind) → ds ≡ take m (drop 1 behind) → rest ≡ drop m (drop 1 behind) → Fits s (Based digits (get_or behind 0 0) ds) rest
based_front s digits behind n radix ds rest m d len front back on r k dfront dback =
    let whole = behind_is digits behind on in
    let f : take (prefix_len decimal s) s ≡ digits = sym (front ∙ ap (λ x. take x s) len) in
    let b : drop (prefix_len decimal s) s ≡ get_or behind 0 0 ∷ drop 1 behind = sym (back ∙ ap (λ x. drop x s) len) ∙ whole in
    let g : goes_on digits (get_or behind 0 0 ∷ drop 1 behind) ≡ true = subst (λ x. goes_on digits x ≡ true) whole on in
    let fits = based_fits s digits (get_or behind 0 0) (drop 1 behind) d f b g in
    let l : m ≡ prefix_len (λ c. is_digit c (digits_value 10 digits)) (drop 1 behind) = k ∙ ap (λ x. prefix_len (λ c. is_digit c x) (drop 1 behind)) r in
    let df : ds ≡ take (prefix_len (λ c. is_digit c (digits_value 10 digits)) (drop 1 behind)) (drop 1 behind) = dfront ∙ ap (λ x. take x (drop 1 behind)) l in
    let db : rest ≡ drop (prefix_len (λ c. is_digit c (digits_value 10 digits)) (drop 1 behind)) (drop 1 behind) = dback ∙ ap (λ x. drop x (drop 1 behind)) l in
    subst (λ x. Fits s (Based digits (get_or behind 0 0) ds) x) (sym db) (subst (λ x. Fits s (Based digits (get_or behind 0 0) x) (drop (prefix_len (λ c. is_digit c (digits_value 10 digits)) (drop 1 behind)) (drop 1 behind))) (sym df) fits)
