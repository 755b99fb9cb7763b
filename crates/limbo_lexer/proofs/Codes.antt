-- Escapes and codes of characters in constants.
use Rattle.std.proofs.Common.{◌≡◌, ℕ, ◌+◌, ◌*◌, ◌<◌, Bool, true, false, not, eqb, ltb, List, [], ◌∷◌, length, get_or, drop, refl, sym, ap, ◌∙◌, arith, ◌&&◌, Option, Some, None, is_some}
use Rattle.std.specs.Prelude.{SomeIff, MatchOption, IfSome, IfNone}
use Rattle.std.specs.Option.{unwrap_or}
use Rattle.std.proofs.lemmas.Bool.{and_parts, and_from, both_ways, false≢true}
use Rattle.std.proofs.lemmas.Bool.Decides.{nat_tests}
use Rattle.std.specs.Char.{digit_value, is_digit, IsScalar, InScalarRange, OutOfScalarRange}
use Rattle.limbo_lexer.proofs.Fronts.{head_same}
use Rattle.limbo_lexer.proofs.Parts.{plain_not}
use Rattle.limbo_lexer.specs.Constants.{Plain, Escape, Code, code_value, is_surrogate, escaped, is_part}
use Rattle.limbo_lexer.specs.Numbers.{begins}
use Rattle.limbo_lexer.specs.Pieces.{BeginsPart, HasNoPart}

pub no_true : (b : Bool) → (b ≡ true → ⊥) → b ≡ false
no_true true h = absurd (h refl)
no_true false h = refl

and_no : (x : Bool) → (x && false) ≡ false
and_no true = refl
and_no false = refl

digit_test : (a : ℕ) → digit_value a < 16 → is_digit a 16 ≡ true
digit_test a h = below (digit_value a) h where
  below : (n : ℕ) → n < 16 → ltb n 16 ≡ true
  below n h = grind (arith, nat_tests)

digit_below : (a : ℕ) → is_digit a 16 ≡ true → digit_value a < 16
digit_below a h = below (digit_value a) h where
  below : (n : ℕ) → ltb n 16 ≡ true → n < 16
  below n h = grind (arith, nat_tests)

no_surrogate : (n : ℕ) → InScalarRange n → is_surrogate n ≡ false
no_surrogate n h = grind (arith, nat_tests, h)

surrogate : (n : ℕ) → n < 65536 → OutOfScalarRange n → is_surrogate n ≡ true
surrogate n b h = grind (arith, nat_tests, h)

value_below : (x y z w : ℕ) → x < 16 → y < 16 → z < 16 → w < 16 → (((0 + x) * 16 + y) * 16 + z) * 16 + w < 65536
value_below x y z w hx hy hz hw = omega arith

pub code_cases : (r : Option ℕ) (n a b c d : ℕ) → digit_value a < 16 → digit_value b < 16 → digit_value c < 16 → digit_value d < 16 → n ≡ code_value a b c d → SomeIff r (IsScalar n) n → MatchOption r (OutOfScalarRange n) (λ _. InScalarRange n) → IfSome r (λ m. (quote : ℕ) → (is_part quote (Code a b c d) ≡ true) × (code_value a b c d ≡ m)) × IfNone r ((quote : ℕ) → is_part quote (Code a b c d) ≡ false)
code_cases None n a b c d ha hb hc hd e v h =
    let below : code_value a b c d < 65536 = value_below (digit_value a) (digit_value b) (digit_value c) (digit_value d) ha hb hc hd in
    let s : is_surrogate (code_value a b c d) ≡ true = ap is_surrogate (sym e) ∙ surrogate n (omega (arith, below, e)) h in
    (tt, λ q. ap (λ x. is_digit a 16 && is_digit b 16 && is_digit c 16 && is_digit d 16 && not x) s ∙ and_no _)
code_cases (Some m) n a b c d ha hb hc hd e v h =
    let s : is_surrogate (code_value a b c d) ≡ false = ap is_surrogate (sym e) ∙ no_surrogate n h in
    (λ q. (and_from _ _ (and_from _ _ (and_from _ _ (and_from _ _ (digit_test a ha) (digit_test b hb)) (digit_test c hc)) (digit_test d hd)) (ap not s), sym e ∙ sym v.1), tt)

pub no_code_digits : (a b c d : ℕ) → (digit_value a < 16 → digit_value b < 16 → digit_value c < 16 → digit_value d < 16 → ⊥) → (quote : ℕ) → is_part quote (Code a b c d) ≡ false
no_code_digits a b c d h q = no_true (is_part q (Code a b c d)) (λ t.
    let p = and_parts (is_digit a 16 && is_digit b 16 && is_digit c 16 && is_digit d 16) _ t in
    let p3 = and_parts (is_digit a 16 && is_digit b 16 && is_digit c 16) (is_digit d 16) p.0 in
    let p2 = and_parts (is_digit a 16 && is_digit b 16) (is_digit c 16) p3.0 in
    let p1 = and_parts (is_digit a 16) (is_digit b 16) p2.0 in
    h (digit_below a p1.0) (digit_below b p1.1) (digit_below c p2.1) (digit_below d p3.1))

-- A text that begins with a backslash.
abbrev pub backslash : List ℕ → Bool
backslash s = begins (λ c. eqb c 92) s

eqb_is : (x y : ℕ) → eqb x y ≡ true → x ≡ y
eqb_is x y h = grind (arith, nat_tests)

heads : (x y : ℕ) (s t : List ℕ) → x ∷ s ≡ y ∷ t → x ≡ y
heads x y s t e = head_same {A = ℕ} x x y s t e

pub escape_begins : (s : List ℕ) (x d : ℕ) → backslash s ≡ true → 1 < length s → get_or s 1 0 ≡ x → escaped x ≡ Some d → (quote : ℕ) → BeginsPart quote s d (drop 2 s)
escape_begins [] x d h n e f q = absurd (omega arith)
escape_begins (y ∷ []) x d h n e f q = absurd (omega arith)
escape_begins (y ∷ z ∷ s) x d h n e f q =
    let k : y ≡ 92 = eqb_is y 92 h in
    let j : z ≡ x = e in
    record {
      part = Escape x;
      formed = ap is_some f;
      spelled = cc;
      given = ap (λ o. unwrap_or o 0) f;
    }

pub code_begins : (s : List ℕ) (d : ℕ) → backslash s ≡ true → 5 < length s → get_or s 1 0 ≡ 117 → (quote : ℕ) → is_part quote (Code (get_or (drop 2 s) 0 0) (get_or (drop 2 s) 1 0) (get_or (drop 2 s) 2 0) (get_or (drop 2 s) 3 0)) ≡ true → code_value (get_or (drop 2 s) 0 0) (get_or (drop 2 s) 1 0) (get_or (drop 2 s) 2 0) (get_or (drop 2 s) 3 0) ≡ d → BeginsPart quote s d (drop 6 s)
code_begins [] d h n e q f v = absurd (omega arith)
code_begins (y ∷ []) d h n e q f v = absurd (omega arith)
code_begins (y ∷ z ∷ []) d h n e q f v = absurd (omega arith)
code_begins (y ∷ z ∷ x0 ∷ []) d h n e q f v = absurd (omega arith)
code_begins (y ∷ z ∷ x0 ∷ x1 ∷ []) d h n e q f v = absurd (omega arith)
code_begins (y ∷ z ∷ x0 ∷ x1 ∷ x2 ∷ []) d h n e q f v = absurd (omega arith)
code_begins (y ∷ z ∷ x0 ∷ x1 ∷ x2 ∷ x3 ∷ s) d h n e q f v =
    let k : y ≡ 92 = eqb_is y 92 h in
    let j : z ≡ 117 = e in
    record { part = Code x0 x1 x2 x3; formed = f; spelled = cc; given = v }

-- A text that begins with a backslash begins with no part but an escape or a code.
pub no_part_but : (s : List ℕ) → backslash s ≡ true → (quote : ℕ) → ((c : ℕ) (r : List ℕ) → is_part quote (Escape c) ≡ true → 92 ∷ c ∷ r ≡ s → ⊥) → ((a b c d : ℕ) (r : List ℕ) → is_part quote (Code a b c d) ≡ true → 92 ∷ 117 ∷ a ∷ b ∷ c ∷ d ∷ r ≡ s → ⊥) → HasNoPart quote s
no_part_but [] h q escapes codes part r f e = absurd (false≢true h)
no_part_but (y ∷ s) h q escapes codes (Plain c) r f e = (plain_not q c f).1 (heads c y r s e ∙ eqb_is y 92 h)
no_part_but (y ∷ s) h q escapes codes (Escape c) r f e = escapes c r f e
no_part_but (y ∷ s) h q escapes codes (Code a b c d) r f e = codes a b c d r f e

second : (c : ℕ) (r s : List ℕ) → 92 ∷ c ∷ r ≡ s → get_or s 1 0 ≡ c
second c r s e = ap (λ x. get_or x 1 0) (sym e)

not_u : (q c : ℕ) → is_part q (Escape c) ≡ true → c ≡ 117 → ⊥
not_u q c h e = false≢true (let k : is_some (escaped 117) ≡ true = ap (λ x. is_some (escaped x)) (sym e) ∙ h in k)

pub no_escape : (s : List ℕ) (x : ℕ) → backslash s ≡ true → get_or s 1 0 ≡ x → (x ≡ 117 → ⊥) → escaped x ≡ None → (quote : ℕ) → HasNoPart quote s
no_escape s x h e u f q = no_part_but s h q
    (λ c r g k. false≢true (sym (ap is_some f) ∙ ap (λ z. is_some (escaped z)) (sym e ∙ second c r s k) ∙ g))
    (λ a b c d r g k. u (sym e ∙ second 117 (a ∷ b ∷ c ∷ d ∷ r) s k))

pub no_code : (s : List ℕ) → backslash s ≡ true → get_or s 1 0 ≡ 117 → (quote : ℕ) → is_part quote (Code (get_or (drop 2 s) 0 0) (get_or (drop 2 s) 1 0) (get_or (drop 2 s) 2 0) (get_or (drop 2 s) 3 0)) ≡ false → HasNoPart quote s
no_code s h e q f = no_part_but s h q
    (λ c r g k. not_u q c g (sym (second c r s k) ∙ e))
    (λ a b c d r g k. both_ways (is_part q (Code a b c d)) (ap (λ t. is_part q (Code (get_or (drop 2 t) 0 0) (get_or (drop 2 t) 1 0) (get_or (drop 2 t) 2 0) (get_or (drop 2 t) 3 0))) k ∙ f) g)

pub no_code_left : (s : List ℕ) → backslash s ≡ true → get_or s 1 0 ≡ 117 → length s < 6 → (quote : ℕ) → HasNoPart quote s
no_code_left s h e n q = no_part_but s h q
    (λ c r g k. not_u q c g (sym (second c r s k) ∙ e))
    (λ a b c d r g k. let l = ap length k in omega (arith, l))

pub no_escape_left : (s : List ℕ) → backslash s ≡ true → length s < 2 → (quote : ℕ) → HasNoPart quote s
no_escape_left s h n q = no_part_but s h q
    (λ c r g k. let l = ap length k in omega (arith, l))
    (λ a b c d r g k. let l = ap length k in omega (arith, l))
