-- The numbers of a text's tokens are in the ranges of their types.
use Rattle.std.proofs.Common.{◌≡◌, ◌<◌, ◌≤◌, ◌+◌, ◌-◌, ◌*◌, ◌==◌, ◌||◌, ℕ, ℤ, pos, Bool, true, false, cond, List, [], ◌∷◌, ◌++◌, Option}
use Rattle.std.proofs.Common.{Some, None}
use Rattle.std.proofs.Common.{refl, sym, subst, arith, tests, nat_lt, w32, w64, SFits, Fits}
use Rattle.std.specs.List.{flat_map}
use Rattle.std.specs.Option.{unwrap_or}
use Rattle.std.specs.Char.{digit_value}
use Rattle.std.specs.Int.{cast_signed}
use Rattle.std.proofs.Math.Facts.{sfits_to_z}
use Rattle.std.proofs.lemmas.Int.{ints}
use Rattle.limbo_values.specs.declared.number.Kind.TheVariants as kinds
use Rattle.limbo_values.specs.Numbers.{InRange}
use Rattle.limbo_lexer.specs.declared.token.Kind.{Kind}
use Rattle.limbo_lexer.specs.declared.token.Kind.TheVariants as kind
use Rattle.limbo_lexer.specs.declared.token.Key.{Key}
use Rattle.limbo_lexer.specs.Words.{key_or_name, listed, keywords}
use Rattle.limbo_lexer.specs.Numbers.{digits_value, decimal_kind, is_decimal_value, radix_kind, is_radix_value}
use Rattle.limbo_lexer.specs.Constants.{Part, Plain, Escape, Code, escaped, part_char, part_spelling, code_value}
use Rattle.limbo_lexer.specs.Tokens.{Piece, Blank, Comment, Letters, Sign, Decimal, Based, Quoted, Character, is_narrow, spelling}
use Rattle.limbo_lexer.specs.Tokens.{tokens_of, AllStand}
use Rattle.limbo_lexer.specs.Tokens.{HasTokenList}
use Rattle.limbo_typed.specs.Sound.{Each}
use Rattle.limbo_typed_sound.specs.Proper.{TokenInRange}
use Rattle.limbo_typed_sound.proofs.Lists.{each_and}

abbrev Chars : List ℕ → Type 0
Chars s = Each (λ c. c < 1114112) s

-- ---- numbers

int_of : (z : ℤ) → SFits w32 z → InRange kinds.Int z
int_of z f = record { above = omega (arith, ints); below = omega (arith, ints) }

big_of : (z : ℤ) → SFits w64 z → InRange kinds.Big z
big_of z f = record { above = omega (arith, ints); below = omega (arith, ints) }

small_int : (n : ℕ) → n ≤ 2147483647 → InRange kinds.Int (pos n)
small_int n h = record { above = omega (arith, ints); below = omega (arith, ints) }

small_big : (n : ℕ) → n ≤ 9223372036854775807 → InRange kinds.Big (pos n)
small_big n h = record { above = omega (arith, ints); below = omega (arith, ints) }

decimal : (n : ℕ) → is_decimal_value n ≡ true → TokenInRange (decimal_kind n)
decimal n h = go (nat_lt 2147483647 n) refl
  where
    go : (b : Bool) → nat_lt 2147483647 n ≡ b → TokenInRange (kind.Number (pos n) b)
    go true e = small_big n (grind (arith, tests))
    go false e = small_int n (grind (arith, tests))

based : (n : ℕ) → is_radix_value n ≡ true → TokenInRange (radix_kind n)
based n h = go (nat_lt n 4294967296) refl
  where
    go : (b : Bool) → nat_lt n 4294967296 ≡ b
        → TokenInRange (cond b (kind.Number (cast_signed w32 n) false) (kind.Number (cast_signed w64 n) true))
    go true e =
        let l : n < 4294967296 = grind (arith, tests) in
        let f : Fits w32 n = omega arith in
        int_of (cast_signed w32 n) (sfits_to_z f)
    go false e =
        let l : n < 18446744073709551616 = grind (arith, tests) in
        let f : Fits w64 n = omega arith in
        big_of (cast_signed w64 n) (sfits_to_z f)

-- ---- characters

either : (b : Bool) (x y k : ℕ) → (b ≡ true → x ≤ k) → y ≤ k → cond b x y ≤ k
either true x y k h i = h refl
either false x y k h i = i

-- the value of a digit is at most 36
digit_small : (c : ℕ) → digit_value c ≤ 36
digit_small c =
    either (nat_lt c 48) 36 _ 36 (λ e. omega arith)
    (either (nat_lt c 58) (c - 48) _ 36 (λ e. grind (arith, tests))
    (either (nat_lt c 65) 36 _ 36 (λ e. omega arith)
    (either (nat_lt c 91) (c - 55) _ 36 (λ e. grind (arith, tests))
    (either (nat_lt c 97) 36 _ 36 (λ e. omega arith)
    (either (nat_lt c 123) (c - 87) 36 36 (λ e. grind (arith, tests)) (omega arith))))))

code_small : (a b c d : ℕ) → code_value a b c d < 1114112
code_small a b c d =
    let i = digit_small a in
    let j = digit_small b in
    let k = digit_small c in
    let l = digit_small d in
    go (digit_value a) (digit_value b) (digit_value c) (digit_value d) i j k l
  where
    go : (a b c d : ℕ) → a ≤ 36 → b ≤ 36 → c ≤ 36 → d ≤ 36 → (((0 * 16 + a) * 16 + b) * 16 + c) * 16 + d < 1114112
    go a b c d i j k l = omega arith

either_of : (b : Bool) (x y : Option ℕ) (k : ℕ) → unwrap_or x 0 ≤ k → unwrap_or y 0 ≤ k → unwrap_or (cond b x y) 0 ≤ k
either_of true x y k h i = h
either_of false x y k h i = i

-- what is escaped, from each test on
abbrev at_0 : ℕ → Option ℕ
at_0 c = cond (c == 48) (Some 0) None

abbrev at_r : ℕ → Option ℕ
at_r c = cond (c == 114) (Some 13) (at_0 c)

abbrev at_f : ℕ → Option ℕ
at_f c = cond (c == 102) (Some 12) (at_r c)

abbrev at_v : ℕ → Option ℕ
at_v c = cond (c == 118) (Some 11) (at_f c)

abbrev at_n : ℕ → Option ℕ
at_n c = cond (c == 110) (Some 10) (at_v c)

abbrev at_t : ℕ → Option ℕ
at_t c = cond (c == 116) (Some 9) (at_n c)

abbrev at_b : ℕ → Option ℕ
at_b c = cond (c == 98) (Some 8) (at_t c)

abbrev at_a : ℕ → Option ℕ
at_a c = cond (c == 97) (Some 7) (at_b c)

escape_small : (c : ℕ) → unwrap_or (escaped c) 0 ≤ c + 13
escape_small c =
    either_of (c == 92 || c == 34 || c == 39) (Some c) (at_a c) (c + 13) (omega arith)
    (either_of (c == 97) (Some 7) (at_b c) (c + 13) (omega arith)
    (either_of (c == 98) (Some 8) (at_t c) (c + 13) (omega arith)
    (either_of (c == 116) (Some 9) (at_n c) (c + 13) (omega arith)
    (either_of (c == 110) (Some 10) (at_v c) (c + 13) (omega arith)
    (either_of (c == 118) (Some 11) (at_f c) (c + 13) (omega arith)
    (either_of (c == 102) (Some 12) (at_r c) (c + 13) (omega arith)
    (either_of (c == 114) (Some 13) (at_0 c) (c + 13) (omega arith)
    (either_of (c == 48) (Some 0) None (c + 13) (omega arith) (omega arith)))))))))

part_small : (part : Part) (behind : List ℕ) → Chars (part_spelling part ++ behind) → part_char part ≤ 2147483647
part_small (Plain c) behind h = let l = h.0 in omega arith
part_small (Escape c) behind h =
    let l = h.1.0 in
    let i = escape_small c in
    omega arith
part_small (Code a b c d) behind h = let l = code_small a b c d in omega arith

-- ---- pieces

word : (s : List ℕ) (o : Option Key) → TokenInRange (key_or_name o s)
word s (Some k) = tt
word s None = tt

piece : (p : Piece) → is_narrow p ≡ true → Chars (spelling p) → Each TokenInRange (tokens_of p)
piece (Blank c) n h = tt
piece (Comment s) n h = tt
piece (Letters s) n h = (word s (listed keywords s), tt)
piece (Sign s mark) n h = (tt, tt)
piece (Decimal s) n h = (decimal (digits_value 10 s) n, tt)
piece (Based radix sign s) n h = (based (digits_value (digits_value 10 radix) s) n, tt)
piece (Quoted parts) n h = (tt, tt)
piece (Character part) n h = (small_int (part_char part) (part_small part (39 ∷ []) h.1), tt)

front : (xs ys : List ℕ) → Chars (xs ++ ys) → Chars xs × Chars ys
front [] ys h = (tt, h)
front (x ∷ xs) ys h = let k = front xs ys h.1 in ((h.0, k.0), k.1)

pieces : (ps : List Piece) (rest : List ℕ) → AllStand ps rest → Chars (flat_map spelling ps) → Each TokenInRange (flat_map tokens_of ps)
pieces [] rest s h = tt
pieces (p ∷ ps) rest s h =
    let k = front (spelling p) (flat_map spelling ps) h in
    each_and TokenInRange (tokens_of p) (flat_map tokens_of ps) (piece p s.0.narrow k.0) (pieces ps rest s.1 k.1)

pub tokens : (text : List ℕ) (ts : List Kind) → Chars text → HasTokenList text ts → Each TokenInRange ts
tokens text ts h t =
    let c = t.cuts in
    let k = front (flat_map spelling c.pieces) [] (subst Chars (sym c.spelled) h) in
    let i = pieces c.pieces [] c.stand k.0 in
    let j : Each TokenInRange t.tokens = subst (Each TokenInRange) c.given i in
    subst (Each TokenInRange) t.ended (each_and TokenInRange t.tokens (kind.End ∷ []) j (tt, tt))
