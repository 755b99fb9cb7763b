-- The tokens of a text (Limbo Language Reference, lexical conventions): a relation on whole texts.
use Rattle.std.specs.Prelude.{◌≡◌, ◌≤◌, ◌++◌, ℕ, List, [], ◌∷◌, length, map, Some, pos}
use Rattle.std.specs.Prelude.{Bool, true, false, IsTrue, not, ◌==◌, ◌||◌, ◌&&◌, nat_le, nat_lt}
use Rattle.std.specs.List.{flat_map, list_all}
use Rattle.limbo_lexer.specs.declared.token.Kind.{Kind}
use Rattle.limbo_lexer.specs.declared.token.Kind.TheVariants as kind
use Rattle.limbo_lexer.specs.declared.token.Mark.{Mark}
use Rattle.limbo_lexer.specs.Words.{listed, marks, word_kind}
use Rattle.limbo_lexer.specs.Numbers.{are_digits, digits_value, is_radix, is_radix_sign, decimal_kind}
use Rattle.limbo_lexer.specs.Numbers.{is_decimal_value}
use Rattle.limbo_lexer.specs.Numbers.{radix_kind, is_radix_value, begins_fraction}
use Rattle.limbo_lexer.specs.Constants.{Part, is_part, part_spelling, part_char, quoted}

-- A blank is a tab, a newline, a carriage return or a space.
abbrev pub is_blank : ℕ → Bool
is_blank c = c == 9 || c == 10 || c == 13 || c == 32

-- A name begins with a letter, `_` or a character above U+00A0.
abbrev pub is_letter : ℕ → Bool
is_letter c = (nat_le 65 c && nat_le c 90) || (nat_le 97 c && nat_le c 122) || c == 95 || nat_lt 160 c

-- A name goes on with those and digits.
abbrev pub is_name_char : ℕ → Bool
is_name_char c = is_letter c || (nat_le 48 c && nat_le c 57)

-- A word is a character that a name begins with and characters that a name goes on with.
abbrev pub is_word : List ℕ → Bool
is_word [] = false
is_word (c ∷ s) = is_letter c && list_all is_name_char s

-- A piece of a text: a blank, a comment by what stands behind its `#`, a word (a name or a keyword), an operator or
-- sign, a decimal number, a number by its radix, the sign between and its digits, a string constant by what stands
-- between its quotes, or a character constant.
pub data Piece : Type 0 where
  Blank : ℕ → Piece
  Comment : List ℕ → Piece
  Letters : List ℕ → Piece
  Sign : List ℕ → Mark → Piece
  Decimal : List ℕ → Piece
  Based : List ℕ → ℕ → List ℕ → Piece
  Quoted : List Part → Piece
  Character : Part → Piece

-- Each piece is spelled by the rule of its kind; a comment ends where its line does.
abbrev pub IsPiece : Piece → Type 0
IsPiece (Blank c) = IsTrue (is_blank c)
IsPiece (Comment s) = IsTrue (list_all (λ c. not (c == 10)) s)
IsPiece (Letters s) = IsTrue (is_word s)
IsPiece (Sign s mark) = listed marks s ≡ Some mark
IsPiece (Decimal s) = IsTrue (are_digits 10 s)
IsPiece (Based radix sign s) =
    IsTrue (are_digits 10 radix && is_radix radix && is_radix_sign sign && are_digits (digits_value 10 radix) s)
IsPiece (Quoted parts) = IsTrue (list_all (is_part 34) parts)
IsPiece (Character part) = IsTrue (is_part 39 part)

-- A comment is spelled behind a `#`, a number's digits behind its radix, and a constant between quotes.
abbrev pub spelling : Piece → List ℕ
spelling (Blank c) = c ∷ []
spelling (Comment s) = 35 ∷ s
spelling (Letters s) = s
spelling (Sign s mark) = s
spelling (Decimal s) = s
spelling (Based radix sign s) = radix ++ sign ∷ s
spelling (Quoted parts) = 34 ∷ quoted parts
spelling (Character part) = 39 ∷ (part_spelling part ++ 39 ∷ [])

-- The token that a piece gives: a blank and a comment give none, and a character constant gives an int.
abbrev pub tokens_of : Piece → List Kind
tokens_of (Blank c) = []
tokens_of (Comment s) = []
tokens_of (Letters s) = word_kind s ∷ []
tokens_of (Sign s mark) = kind.Mark mark ∷ []
tokens_of (Decimal s) = decimal_kind (digits_value 10 s) ∷ []
tokens_of (Based radix sign s) = radix_kind (digits_value (digits_value 10 radix) s) ∷ []
tokens_of (Quoted parts) = kind.Chars (map part_char parts) ∷ []
tokens_of (Character part) = kind.Number (pos (part_char part)) false ∷ []

-- No piece that begins where this one begins is longer.
abbrev pub IsLongest : Piece → List ℕ → Type 0
IsLongest piece rest =
    (other : Piece) (after : List ℕ) → IsPiece other → spelling other ++ after ≡ spelling piece ++ rest
    → length (spelling other) ≤ length (spelling piece)

-- A number isn't greater than the language allows.
abbrev pub is_narrow : Piece → Bool
is_narrow (Decimal s) = is_decimal_value (digits_value 10 s)
is_narrow (Based radix sign s) = is_radix_value (digits_value (digits_value 10 radix) s)
is_narrow _ = true

-- A digit string doesn't meet a point and a digit.
abbrev pub is_whole : Piece → List ℕ → Bool
is_whole (Decimal s) rest = not (begins_fraction rest)
is_whole (Based radix sign s) rest = not (begins_fraction rest)
is_whole _ rest = true

-- A piece may stand before this rest of a text: it is well-formed, the longest that fits, and if it is a number
-- neither too great nor the front of a fraction.
pub record Stands (piece : Piece) (rest : List ℕ) : Type 0 where
  pub formed : IsPiece piece
  pub longest : IsLongest piece rest
  pub narrow : is_narrow piece ≡ true
  pub whole : is_whole piece rest ≡ true

-- Each piece may stand before what follows it, up to this rest.
abbrev pub AllStand : List Piece → List ℕ → Type 0
AllStand [] rest = Unit {0}
AllStand (piece ∷ pieces) rest = Stands piece (flat_map spelling pieces ++ rest) × AllStand pieces rest

-- The text is, up to this rest, the spelling of pieces that give these tokens in order, and each piece may stand
-- where it stands.
pub record Cuts (text : List ℕ) (tokens : List Kind) (rest : List ℕ) : Type 0 where
  pub pieces : List Piece
  pub spelled : flat_map spelling pieces ++ rest ≡ text
  pub stand : AllStand pieces rest
  pub given : flat_map tokens_of pieces ≡ tokens

-- The token list of a text: the tokens of all of it, and then the end.
pub record HasTokenList (text : List ℕ) (list : List Kind) : Type 0 where
  pub tokens : List Kind
  pub cuts : Cuts text tokens []
  pub ended : tokens ++ kind.End ∷ [] ≡ list

-- A text has at most one token list.
abbrev pub OneTokenList : Type 0
OneTokenList = (text : List ℕ) (a b : List Kind) → HasTokenList text a → HasTokenList text b → a ≡ b
