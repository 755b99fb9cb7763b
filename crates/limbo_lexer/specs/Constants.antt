-- What stands in string and character constants (Limbo Language Reference, lexical conventions).
use Rattle.std.specs.Prelude.{ℕ, List, [], ◌∷◌, ◌++◌, Bool, true, not, ◌==◌, ◌||◌, ◌&&◌, nat_le, Option, Some}
use Rattle.std.specs.Prelude.{None, is_some, if◌then◌else◌}
use Rattle.std.specs.Option.{unwrap_or}
use Rattle.std.specs.List.{flat_map}
use Rattle.std.specs.Char.{is_digit}
use Rattle.limbo_lexer.specs.Numbers.{digits_value}

-- A part of a constant: a character that stands for itself, a backslash and a character, or \u and four digits.
pub data Part : Type 0 where
  Plain : ℕ → Part
  Escape : ℕ → Part
  Code : ℕ → ℕ → ℕ → ℕ → Part

-- What the character behind a backslash stands for: \\ \" \' \a \b \t \n \v \f \r \0.
abbrev pub escaped : ℕ → Option ℕ
escaped c =
    if c == 92 || c == 34 || c == 39 then Some c else
    (if c == 97 then Some 7 else
    (if c == 98 then Some 8 else
    (if c == 116 then Some 9 else
    (if c == 110 then Some 10 else
    (if c == 118 then Some 11 else
    (if c == 102 then Some 12 else
    (if c == 114 then Some 13 else
    (if c == 48 then Some 0 else None))))))))

-- The number that four hexadecimal digits spell.
abbrev pub code_value : ℕ → ℕ → ℕ → ℕ → ℕ
code_value a b c d = digits_value 16 (a ∷ b ∷ c ∷ d ∷ [])

-- A surrogate is no character (RFC 3629, section 3).
abbrev pub is_surrogate : ℕ → Bool
is_surrogate n = nat_le 55296 n && nat_le n 57343

-- In a constant between these quotes, any character but the quote, a backslash and a newline stands for itself; the
-- escapes are listed, and a code has four hexadecimal digits and names a character, no surrogate.
abbrev pub is_part : ℕ → Part → Bool
is_part quote (Plain c) = not (c == quote || c == 92 || c == 10)
is_part quote (Escape c) = is_some (escaped c)
is_part quote (Code a b c d) =
    is_digit a 16 && is_digit b 16 && is_digit c 16 && is_digit d 16 && not (is_surrogate (code_value a b c d))

-- An escape is spelled by a backslash and its character, and a code by \u and its digits.
abbrev pub part_spelling : Part → List ℕ
part_spelling (Plain c) = c ∷ []
part_spelling (Escape c) = 92 ∷ c ∷ []
part_spelling (Code a b c d) = 92 ∷ 117 ∷ a ∷ b ∷ c ∷ d ∷ []

-- The character that a part stands for.
abbrev pub part_char : Part → ℕ
part_char (Plain c) = c
part_char (Escape c) = unwrap_or (escaped c) 0
part_char (Code a b c d) = code_value a b c d

-- What follows the opening quote of a string constant: its parts and the closing quote.
abbrev pub quoted : List Part → List ℕ
quoted parts = flat_map part_spelling parts ++ 34 ∷ []

-- The text ends here, or its line does.
abbrev pub ends_line : List ℕ → Bool
ends_line [] = true
ends_line (c ∷ s) = c == 10

-- A constant stops here without its closing quote: the line ends, or ends behind a backslash.
abbrev pub is_line_end : List ℕ → Bool
is_line_end [] = true
is_line_end (c ∷ s) = c == 10 || (c == 92 && ends_line s)
