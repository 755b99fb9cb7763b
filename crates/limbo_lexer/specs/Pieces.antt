-- What the functions that cut a text into pieces find at its front.
use Rattle.std.specs.Prelude.{◌≡◌, ℕ, ◌<◌, ◌≤◌, Bool, true, false, not, ◌==◌, ◌&&◌, ◌||◌, ◌⊎◌, List, [], ◌∷◌}
use Rattle.std.specs.Prelude.{◌++◌, length, map, take, Some, None}
use Rattle.std.specs.List.{flat_map, list_all}
use Rattle.std.specs.Char.{is_digit}
use Rattle.limbo_lexer.specs.declared.token.Kind.{Kind}
use Rattle.limbo_lexer.specs.declared.token.Mark.{Mark}
use Rattle.limbo_lexer.specs.declared.fault.Cause.{Cause}
use Rattle.limbo_lexer.specs.declared.fault.Cause.TheVariants as cause
use Rattle.limbo_lexer.specs.Words.{listed, marks}
use Rattle.limbo_lexer.specs.Numbers.{begins, digits_value, is_radix, is_radix_sign, begins_fraction}
use Rattle.limbo_lexer.specs.Constants.{Part, is_part, part_spelling, part_char, ends_line, is_line_end}
use Rattle.limbo_lexer.specs.Tokens.{is_blank, Piece, Stands, spelling, tokens_of}

-- A part of a constant between these quotes, this character, stands at the front, and the rest behind it.
pub record BeginsPart (quote : ℕ) (text : List ℕ) (char : ℕ) (rest : List ℕ) : Type 0 where
  pub part : Part
  pub formed : is_part quote part ≡ true
  pub spelled : part_spelling part ++ rest ≡ text
  pub given : part_char part ≡ char

-- No part of a constant between these quotes stands at the front.
abbrev pub HasNoPart : ℕ → List ℕ → Type 0
HasNoPart quote text =
    (part : Part) (rest : List ℕ) → is_part quote part ≡ true → part_spelling part ++ rest ≡ text → ⊥

-- The parts of a string constant stand at the front, and the rest behind them.
pub record GoesOn (text : List ℕ) (chars : List ℕ) (rest : List ℕ) : Type 0 where
  pub parts : List Part
  pub formed : list_all (is_part 34) parts ≡ true
  pub spelled : flat_map part_spelling parts ++ rest ≡ text
  pub given : map part_char parts ≡ chars

-- The parts of a string constant and its closing quote stand at the front, and the rest behind them.
abbrev pub EndsString : List ℕ → List ℕ → List ℕ → Type 0
EndsString text chars rest = GoesOn text chars (34 ∷ rest)

-- The part of a character constant and its closing quote stand at the front, and the rest behind them.
abbrev pub EndsCharacter : List ℕ → ℕ → List ℕ → Type 0
EndsCharacter text char rest = BeginsPart 39 text char (39 ∷ rest)

-- A backslash stands at the front, not at its line's end, and begins no listed escape and no code of a character.
pub record IsMisspelled (text : List ℕ) : Type 0 where
  pub behind : List ℕ
  pub spelled : 92 ∷ behind ≡ text
  pub on_line : ends_line behind ≡ false
  pub unlisted : (quote : ℕ) → HasNoPart quote text

-- Why neither a part of a constant nor its closing quote stands at the front.
abbrev pub IsStuck : List ℕ → Cause → Type 0
IsStuck text cause.BadEscape = IsMisspelled text
IsStuck text cause.Unclosed = is_line_end text ≡ true
IsStuck text _ = ⊥

-- Why no string constant's parts and closing quote stand at the front: its parts stop before the quote.
abbrev pub IsBadString : List ℕ → Cause → Type 0
IsBadString text cause.NoMemory = Unit {0}
IsBadString text fault = (chars rest : List ℕ) × GoesOn text chars rest × IsStuck rest fault

-- A part of a character constant stands at the front, and no closing quote behind it.
pub record HoldsMore (text : List ℕ) : Type 0 where
  pub char : ℕ
  pub rest : List ℕ
  pub part : BeginsPart 39 text char rest
  pub unclosed : begins (λ c. c == 39) rest ≡ false

-- Why no character constant's part and closing quote stand at the front.
abbrev pub IsBadCharacter : List ℕ → Cause → Type 0
IsBadCharacter text cause.BadChar = begins (λ c. c == 39) text ≡ true
IsBadCharacter text cause.BadEscape = IsMisspelled text
IsBadCharacter text cause.Unclosed = (is_line_end text ≡ true) ⊎ HoldsMore text
IsBadCharacter text _ = ⊥

-- Behind these decimal digits a number with a radix goes on: they are a radix, and its sign and a digit follow.
abbrev pub goes_on : List ℕ → List ℕ → Bool
goes_on digits [] = false
goes_on digits (c ∷ s) = is_radix_sign c && is_radix digits && begins (λ d. is_digit d (digits_value 10 digits)) s

-- Why digits of a number whose value passes a test, or doesn't, aren't a number before this rest.
abbrev pub IsBadNumber : Bool → List ℕ → Cause → Type 0
IsBadNumber narrow rest cause.BadChar = begins_fraction rest ≡ true
IsBadNumber narrow rest cause.NumberTooWide = narrow ≡ false
IsBadNumber narrow rest _ = ⊥

-- A piece that may stand here gives these tokens, and the rest stands behind it.
pub record BeginsPiece (text : List ℕ) (tokens : List Kind) (rest : List ℕ) : Type 0 where
  pub piece : Piece
  pub stands : Stands piece rest
  pub spelled : spelling piece ++ rest ≡ text
  pub given : tokens_of piece ≡ tokens

-- No operator or sign of n characters stands at the front.
abbrev pub HasNoMark : List ℕ → ℕ → Type 0
HasNoMark text n = n ≤ length text → listed marks (take n text) ≡ None

-- The first n characters are this operator or sign, and no longer one stands at the front: none has more than three.
pub record BeginsMark (text : List ℕ) (mark : Mark) (n : ℕ) : Type 0 where
  pub bound : n ≤ length text
  pub listed : listed marks (take n text) ≡ Some mark
  pub longest : (m : ℕ) → n < m → m ≤ 3 → HasNoMark text m

-- Neither a blank nor a comment nor a constant begins with this character.
abbrev pub is_token_char : ℕ → Bool
is_token_char c = not (is_blank c || c == 35 || c == 34 || c == 39)
