-- Why bytes have no token list.
use Rattle.std.specs.Prelude.{◌≡◌, ℕ, ◌<◌, ◌≤◌, Bool, true, false, not, ◌==◌, ◌||◌, ◌&&◌, ◌⊎◌, List, [], ◌∷◌}
use Rattle.std.specs.Prelude.{◌++◌, length, encode_utf8_all}
use Rattle.std.specs.Str.{all_scalars}
use Rattle.inf_text.specs.Utf8.{IsFirstBadPlace}
use Rattle.inf_text.specs.declared.text.TextFault.{TextFault}
use Rattle.inf_text.specs.declared.text.TextFault.TheVariants as text
use Rattle.limbo_lexer.specs.declared.token.Kind.{Kind}
use Rattle.limbo_lexer.specs.declared.fault.Cause.{Cause}
use Rattle.limbo_lexer.specs.declared.fault.Cause.TheVariants as cause
use Rattle.limbo_lexer.specs.declared.fault.LexFault.{LexFault}
use Rattle.limbo_lexer.specs.declared.fault.LexFault.TheVariants.{NoMemory, BadUtf8, BadChar, BadEscape}
use Rattle.limbo_lexer.specs.declared.fault.LexFault.TheVariants.{NumberTooWide, Unclosed, SourceTooLong}
use Rattle.limbo_lexer.specs.Numbers.{begins}
use Rattle.limbo_lexer.specs.Constants.{is_line_end}
use Rattle.limbo_lexer.specs.Tokens.{Piece, IsPiece, IsLongest, spelling, is_narrow, is_whole, Cuts}
use Rattle.limbo_lexer.specs.Pieces.{GoesOn, IsMisspelled, HoldsMore}

-- The refusal that stands for a fault of the text.
abbrev pub text_fault : TextFault → LexFault
text_fault text.NoMemory = NoMemory
text_fault (text.BadUtf8 at) = BadUtf8 at

-- The text of characters that the bytes of a source spell, of at most 1,048,576 bytes.
pub record IsSource (bytes : List ℕ) (text : List ℕ) : Type 0 where
  pub size : length bytes ≤ 1048576
  pub characters : all_scalars text ≡ true
  pub spelled : encode_utf8_all text ≡ bytes

-- A constant is opened here: by a quote, or by an apostrophe that isn't followed by another.
abbrev pub opens_constant : List ℕ → Bool
opens_constant [] = false
opens_constant (c ∷ s) = c == 34 || (c == 39 && not (begins (λ d. d == 39) s))

-- No token begins here: no blank, comment or token is spelled here, and no constant is opened.
pub record BeginsNothing (rest : List ℕ) : Type 0 where
  pub left : 0 < length rest
  pub none : (piece : Piece) (after : List ℕ) → IsPiece piece → spelling piece ++ after ≡ rest → ⊥
  pub unopened : opens_constant rest ≡ false

-- The longest piece that begins here is a number, but a point and a digit follow it.
pub record MeetsFraction (rest : List ℕ) : Type 0 where
  pub piece : Piece
  pub after : List ℕ
  pub formed : IsPiece piece
  pub spelled : spelling piece ++ after ≡ rest
  pub longest : IsLongest piece after
  pub met : is_whole piece after ≡ false

-- The longest piece that begins here is a number, but it is too great.
pub record IsTooWide (rest : List ℕ) : Type 0 where
  pub piece : Piece
  pub after : List ℕ
  pub formed : IsPiece piece
  pub spelled : spelling piece ++ after ≡ rest
  pub longest : IsLongest piece after
  pub wide : is_narrow piece ≡ false

-- A constant is opened here, and this stands behind its first parts: behind any parts of a string constant, or at
-- once behind the apostrophe.
abbrev pub Opens : List ℕ → List ℕ → Type 0
Opens rest tail = (39 ∷ tail ≡ rest) ⊎ ((inside chars : List ℕ) × (34 ∷ inside ≡ rest) × GoesOn inside chars tail)

-- A constant that begins here has an escape that isn't listed, or one that names a surrogate.
pub record HasBadEscape (rest : List ℕ) : Type 0 where
  pub tail : List ℕ
  pub opened : Opens rest tail
  pub misspelled : IsMisspelled tail

-- A constant that begins here isn't closed on its line: the line ends first, or more than one character stands behind
-- the apostrophe.
abbrev pub IsUnclosed : List ℕ → Type 0
IsUnclosed rest =
    ((tail : List ℕ) × Opens rest tail × (is_line_end tail ≡ true))
    ⊎ ((tail : List ℕ) × (39 ∷ tail ≡ rest) × HoldsMore tail)

-- What is wrong where the pieces of a text stop.
abbrev pub IsCauseAt : List ℕ → Cause → Type 0
IsCauseAt rest cause.NoMemory = Unit {0}
IsCauseAt rest cause.BadChar = BeginsNothing rest ⊎ MeetsFraction rest
IsCauseAt rest cause.BadEscape = HasBadEscape rest
IsCauseAt rest cause.NumberTooWide = IsTooWide rest
IsCauseAt rest cause.Unclosed = IsUnclosed rest

-- The pieces of a text stop for this cause.
pub record Stops (text : List ℕ) (fault : Cause) : Type 0 where
  pub tokens : List Kind
  pub rest : List ℕ
  pub cuts : Cuts text tokens rest
  pub at : IsCauseAt rest fault

-- A refusal for this cause, whatever its place.
abbrev pub IsFor : Cause → LexFault → Type 0
IsFor fault NoMemory = fault ≡ cause.NoMemory
IsFor fault (BadUtf8 at) = ⊥
IsFor fault (BadChar span) = fault ≡ cause.BadChar
IsFor fault (BadEscape span) = fault ≡ cause.BadEscape
IsFor fault (NumberTooWide span) = fault ≡ cause.NumberTooWide
IsFor fault (Unclosed span) = fault ≡ cause.Unclosed
IsFor fault SourceTooLong = ⊥

-- The text of a source stops for this cause.
abbrev pub SourceStops : List ℕ → Cause → Type 0
SourceStops bytes fault = (text : List ℕ) × IsSource bytes text × Stops text fault

-- Why a source is refused: it is too long; or it isn't, and it is no text, or its text stops.
abbrev pub IsRefused : List ℕ → LexFault → Type 0
IsRefused bytes NoMemory = Unit {0}
IsRefused bytes (BadUtf8 at) = (length bytes ≤ 1048576) × IsFirstBadPlace bytes (text.BadUtf8 at)
IsRefused bytes (BadChar span) = SourceStops bytes cause.BadChar
IsRefused bytes (BadEscape span) = SourceStops bytes cause.BadEscape
IsRefused bytes (NumberTooWide span) = SourceStops bytes cause.NumberTooWide
IsRefused bytes (Unclosed span) = SourceStops bytes cause.Unclosed
IsRefused bytes SourceTooLong = 1048576 < length bytes

-- The refusal of ill-formed bytes, or want of memory.
abbrev pub IsBadUtf8 : LexFault → Type 0
IsBadUtf8 NoMemory = Unit {0}
IsBadUtf8 (BadUtf8 at) = Unit {0}
IsBadUtf8 (BadChar span) = ⊥
IsBadUtf8 (BadEscape span) = ⊥
IsBadUtf8 (NumberTooWide span) = ⊥
IsBadUtf8 (Unclosed span) = ⊥
IsBadUtf8 SourceTooLong = ⊥
