-- The text that a format makes of its arguments (Inferno manual, sys-print(2)).
use Rattle.std.specs.Prelude.{ℕ, List, [], ◌∷◌, ◌++◌}
use Rattle.std.specs.Fmt.{signed_decimal}
use Rattle.limbo_typed.specs.declared.print.Hole.{Hole}
use Rattle.limbo_typed.specs.declared.print.Hole.TheVariants as hole
use Rattle.limbo_typed.specs.declared.print.Piece.{Piece}
use Rattle.limbo_typed.specs.declared.print.Piece.TheVariants as piece
use Rattle.system_model.specs.Verbs.{character, hexadecimal}
use Rattle.limbo_meaning.specs.Values.{Value, number_of, text_of}

-- What stands for a `%` and what follows it: the decimal digits of a number, behind a sign where it is below 0; the character of a code;
-- the digits of an int's 32 bits to the base 16, without leading zeros; a string. The last error isn't in this part.
abbrev pub hole_text : Hole → Value → List ℕ
hole_text (hole.Decimal k) v = signed_decimal (number_of v)
hole_text hole.Chars v = text_of v
hole_text hole.Character v = character (number_of v) ∷ []
hole_text hole.Hexadecimal v = hexadecimal (number_of v)
hole_text hole.Error v = []

-- Each hole takes the next argument.
abbrev pub formatted : List Piece → List Value → List ℕ
formatted [] vs = []
formatted (piece.Chars cs ∷ ps) vs = cs ++ formatted ps vs
formatted (piece.Hole h ∷ ps) [] = formatted ps []
formatted (piece.Hole h ∷ ps) (v ∷ vs) = hole_text h v ++ formatted ps vs
