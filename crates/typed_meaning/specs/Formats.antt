-- The text that a format makes of its arguments (Inferno manual, sys-print(2)).
use Rattle.std.specs.Prelude.{ℕ, List, [], ◌∷◌, ◌++◌}
use Rattle.std.specs.Fmt.{signed_decimal}
use Rattle.limbo_typed.specs.declared.print.Hole.{Hole}
use Rattle.limbo_typed.specs.declared.print.Hole.TheVariants as hole
use Rattle.limbo_typed.specs.declared.print.Piece.{Piece}
use Rattle.limbo_typed.specs.declared.print.Piece.TheVariants as piece
use Rattle.system_model.specs.Values.{Value, Num}
use Rattle.system_model.specs.Verbs.{character, hexadecimal}

-- What stands for a `%` and what follows it: the decimal digits of a number, behind a sign where it is below 0; the character of a code;
-- the digits of an int's 32 bits to the base 16, without leading zeros. Strings and the last error aren't in this part.
abbrev pub hole_text : Hole → Value → List ℕ
hole_text (hole.Decimal k) (Num z) = signed_decimal z
hole_text hole.Character (Num z) = character z ∷ []
hole_text hole.Hexadecimal (Num z) = hexadecimal z
hole_text _ v = []

-- Each hole takes the next argument.
abbrev pub text_of : List Piece → List Value → List ℕ
text_of [] vs = []
text_of (piece.Chars cs ∷ ps) vs = cs ++ text_of ps vs
text_of (piece.Hole h ∷ ps) [] = text_of ps []
text_of (piece.Hole h ∷ ps) (v ∷ vs) = hole_text h v ++ text_of ps vs
