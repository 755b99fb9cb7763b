-- The parts of a format and its pieces, as they are read from the left to the right; that these are the ones that the definitions
-- speak of is proved of them.
use Rattle.std.specs.Prelude.{ℕ, ◌≡◌, List, [], ◌∷◌, ◌++◌, Option, None, Some, ◌==◌, if◌then◌else◌}
use Rattle.std.specs.Prelude.{Vec}
use Rattle.std.specs.Global.{Global}
use Rattle.limbo_values.specs.declared.number.Kind.TheVariants as kind
use Rattle.limbo_types.specs.Types as ty
use Rattle.limbo_types.specs.Types.{Ty}
use Rattle.limbo_typed.specs.declared.print.Hole.{Hole}
use Rattle.limbo_typed.specs.declared.print.Hole.TheVariants as hole
use Rattle.limbo_typed.specs.declared.print.Piece.{Piece}
use Rattle.limbo_typed.specs.declared.print.Piece.TheVariants as piece
use Rattle.limbo_forms.specs.Forms.{choose}
use Rattle.limbo_formats.specs.declared.format.Verb.{Verb}
use Rattle.limbo_formats.specs.declared.format.Verb.TheVariants.{Decimal, Big, Character, Hexadecimal}
use Rattle.limbo_formats.specs.declared.format.Verb.TheVariants as verb
use Rattle.limbo_formats.specs.declared.format.FormatPart.{FormatPart}
use Rattle.limbo_formats.specs.declared.format.FormatPart.TheVariants.{Chars, Error, Argument}
use Rattle.limbo_formats.specs.declared.format.Seen.{Seen}
use Rattle.limbo_formats.specs.declared.format.Seen.TheVariants.{Nothing, Percent, PercentB}

-- the verb of one letter
abbrev pub verb_of : ℕ → Option Verb
verb_of c =
    if c == 100 then Some Decimal
    else if c == 115 then Some verb.Chars
    else if c == 99 then Some Character
    else if c == 120 then Some Hexadecimal
    else None

-- the parts so far, and then the characters that stand before what follows
abbrev pub closed : List FormatPart → List ℕ → List FormatPart
closed ps [] = ps
closed ps (c ∷ cs) = ps ++ Chars (c ∷ cs) ∷ []

abbrev pub added : List FormatPart → List ℕ → FormatPart → List FormatPart
added ps cs p = closed ps cs ++ p ∷ []

-- The parts of a text, behind those so far, the characters behind these, and what of a verb was seen.
abbrev pub parts : List FormatPart → List ℕ → Seen → List ℕ → Option (List FormatPart)
parts ps cs Nothing [] = Some (closed ps cs)
parts ps cs Percent [] = None
parts ps cs PercentB [] = None
parts ps cs Nothing (c ∷ more) = if c == 37 then parts ps cs Percent more else parts ps (cs ++ c ∷ []) Nothing more
parts ps cs Percent (c ∷ more) =
    if c == 37 then parts ps (cs ++ 37 ∷ []) Nothing more
    else if c == 98 then parts ps cs PercentB more
    else if c == 114 then parts (added ps cs Error) [] Nothing more
    else choose (verb_of c) None (λ v. parts (added ps cs (Argument v)) [] Nothing more)
parts ps cs PercentB (c ∷ more) = if c == 100 then parts (added ps cs (Argument Big)) [] Nothing more else None

unfoldable pub format_of : List ℕ → Option (List FormatPart)
format_of text = parts [] [] Nothing text

-- what of a list was answered in memory
abbrev pub IsRead : Option (List FormatPart) → Option (Vec FormatPart Global) → Type 0
IsRead o None = o ≡ None
IsRead o (Some v) = o ≡ Some v.items

abbrev pub IsFitted : Option (List Piece) → Option (Vec Piece Global) → Type 0
IsFitted o None = o ≡ None
IsFitted o (Some v) = o ≡ Some v.items

-- what an argument of a type stands in for
abbrev pub decimal_for : Ty → Option Hole
decimal_for ty.Int = Some (hole.Decimal kind.Int)
decimal_for ty.Byte = Some (hole.Decimal kind.Byte)
decimal_for _ = None

abbrev pub big_for : Ty → Option Hole
big_for ty.Big = Some (hole.Decimal kind.Big)
big_for _ = None

abbrev pub chars_for : Ty → Option Hole
chars_for ty.Chars = Some hole.Chars
chars_for ty.Nil = Some hole.Chars
chars_for _ = None

abbrev pub int_for : Hole → Ty → Option Hole
int_for h ty.Int = Some h
int_for h _ = None

abbrev pub hole_for : Verb → Ty → Option Hole
hole_for Decimal t = decimal_for t
hole_for Big t = big_for t
hole_for verb.Chars t = chars_for t
hole_for Character t = int_for hole.Character t
hole_for Hexadecimal t = int_for hole.Hexadecimal t

-- The pieces of parts with arguments of these types, behind those so far.
abbrev pub fitted : List Piece → List FormatPart → List Ty → Option (List Piece)
fitted qs [] [] = Some qs
fitted qs [] (t ∷ ts) = None
fitted qs (Chars t ∷ ps) ts = fitted (qs ++ piece.Chars t ∷ []) ps ts
fitted qs (Error ∷ ps) ts = fitted (qs ++ piece.Hole hole.Error ∷ []) ps ts
fitted qs (Argument v ∷ ps) [] = None
fitted qs (Argument v ∷ ps) (t ∷ ts) =
    choose (hole_for v t) None (λ h. fitted (qs ++ piece.Hole h ∷ []) ps ts)
