-- Formats of prints (Inferno manual, sys-print(2)): how a format is written, and which arguments it takes.
use Rattle.std.specs.Prelude.{ℕ, ◌≡◌, ◌⊎◌, List, [], ◌∷◌, ◌++◌, ◌==◌, codes, if◌then◌else◌}
use Rattle.limbo_values.specs.declared.number.Kind.TheVariants as kind
use Rattle.limbo_types.specs.Types as ty
use Rattle.limbo_types.specs.Types.{Ty}
use Rattle.limbo_typed.specs.declared.print.Hole.{Hole}
use Rattle.limbo_typed.specs.declared.print.Hole.TheVariants as hole
use Rattle.limbo_typed.specs.declared.print.Piece.{Piece}
use Rattle.limbo_typed.specs.declared.print.Piece.TheVariants as piece
use Rattle.limbo_typed.specs.Sound.{holes}
use Rattle.limbo_formats.specs.declared.format.Verb.{Verb}
use Rattle.limbo_formats.specs.declared.format.Verb.TheVariants.{Decimal, Big, Character, Hexadecimal}
use Rattle.limbo_formats.specs.declared.format.Verb.TheVariants as verb
use Rattle.limbo_formats.specs.declared.format.FormatPart.{FormatPart}
use Rattle.limbo_formats.specs.declared.format.FormatPart.TheVariants.{Chars, Error, Argument}

-- ---- how a format is written

abbrev pub written : Verb → List ℕ
written Decimal = codes "%d"
written Big = codes "%bd"
written verb.Chars = codes "%s"
written Character = codes "%c"
written Hexadecimal = codes "%x"

-- a character that stands for itself: a `%` is written twice
abbrev pub escaped : ℕ → List ℕ
escaped c = if c == 37 then codes "%%" else c ∷ []

abbrev pub all_escaped : List ℕ → List ℕ
all_escaped [] = []
all_escaped (c ∷ cs) = escaped c ++ all_escaped cs

abbrev pub spelling : List FormatPart → List ℕ
spelling [] = []
spelling (Chars t ∷ ps) = all_escaped t ++ spelling ps
spelling (Error ∷ ps) = codes "%r" ++ spelling ps
spelling (Argument v ∷ ps) = written v ++ spelling ps

-- Characters that stand one behind the other are one part, and each part of characters has some.
abbrev pub HasSome : List ℕ → Type 0
HasSome [] = ⊥
HasSome (c ∷ cs) = Unit {0}

abbrev pub BeginsWithVerb : List FormatPart → Type 0
BeginsWithVerb (Chars t ∷ ps) = ⊥
BeginsWithVerb _ = Unit {0}

abbrev pub AreWhole : List FormatPart → Type 0
AreWhole [] = Unit {0}
AreWhole (Chars t ∷ ps) = HasSome t × BeginsWithVerb ps × AreWhole ps
AreWhole (Error ∷ ps) = AreWhole ps
AreWhole (Argument v ∷ ps) = AreWhole ps

-- The text is a format of these parts.
pub record IsFormat (text : List ℕ) (parts : List FormatPart) : Type 0 where
  pub spelled : text ≡ spelling parts
  pub whole : AreWhole parts

-- A text is a format of one list of parts at most.
abbrev pub OneFormat : Type 0
OneFormat = (text : List ℕ) (ps qs : List FormatPart) → IsFormat text ps → IsFormat text qs → ps ≡ qs

-- ---- which arguments it takes

-- What a verb is before an argument of a type. An open `nil` is a string there.
pub data Takes : Verb → Ty → Hole → Type 0 where
  int : Takes Decimal ty.Int (hole.Decimal kind.Int)
  byte : Takes Decimal ty.Byte (hole.Decimal kind.Byte)
  big : Takes Big ty.Big (hole.Decimal kind.Big)
  chars : Takes verb.Chars ty.Chars hole.Chars
  nil : Takes verb.Chars ty.Nil hole.Chars
  character : Takes Character ty.Int hole.Character
  hexadecimal : Takes Hexadecimal ty.Int hole.Hexadecimal

-- Arguments of these types fit the parts, one for each verb, which are these pieces then.
pub data Fits : List FormatPart → List Ty → List Piece → Type 0 where
  done : Fits [] [] []
  chars : (t : List ℕ) (ps : List FormatPart) (ts : List Ty) (qs : List Piece)
      → Fits ps ts qs → Fits (Chars t ∷ ps) ts (piece.Chars t ∷ qs)
  error : (ps : List FormatPart) (ts : List Ty) (qs : List Piece)
      → Fits ps ts qs → Fits (Error ∷ ps) ts (piece.Hole hole.Error ∷ qs)
  argument : (v : Verb) (t : Ty) (h : Hole) (ps : List FormatPart) (ts : List Ty) (qs : List Piece)
      → Takes v t h → Fits ps ts qs → Fits (Argument v ∷ ps) (t ∷ ts) (piece.Hole h ∷ qs)

-- Where the second type is asked for, an argument of the first stands: they are the same, or it is an open `nil` before `%s`.
abbrev pub AskedAs : Ty → Ty → Type 0
AskedAs t u = (t ≡ u) ⊎ ((t ≡ ty.Nil) × (u ≡ ty.Chars))

abbrev pub AllAskedAs : List Ty → List Ty → Type 0
AllAskedAs [] [] = Unit {0}
AllAskedAs (t ∷ ts) (u ∷ us) = AskedAs t u × AllAskedAs ts us
AllAskedAs _ _ = ⊥

-- Arguments that fit stand where the pieces ask for theirs, so that they have exactly these types once open ones are settled.
abbrev pub PiecesAsk : Type 0
PiecesAsk = (parts : List FormatPart) (ts : List Ty) (ps : List Piece) → Fits parts ts ps → AllAskedAs ts (holes ps)
