-- Rows of prints.
use Rattle.std.specs.Prelude.{ℕ, ◌≤◌, List, [], ◌∷◌, None, Some}
use Rattle.limbo_types.specs.Types as ty
use Rattle.limbo_layout.specs.Layout.{limit}
use Rattle.limbo_typed.specs.declared.print.Hole.{Hole}
use Rattle.limbo_typed.specs.declared.print.Hole.TheVariants as hole
use Rattle.limbo_typed.specs.declared.print.Piece.{Piece}
use Rattle.limbo_typed.specs.declared.print.Piece.TheVariants as piece
use Rattle.limbo_typed.specs.Typed as typed
use Rattle.core_code.specs.Code as core
use Rattle.core_typing.specs.Needs.{printed}
use Rattle.value_frames.specs.Frames.{row_of}
use Rattle.value_follows.specs.Rows.{Base, InstrGoes}

-- A hole that the machine's code has a verb for: all but the last error.
abbrev pub HoleRuns : Hole → Type 0
HoleRuns hole.Error = ⊥
HoleRuns h = Unit {0}

abbrev pub PiecesRun : List Piece → Type 0
PiecesRun [] = Unit {0}
PiecesRun (piece.Chars cs ∷ ps) = PiecesRun ps
PiecesRun (piece.Hole h ∷ ps) = HoleRuns h × PiecesRun ps

-- A print without operands goes on behind the print, with its answer, where the text is empty; or both processes ask for it to be
-- written.
abbrev pub PlainPrintsGo : Type 0
PlainPrintsGo =
    (m : typed.Module) → Base m → (ps : List Piece) (into : ℕ) → InstrGoes m (core.Print ps into None)

-- What is printed by these pieces, behind its format, takes no more bytes than a type may, so that their number is an int.
abbrev pub RowFits : typed.Module → List Piece → Type 0
RowFits m ps = (row_of m.adts (ty.Chars ∷ printed ps)).size ≤ limit

-- So does one with operands, whose slot stands for a tuple of them from then on, behind an empty text.
abbrev pub PrintsGo : Type 0
PrintsGo =
    (m : typed.Module) → Base m → (ps : List Piece) (into a : ℕ) → PiecesRun ps → RowFits m ps →
    InstrGoes m (core.Print ps into (Some a))
