-- Texts of formats, piece by piece.
use Rattle.std.proofs.Common.{◌≡◌, List, [], ◌∷◌, ◌++◌, sym, ap}
use Rattle.std.proofs.lemmas.List.{append-nil}
use Rattle.limbo_typed.specs.declared.print.Piece.{Piece}
use Rattle.limbo_typed.specs.declared.print.Piece.TheVariants as piece
use Rattle.value_code.specs.Code.{doubled, hole_text, format_text}

-- A format begins with the text of its first piece.
pub format_next : (p : Piece) (ps : List Piece) → format_text (p ∷ ps) ≡ format_text (p ∷ []) ++ format_text ps
format_next (piece.Chars cs) ps = ap (λ xs. xs ++ format_text ps) (sym (append-nil (doubled cs)))
format_next (piece.Hole h) ps = ap (λ xs. xs ++ format_text ps) (sym (append-nil (hole_text h)))

pub format_one : (p : Piece) → format_text (p ∷ []) ≡ elim p [ piece.Chars cs ↦ doubled cs | piece.Hole h ↦ hole_text h ]
format_one (piece.Chars cs) = append-nil (doubled cs)
format_one (piece.Hole h) = append-nil (hole_text h)
