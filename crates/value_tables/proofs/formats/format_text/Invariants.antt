use Rattle.std.proofs.Common.{◌≡◌, ◌++◌, drop}
use Rattle.value_code.specs.Code.{format_text}
use Rattle.value_tables.proofs.formats.format_text.Given as goal

-- The text so far and that of the pieces that are left are the whole.
abbrev pub invariant-loop-piece : goal.invariant-loop-piece
invariant-loop-piece l = l.text ++ format_text (drop l.piece-index l.pieces) ≡ format_text l.pieces
