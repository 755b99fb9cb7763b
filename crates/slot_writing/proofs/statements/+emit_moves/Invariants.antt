use Rattle.std.proofs.Common.{length}
use Rattle.slot_writing.proofs.statements.+emit_moves.Given as goal

abbrev pub decreases-emit_moves : goal.decreases-emit_moves
decreases-emit_moves l = length l.declared.now
