use Rattle.std.proofs.Common.{length}
use Rattle.typed_part.proofs.calls.+are_printed.Given as goal

abbrev pub decreases-are_printed : goal.decreases-are_printed
decreases-are_printed l = length l.pieces.now
