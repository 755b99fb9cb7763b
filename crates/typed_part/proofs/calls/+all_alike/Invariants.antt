use Rattle.std.proofs.Common.{length}
use Rattle.typed_part.proofs.calls.+all_alike.Given as goal

abbrev pub decreases-all_alike : goal.decreases-all_alike
decreases-all_alike l = length l.es.now
