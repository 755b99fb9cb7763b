use Rattle.std.proofs.Common.{◌*◌, ◌+◌}
use Rattle.limbo_typed.specs.View.{view_exprs}
use Rattle.typed_meaning.specs.Program.{terms_of}
use Rattle.slot_writing.specs.Terms.{view_term}
use Rattle.slot_writing.specs.Weights.{weight, weights}
use Rattle.slot_writing.proofs.kinds.+writes.Given as goal

abbrev pub decreases-writes : goal.decreases-writes
decreases-writes l = weight (view_term l.term) * 2

abbrev pub decreases-write : goal.decreases-write
decreases-write l = weights (terms_of (view_exprs l.es.now)) * 2 + 1
