use Rattle.std.proofs.Common.{length}
use Rattle.limbo_reading.specs.Reading.{kinds}
use Rattle.limbo_parser.proofs.Tops.{Tops}
use Rattle.limbo_parser.proofs.source.tops_at.Given as goal

-- what stands at the top level so far, and what is left
abbrev pub invariant-tops : goal.invariant-tops
invariant-tops l = Tops l.budget (kinds l.fn.tokens) l.tops.items (kinds l.rest)

abbrev pub decreases-tops : goal.decreases-tops
decreases-tops l = length (kinds l.rest)
