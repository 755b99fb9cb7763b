use Rattle.limbo_values.proofs.Ranges.{applied_in, shifted_in, altered_in}
use Rattle.limbo_values.proofs.laws.stays_in_range.Goals as goal

pub returns : goal.returns
returns c = record { applied = applied_in; shifted = shifted_in; altered = altered_in }
