use Rattle.limbo_values.proofs.Ranges.{within, always}
use Rattle.limbo_values.proofs.laws.wraps.Goals as goal

pub returns : goal.returns
returns c = record { within = within; always = always }
