use Rattle.std.proofs.Common.{◌≤ℤ◌}
use Rattle.limbo_cases.specs.Labels.{AtMost}
use Rattle.limbo_cases.specs.Texts.{TextAtMost}
use Rattle.limbo_cases.proofs.Unique.{at_most_one}
use Rattle.limbo_cases.proofs.laws.at_most_one.Goals as goal

pub returns : goal.returns
returns g c = record { any = at_most_one (AtMost g.T.Ord.cmp); numbers = at_most_one ◌≤ℤ◌; texts = at_most_one TextAtMost }
