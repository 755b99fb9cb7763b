use Rattle.std.proofs.Common.{◌≤ℤ◌}
use Rattle.limbo_cases.specs.Labels.{AtMost}
use Rattle.limbo_cases.specs.Texts.{TextAtMost}
use Rattle.limbo_cases.proofs.Unique.{first_is_one}
use Rattle.limbo_cases.proofs.laws.first_is_one.Goals as goal

pub returns : goal.returns
returns g c = record { any = first_is_one (AtMost g.T.Ord.cmp); numbers = first_is_one ◌≤ℤ◌; texts = first_is_one TextAtMost }
