use Rattle.limbo_defining.proofs.Unique.{never_both}
use Rattle.limbo_defining.proofs.laws.fails_or_defines.Goals as goal

pub returns : goal.returns
returns c = never_both
