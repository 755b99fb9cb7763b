use Rattle.limbo_things.proofs.Choices.{one_part}
use Rattle.limbo_things.proofs.laws.one_thing.Goals as goal

pub returns-clause-part : goal.returns-clause-part
returns-clause-part c = one_part
