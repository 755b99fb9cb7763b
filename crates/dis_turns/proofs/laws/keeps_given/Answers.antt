use Rattle.dis_turns.proofs.Serials.{keeps_given}
use Rattle.dis_turns.proofs.laws.keeps_given.Goals as goal

pub returns : goal.returns
returns c = keeps_given
