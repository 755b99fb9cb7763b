use Rattle.dis_machine.proofs.Translation.{translates}
use Rattle.dis_machine.proofs.laws.journals_translate.Goals as goal

pub returns : goal.returns
returns c = translates
