use Rattle.part_code.proofs.Rooms.{instructions_held, arguments_few}
use Rattle.part_code.proofs.laws.part_is_held.Goals as goal

pub returns-clause-held : goal.returns-clause-held
returns-clause-held c = instructions_held

pub returns-clause-few : goal.returns-clause-few
returns-clause-few c = arguments_few
