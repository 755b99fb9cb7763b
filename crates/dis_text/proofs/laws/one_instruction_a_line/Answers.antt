use Rattle.dis_text.proofs.Lines.{shows_same}
use Rattle.dis_text.proofs.laws.one_instruction_a_line.Goals as goal

pub returns : goal.returns
returns c = shows_same
