use Rattle.rows_boxes.proofs.BigRows as proved
use Rattle.rows_boxes.proofs.laws.big_arithmetic_goes.Goals as goal

pub returns : goal.returns
returns c = proved.big_arithmetic_goes
