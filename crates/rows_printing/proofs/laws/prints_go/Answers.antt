use Rattle.rows_printing.proofs.Operands as proved
use Rattle.rows_printing.proofs.laws.prints_go.Goals as goal

pub returns : goal.returns
returns c = proved.prints_go
