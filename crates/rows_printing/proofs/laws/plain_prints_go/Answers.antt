use Rattle.rows_printing.proofs.Plain as proved
use Rattle.rows_printing.proofs.laws.plain_prints_go.Goals as goal

pub returns : goal.returns
returns c = proved.plain_prints_go
