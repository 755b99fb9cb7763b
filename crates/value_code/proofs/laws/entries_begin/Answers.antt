use Rattle.value_code.proofs.Codes as codes
use Rattle.value_code.proofs.laws.entries_begin.Goals as goal

pub returns : goal.returns
returns c = codes.entries_begin
