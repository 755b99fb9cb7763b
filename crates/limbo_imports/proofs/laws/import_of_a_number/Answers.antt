use Rattle.limbo_imports.proofs.Importing.{import_of}
use Rattle.limbo_imports.proofs.laws.import_of_a_number.Goals as goal

pub returns : goal.returns
returns c = import_of
