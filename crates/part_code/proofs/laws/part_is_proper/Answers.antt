use Rattle.part_code.proofs.Functions.{part_is_proper as proved}
use Rattle.part_code.proofs.laws.part_is_proper.Goals as goal

pub returns : goal.returns
returns c = record { proper = proved }
