use Rattle.typed_part.proofs.Coded.{part_has_code as proved}
use Rattle.typed_part.proofs.laws.part_has_code.Goals as goal

pub returns : goal.returns
returns c = record { coded = proved }
