use Rattle.valid_objects.proofs.Whole.{object_is_valid as proved}
use Rattle.valid_objects.proofs.laws.object_is_valid.Goals as goal

pub returns : goal.returns
returns c = record { valid = proved }
