use Rattle.limbo_places.proofs.Sound.{targets_sound, parts_sound, references_sound}
use Rattle.limbo_places.proofs.laws.sound_references.Goals as goal

pub returns : goal.returns
returns c = record { targets = targets_sound; parts = parts_sound; references = references_sound }
