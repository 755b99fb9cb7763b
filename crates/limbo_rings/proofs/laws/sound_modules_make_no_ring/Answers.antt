use Rattle.limbo_rings.proofs.Runs.{sound_modules_make_no_ring}
use Rattle.limbo_rings.proofs.laws.sound_modules_make_no_ring.Goals as goal

pub returns : goal.returns
returns c = sound_modules_make_no_ring
