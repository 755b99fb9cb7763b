use Rattle.limbo_stated_sound.proofs.Before as before
use Rattle.limbo_stated_sound.proofs.laws.described_before.Goals as goal

pub returns : goal.returns
returns c = record { described = before.described_before; covered = before.covered_before }
