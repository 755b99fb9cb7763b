use Rattle.rows_boxes.proofs.Differing as proved
use Rattle.rows_boxes.proofs.laws.slots_differ.Goals as goal

pub returns : goal.returns
returns c = proved.slots_differ
