use Rattle.dis_values.proofs.Packed.{bytes_elements}
use Rattle.dis_values.proofs.laws.bytes_are_elements.Goals as goal

pub returns : goal.returns
returns c h s a = bytes_elements h s a
