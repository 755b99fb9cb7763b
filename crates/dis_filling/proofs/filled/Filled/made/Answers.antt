use Rattle.std.proofs.Common.{refl}
use Rattle.std.proofs.lemmas.List.{length-reverse}
use Rattle.dis_filling.proofs.filled.Filled.made.Goals as goal

pub returns : goal.returns
returns c =
    rw (c.as_slice.ensures.value, c.size_of.ensures, c.read_u32-kind.ensures, c.length_in.ensures, length-reverse) refl
