use Rattle.std.proofs.Common.{refl}
use Rattle.std.proofs.lemmas.List.{reverse-append}
use Rattle.dis_filling.proofs.filled.Filled.put.Goals as goal

pub returns : goal.returns
returns c = rw (c.in_ok-push.ensures.items, reverse-append, c.address_of-at.ensures) refl
