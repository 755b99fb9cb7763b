use Rattle.std.proofs.Common.{refl}
use Rattle.core_parts.proofs.Coded.{code_of_none}
use Rattle.core_writing.proofs.elements.nothing_stored.Goals as goal

pub returns : goal.returns
returns c = rw (c.new.ensures.items, c.new-2.ensures.items, code_of_none) refl
