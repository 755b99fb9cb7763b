use Rattle.std.proofs.Common.{refl}
use Rattle.core_parts.proofs.Coded.{code_of_none}
use Rattle.core_writing.proofs.declaring.lower_nothing.Goals as goal

pub returns : goal.returns
returns c = λ defs. rw (c.in_ok-put.ensures {u = tt}, c.new-code.ensures.items, c.new.ensures.items, code_of_none) refl
