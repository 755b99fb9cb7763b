use Rattle.std.proofs.Common.{refl, add-one}
use Rattle.core_parts.proofs.Coded.{code_of_none}
use Rattle.core_writing.proofs.elements.known_length.Goals as goal

pub returns : goal.returns
returns c = λ defs.
    rw (
      c.in_ok-put.ensures {u = tt},
      c.new-code.ensures.items,
      c.new.ensures.items,
      code_of_none,
      c.long_enough.ensures,
      add-one
          c.args.lo,
    ) refl
