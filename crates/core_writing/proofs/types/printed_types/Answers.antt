use Rattle.std.proofs.Common.{◌∷◌, ap}
use Rattle.limbo_types.proofs.View.{view_ty-Chars}
use Rattle.limbo_types.specs.Types.{Chars}
use Rattle.core_writing.proofs.types.printed_types.Goals as goal

pub returns : goal.returns
returns c = λ defs.
    rw ((c.in_ok-append.ensures {u = tt}).items, (c.in_ok-push.ensures {u = tt}).items, c.new-types.ensures.items, view_ty-Chars)
    (ap (λ ts. Chars ∷ ts) (c.in_ok-operands.ensures {u = tt} defs))
