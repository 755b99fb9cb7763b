use Rattle.std.proofs.Common.{map}
use Rattle.limbo_typed.specs.View.{view_pattern}
use Rattle.limbo_context.specs.View.{view_body}
use Rattle.limbo_defining.proofs.Each.{Defined}
use Rattle.limbo_defining.proofs.defining.+defining.Given as goal

abbrev pub invariant-define_each-loop-place : goal.invariant-define_each-loop-place
invariant-define_each-loop-place l =
    Defined (view_body l.fn.body) (view_body l.body) l.items l.types l.place (map view_pattern l.parts.items)
