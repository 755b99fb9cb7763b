use Rattle.std.proofs.Common.{map, take}
use Rattle.limbo_tree.specs.View as source
use Rattle.limbo_types.specs.View.{view_tys}
use Rattle.limbo_context.specs.View.{view_context, view_body}
use Rattle.limbo_body_types.specs.Means.{AllMean}
use Rattle.limbo_locals.proofs.exceptions.types_in.Given as goal

abbrev pub invariant-loop-part : goal.invariant-loop-part
invariant-loop-part l =
    AllMean (view_context l.context) (view_body l.body) (source.tys_of (map source.view_type (take l.part-index l.parts)))
    (view_tys l.types.items)
