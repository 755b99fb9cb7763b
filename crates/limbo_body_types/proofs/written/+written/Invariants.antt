use Rattle.std.proofs.Common.{map, take}
use Rattle.limbo_tree.specs.View.{view_type, tys_of}
use Rattle.limbo_types.specs.View.{view_tys}
use Rattle.limbo_context.specs.View.{view_context, view_body}
use Rattle.limbo_body_types.specs.Means.{AllMean}
use Rattle.limbo_body_types.proofs.written.+written.Given as goal

abbrev pub invariant-tuple_in-loop-part : goal.invariant-tuple_in-loop-part
invariant-tuple_in-loop-part l =
    AllMean (view_context l.context) (view_body l.body) (tys_of (map view_type (take l.part-index l.parts))) (view_tys l.types.items)
