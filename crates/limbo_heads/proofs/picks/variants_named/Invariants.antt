use Rattle.limbo_tree.specs.View.{view_name}
use Rattle.limbo_context.specs.View.{view_context}
use Rattle.limbo_heads.proofs.Naming.{of_pick}
use Rattle.limbo_heads.proofs.Rows.{Gone}
use Rattle.limbo_heads.proofs.picks.variants_named.Given as goal

abbrev pub invariant-loop-name : goal.invariant-loop-name
invariant-loop-name l = Gone (of_pick (view_context l.context) l.adt) view_name tt tt l.names l.name-index l.variants.items
