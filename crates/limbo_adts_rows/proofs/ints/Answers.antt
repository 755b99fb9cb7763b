use Rattle.limbo_types.proofs.View.{view_ty-Tuple}
use Rattle.limbo_adts_rows.proofs.Named.{push_named}
use Rattle.limbo_adts_rows.proofs.ints.Goals as goal

pub loop-preserved : goal.loop-preserved
loop-preserved c = λ defs. rw c.in_ok-push.ensures.items (push_named defs c.loop.parts.items (c.loop.invariant defs))

pub returns : goal.returns
returns c = λ defs. rw view_ty-Tuple (c.loop.invariant defs)
