use Rattle.core_parts.specs.Lowered.{code_of}
use Rattle.core_parts.proofs.Dropped.{drops_on}
use Rattle.core_parts.proofs.drops.put_drops.Goals as goal

pub loop-reference-preserved : goal.loop-reference-preserved
loop-reference-preserved c =
    drops_on c.args.slot c.loop-reference.reference (code_of c.args.drops.now.items) (code_of c.loop-reference.drops.items) _
    c.loop-reference.invariant (c.in_ok-put.ensures {u = tt})
