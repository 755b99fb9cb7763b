use Rattle.std.proofs.Common.{◌∙◌}
use Rattle.core_parts.specs.Lowered.{code_of}
use Rattle.core_parts.proofs.Noded.{moves_on}
use Rattle.core_parts.proofs.drops.move_all.Goals as goal

pub loop-moved-preserved : goal.loop-moved-preserved
loop-moved-preserved c =
    moves_on c.args.moves.now c.loop-moved.moved-index _ (code_of c.loop-moved.drops.items) (code_of c.move_drops.new.drops.items)
    c.loop-moved-test.true c.move_drops.ensures ∙ c.loop-moved.invariant
