use Rattle.std.proofs.Common.{arith, ◌+◌, ◌∙◌, refl}
use Rattle.std.proofs.lemmas.Grind.{drop_more_same}
use Rattle.std.proofs.lemmas.List.{drop-set-lt}
use Rattle.std.proofs.Math.ListN.{length-set}
use Rattle.core_parts.specs.Nodes.{view_moved}
use Rattle.core_parts.specs.Lowered.{code_of}
use Rattle.core_parts.proofs.Dropped.{moved_on}
use Rattle.core_parts.proofs.drops.move_drops.Goals as goal

pub loop-i-preserved : goal.loop-i-preserved
loop-i-preserved c = record {
  before = moved_on (view_moved c.args.moved) c.loop-i.drops.items c.args.drops.now.items c.loop-i.i c.index_mut.result.now
      c.move_drop.new.drop (omega (arith, c.loop-i.drops.ok.0)) c.loop-i.invariant.long c.index_mut.ensures.value c.move_drop.ensures
      c.loop-i.invariant.before c.loop-i.invariant.behind;
  behind = drop-set-lt (c.loop-i.i + 1) c.loop-i.drops.items c.loop-i.i c.move_drop.new.drop (omega arith)
      ∙ drop_more_same c.loop-i.drops.items c.args.drops.now.items c.loop-i.i c.loop-i.invariant.behind;
  long = length-set c.loop-i.drops.items c.loop-i.i c.move_drop.new.drop ∙ c.loop-i.invariant.long;
}

pub loop-i-init : goal.loop-i-init
unfolding code_of
loop-i-init c = record { before = refl; behind = refl; long = refl }
