use Rattle.std.proofs.Common.{◌∙◌, arith}
use Rattle.limbo_layout.proofs.Sound.{below_at, below_push, shift_more}
use Rattle.value_rooms.proofs.room.Room.put.Goals as goal

pub overflow_add-at : goal.overflow_add-at
overflow_add-at c =
    let b = below_at _ c.deref-offset-items.result.now c.loop-offset.offset-index 0 c.loop-offset.invariant.part (omega arith) in
    let f = c.loop-offset.invariant.fits in
    let w = c.self.invariant.within in
    let s = c.loop-offset.invariant.same_size in
    omega arith

pub loop-offset-preserved : goal.loop-offset-preserved
loop-offset-preserved c =
    let b = below_at _ c.deref-offset-items.result.now c.loop-offset.offset-index 0 c.loop-offset.invariant.part (omega arith) in
    let f = c.loop-offset.invariant.fits in
    record {
      same_size = c.loop-offset.invariant.same_size;
      same_align = c.loop-offset.invariant.same_align;
      shifted =
          c.in_ok-push.ensures.items
          ∙ shift_more c.self.inside.references.items c.loop-offset.self-inside.references.items c.deref-offset-items.result.now c.in-Some.at c.loop-offset.offset-index (omega arith) c.loop-offset.invariant.shifted;
      below = rw c.in_ok-push.ensures.items (below_push _ _ _ (omega arith) c.loop-offset.invariant.below);
      part = c.loop-offset.invariant.part;
      fits = f;
      small = c.loop-offset.invariant.small;
    }
