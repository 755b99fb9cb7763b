use Rattle.std.proofs.Common.{arith}
use Rattle.limbo_layout.proofs.Sound.{max_align, below_more}
use Rattle.value_rooms.proofs.room.Room.make_place.Goals as goal

pub invariant_of-self-2 : goal.invariant_of-self-2
invariant_of-self-2 c = record {
  within = omega arith;
  align = rw c.max-self-inside.ensures (max_align _ _ c.self.invariant.align c.requires.align);
  inside = below_more c.self.inside.size _ _ (omega arith) c.self.invariant.inside;
}
