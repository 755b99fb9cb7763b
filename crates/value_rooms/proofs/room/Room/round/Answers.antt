use Rattle.std.proofs.Common.{arith}
use Rattle.limbo_layout.proofs.Sound.{below_more}
use Rattle.value_rooms.proofs.room.Room.round.Goals as goal

pub invariant_of-self : goal.invariant_of-self
invariant_of-self c = record {
  within = omega arith;
  align = c.self.invariant.align;
  inside = below_more c.self.inside.size _ _ c.next_multiple_of-size.ensures.lower_bound c.self.invariant.inside;
}
