use Rattle.std.proofs.Common.{arith}
use Rattle.limbo_layout.proofs.Sound.{rounds_within, below_more}
use Rattle.limbo_layout.proofs.room.Room.round.Goals as goal

pub invariant_of-self : goal.invariant_of-self
invariant_of-self c = record {
  within = rw c.next_multiple_of-self-inside.ensures.value (rounds_within c.self.inside.size c.self.inside.align c.self.invariant.within c.self.invariant.align);
  align = c.self.invariant.align;
  inside = below_more c.self.inside.size _ _ c.next_multiple_of-self-inside.ensures.lower_bound c.self.invariant.inside;
}
