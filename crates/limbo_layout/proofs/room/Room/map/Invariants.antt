use Rattle.std.proofs.Common.{◌≡◌, ℕ, ◌<◌, ◌/◌, length, get_or, map, take, false}
use Rattle.limbo_layout.specs.Layout.{is_in, words}
use Rattle.limbo_layout.specs.Laying.{AllBelow}
use Rattle.limbo_layout.proofs.room.Room.map.Given as goal

abbrev pub invariant-loop-offset : goal.invariant-loop-offset
invariant-loop-offset l = record {
  same_length : length l.map.items ≡ words l.self.size;
  marked : (w : ℕ) → w < words l.self.size → get_or l.map.items w false ≡ is_in w (map (λ o. o / 4) (take l.offset-index l.offset-items));
  below : AllBelow l.self.size l.offset-items;
}
