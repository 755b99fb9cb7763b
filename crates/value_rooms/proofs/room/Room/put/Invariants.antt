use Rattle.std.proofs.Common.{◌≡◌, ◌+◌, ◌≤◌, ◌++◌, map, take}
use Rattle.limbo_layout.specs.Laying.{AllBelow}
use Rattle.limbo_layout.specs.Layout.{limit}
use Rattle.value_rooms.proofs.room.Room.put.Given as goal

abbrev pub invariant-loop-offset : goal.invariant-loop-offset
invariant-loop-offset l = record {
  same_size : l.self-inside.size ≡ l.initial.self-inside.size;
  same_align : l.self-inside.align ≡ l.initial.self-inside.align;
  shifted : l.self-inside.references.items ≡ l.initial.self-inside.references.items ++ map (λ o. l.at + o) (take l.offset-index l.offset-items);
  below : AllBelow l.self-inside.size l.self-inside.references.items;
  part : AllBelow l.part.size l.offset-items;
  fits : l.at + l.part.size ≤ l.self-inside.size;
  small : l.self-inside.size ≤ limit;
}
