use Rattle.std.proofs.Common.{arith}
use Rattle.ref_heap.proofs.Places.{changed_new}
use Rattle.ref_heap.proofs.slots.place.Goals as goal

pub returns-clause-unique : goal.returns-clause-unique
returns-clause-unique c =
    (changed_new c.args.slots.now c.insert_reserved.new.self c.insert_reserved.result (record { serial = c.args.serial; count = 1; kind = c.args.kind; words = c.args.words }) c.requires.unique c.requires.absent c.insert_reserved.ensures.was_vacant c.insert_reserved.ensures.updates
    (omega (arith, c.insert_reserved.ensures.key_in_range, c.insert_reserved.ensures.capacity, c.capacity-room.ensures.value))).0

pub returns-clause-placed : goal.returns-clause-placed
returns-clause-placed c =
    (changed_new c.args.slots.now c.insert_reserved.new.self c.insert_reserved.result (record { serial = c.args.serial; count = 1; kind = c.args.kind; words = c.args.words }) c.requires.unique c.requires.absent c.insert_reserved.ensures.was_vacant c.insert_reserved.ensures.updates
    (omega (arith, c.insert_reserved.ensures.key_in_range, c.insert_reserved.ensures.capacity, c.capacity-room.ensures.value))).1
