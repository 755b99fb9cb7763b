use Rattle.ref_heap.proofs.Places.{drops_slot, drops_absent, drop_keeps, drop_numbers}
use Rattle.ref_heap.proofs.slots.drop_one.Goals as goal

pub returns-in-Some-clause-unique : goal.returns-in-Some-clause-unique
returns-in-Some-clause-unique c = (drops_slot c.args.slots.now c.lower.new.slots c.in-Some.i c.args.head c.lower.result c.args.r.serial c.requires c.in-Some.ensures.found c.lower.ensures.less c.lower.ensures.last).0

pub returns-in-Some-clause-drops : goal.returns-in-Some-clause-drops
returns-in-Some-clause-drops c = (drops_slot c.args.slots.now c.lower.new.slots c.in-Some.i c.args.head c.lower.result c.args.r.serial c.requires c.in-Some.ensures.found c.lower.ensures.less c.lower.ensures.last).1

pub returns-in-None-clause-drops : goal.returns-in-None-clause-drops
returns-in-None-clause-drops c = drops_absent c.args.slots.now c.args.r.serial c.args.head c.in-None.ensures.absent

pub returns-in-Some-clause-keeps : goal.returns-in-Some-clause-keeps
returns-in-Some-clause-keeps c = drop_keeps c.args.slots.now c.lower.new.slots c.in-Some.i c.args.head c.lower.result c.args.r.serial c.in-Some.ensures.found c.lower.ensures.less c.lower.ensures.last

pub returns-in-Some-clause-numbers : goal.returns-in-Some-clause-numbers
returns-in-Some-clause-numbers c = drop_numbers c.args.slots.now c.lower.new.slots c.in-Some.i c.args.head c.lower.result c.args.r.serial c.requires c.in-Some.ensures.found c.lower.ensures.less c.lower.ensures.last c.lower.ensures.len
