use Rattle.std.proofs.Common.{refl}
use Rattle.dis_copies.proofs.Changes.{all_as_it_is, all_widened}
use Rattle.dis_copies.proofs.blocks.make_room.Goals as goal

pub returns-then-not-any_address-clause-takes : goal.returns-then-not-any_address-clause-takes
returns-then-not-any_address-clause-takes c =
    all_as_it_is c.args.heap.now c.args.block.serial c.args.words.now c.stands.ensures c.requires
    (c.if-not-any_address.ensures refl c.requires.block.content)

pub returns-in-Ok-clause-takes : goal.returns-in-Ok-clause-takes
returns-in-Ok-clause-takes c =
    all_widened c.args.heap.now c.widen.new.self c.args.block.serial c.args.words.now c.requires
    (c.in-Ok.ensures.ok c.requires.block c.requires.live) c.in-Ok.ensures.outside
