use Rattle.dis_places.specs.Words.{view_words}
use Rattle.dis_copies.proofs.Changes.{changed_after}
use Rattle.dis_copies.proofs.blocks.exchange_block.Goals as goal

pub returns-in-Ok-clause-changed : goal.returns-in-Ok-clause-changed
returns-in-Ok-clause-changed c =
    changed_after c.args.heap.now c.make_room.new.heap c.exchange_taken.new.heap c.args.block.serial c.args.from (view_words c.args.words.now) c.args.words.now
    c.in-Ok.ensures.takes c.exchange_taken.ensures.changed
