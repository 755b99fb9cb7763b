use Rattle.dis_memory.specs.Blocks as blocks
use Rattle.dis_places.specs.Blocks.{type_by}
use Rattle.dis_places.specs.View.{view_spot}
use Rattle.dis_makings.proofs.Gone.{given}
use Rattle.dis_makings.proofs.giving.give_channel.Goals as goal

pub returns-clause-goes : goal.returns-clause-goes
returns-clause-goes c =
    given c.args.memory.now c.store_channel-outcome.new.memory c.args.process.now c.store_channel-outcome.new.process c.go_on.new.process (view_spot c.args.spot)
    (blocks.Channel (type_by c.args.memory.now.tables c.args.element)) c.store_channel-outcome.result c.go_on.result c.go_on.ensures.same c.store_channel-outcome.ensures.stores c.go_on.ensures.on
