use Rattle.dis_memory.specs.Blocks as blocks
use Rattle.dis_places.specs.View.{view_process, view_spot, view_world}
use Rattle.dis_strings.proofs.Made.{makes_none, makes_on}
use Rattle.dis_strings.proofs.giving.finish_text.Goals as goal

pub returns-in-Ok-clause-goes : goal.returns-in-Ok-clause-goes
returns-in-Ok-clause-goes c =
    makes_on (view_world c.args.memory.now) (view_process c.args.process.now) (view_spot c.args.spot) (blocks.Text c.args.text.items)
    c.args.memory.now c.store_text.new.memory c.args.process.now c.store_text.new.process c.advance.new.process
    c.in-Ok.ensures.stores c.advance.ensures

pub returns-in-Err-clause-goes : goal.returns-in-Err-clause-goes
returns-in-Err-clause-goes c =
    makes_none (view_world c.args.memory.now) (view_process c.args.process.now) (view_spot c.args.spot) (blocks.Text c.args.text.items)
    c.in-Err.halt (c.in-Err.ensures {u = tt}).stores
