use Rattle.std.proofs.Common.{subst}
use Rattle.dis_memory.specs.Lists as lists
use Rattle.dis_places.specs.View.{view_process, view_world}
use Rattle.dis_results.specs.Going.{Goes}
use Rattle.dis_makings.proofs.channels.newc.Goals as goal

pub returns-clause-goes : goal.returns-clause-goes
returns-clause-goes c =
    let m = c.args.memory.now in
    let o = c.args.code.now.object in
    subst
    (λ desc. Goes m c.args.process.now c.channel.result (lists.channel o (view_world m) (view_process c.args.process.now) c.args.inst c.args.inst.middle desc) c.channel.new.memory c.channel.new.process)
    (c.number_of.ensures m.tables c.requires.loaded.first) (c.channel.ensures.goes o)
