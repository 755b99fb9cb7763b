use Rattle.std.proofs.Common.{ap}
use Rattle.dis_meaning.specs.Words.{◌>>=◌}
use Rattle.dis_memory.specs.Lists as lists
use Rattle.dis_places.specs.View.{view_process, view_world}
use Rattle.dis_results.proofs.Onward.{goes_same}
use Rattle.dis_makings.proofs.channels.newcmp.Goals as goal

pub returns-in-Ok-clause-goes : goal.returns-in-Ok-clause-goes
returns-in-Ok-clause-goes c =
    let m = c.args.memory.now in
    let o = c.args.code.now.object in
    let x = view_world m in
    let p = view_process c.args.process.now in
    goes_same m c.channel.new.memory c.args.process.now c.channel.new.process c.channel.result _ _
    (ap (λ a. a >>= lists.channel o x p c.args.inst c.args.inst.middle) c.in-Ok.ensures)
    (c.channel.ensures.goes o)
