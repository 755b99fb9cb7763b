use Rattle.std.proofs.Common.{ap, sym, [], ◌∙◌}
use Rattle.dis_meaning.specs.Words.{◌>>=◌}
use Rattle.dis_memory.specs.Lists as lists
use Rattle.dis_memory.specs.Step.{type_of_size}
use Rattle.dis_places.specs.View.{view_process, view_world}
use Rattle.dis_results.proofs.Onward.{goes_same}
use Rattle.dis_makings.proofs.Numbered.{plain_there}
use Rattle.dis_makings.proofs.channels.newcm.Goals as goal

pub plain_of-element-requires-clause-there : goal.plain_of-element-requires-clause-there
plain_of-element-requires-clause-there c =
    plain_there c.args.memory.now.tables c.args.code.now c.args.process.now.frame.pc c.in-Ok.size c.args.inst c.requires.loaded c.requires.there c.requires.op c.in-Ok.ensures

pub returns-in-Ok-clause-goes : goal.returns-in-Ok-clause-goes
returns-in-Ok-clause-goes c =
    let m = c.args.memory.now in
    let o = c.args.code.now.object in
    let x = view_world m in
    let p = view_process c.args.process.now in
    goes_same m c.channel.new.memory c.args.process.now c.channel.new.process c.channel.result _ _
    (ap (λ a. a >>= λ size. lists.channel o x p c.args.inst c.args.inst.middle (type_of_size size [])) c.in-Ok.ensures
    ∙ ap (λ desc. lists.channel o x p c.args.inst c.args.inst.middle desc) (sym c.plain_of-element.ensures))
    (c.channel.ensures.goes o)
