use Rattle.std.proofs.Common.{ap, ◌∙◌}
use Rattle.dis_meaning.specs.Words as words
use Rattle.dis_memory.specs.Step.{object_of}
use Rattle.dis_kinds.proofs.Heaps.{there, gone}
use Rattle.dis_steps.proofs.Instances.{object_found, no_object}
use Rattle.dis_steps.proofs.codes.object_of.Goals as goal

pub returns-in-Some : goal.returns-in-Some
returns-in-Some c =
    let m = c.args.memory.now in
    let h = there m c.args.instance.serial c.in-Ok.kind c.stands.ensures (c.in-Ok.ensures {u = tt}) in
    ap (λ b. words.◌>>=◌ b object_of) h.is
    ∙ object_found m.tables c.in-Ok.kind h.live.content c.in-Some.object (c.in-Some.ensures {u = tt})

pub returns-in-None : goal.returns-in-None
returns-in-None c =
    let m = c.args.memory.now in
    let h = there m c.args.instance.serial c.in-Ok.kind c.stands.ensures (c.in-Ok.ensures {u = tt}) in
    ap (λ b. words.◌>>=◌ b object_of) h.is ∙ no_object m.tables c.in-Ok.kind h.live.content (c.in-None.ensures {u = tt})

pub returns-in-Err : goal.returns-in-Err
returns-in-Err c =
    ap (λ b. words.◌>>=◌ b object_of)
    (gone c.args.memory.now c.args.instance.serial c.in-Err.field-0 c.stands.ensures (c.in-Err.ensures {u = tt}))
