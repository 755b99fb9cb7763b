use Rattle.dis_steps.proofs.Over.{done_sent, done_steps, ends_held}
use Rattle.dis_steps.proofs.steps.step.Goals as goal

pub done-requires : goal.done-requires
done-requires c = record {
  held =
      ends_held c.args.memory.now c.run.new.memory c.run.new.memory c.args.process.now c.run.new.process c.in-Ok.does c.in-Ok.ensures.stays
      c.requires.held;
}

pub returns-in-Ok-clause-steps : goal.returns-in-Ok-clause-steps
returns-in-Ok-clause-steps c =
    let comes = c.in-Ok.ensures.comes in
    done_steps c.args.memory.now c.run.new.memory c.done.new.memory c.args.process.now c.run.new.process c.in-Ok.does c.done.result _
    comes.0 comes.1 comes.2 c.in-Ok.ensures.stays c.done.ensures

pub returns-in-Ok-clause-sent : goal.returns-in-Ok-clause-sent
returns-in-Ok-clause-sent c =
    done_sent c.args.memory.now c.run.new.memory c.done.new.memory c.args.process.now c.run.new.process c.in-Ok.does c.done.result
    c.run.new.process.printing c.done.ensures c.in-Ok.ensures.sent
