use Rattle.dis_steps.proofs.Heard.{fault_held, heard_replies}
use Rattle.dis_steps.proofs.hearing.hear.Goals as goal

pub clear-requires : goal.clear-requires
clear-requires c = record {
  held =
      fault_held c.args.memory.now c.answer-heard.new.memory c.answer-heard.new.memory c.args.process.now c.answer-heard.new.process c.answer-heard.result
      c.answer-heard.ensures.kept c.requires.held;
}

pub returns-clause-hears : goal.returns-clause-hears
returns-clause-hears c =
    heard_replies c.args.memory.now c.answer-heard.new.memory c.clear.new.memory c.args.process.now c.answer-heard.new.process c.answer-heard.result _
    c.answer-heard.ensures.hears c.answer-heard.ensures.kept c.clear.ensures
