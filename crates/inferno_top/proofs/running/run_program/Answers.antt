use Rattle.inferno_top.proofs.Runs.{run_as, own_of}
use Rattle.inferno_top.proofs.running.run_program.Goals as goal

pub cause_of-requires : goal.cause_of-requires
cause_of-requires g c = record {
  own = own_of c.args.limit c.args.path.now c.requires.compiled.0 c.args.object c.in-Ok.machine c.run_machine-end.result (g.K.Sink.held
      c.args.out.now) (g.K.Sink.held c.run_machine-end.new.out) (g.K.Sink.faults c.args.out.now) (g.K.Sink.faults
      c.run_machine-end.new.out)
      c.requires.compiled.1 c.in-Ok.ensures c.run_machine-end.ensures.conversation;
}

pub returns-clause-run : goal.returns-clause-run
returns-clause-run g c m compiled =
    run_as c.args.limit c.args.path.now m c.args.object c.in-Ok.machine c.run_machine-end.result c.cause_of.result (g.K.Sink.held
    c.args.out.now) (g.K.Sink.held c.run_machine-end.new.out) (g.K.Sink.faults c.args.out.now) (g.K.Sink.faults
    c.run_machine-end.new.out)
    compiled c.in-Ok.ensures c.run_machine-end.ensures.conversation c.run_machine-end.ensures.objects (λ t broken. c.cause_of.ensures.says
    t broken)
