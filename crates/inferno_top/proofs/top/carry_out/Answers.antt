use Rattle.std.proofs.Common.{sym, ◌∙◌}
use Rattle.inferno_top.proofs.Runs.{run_failed}
use Rattle.inferno_top.proofs.top.carry_out.Goals as goal

pub returns-then-has_risen-clause-run : goal.returns-then-has_risen-clause-run
returns-then-has_risen-clause-run g c m compiled =
    run_failed c.args.limit c.args.path.now m c.run_program-cause.result.1.objects.items (g.K.Sink.held c.args.out.now) (g.K.Sink.held
    c.run_program-cause.new.out) (g.K.Sink.faults c.args.out.now) (g.K.Sink.faults c.run_program-cause.new.out)
    c.run_program-cause.result.1.journal c.run_program-cause.result.0 c.faults-out_now.result c.faults-err_now.result
    (c.run_program-cause.ensures.run m compiled) (sym c.lacks_memory.ensures ∙ c.if-lacks_memory.false)
