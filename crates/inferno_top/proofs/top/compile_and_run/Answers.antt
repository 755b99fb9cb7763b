use Rattle.std.proofs.Common.{refl, inl, inr}
use Rattle.inferno_command.specs.Words.{limit_of}
use Rattle.inferno_top.proofs.Begins.{compiled}
use Rattle.inferno_top.proofs.Causes.{refusal_cause, unread_refused}
use Rattle.inferno_top.proofs.Exact.{run_cause}
use Rattle.inferno_top.proofs.Runs.{run_within}
use Rattle.inferno_top.proofs.top.compile_and_run.Goals as goal

pub carry_out-requires : goal.carry_out-requires
carry_out-requires g c =
    let a = c.in-Ok.ensures.read in
    record { compiled = (a.0, compiled a.0 c.in-Ok.object a.2); bounded = c.requires.bounded }

pub returns-in-Ok-clause-cause : goal.returns-in-Ok-clause-cause
returns-in-Ok-clause-cause g c words run =
    let a = c.in-Ok.ensures.read in
    run_cause _ _ (record { file = c.args.path.now; program = a.0; accepted = record { named = run.named; read = a.1 } })
    c.carry_out.ensures.end refl

pub returns-in-Ok-clause-ran : goal.returns-in-Ok-clause-ran
returns-in-Ok-clause-ran g c words run =
    let a = c.in-Ok.ensures.read in
    inl (record {
      file = c.args.path.now;
      program = a.0;
      accepted = record { named = run.named; read = a.1 };
      run = run_within c.args.limit (limit_of words) c.args.path.now a.0 c.carry_out.result.1.journal c.carry_out.result.1.objects.items
          (g.K.Sink.held c.args.out.now) (g.K.Sink.held c.carry_out.new.out) (g.K.Sink.faults c.args.out.now)
          (g.K.Sink.faults c.carry_out.new.out) c.carry_out.result.0 run.limited
          (c.carry_out.ensures.run a.0 (compiled a.0 c.in-Ok.object a.2));
    })

pub returns-in-Err-clause-cause : goal.returns-in-Err-clause-cause
returns-in-Err-clause-cause g c words run =
    refusal_cause _ _ (unread_refused words _ _ _ _ _ run.named c.in-Err.ensures.unread)

pub returns-in-Err-clause-ran : goal.returns-in-Err-clause-ran
returns-in-Err-clause-ran g c words run =
    inr (
      record { unstarted = c.nothing.ensures.0; none = c.nothing.ensures.1; unwritten = refl },
      unread_refused words _ _ _ _ _ run.named c.in-Err.ensures.unread,
    )
