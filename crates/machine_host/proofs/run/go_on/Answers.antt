use Rattle.std.proofs.Common.{◌∙◌}
use Rattle.machine_host.proofs.Exchanged.{quantum_talk, one_quantum, ok_map, err_map}
use Rattle.machine_host.proofs.run.go_on.Goals as goal

pub returns-clause-went : goal.returns-clause-went
returns-clause-went g c =
    let q = c.in_ok-quantum.ensures {u = tt} in
    ok_map c.serve.result _ _ (λ on start talk. on start (quantum_talk c.args.machine.now c.quantum.new.self c.args.pid q.went.0 start (g.K.Sink.held c.args.out.now) c.args.console.now.failed q.went.1 q.lacks talk)) c.serve.ensures.went

pub returns-clause-quanta : goal.returns-clause-quanta
returns-clause-quanta g c =
    let q = c.in_ok-quantum.ensures {u = tt} in
    ok_map c.serve.result _ _ (λ same. same ∙ one_quantum c.args.machine.now c.quantum.new.self c.args.pid q.went.0 q.went.1) c.serve.ensures.quanta

pub returns-clause-stopped : goal.returns-clause-stopped
returns-clause-stopped g c =
    let q = c.in_ok-quantum.ensures {u = tt} in
    err_map c.serve.result _ _ (λ on start talk. on start (quantum_talk c.args.machine.now c.quantum.new.self c.args.pid q.went.0 start (g.K.Sink.held c.args.out.now) c.args.console.now.failed q.went.1 q.lacks talk)) c.serve.ensures.stopped
