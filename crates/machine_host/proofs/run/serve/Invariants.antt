use Rattle.std.proofs.Common.{◌≡◌, ◌≤◌, ◌⊎◌, ℕ, List, Option, true, false}
use Rattle.inf_ports.specs.Outside.{Rose}
use Rattle.dis_machine.specs.Standing.{waiting, SameProgram}
use Rattle.machine_host.specs.Talk.{Talk, Pends, SameQuanta, left}
use Rattle.machine_host.proofs.run.serve.Given as goal

-- What was said since is told, the machine goes on, and the faults so far have their cause.
abbrev pub invariant-loop : goal.invariant-loop
invariant-loop g l = record {
  able : l.machine.lacks ≡ false;
  pends : Pends l.machine;
  talk : (start : Option (List ℕ)) → Talk l.fn.machine (waiting l.fn.machine 1) start (g.K.Sink.held l.fn.out) l.fn.console.failed → Talk l.machine (waiting l.machine 1) start (g.K.Sink.held l.out) l.console.failed;
  quanta : SameQuanta l.fn.machine l.machine;
  same : SameProgram l.fn.machine l.machine;
  failed : l.console.failed ≡ true → (l.fn.console.failed ≡ true) ⊎ Rose (g.K.Sink.faults l.fn.out) (g.K.Sink.faults l.out);
  later : g.K.Sink.faults l.fn.out ≤ g.K.Sink.faults l.out;
}

abbrev pub decreases-loop : goal.decreases-loop
decreases-loop g l = left l.machine
