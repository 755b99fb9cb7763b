use Rattle.std.proofs.Common.{◌≡◌, ◌≤◌, ◌-◌, ◌⊎◌, ℕ, List, Option, true, false}
use Rattle.inf_ports.specs.Outside.{Rose}
use Rattle.dis_machine.specs.Journal.{quanta}
use Rattle.dis_machine.specs.Standing.{waiting, SameProgram}
use Rattle.machine_host.specs.Talk.{Talk, Calm}
use Rattle.machine_host.proofs.run.converse.Given as goal

-- What was said since is told, nothing is to be handed over, and the faults so far have their cause.
abbrev pub invariant-loop-alloc : goal.invariant-loop-alloc
invariant-loop-alloc g l = record {
  able : l.machine.lacks ≡ false;
  calm : Calm l.machine;
  talk : (start : Option (List ℕ)) → Talk l.fn.machine (waiting l.fn.machine 1) start (g.K.Sink.held l.fn.out) l.fn.console.failed → Talk l.machine (waiting l.machine 1) start (g.K.Sink.held l.out) l.console.failed;
  same : SameProgram l.fn.machine l.machine;
  failed : l.console.failed ≡ true → (l.fn.console.failed ≡ true) ⊎ Rose (g.K.Sink.faults l.fn.out) (g.K.Sink.faults l.out);
  later : g.K.Sink.faults l.fn.out ≤ g.K.Sink.faults l.out;
}

abbrev pub decreases-loop-alloc : goal.decreases-loop-alloc
decreases-loop-alloc g l = l.machine.limit - quanta l.machine.journal.items
