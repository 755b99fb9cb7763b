-- What a run leaves, and the state that its journal leads to.
use Rattle.std.specs.Prelude.{◌≡◌, ℕ, List, map, Option}
use Rattle.dis_file.specs.declared.object.Object.{Object}
use Rattle.dis_machine.specs.Journal.{State}
use Rattle.dis_machine.specs.Ends.{breaches}
use Rattle.dis_machine.specs.Kept.{view_broken}
use Rattle.machine_host.specs.declared.run.Ran.{Ran}
use Rattle.machine_host.specs.Conversation.{Conversation}

-- The journal is a conversation with the console that leads to some state, and the processes that broke are those of its trace.
pub record Leads (objects : List Object) (limit : ℕ) (r : Ran) (old new : Option (List ℕ)) (faults_before faults_after : ℕ) : Type 0 where
  pub state : State
  pub conversation : Conversation objects limit r.journal.events state old new faults_before faults_after r.end
  pub broken : map view_broken r.broken.items ≡ breaches state.trace
