-- A run's conversation with the console: its journal, its requests, the console's replies and the bytes on the output.
use Rattle.std.specs.Prelude.{◌≡◌, ◌≢◌, ◌⊎◌, ◌≤◌, ℕ, ◌+◌, List, ◌++◌, length, take, Bool, true, false, Option, Some, None}
use Rattle.std.specs.Io.KnownBytes.{Appends}
use Rattle.inf_ports.specs.Outside.{Rose}
use Rattle.dis_file.specs.declared.object.Object.{Object}
use Rattle.dis_machine.specs.declared.event.Event.{Event}
use Rattle.dis_machine.specs.declared.end.End.{End}
use Rattle.dis_machine.specs.declared.end.End.TheVariants as end
use Rattle.dis_machine.specs.Journal.{State, state_of, cut_events, quanta}
use Rattle.dis_machine.specs.Frames.{requests}
use Rattle.dis_machine.specs.Ends.{ended_in}
use Rattle.console_server.specs.Console.{Serves}
use Rattle.machine_host.specs.Talk.{replies_of}

-- The events are a sound journal over the objects, with no more quanta than the limit, and the quantum that want of memory cut short, if
-- it did, which had an instruction at least; they lead to this state.
pub record Reached (objects : List Object) (limit : ℕ) (events : List Event) (t : State) : Type 0 where
  pub journal : List Event
  pub cut : Option ℕ
  pub all : events ≡ journal ++ cut_events cut
  pub reaches : state_of objects journal cut ≡ Some t
  pub within : quanta events ≤ limit
  pub started : cut ≢ Some 0

-- The run of a machine of these objects, whose output had taken the one bytes before and has taken the other now. The console served the
-- first of the requests that its replay makes: the journal's replies are its answers to them, but perhaps for the last, and the output
-- took what it wrote for these. It answers `i/o error` only where the output's count of faults rose. The end is that of the
-- definition, or want of memory; where it isn't that, no quantum was cut short, all requests were served, and all answers entered.
pub record Conversation (objects : List Object) (limit : ℕ) (events : List Event) (t : State) (old new : Option (List ℕ))
    (faults_before faults_after : ℕ) (how : End) : Type 0 where
  pub reached : Reached objects limit events t
  pub ended : (how ≡ end.NoMemory) ⊎ (ended_in limit (quanta events) t ≡ Some how)
  pub uncut : how ≢ end.NoMemory → reached.cut ≡ None
  pub answers : List (List ℕ)
  pub bytes : List ℕ
  pub failed : Bool
  pub cause : failed ≡ true → Rose faults_before faults_after
  pub served : Serves false (take (length answers) (requests 1 t.trace)) answers bytes failed
  pub entered : replies_of events ≡ take (length (replies_of events)) answers
  pub near : length answers ≤ length (replies_of events) + 1
  pub grown : Appends old new bytes
  pub whole : how ≢ end.NoMemory → (answers ≡ replies_of events) × (length answers ≡ length (requests 1 t.trace))
