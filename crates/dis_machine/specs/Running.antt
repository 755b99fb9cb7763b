-- The process that runs, as the definitions have it, and what its instructions and replies tell.
use Rattle.std.specs.Prelude.{◌≡◌, ℕ, List, [], ◌∷◌, ◌++◌, Option, Some, None, slice_get}
use Rattle.styx_msg.specs.declared.message.Rmsg.{Rmsg}
use Rattle.process_model.specs.Process.{Requested, Replied, Over}
use Rattle.process_model.specs.Machine as event
use Rattle.process_model.specs.Machine.{Reply, obey, ready, turns, replied}
use Rattle.dis_memory.specs.Naming.{naming}
use Rattle.dis_file.specs.declared.object.Object.{Object}
use Rattle.system_model.specs.Ending.{Ended, Broken, Faulted}
use Rattle.system_model.specs.Trace.{Trace}
use Rattle.sys_print.specs.Printing.{view_request}
use Rattle.dis_places.specs.declared.process.Asking.{Asking}
use Rattle.dis_calls.specs.Coming.{IsAsked}
use Rattle.dis_places.specs.View.{view_process, view_world}
use Rattle.dis_machine.specs.declared.event.Event.TheVariants as code
use Rattle.dis_machine.specs.declared.doing.Doing.{Doing}
use Rattle.dis_machine.specs.declared.doing.Doing.TheVariants as doing
use Rattle.dis_machine.specs.Doings.{view_doing}
use Rattle.dis_machine.specs.declared.state.Running.{Running}
use Rattle.dis_machine.specs.declared.running.Turn.{Turn}
use Rattle.dis_machine.specs.declared.running.Turn.TheVariants as turn
use Rattle.dis_counts.specs.Told as traces
use Rattle.dis_machine.specs.Journal.{State, machine_rules, meant}

-- The state in which this process runs, where this was told.
abbrev pub state_with : Running → Trace → State
state_with r told = record {
  processes = view_doing r.doing (view_process r.process) ∷ [];
  world = view_world r.memory;
  waiters = [];
  trace = told;
}

-- What is told behind an instruction.
abbrev pub told_by : Turn → Trace
told_by turn.Went = []
told_by (turn.Asked m) = Requested 0 (view_request m) ∷ []
told_by turn.Ended = Over 0 Ended ∷ []
told_by (turn.Broken text) = Over 0 (Broken text) ∷ []
told_by (turn.Fault number pc) = Over 0 (Faulted number pc) ∷ []
told_by turn.NoMemory = []

-- How the process stands after an instruction: only where memory ran out is it as before.
abbrev pub stands_after : Turn → Doing
stands_after turn.Went = doing.Ready
stands_after (turn.Asked m) = doing.Asking
stands_after turn.Ended = doing.Gone
stands_after (turn.Broken text) = doing.Gone
stands_after (turn.Fault number pc) = doing.Gone
stands_after turn.NoMemory = doing.Ready

-- The process runs in the state that is come to, and since this was told, beside which blocks went.
pub record ComesTo (reached : Option State) (r : Running) (told this : Trace) : Type 0 where
  pub more : Trace
  pub since : traces.told more ≡ this
  pub state : reached ≡ Some (state_with r (told ++ more))

module _ (objects : List Object) where
  -- One instruction.
  abbrev pub obeyed : State → Option State
  obeyed s = obey (machine_rules objects) naming s 0 (ready (slice_get s.processes 0))

  -- The instruction was obeyed, or memory ran out, and nothing changed.
  abbrev pub IsTurn : Running → Running → Turn → Type 0
  IsTurn old new turn.NoMemory = (told : Trace) → state_with new told ≡ state_with old told
  IsTurn old new t = (told : Trace) → ComesTo (obeyed (state_with old told)) new told (told_by t)

  -- So many instructions were obeyed.
  abbrev pub HadTurns : Running → Running → (count : ℕ) → Turn → Type 0
  HadTurns old new count t =
      (told : Trace) → ComesTo (turns (machine_rules objects) naming 0 count (state_with old told)) new told (told_by t)

-- ---- replies

-- How the process stands after a reply: only where memory ran out does it go on waiting as before.
abbrev pub stands_heard : Turn → Doing
stands_heard turn.Went = doing.Ready
stands_heard (turn.Asked m) = doing.Asking
stands_heard turn.Ended = doing.Gone
stands_heard (turn.Broken text) = doing.Gone
stands_heard (turn.Fault number pc) = doing.Gone
stands_heard turn.NoMemory = doing.Asking

-- What is told by a reply.
abbrev pub told_heard : Rmsg → Turn → Trace
told_heard a t = Replied 0 a ∷ told_by t

module _ (objects : List Object) (a : Rmsg) where
  abbrev pub hears : State → Option State
  hears s = replied (machine_rules objects) naming s 0 a (slice_get s.processes 0)

  -- The reply was heard, or memory ran out, and nothing changed.
  abbrev pub IsHeard : Running → Running → Turn → Type 0
  IsHeard old new turn.NoMemory = (told : Trace) → state_with new told ≡ state_with old told
  IsHeard old new t = (told : Trace) → ComesTo (hears (state_with old told)) new told (told_heard a t)

  -- It was none to a request of the process, and nothing changed.
  pub record NotHeard (old new : Running) : Type 0 where
    pub refused : (told : Trace) → hears (state_with old told) ≡ None
    pub same : (told : Trace) → state_with new told ≡ state_with old told
    pub stands : new.doing ≡ old.doing

-- The event that these bytes on a link are, while the process stands so, if they are one.
abbrev pub reply_event : Option Rmsg → Option (event.Event Rmsg)
reply_event None = None
reply_event (Some a) = Some (Reply 0 a)

abbrev pub MeansReply : Running → (link : ℕ) → List ℕ → Option Rmsg → Type 0
MeansReply r link frame o = (told : Trace) → meant (state_with r told) (code.Reply link frame) ≡ reply_event o

-- What is asked is a message of the print that then waits for its reply.
abbrev pub Sent : Turn → Option Asking → Type 0
Sent (turn.Asked m) printing = IsAsked m printing
Sent _ printing = Unit {0}
