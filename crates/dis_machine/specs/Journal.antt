-- What happens to a machine: quanta of instructions, and replies. A journal is the list of what happened, and determines the state.
use Rattle.std.specs.Prelude.{◌≡◌, ◌≤◌, ℕ, zero, suc, Bool, false, List, [], ◌∷◌, length, map}
use Rattle.std.specs.Prelude.{drop, Option, Some, None, nat_le, ◌==◌, ◌&&◌, if◌then◌else◌}
use Rattle.styx_msg.specs.declared.message.Rmsg.{Rmsg}
use Rattle.byteorder.specs.Endian.{little_number}
use Rattle.styx_msg.specs.Styx.{stated_size, stated_type}
use Rattle.styx_decoding.specs.Reading.{r_kind_of, r_body_at}
use Rattle.process_model.specs.Process.{Doing, Ready, Waiting, Asking, Gone, Rules, Requested, Replied, Passed, Over, Released, Lost}
use Rattle.process_model.specs.Machine as model
use Rattle.process_model.specs.Machine.{Quantum, Reply, turns}
use Rattle.dis_memory.specs.Naming.{naming}
use Rattle.process_model.specs.Law.{begins_code}
use Rattle.dis_file.specs.declared.object.Object.{Object}
use Rattle.system_model.specs.Values.{Value}
use Rattle.system_model.specs.Prints.{Request}
use Rattle.system_model.specs.Ending.{Ending, Ended, Broken, Faulted}
use Rattle.system_model.specs.Trace.{Trace}
use Rattle.system_model.specs.Limits.{frames_limit}
use Rattle.dis_memory.specs.Blocks.{World}
use Rattle.dis_meaning.specs.Process.{Process, Printing}
use Rattle.dis_memory.specs.Rules.{rules}
use Rattle.inf_text.specs.Options.{◌>>=◌}
use Rattle.dis_meaning.specs.Opening.{if_found}
use Rattle.dis_counts.specs.Opening.{Opened, opened}
use Rattle.dis_machine.specs.declared.event.Event.{Event}
use Rattle.dis_machine.specs.declared.event.Event.TheVariants as event

-- The processes, what they share, and what was told.
abbrev pub State : Type 0
State = model.State World Process Value Request Rmsg Ending

-- How many instructions the longest quantum has.
abbrev pub longest : ℕ
longest = 2048

-- How a process of these objects goes on.
abbrev pub machine_rules : List Object → Rules World Process Value Request Rmsg Ending
machine_rules objects = rules frames_limit objects

-- The objects of a program, without their names.
abbrev pub codes_of : List (List ℕ × Object) → List Object
codes_of objects = map (λ o. o.1) objects

-- ---- which event of the machine's processes an event is

-- Processes are numbered from 1, and their places from 0.
abbrev pub place_of : (pid : ℕ) → Option ℕ
place_of zero = None
place_of (suc i) = Some i

-- A reply under a tag.
pub record Tagged : Type 0 where
  pub tag : ℕ
  pub reply : Rmsg

-- A tag and a reply.
abbrev pub tagged : ℕ × Rmsg → Tagged
tagged p = record { tag = p.0; reply = p.1 }

-- Bytes that are as many as their size says, which stands in the first four. A message has 7 to 8,216.
abbrev pub has_size : List ℕ → Bool
has_size bytes = nat_le 7 (length bytes) && (nat_le (length bytes) 8216 && (stated_size bytes == length bytes))

-- A body with nothing behind it.
abbrev pub whole : (tag : ℕ) → Rmsg × List ℕ → Option Tagged
whole tag body = if length body.1 == 0 then Some (record { tag = tag; reply = body.0 }) else None

-- The reply that bytes are, all of them (Styx manual, section 5, intro): their size, a type, a tag and a body.
unfoldable pub reply_in : List ℕ → Option Tagged
reply_in bytes =
    if has_size bytes
    then r_kind_of (stated_type bytes) >>= (λ kind. r_body_at kind (drop 7 bytes) >>= whole (little_number 2 (drop 5 bytes)))
    else None

-- Whether a process waits for the reply under this tag.
abbrev pub has_tag : ℕ → Option Printing → Bool
has_tag tag None = false
has_tag tag (Some k) = k.writing.tag == tag

abbrev pub waits_under : ℕ → Doing Process Value → Bool
waits_under tag (Ready p) = false
waits_under tag (Waiting bs p) = false
waits_under tag (Asking p) = has_tag tag p.printing
waits_under tag Gone = false

-- The first process that does, by its place.
abbrev pub asker_from : (place : ℕ) → (tag : ℕ) → List (Doing Process Value) → Option ℕ
asker_from i tag [] = None
asker_from i tag (d ∷ ds) = if waits_under tag d then Some i else asker_from (suc i) tag ds

abbrev pub asker : State → (tag : ℕ) → Option ℕ
asker s tag = asker_from 0 tag s.processes

-- A quantum is that of a process, by its number. A reply is one that a process waits for, on link 1. No link goes down yet.
abbrev pub meant : State → Event → Option (model.Event Rmsg)
meant s (event.Quantum pid count) = place_of pid >>= λ i. Some (Quantum i count)
meant s (event.Reply link frame) =
    if link == 1 then reply_in frame >>= (λ r. asker s r.tag >>= λ i. Some (Reply i r.reply)) else None
meant s (event.Down link why) = None

-- ---- what happens, and the journal of it

-- Where a process came to a wrong instruction: the number of the fault, and the place.
pub record Fault : Type 0 where
  pub number : ℕ
  pub pc : ℕ

abbrev pub fault_of : Ending → Option Fault
fault_of Ended = None
fault_of (Broken text) = None
fault_of (Faulted number pc) = Some (record { number = number; pc = pc })

abbrev pub or_else : {T : Type 0} → Option T → Option T → Option T
or_else (Some t) other = Some t
or_else None other = other

-- The first such fault that was told of.
abbrev pub fault_in : Trace → Option Fault
fault_in [] = None
fault_in (Requested i m ∷ es) = fault_in es
fault_in (Replied i a ∷ es) = fault_in es
fault_in (Passed channel v i k j l ∷ es) = fault_in es
fault_in (Over i how ∷ es) = or_else (fault_of how) (fault_in es)
fault_in (Released i names ∷ es) = fault_in es
fault_in (Lost l ∷ es) = fault_in es

abbrev pub unless_faulted : {T : Type 0} → Option Fault → Option T → Option T
unless_faulted (Some f) o = None
unless_faulted None o = o

module _ (objects : List Object) where
  -- The state after an event, where it is allowed. After a fault nothing happens any more.
  abbrev pub happens : State → Event → Option State
  happens s e = unless_faulted (fault_in s.trace) (meant s e >>= model.happens (machine_rules objects) naming longest s)

  -- The state that a journal leads to, where each of its events was allowed.
  abbrev pub replay : State → List Event → Option State
  replay s [] = Some s
  replay s (e ∷ es) = happens s e >>= λ t. replay t es

abbrev pub begins : Opened → State
begins o = begins_code o.world o.first

abbrev pub start_of : List Object → Option Opened
start_of [] = None
start_of (o ∷ os) = if_found (opened o)

-- The state of a machine of these objects, the first of which it runs, after a journal.
abbrev pub state_after : List Object → List Event → Option State
state_after objects journal = start_of objects >>= λ o. replay objects (begins o) journal

-- ---- the limit

abbrev pub quanta : List Event → ℕ
quanta [] = 0
quanta (event.Quantum pid count ∷ es) = suc (quanta es)
quanta (event.Reply link frame ∷ es) = quanta es
quanta (event.Down link why ∷ es) = quanta es

-- A journal is sound where each event is allowed in the state before it, and there are no more quanta than the limit. This is the state
-- that it leads to.
pub record IsSound (objects : List Object) (limit : ℕ) (journal : List Event) (t : State) : Type 0 where
  pub within : quanta journal ≤ limit
  pub replays : state_after objects journal ≡ Some t

-- ---- want of memory

-- Memory may run out in a quantum. Then the quantum is entered last, with the instructions that it had by then, if any; they change the
-- state as they would in a longer one.
abbrev pub cut_short : List Object → Option ℕ → State → Option State
cut_short objects None s = Some s
cut_short objects (Some count) s = turns (machine_rules objects) naming 0 count s

abbrev pub state_of : List Object → List Event → (cut : Option ℕ) → Option State
state_of objects journal cut = state_after objects journal >>= cut_short objects cut

-- The events of a quantum that was cut short.
abbrev pub cut_events : Option ℕ → List Event
cut_events None = []
cut_events (Some count) = event.Quantum 1 count ∷ []
