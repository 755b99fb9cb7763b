-- What a machine keeps beside its process: the requests to be handed over, and how processes ended.
use Rattle.std.specs.Prelude.{◌≡◌, ◌≢◌, ℕ, zero, suc, ◌-◌, ◌<◌, ◌≤◌, Bool, false, List, []}
use Rattle.std.specs.Prelude.{◌∷◌, length, take, drop, map, slice_get, Option, Some, None}
use Rattle.std.specs.Option.{option_map}
use Rattle.std.specs.Vec.{vec_len, vec_capacity}
use Rattle.dis_file.specs.declared.object.Object.{Object}
use Rattle.system_model.specs.Trace.{Trace}
use Rattle.sys_print.specs.Printing.{view_request}
use Rattle.sys_print.specs.declared.writing.Request.{Request}
use Rattle.dis_machine.specs.declared.event.Event.{Event}
use Rattle.dis_machine.specs.declared.state.Running.{Running}
use Rattle.dis_machine.specs.declared.outcome.Broken.{Broken}
use Rattle.dis_machine.specs.declared.outcome.Faulted.{Faulted}
use Rattle.dis_machine.specs.declared.outcome.Outcome.{Outcome}
use Rattle.dis_machine.specs.declared.doing.Doing.TheVariants.{Gone}
use Rattle.dis_machine.specs.Journal.{State, Fault, fault_in, state_of, quanta}
use Rattle.dis_machine.specs.Running.{state_with}
use Rattle.dis_machine.specs.Frames.{in_front, requests}
use Rattle.dis_machine.specs.Ends.{Breach, breaches}

-- ---- the state

-- What was told up to a state.
abbrev pub trace_in : Option State → Trace
trace_in None = []
trace_in (Some s) = s.trace

abbrev pub told_after : List Object → List Event → (cut : Option ℕ) → Trace
told_after objects journal cut = trace_in (state_of objects journal cut)

-- The state that a journal leads to is the one in which this runs.
abbrev pub LeadsTo : List Object → List Event → (cut : Option ℕ) → Running → Type 0
LeadsTo objects journal cut r = state_of objects journal cut ≡ Some (state_with r (told_after objects journal cut))

-- ---- what was told, as it is kept

abbrev pub view_broken : Broken → Breach
view_broken b = record { pid = b.pid; text = b.text }

abbrev pub view_fault : Faulted → Fault
view_fault f = record { number = f.number; pc = f.pc }

-- The frames of these requests that go over a link.
abbrev pub frames_on : (link : ℕ) → List Request → List (List ℕ)
frames_on link [] = []
frames_on link (m ∷ ms) = in_front link (view_request m) (frames_on link ms)

-- The second ends with the first.
abbrev pub EndsWith : List (List ℕ) → List (List ℕ) → Type 0
EndsWith xs ys = drop (length ys - length xs) ys ≡ xs

-- What is kept of what was told: where a process came to a wrong instruction, which processes broke, and, for each link, the last of
-- the requests; the others were handed over.
pub record Keeps (told : Trace) (o : Outcome) : Type 0 where
  pub fault : option_map view_fault o.fault ≡ fault_in told
  pub broken : map view_broken o.broken.items ≡ breaches told
  pub outbox : (link : ℕ) → EndsWith (frames_on link o.outbox.items) (requests link told)

-- ---- the whole

-- What a machine keeps at every moment. Its journal is sound, and leads to the state in which its process runs, perhaps after a quantum
-- that want of memory cut short; what was told is kept. A process goes on only where none came to a wrong instruction.
pub record IsKept (objects : List Object) (limit : ℕ) (journal : List Event) (entered : ℕ) (cut : Option ℕ) (lacks : Bool)
    (r : Running) (o : Outcome) : Type 0 where
  pub leads : LeadsTo objects journal cut r
  pub keeps : Keeps (told_after objects journal cut) o
  pub counted : entered ≡ quanta journal
  pub within : entered ≤ limit
  pub whole : lacks ≡ false → cut ≡ None
  pub short : cut ≢ None → entered < limit
  pub started : cut ≢ Some 0
  pub sound : r.doing ≢ Gone → o.fault ≡ None

-- A quantum that had so many instructions when memory ran out.
abbrev pub cut_of : (count : ℕ) → Option ℕ
cut_of zero = None
cut_of (suc n) = Some (suc n)

-- There is room for a request more, and for a process more that broke.
abbrev pub HasRoom : Outcome → Type 0
HasRoom o = (vec_len o.outbox < vec_capacity o.outbox) × (vec_len o.broken < vec_capacity o.broken)

-- The same is kept, perhaps with more room.
pub record SameOutcome (old new : Outcome) : Type 0 where
  pub outbox : new.outbox.items ≡ old.outbox.items
  pub broken : new.broken.items ≡ old.broken.items
  pub fault : new.fault ≡ old.fault

-- The first request of a link stands here.
pub record IsOldest (link : ℕ) (ms : List Request) (place : ℕ) : Type 0 where
  pub request : Request
  pub there : slice_get ms place ≡ Some request
  pub goes : request.link ≡ link
  pub first : frames_on link (take place ms) ≡ []
