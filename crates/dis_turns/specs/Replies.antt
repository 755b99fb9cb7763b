-- A reply to the one process of a machine with memory, as the event of the whole.
use Rattle.std.specs.Prelude.{◌≡◌, ℕ, List, [], ◌∷◌, ◌++◌, Some, None}
use Rattle.styx_msg.specs.declared.message.Rmsg.{Rmsg}
use Rattle.process_model.specs.Process.{Doing, Ready, Asking, Gone, Requested, Replied, Over, released}
use Rattle.process_model.specs.Machine.{replied}
use Rattle.dis_file.specs.declared.object.Object.{Object}
use Rattle.system_model.specs.Values.{Value}
use Rattle.system_model.specs.Ending.{Faulted}
use Rattle.system_model.specs.Trace.{Trace}
use Rattle.sys_print.specs.Printing.{view_request}
use Rattle.ref_heap.specs.Store.{AreHeld}
use Rattle.dis_meaning.specs.Process.{Process}
use Rattle.dis_memory.specs.Control.{answer}
use Rattle.dis_memory.specs.Naming.{naming, names}
use Rattle.dis_memory.specs.Rules.{rules}
use Rattle.dis_places.specs.declared.memory.Memory.{Memory}
use Rattle.dis_places.specs.declared.process.Process as code_process
use Rattle.dis_places.specs.View.{view_process, view_world}
use Rattle.dis_places.specs.Words.{number_of}
use Rattle.dis_prints.specs.declared.heard.Heard.{Heard}
use Rattle.dis_prints.specs.declared.heard.Heard.TheVariants as heard
use Rattle.dis_steps.specs.Hearing.{Replies}
use Rattle.dis_turns.specs.Turns.{alone, IsExact}

-- How the process stands behind a reply.
abbrev pub doing_heard : Heard → Process → Doing Process Value
doing_heard heard.Went q = Ready q
doing_heard (heard.Asked m) q = Asking q
doing_heard (heard.Fault f) q = Gone
doing_heard heard.Refused q = Asking q
doing_heard heard.NoMemory q = Asking q

-- What is told of a reply to a process at this place of the code: first the reply itself.
abbrev pub told_heard : Rmsg → Heard → (pc : ℕ) → Trace
told_heard a (heard.Asked m) pc = Replied 0 a ∷ Requested 0 (view_request m) ∷ []
told_heard a (heard.Fault f) pc = Replied 0 a ∷ Over 0 (Faulted (number_of f) pc) ∷ []
told_heard a _ pc = Replied 0 a ∷ []

-- The reply was taken: it is one to the process's request, and memory wasn't wanting.
abbrev pub WasTaken : Heard → Type 0
WasTaken heard.Refused = ⊥
WasTaken heard.NoMemory = ⊥
WasTaken _ = Unit {0}

-- The event leads to this memory and process. Beside what the reply told, it is told which blocks went.
pub record ObeysReply (limit : ℕ) (objects : List Object) (a : Rmsg) (m : Memory) (p : code_process.Process) (h : Heard) (m' : Memory)
    (p' : code_process.Process) (told : Trace) : Type 0 where
  pub gone : List ℕ
  pub event : replied (rules limit objects) naming (alone (Asking (view_process p)) (view_world m) told) 0 a (Some (Asking (view_process p)))
      ≡ Some (alone (doing_heard h (view_process p')) (view_world m') (told ++ told_heard a h p.frame.pc ++ released 0 gone))

-- The machine doesn't allow the event.
abbrev pub IsRefused : (limit : ℕ) → List Object → Rmsg → Memory → code_process.Process → Trace → Type 0
IsRefused limit objects a m p told =
    replied (rules limit objects) naming (alone (Asking (view_process p)) (view_world m) told) 0 a (Some (Asking (view_process p))) ≡ None

pub record RepliesObey : Type 0 where
  pub held : (m : Memory) (p : code_process.Process) → IsExact m (Asking (view_process p)) → AreHeld m.heap (names (view_process p))
  pub obeys : (limit : ℕ) (objects : List Object) (a : Rmsg) (m m' : Memory) (p p' : code_process.Process) (h : Heard) → WasTaken h →
      IsExact m (Asking (view_process p)) → Replies m p h (answer a (view_world m) (view_process p)) m' p' →
      (told : Trace) → ObeysReply limit objects a m p h m' p' told
  pub refused : (limit : ℕ) (objects : List Object) (a : Rmsg) (m m' : Memory) (p p' : code_process.Process) →
      Replies m p heard.Refused (answer a (view_world m) (view_process p)) m' p' → (told : Trace) → IsRefused limit objects a m p told
  pub exact : (a : Rmsg) (m m' : Memory) (p p' : code_process.Process) (h : Heard) → IsExact m (Asking (view_process p)) →
      Replies m p h (answer a (view_world m) (view_process p)) m' p' → IsExact m' (doing_heard h (view_process p'))
