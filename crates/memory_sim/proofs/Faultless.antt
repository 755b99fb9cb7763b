-- No run of a module tells of a fault.
use Rattle.std.proofs.Common.{◌≡◌, ℕ, List, [], ◌∷◌, ◌++◌}
use Rattle.styx_msg.specs.declared.message.Rmsg.{Rmsg}
use Rattle.process_model.specs.Process.{Ends, Requested, Replied, Over, told}
use Rattle.process_model.specs.Source.{Hears, goes_on, asks_again, is_over, Steps, goes, waits, meets, polls, passes, spawns, asks, ends, Run, still, next, Turn, Matched, begun, turn, down, reply}
use Rattle.process_model.specs.Plain.{no_names}
use Rattle.system_model.specs.Ending.{Ending, Ended, Broken, Faulted}
use Rattle.typed_meaning.specs.World.{World}
use Rattle.typed_meaning.specs.Program.{Routine}
use Rattle.typed_meaning.specs.Process.{Process}
use Rattle.typed_meaning.specs.Step.{step}
use Rattle.typed_meaning.specs.Rules.{rules}
use Rattle.typed_meaning.specs.Runs.{Meaning}
use Rattle.typed_meaning.proofs.Breaks.{ends_only_so}
use Rattle.dis_agreement.specs.Runs.{NoFault}
use Rattle.dis_agreement.proofs.Traces.{no_fault_on, passed_right}

module _ (limit : ℕ) (routines : List Routine) where
  over_so : (i : ℕ) (w v : World) (p : Process) (how : Ending) → step limit routines w p ≡ Ends v how → NoFault (Over i how ∷ [])
  over_so i w v p Ended e = tt
  over_so i w v p (Broken text) e = tt
  over_so i w v p (Faulted number pc) e = absurd (ends_only_so.faulted limit routines w v p number pc e)

  heard_so : (c : Meaning) (i : ℕ) (a : Rmsg) (e : Meaning) → Hears (rules limit routines) no_names c i a e → NoFault c.trace → NoFault e.trace
  heard_so c i a e (goes_on p w p' at does) h =
      no_fault_on (c.trace ++ Replied i a ∷ []) [] (no_fault_on c.trace (Replied i a ∷ []) h tt) tt
  heard_so c i a e (asks_again p w m p' at does) h =
      no_fault_on (c.trace ++ Replied i a ∷ Requested i m ∷ []) [] (no_fault_on c.trace (Replied i a ∷ Requested i m ∷ []) h tt) tt
  heard_so c i a e (is_over p w how at does) h = absurd (ends_only_so.at_reply a c.world w p how does)

  step_so : (c e : Meaning) (i : ℕ) → Steps (rules limit routines) no_names c i e → NoFault c.trace → NoFault e.trace
  step_so c e i0 (goes i p w p' at does) h = no_fault_on c.trace [] h tt
  step_so c e i0 (waits i p w bs p' at does) h = no_fault_on c.trace [] h tt
  step_so c e i0 (meets i p bs k a j l b q at branch fit) h =
      no_fault_on (c.trace ++ told i k a j l b ∷ []) [] (no_fault_on c.trace (told i k a j l b ∷ []) h (passed_right i k a j l b)) tt
  step_so c e i0 (polls i p w bs p' p'' k a j l b q at does branch fit) h =
      no_fault_on (c.trace ++ told i k a j l b ∷ []) [] (no_fault_on c.trace (told i k a j l b ∷ []) h (passed_right i k a j l b)) tt
  step_so c e i0 (passes i p w bs p' p'' at does none) h = no_fault_on c.trace [] h tt
  step_so c e i0 (spawns i p w child p' at does) h = no_fault_on c.trace [] h tt
  step_so c e i0 (asks i p w m p' at does) h =
      no_fault_on (c.trace ++ Requested i m ∷ []) [] (no_fault_on c.trace (Requested i m ∷ []) h tt) tt
  step_so c e i0 (ends i p w how at does) h =
      no_fault_on (c.trace ++ Over i how ∷ []) [] (no_fault_on c.trace (Over i how ∷ []) h (over_so i c.world w p how does)) tt

  run_so : (c : Meaning) (i : ℕ) (e : Meaning) (n : ℕ) → Run (rules limit routines) no_names i c n e → NoFault c.trace → NoFault e.trace
  run_so c i e n still h = h
  run_so c i e n (next {d = d} run last) h = step_so d e i last (run_so c i d _ run h)

  pub matched_so : (c e : Meaning) (turns : List Turn) → Matched (rules limit routines) no_names c turns e → NoFault c.trace → NoFault e.trace
  matched_so c e turns begun h = h
  matched_so c e turns (turn {d = d} i n before run) h = run_so d i e n run (matched_so c d _ before h)
  matched_so c e turns (down {d = d} l w before lost) h = absurd cc
  matched_so c e turns (reply {d = d} i a before heard) h = heard_so d i a e heard (matched_so c d _ before h)
