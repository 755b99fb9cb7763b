-- Runs that compute: a program by itself, each of whose prints is answered at once with all that it asks.
use Rattle.std.specs.Prelude.{ℕ, zero, suc, ◌≡◌, List, [], ◌∷◌, ◌++◌, length, drop, Some, slice_get}
use Rattle.styx_msg.specs.declared.message.Rmsg.{Rmsg}
use Rattle.styx_msg.specs.declared.message.Rmsg.TheVariants as r
use Rattle.process_model.specs.Process.{Went, Asks, Ends, Doing, Ready, Asking, Gone, Entry, Requested, Replied, Over}
use Rattle.process_model.specs.Source.{Turn, settled}
use Rattle.process_model.specs.Law.{begins}
use Rattle.limbo_typed.specs.Typed.{Module}
use Rattle.system_model.specs.Prints.{Request}
use Rattle.system_model.specs.Ending.{Ending}
use Rattle.system_model.specs.Limits.{frames_limit}
use Rattle.limbo_meaning.specs.Values.{Value}
use Rattle.limbo_meaning.specs.Program.{Routine, Program, program_of}
use Rattle.limbo_meaning.specs.Process.{Shared, Process, Does}
use Rattle.limbo_meaning.specs.Step.{step, answer}
use Rattle.limbo_meaning.specs.Rules.{naming}
use Rattle.limbo_meaning.specs.Runs.{Meaning, MeaningRun, first_world, first_process}

abbrev pub Trace : Type 0
Trace = List (Entry Value Request Rmsg Ending)

-- The bytes that a request of a print carries, and the reply to it that takes them all.
abbrev pub carried : Request → List ℕ
carried m = drop 23 m.frame

abbrev pub reply_to : Request → Rmsg
reply_to m = r.Write (length (carried m))

-- Where the one process of a configuration stands after an event, what is left of the heap, and what was told.
abbrev pub stands : Doing Process Value → Shared → Trace → Meaning
stands d w trace = settled naming 0 (d ∷ []) w trace

-- What comes of a reply; one that asks again isn't followed.
abbrev pub after_reply : (Meaning → Meaning) → Rmsg → Meaning → Does → Meaning
after_reply rest a c (Went w p) = rest (stands (Ready p) w (c.trace ++ Replied 0 a ∷ []))
after_reply rest a c _ = c

abbrev pub asking : Process → Shared → Request → Trace → Meaning
asking p w m trace = stands (Asking p) w (trace ++ Requested 0 m ∷ [])

abbrev pub after_step : (Meaning → Meaning) → Meaning → Does → Meaning
after_step rest c (Went w p) = rest (stands (Ready p) w c.trace)
after_step rest c (Asks w m p) =
    after_reply rest (reply_to m) (asking p w m c.trace) (answer (reply_to m) (asking p w m c.trace).world p)
after_step rest c (Ends w how) = stands Gone w (c.trace ++ Over 0 how ∷ [])
after_step rest c _ = c

abbrev pub only_ready : (Meaning → Process → Meaning) → Meaning → List (Doing Process Value) → Meaning
only_ready on c (Ready p ∷ []) = on c p
only_ready on c _ = c

-- At most so many steps.
abbrev pub alone : (limit : ℕ) → Program → (steps : ℕ) → Meaning → Meaning
alone limit program zero c = c
alone limit program (suc n) c =
    only_ready (λ c p. after_step (alone limit program n) c (step limit program c.world p)) c c.processes

-- What a program tells by itself in at most so many steps.
abbrev pub told_alone : Module → (words : List (List ℕ)) → Routine → (steps : ℕ) → Trace
told_alone m words first n =
    (alone frames_limit (program_of m) n (begins (first_world m words) (first_process m words first))).trace

-- A module has a run of which this is told.
pub record HasRun (m : Module) (words : List (List ℕ)) (init : ℕ) (trace : Trace) : Type 0 where
  pub turns : List Turn
  pub config : Meaning
  pub run : MeaningRun m words init turns config
  pub told : config.trace ≡ trace

-- What a program tells by itself is told of a run.
abbrev pub RunsCompute : Type 0
RunsCompute =
    (m : Module) (words : List (List ℕ)) (init : ℕ) (first : Routine) → slice_get (program_of m).routines init ≡ Some first →
    (n : ℕ) → HasRun m words init (told_alone m words first n)
