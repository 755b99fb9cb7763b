-- From each step to whole runs.
use Rattle.std.proofs.Common.{◌≡◌, ℕ, zero, suc, List, [], ◌∷◌, ◌⊎◌, inl, inr, Some, refl, subst}
use Rattle.std.specs.Prelude.{slice_get}
use Rattle.std.proofs.Math.ListN.{set}
use Rattle.styx_msg.specs.declared.message.Rmsg.{Rmsg}
use Rattle.process_model.specs.Process.{Parks, Polls, Spawns, Doing, Ready, Waiting, Asking, Gone}
use Rattle.process_model.specs.Source.{Turn, Steps, goes, waits, meets, polls, passes, spawns, asks, ends}
use Rattle.process_model.specs.Source.{Hears, goes_on, asks_again, is_over, Run, still, next, Matched, begun, turn, down, reply}
use Rattle.system_model.specs.Prints.{Printing, Answers, Requests, NoReply}
use Rattle.limbo_layout.specs.Adts.{Def}
use Rattle.limbo_typed.specs.Typed.{Module}
use Rattle.limbo_meaning.specs.Values.{Value}
use Rattle.limbo_meaning.specs.Trees.{Block}
use Rattle.limbo_meaning.specs.Program.{Routine, Program, program_of}
use Rattle.limbo_meaning.specs.Process.{Shared, Frame, Process, Does, prints, returns}
use Rattle.limbo_meaning.specs.Step.{step}
use Rattle.limbo_meaning.specs.Rules.{rules, naming}
use Rattle.limbo_meaning.specs.Runs.{Meaning, MeaningRun, first_process}
use Rattle.limbo_meaning.specs.Owning.{FreshProgram, OwnProcess}
use Rattle.limbo_meaning.proofs.Owning.{processes_own}
use Rattle.limbo_meaning.proofs.Steps as steps
use Rattle.limbo_meaning.proofs.Steps.{Made, made}
use Rattle.limbo_owned.specs.Owned.{OwnDoing, AllOwn, RunsOwn}

-- ---- lists of processes

abbrev Doings : Type 0
Doings = List (Doing Process Value)

abbrev EachOwns : Doings → Type 0
EachOwns ds = (i : ℕ) (d : Doing Process Value) → slice_get ds i ≡ Some d → OwnDoing d

set_cases : (ds : Doings) (i j : ℕ) (x y : Doing Process Value) → slice_get (set ds i x) j ≡ Some y → (x ≡ y) ⊎ (slice_get ds j ≡ Some y)
set_cases [] i j x y e = inr e
set_cases (a ∷ ds) zero zero x y e = inl cc
set_cases (a ∷ ds) zero (suc j) x y e = inr e
set_cases (a ∷ ds) (suc i) zero x y e = inr e
set_cases (a ∷ ds) (suc i) (suc j) x y e = set_cases ds i j x y e

owns_set : (ds : Doings) (i : ℕ) (x : Doing Process Value) → EachOwns ds → OwnDoing x → EachOwns (set ds i x)
owns_set ds i x own new j y e = elim (set_cases ds i j x y e) [ inl same ↦ subst OwnDoing same new | inr was ↦ own j y was ]

-- ---- the effects of a step

module _ (limit : ℕ) (program : Program) (w : Shared) (p : Process) where
  -- a process that waits is as it was; it never looks round, and starts none
  abbrev Stays : Does → Type 0
  Stays (Parks v bs q) = p ≡ q
  Stays (Polls v bs q r) = ⊥
  Stays (Spawns v child q) = ⊥
  Stays _ = Unit {0}

  stays_printed : (waits : Block) (printing : Printing) → Stays (prints w p waits printing)
  stays_printed todo (Answers o v) = tt
  stays_printed todo (Requests o m k) = tt
  stays_printed todo NoReply = refl

  stays_returned : (defs : List Def) (below : List Frame) (v : Value) → Stays (returns defs w p below v)
  stays_returned defs [] v = tt
  stays_returned defs (f ∷ below) v = tt

  stays_made : (e : Does) → Made limit program w p e → Stays e
  stays_made e steps.stood = refl
  stays_made e (steps.went_on todo) = tt
  stays_made e (steps.let_one_go r rs end is) = tt
  stays_made e (steps.made_step t t' m got todo is) = tt
  stays_made e (steps.called t r args todo is) = tt
  stays_made e (steps.overflowed is) = tt
  stays_made e (steps.printed todo printing) = stays_printed todo printing
  stays_made e (steps.raised t text is) = tt
  stays_made e (steps.returned v) = stays_returned program.adts p.below v

  stays : (e : Does) → step limit program w p ≡ e → Stays e
  stays e is = subst Stays is (stays_made (step limit program w p) (made limit program w p))

-- ---- steps, replies and runs

module _ (limit : ℕ) (program : Program) (fresh : FreshProgram program) where
  own_step : (c e : Meaning) (i : ℕ) → AllOwn c → Steps (rules limit program) naming c i e → AllOwn e
  own_step c e i0 own (goes i p w q at does) =
      owns_set c.processes i (Ready q) own (processes_own.goes limit program fresh c.world w p q (own i (Ready p) at) does)
  own_step c e i0 own (waits i p w bs q at does) =
      owns_set c.processes i (Waiting bs q) own
      (subst OwnProcess (stays limit program c.world p (Parks w bs q) does) (own i (Ready p) at))
  own_step c e i0 own (meets i p bs k a j l b q at branch fit) =
      owns_set (set c.processes i (Ready p)) j (Ready q) (owns_set c.processes i (Ready p) own (own i (Waiting bs p) at))
      (own j (Waiting fit.branches q) fit.waits)
  own_step c e i0 own (polls i p w bs q r k a j l b s at does branch fit) = absurd (stays limit program c.world p (Polls w bs q r) does)
  own_step c e i0 own (passes i p w bs q r at does none) = absurd (stays limit program c.world p (Polls w bs q r) does)
  own_step c e i0 own (spawns i p w child q at does) = absurd (stays limit program c.world p (Spawns w child q) does)
  own_step c e i0 own (asks i p w m q at does) =
      owns_set c.processes i (Asking q) own (processes_own.asks limit program fresh c.world w p q m (own i (Ready p) at) does)
  own_step c e i0 own (ends i p w how at does) = owns_set c.processes i Gone own tt

  own_reply : (c e : Meaning) (i : ℕ) (a : Rmsg) → AllOwn c → Hears (rules limit program) naming c i a e → AllOwn e
  own_reply c e i a own (goes_on p w q at does) =
      owns_set c.processes i (Ready q) own (processes_own.hears a c.world w p q (own i (Asking p) at) does)
  own_reply c e i a own (asks_again p w m q at does) =
      owns_set c.processes i (Asking q) own (processes_own.asks_again a c.world w p q m (own i (Asking p) at) does)
  own_reply c e i a own (is_over p w how at does) = owns_set c.processes i Gone own tt

  own_run : (i : ℕ) (c e : Meaning) (n : ℕ) → AllOwn c → Run (rules limit program) naming i c n e → AllOwn e
  own_run i c e n own still = own
  own_run i c e n own (next {d = d} run last) = own_step d e i (own_run i c d _ own run) last

  own_matched : (c e : Meaning) (turns : List Turn) → AllOwn c → Matched (rules limit program) naming c turns e → AllOwn e
  own_matched c e turns own begun = own
  own_matched c e turns own (turn {d = d} i n before run) = own_run i d e n (own_matched c d _ own before) run
  own_matched c e turns own (down {d = d} l w before lost) = absurd cc
  own_matched c e turns own (reply {d = d} i a before heard) = own_reply d e i a (own_matched c d _ own before) heard

-- ---- from the opening on

own_first : (m : Module) (words : List (List ℕ)) (f : ℕ) (r : Routine) → slice_get (program_of m).routines f ≡ Some r
    → EachOwns (Ready (first_process m words r) ∷ [])
own_first m words f r there zero d e =
    let same : Ready (first_process m words r) ≡ d = cc in
    subst OwnDoing same (processes_own.first m words r (processes_own.modules m f r there))
own_first m words f r there (suc i) d e = absurd cc

own_runs : (m : Module) (words : List (List ℕ)) (init : ℕ) (turns : List Turn) (c : Meaning) → MeaningRun m words init turns c → AllOwn c
own_runs m words init turns c r =
    own_matched _ (program_of m) (processes_own.modules m) _ c turns (own_first m words init r.first r.there) r.run

pub runs_own : RunsOwn
runs_own = record {
  opening = own_first;
  steps = own_step;
  replies = own_reply;
  onwards = own_matched;
  runs = own_runs;
  held = λ m words init turns c r i p at. processes_own.held p (own_runs m words init turns c r i (Ready p) at);
}
