-- What a program tells by itself is told of a run.
use Rattle.std.proofs.Common.{◌≡◌, ℕ, zero, suc, List, [], ◌∷◌, ◌++◌, refl}
use Rattle.styx_msg.specs.declared.message.Rmsg.{Rmsg}
use Rattle.process_model.specs.Process.{Went, Parks, Polls, Spawns, Asks, Ends, Doing, Ready, Asking, Replied}
use Rattle.process_model.specs.Source.{Turn, Matched, begun, turn, reply, Run, still, next, goes, asks, ends, goes_on}
use Rattle.process_model.specs.Law.{begins}
use Rattle.system_model.specs.Limits.{frames_limit}
use Rattle.limbo_meaning.specs.Values.{Value}
use Rattle.limbo_meaning.specs.Program.{Program, program_of}
use Rattle.limbo_meaning.specs.Process.{Shared, Process, Does}
use Rattle.limbo_meaning.specs.Step.{step, answer}
use Rattle.limbo_meaning.specs.Rules.{rules, naming}
use Rattle.limbo_meaning.specs.Runs.{Meaning, first_world, first_process}
use Rattle.limbo_meaning.specs.Alone.{Trace, after_reply, after_step, asking, alone, stands, reply_to, RunsCompute}

-- a configuration of one process
abbrev one : Doing Process Value → Shared → Trace → Meaning
one d w trace = record { processes = d ∷ []; world = w; trace = trace }

module _ (limit : ℕ) (program : Program) (first : Meaning) where
  -- reached from the first configuration
  record Reached (c : Meaning) : Type 0 where
    turns : List Turn
    run : Matched (rules limit program) naming first turns c

  abbrev Leads : (Meaning → Meaning) → Type 0
  Leads rest = (p : Process) (w : Shared) (trace : Trace) → Reached (one (Ready p) w trace) → Reached (rest (one (Ready p) w trace))

  replied : (rest : Meaning → Meaning) → Leads rest → (a : Rmsg) (p : Process) (w : Shared) (trace : Trace)
      → Reached (one (Asking p) w trace) → (e : Does) → answer a w p ≡ e → Reached (after_reply rest a (one (Asking p) w trace) e)
  replied rest on a p w trace r (Went v q) e =
      let after = stands (Ready q) v (trace ++ Replied 0 a ∷ []) in
      on q after.world after.trace (record { turns = r.turns; run = reply 0 a r.run (goes_on p v q refl e) })
  replied rest on a p w trace r (Parks v bs q) e = r
  replied rest on a p w trace r (Polls v bs q q') e = r
  replied rest on a p w trace r (Spawns v child q) e = r
  replied rest on a p w trace r (Asks v m q) e = r
  replied rest on a p w trace r (Ends v how) e = r

  one_turn : (c e : Meaning) → Reached c → Run (rules limit program) naming 0 c 1 e → Reached e
  one_turn c e r run = record { turns = r.turns ++ record { pid = 0; steps = 1 } ∷ []; run = turn 0 1 r.run run }

  did : (rest : Meaning → Meaning) → Leads rest → (p : Process) (w : Shared) (trace : Trace) → Reached (one (Ready p) w trace)
      → (e : Does) → step limit program w p ≡ e → Reached (after_step rest (one (Ready p) w trace) e)
  did rest on p w trace r (Went v q) e =
      let after = stands (Ready q) v trace in
      on q after.world after.trace (one_turn (one (Ready p) w trace) after r (next still (goes 0 p v q refl e)))
  did rest on p w trace r (Asks v m q) e =
      let after = asking q v m trace in
      replied rest on (reply_to m) q after.world after.trace
      (one_turn (one (Ready p) w trace) after r (next still (asks 0 p v m q refl e))) (answer (reply_to m) after.world q) refl
  did rest on p w trace r (Ends v how) e =
      one_turn (one (Ready p) w trace) _ r (next still (ends 0 p v how refl e))
  did rest on p w trace r (Parks v bs q) e = r
  did rest on p w trace r (Polls v bs q q') e = r
  did rest on p w trace r (Spawns v child q) e = r

  leads : (n : ℕ) → Leads (alone limit program n)
  leads zero p w trace r = r
  leads (suc n) p w trace r = did (alone limit program n) (leads n) p w trace r (step limit program w p) refl

pub runs_compute : RunsCompute
runs_compute m words init first there n =
    let w = first_world m words in
    let p = first_process m words first in
    let opening = begins w p in
    let reached = leads frames_limit (program_of m) opening n p w [] (record { turns = []; run = begun }) in
    record {
      turns = reached.turns;
      config = alone frames_limit (program_of m) n opening;
      run = record { first = first; there = there; run = reached.run };
      told = refl;
    }
