-- In a run no process is ever higher than the limit.
use Rattle.std.proofs.Common.{◌≡◌, ℕ, ◌≤◌, List, arith}
use Rattle.process_model.specs.Process.{Went, Parks, Polls, Spawns, Asks, Ends}
use Rattle.process_model.specs.Law.{begins}
use Rattle.process_model.specs.Plain.{no_names}
use Rattle.system_model.specs.Limits.{frames_limit}
use Rattle.typed_meaning.specs.Program.{Routine, routines_of}
use Rattle.typed_meaning.specs.Process.{Process, Does, height}
use Rattle.typed_meaning.specs.Step.{step, answer}
use Rattle.typed_meaning.specs.Rules.{rules}
use Rattle.typed_meaning.specs.Runs.{first_world, first_process}
use Rattle.typed_meaning.specs.Heights.{IsLow, RunsStayLow, Kind, kind_of}
use Rattle.typed_meaning.proofs.Frames.{Grows, Stays, step_grows, answer_stays}
use Rattle.typed_meaning.proofs.Kept.{After, AfterReply, Keeps, all_at, kept_matched}

along : (limit a b : ℕ) → b ≡ a → a ≤ limit → b ≤ limit
along limit a b e h = omega (arith, e, h)

step_low : (limit : ℕ) (k : Kind) (p : Process) → height p ≤ limit → (e : Does) → Grows limit k p e → After (IsLow limit) e
step_low limit k p h (Went v q) g = g.1 h
step_low limit k p h (Asks v m q) g = along limit (height p) (height q) g h
step_low limit k p h (Parks v bs q) g = along limit (height p) (height q) g h
step_low limit k p h (Polls v bs q r) g = absurd g
step_low limit k p h (Spawns v c q) g = absurd g
step_low limit k p h (Ends v how) g = tt

answer_low : (limit : ℕ) (p : Process) → height p ≤ limit → (e : Does) → Stays p e → AfterReply (IsLow limit) e
answer_low limit p h (Went v q) g = along limit (height p) (height q) g h
answer_low limit p h (Asks v m q) g = along limit (height p) (height q) g h
answer_low limit p h (Parks v bs q) g = tt
answer_low limit p h (Polls v bs q r) g = tt
answer_low limit p h (Spawns v c q) g = tt
answer_low limit p h (Ends v how) g = tt

keeps_low : (limit : ℕ) (routines : List Routine) → Keeps (rules limit routines) no_names (IsLow limit)
keeps_low limit routines = record {
  step = λ w p h. step_low limit (kind_of w p) p h (step limit routines w p) (step_grows limit routines w p);
  wake = λ k v bs w p h. h;
  answer = λ a w p h. answer_low limit p h (answer a w p) (answer_stays a w p);
}

pub runs_stay_low : RunsStayLow
runs_stay_low m init turns c run i d e =
    let program = rules frames_limit (routines_of m) in
    let first = begins (first_world m) (first_process run.first) in
    let keeps = keeps_low frames_limit (routines_of m) in
    let kept = kept_matched program no_names (IsLow frames_limit) keeps first c turns run.run (omega arith, tt) in
    all_at program no_names (IsLow frames_limit) c.processes i d kept e
