-- A process whose step is an end is gone after it.
use Rattle.std.proofs.Common.{◌≡◌, ℕ, List, Option, Some, refl, sym, ◌∙◌, subst}
use Rattle.std.specs.Prelude.{slice_get}
use Rattle.process_model.specs.Process.{Branch, Went, Parks, Polls, Spawns, Asks, Ends, Doing, Ready, Waiting, Gone}
use Rattle.process_model.specs.Source.{Steps, goes, waits, meets, polls, passes, spawns, asks, ends}
use Rattle.process_model.proofs.Lists.{set_same}
use Rattle.system_model.specs.Values.{Value}
use Rattle.typed_meaning.specs.World.{World}
use Rattle.system_model.specs.Ending.{Ending}
use Rattle.typed_meaning.specs.Program.{Routine}
use Rattle.typed_meaning.specs.Process.{Process, Does}
use Rattle.typed_meaning.specs.Step.{step}
use Rattle.typed_meaning.specs.Rules.{rules}
use Rattle.typed_meaning.specs.Runs.{Meaning}
use Rattle.typed_meaning.specs.Endings.{naming, EndsNameNothing}

-- an end, and no other effect
abbrev IsEnd : Does → Type 0
IsEnd (Ends v how) = Unit {0}
IsEnd _ = ⊥

abbrev standing : Doing Process Value → Option (Doing Process Value)
standing d = Some d

ready_same : (p q : Process) → standing (Ready p) ≡ standing (Ready q) → p ≡ q
ready_same p q e = cc

ready_not_waiting : (p q : Process) (bs : List (Branch Value)) → standing (Ready p) ≡ standing (Waiting bs q) → ⊥
ready_not_waiting p q bs e = absurd cc

module _ (limit : ℕ) (routines : List Routine) (c : Meaning) (i : ℕ) (p : Process) (v : World) (how : Ending)
    (there : slice_get c.processes i ≡ Some (Ready p)) (over : step limit routines c.world p ≡ Ends v how) where
  -- what stands there has this effect and no other
  only : (q : Process) (e : Does) → slice_get c.processes i ≡ Some (Ready q) → step limit routines c.world q ≡ e → IsEnd e
  only q e at does =
      let same : p ≡ q = ready_same p q (sym there ∙ at) in
      subst IsEnd (sym (subst (λ q. step limit routines c.world q ≡ Ends v how) same over) ∙ does) tt

  gone_after : (e : Meaning) → Steps (rules limit routines) naming c i e → slice_get e.processes i ≡ Some Gone
  gone_after e (goes i q w q' at does) = absurd (only q (Went w q') at does)
  gone_after e (waits i q w bs q' at does) = absurd (only q (Parks w bs q') at does)
  gone_after e (meets i q bs k a j l b r at branch fit) = absurd (ready_not_waiting p q bs (sym there ∙ at))
  gone_after e (polls i q w bs q' q'' k a j l b r at does branch fit) = absurd (only q (Polls w bs q' q'') at does)
  gone_after e (passes i q w bs q' q'' at does none) = absurd (only q (Polls w bs q' q'') at does)
  gone_after e (spawns i q w child q' at does) = absurd (only q (Spawns w child q') at does)
  gone_after e (asks i q w m q' at does) = absurd (only q (Asks w m q') at does)
  gone_after e (ends i q w its at does) = set_same c.processes i Gone (Ready q) at

pub ends_name_nothing : EndsNameNothing
ends_name_nothing = record {
  gone = λ limit routines c e i p v how there over step. gone_after limit routines c i p v how there over e step;
  nothing = λ n. refl;
}
