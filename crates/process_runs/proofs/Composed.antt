-- Two passes, one after the other, by their runs.
use Rattle.std.proofs.Common.{◌≡◌, ℕ, ◌*◌, List, Option, Some, None, sym, ◌∙◌, subst}
use Rattle.std.specs.Prelude.{slice_get}
use Rattle.process_model.specs.Process.{Branch, Doing, Ready, Waiting, Asking, Gone}
use Rattle.process_model.specs.Naming.{Still}
use Rattle.process_model.specs.Machine.{State, Event}
use Rattle.process_model.specs.Renaming.{SameTrace}
use Rattle.process_model.specs.Follows.{Sides, Follows, StandsAlike}
use Rattle.process_model.specs.Law.{begins, Beside, EveryJournal}
use Rattle.process_model.specs.Shared.{SharedSides, SharedWaits, SharedFollows}
use Rattle.process_model.specs.Passes.{through}
use Rattle.process_model.proofs.Passes.{over}
use Rattle.process_runs.specs.Runs.{Alike}
use Rattle.process_runs.specs.Composed.{JournalsComposed}
use Rattle.process_runs.proofs.Paces.{paces_multiply}
use Rattle.process_runs.proofs.Beside.{to_code, runs_follow, openings_pair}
use Rattle.process_runs.proofs.Calmly.{CalmBeside, every_calmly}

module _ {K W Y X P Q R D U M A H : Type 0} (first : SharedSides W Y P Q D M A H) (second : Sides K Y X Q R D U M A H) where
  abbrev whole : Sides K W X P R D U M A H
  whole = through first (over first second)

  -- a process of the middle code stands between
  alike_through : (k : K) (j : ℕ) (x : X) (o : Option (Doing P D)) (m : Option (Doing Q D)) (u : Option (Doing R U)) →
      Alike first o m → StandsAlike (over first second) k j x m u → StandsAlike whole k j x o u
  alike_through k j x None None None a b = tt
  alike_through k j x (Some (Ready p)) (Some (Ready q)) (Some (Ready r)) a b = (q, a, b)
  alike_through k j x (Some (Waiting bs p)) (Some (Waiting cs q)) (Some (Waiting ds r)) a b =
      (q, subst (λ (bs : List (Branch D)). SharedWaits first bs p q) (sym a.0) a.1, subst (λ (bs : List (Branch D)). second.waiting k j x bs ds q r) (sym a.0) b)
  alike_through k j x (Some (Asking p)) (Some (Asking q)) (Some (Asking r)) a b = (q, a, b)
  alike_through k j x (Some Gone) (Some Gone) (Some Gone) a b = tt
  alike_through k j x o (Some (Ready q)) (Some (Waiting ds r)) a b = absurd b
  alike_through k j x o (Some (Ready q)) (Some (Asking r)) a b = absurd b
  alike_through k j x o (Some (Ready q)) (Some Gone) a b = absurd b
  alike_through k j x o (Some (Ready q)) None a b = absurd b
  alike_through k j x o (Some (Waiting cs q)) (Some (Ready r)) a b = absurd b
  alike_through k j x o (Some (Waiting cs q)) (Some (Asking r)) a b = absurd b
  alike_through k j x o (Some (Waiting cs q)) (Some Gone) a b = absurd b
  alike_through k j x o (Some (Waiting cs q)) None a b = absurd b
  alike_through k j x o (Some (Asking q)) (Some (Ready r)) a b = absurd b
  alike_through k j x o (Some (Asking q)) (Some (Waiting ds r)) a b = absurd b
  alike_through k j x o (Some (Asking q)) (Some Gone) a b = absurd b
  alike_through k j x o (Some (Asking q)) None a b = absurd b
  alike_through k j x o (Some Gone) (Some (Ready r)) a b = absurd b
  alike_through k j x o (Some Gone) (Some (Waiting ds r)) a b = absurd b
  alike_through k j x o (Some Gone) (Some (Asking r)) a b = absurd b
  alike_through k j x o (Some Gone) None a b = absurd b
  alike_through k j x o None (Some e) a b = absurd b
  alike_through k j x (Some d) None u a b = absurd (none d a)
    where
      none : (d : Doing P D) → Alike first (Some d) None → ⊥
      none (Ready p) a = a
      none (Waiting bs p) a = a
      none (Asking p) a = a
      none Gone a = a
  alike_through k j x None (Some (Ready q)) (Some (Ready r)) a b = absurd a
  alike_through k j x _ _ _ a b = absurd a

  -- a run of the source beside one of the middle code, which is beside a journal
  both_beside : (f1 : SharedFollows first) (f2 : Follows (over first second)) (k : K) (w : W) (y : Y) (p : P) (q : Q) (journal : List (Event A)) (t : State X R U M A H) →
      first.ready p q → first.worlds w y → Still first.naming (first.naming.names p) w → CalmBeside (over first second) f2 k y q journal t → Beside whole k w p (f1.bound * f2.bound) journal t
  both_beside f1 f2 k w y p q journal t a b st c =
      let m = c.beside in
      let r = runs_follow first f1 (begins w p) (begins y q) m.config m.turns (openings_pair first w y p q a b st) m.run c.calm in
      record {
        now = m.now;
        grown = m.grown;
        config = r.config;
        turns = r.turns;
        run = r.run;
        makers = r.makers ∙ m.makers;
        paced = paces_multiply f1.bound f2.bound r.turns m.turns r.keeps_up m.paced;
        trace = subst (λ es. SameTrace second.map m.now es t.trace) (sym r.paired.trace) m.trace;
        processes = λ j. alike_through m.now j t.world (slice_get r.config.processes j) (slice_get m.config.processes j) (slice_get t.processes j) (r.paired.processes j) (m.processes j);
        worlds = (m.config.world, r.paired.worlds, m.worlds);
        still = r.paired.still;
      }

  -- the second pass, where its program and names are those of the first pass's code
  over_same : second.program ≡ first.code → second.naming ≡ first.code_naming → second ≡ over first second
  over_same middle named = λ i. record {
    map = second.map;
    program = middle i;
    naming = named i;
    code = second.code;
    code_naming = second.code_naming;
    ready = second.ready;
    asking = second.asking;
    waiting = second.waiting;
    worlds = second.worlds;
    holds = second.holds;
    changes = second.changes;
    leaves = second.leaves;
  }

  abbrev Composes : SharedFollows first → Sides K Y X Q R D U M A H → Type 0
  Composes f1 s =
      (f2 : Follows s) (k : K) (w : W) (y : Y) (x : X) (p : P) (q : Q) (r : R) →
      first.ready p q → s.ready k 0 x q r → first.worlds w y → s.worlds k y x → Still first.naming (first.naming.names p) w →
      EveryJournal (through first s) k w x p r (f1.bound * f2.bound)

  composes : (f1 : SharedFollows first) → Composes f1 (over first second)
  composes f1 f2 k w y x p q r a b c d st longest journal t e =
      let still = to_code first f1 w y (first.naming.names p) (first.code_naming.names q) (names_equal f1 p q a) c st in
      both_beside f1 f2 k w y p q journal t a c st (every_calmly (over first second) f2 k y x q r b d still longest journal t e)
    where
      names_equal : (f1 : SharedFollows first) (p : P) (q : Q) → first.ready p q → first.naming.names p ≡ first.code_naming.names q
      names_equal f1 p q a = λ i n. f1.heap.names p q a n i

  pub journals_composed : JournalsComposed first second
  journals_composed f1 f2 middle named =
      let h : Composes f1 second = subst (λ (s : Sides K Y X Q R D U M A H). Composes f1 s) (sym (over_same middle named)) (composes f1) in
      h f2
