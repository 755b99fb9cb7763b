-- Each run of a middle code over one heap has a run of its source beside it.
use Rattle.std.proofs.Common.{◌≡◌, ℕ, zero, suc, ◌+◌, ◌<◌, ◌≤◌, List, [], ◌∷◌, ◌++◌, Option, Some, None, refl, sym, ap, ◌∙◌, subst, arith, ⊎_elim}
use Rattle.std.specs.Prelude.{slice_get}
use Rattle.std.proofs.Math.ListN.{set}
use Rattle.std.proofs.lemmas.Bool.{cases_eq}
use Rattle.process_model.specs.Process.{Branch, Parks, Polls, Spawns, Asks, Ends, Doing, Ready, Waiting, Asking, Gone, Rules, Entry, Requested, Replied, Over, Lost, released, passing, told, both_wake}
use Rattle.process_model.specs.Naming.{Naming, Still, names, total}
use Rattle.process_model.specs.Source as source
use Rattle.process_model.specs.Source.{Config, settled, Fitting, NoneFits, offering, meeting, Hears, goes_on, asks_again, is_over, Steps, goes, waits, meets, polls, passes, spawns, asks, ends, Run, still, next, Turn, Matched, begun, turn, down, reply}
use Rattle.process_model.specs.Shared.{SharedSides, SharedWaits, SharedMoves, SharedParking, SharedPolling, SharedSpawning, SharedAsking, SharedEnding, SharedMatches, SharedHeardOn, SharedHeardAgain, SharedHeardOver, SharedMatchesReply, SharedFollows}
use Rattle.process_model.proofs.Lists.{set_same, set_other, set_set, each_more}
use Rattle.process_model.proofs.Totals.{fun_ext, total_first}
use Rattle.process_model.proofs.Ranks.{rank, rank_set, rank_two, rank_more}
use Rattle.process_model.proofs.Runs.{at_place, burst_runs, comes_runs}
use Rattle.process_model.proofs.Quiet.{add, add_is}
use Rattle.process_runs.specs.Pace.{ahead, KeepsUp}
use Rattle.process_runs.specs.Runs.{Calm, Alike, Paired, RunsFollow, OpeningsPair, RunsAreCalm}
use Rattle.process_runs.proofs.Paces.{ahead_all, ahead_more, keeps_more, keeps_makers, ahead_moves}

module _ {W P D M A H : Type 0} (rules : Rules W P D M A H) (naming : Naming W P D) where
  -- one run behind another
  pub run_on : (i : ℕ) {c d e : Config W P D M A H} {n m : ℕ} → Run rules naming i c n d → Run rules naming i d m e → Run rules naming i c (add m n) e
  run_on i r still = r
  run_on i r (next s st) = next (run_on i r s) st

module _ {W Y P Q D M A H : Type 0} (s : SharedSides W Y P Q D M A H) (f : SharedFollows s) where
  -- ---- two that are alike

  ready_of : (o : Option (Doing P D)) (q : Q) → Alike s o (Some (Ready q)) → (p : P) × (o ≡ Some (Ready p)) × s.ready p q
  ready_of (Some (Ready p)) q a = (p, refl, a)
  ready_of (Some (Waiting bs p)) q a = absurd a
  ready_of (Some (Asking p)) q a = absurd a
  ready_of (Some Gone) q a = absurd a
  ready_of None q a = absurd a

  asking_of : (o : Option (Doing P D)) (q : Q) → Alike s o (Some (Asking q)) → (p : P) × (o ≡ Some (Asking p)) × s.asking p q
  asking_of (Some (Asking p)) q a = (p, refl, a)
  asking_of (Some (Ready p)) q a = absurd a
  asking_of (Some (Waiting bs p)) q a = absurd a
  asking_of (Some Gone) q a = absurd a
  asking_of None q a = absurd a

  waiting_of : (o : Option (Doing P D)) (cs : List (Branch D)) (q : Q) → Alike s o (Some (Waiting cs q)) → (p : P) × (o ≡ Some (Waiting cs p)) × SharedWaits s cs p q
  waiting_of (Some (Waiting bs p)) cs q a = (p, ap (λ bs. Some (Waiting bs p)) a.0, a.1)
  waiting_of (Some (Ready p)) cs q a = absurd a
  waiting_of (Some (Asking p)) cs q a = absurd a
  waiting_of (Some Gone) cs q a = absurd a
  waiting_of None cs q a = absurd a

  waiting_to : (bs : List (Branch D)) (p : P) (o : Option (Doing Q D)) → Alike s (Some (Waiting bs p)) o → (q : Q) × (o ≡ Some (Waiting bs q))
  waiting_to bs p (Some (Waiting cs q)) a = (q, ap (λ cs. Some (Waiting cs q)) (sym a.0))
  waiting_to bs p (Some (Ready q)) a = absurd a
  waiting_to bs p (Some (Asking q)) a = absurd a
  waiting_to bs p (Some Gone) a = absurd a
  waiting_to bs p None a = absurd a

  no_more : (e : Doing Q D) → Alike s None (Some e) → ⊥
  no_more e a = a

  no_less : (d : Doing P D) → Alike s (Some d) None → ⊥
  no_less (Ready p) a = a
  no_less (Waiting bs p) a = a
  no_less (Asking p) a = a
  no_less Gone a = a

  pub rank_within : (o : Option (Doing P D)) (o' : Option (Doing Q D)) → Alike s o o' → rank f.place o' < f.bound
  rank_within (Some (Ready p)) (Some (Ready q)) a = f.within p q a
  rank_within (Some (Waiting bs p)) (Some (Waiting cs q)) a = f.some
  rank_within (Some (Asking p)) (Some (Asking q)) a = f.some
  rank_within (Some Gone) (Some Gone) a = f.some
  rank_within None None a = f.some
  rank_within _ _ a = absurd a

  -- they name the same, equally often
  names_same : (d : Doing P D) (e : Doing Q D) → Alike s (Some d) (Some e) → (n : ℕ) → names s.naming d n ≡ names s.code_naming e n
  names_same (Ready p) (Ready q) a n = f.heap.names p q a n
  names_same (Waiting bs p) (Waiting cs q) a n = let x = a.1.names n in let y = f.heap.holds cs n in let z = ap (λ bs. s.naming.holds bs n) a.0 in omega arith
  names_same (Asking p) (Asking q) a n = f.heap.names_asking p q a n
  names_same Gone Gone a n = refl
  names_same _ _ a n = absurd a

  abbrev Each : List (Doing P D) → List (Doing Q D) → Type 0
  Each ps qs = (j : ℕ) → Alike s (slice_get ps j) (slice_get qs j)

  total_at : (ps : List (Doing P D)) (qs : List (Doing Q D)) → Each ps qs → (n : ℕ) → total s.naming ps n ≡ total s.code_naming qs n
  total_at [] [] h n = refl
  total_at (d ∷ ps) (e ∷ qs) h n = let a = names_same d e (h 0) n in let b = total_at ps qs (λ j. h (suc j)) n in omega arith
  total_at [] (e ∷ qs) h n = absurd (no_more e (h 0))
  total_at (d ∷ ps) [] h n = absurd (no_less d (h 0))

  total_same : (ps : List (Doing P D)) (qs : List (Doing Q D)) → Each ps qs → total s.naming ps ≡ total s.code_naming qs
  total_same ps qs h = fun_ext (total_at ps qs h)

  -- nothing goes from the one world where nothing goes from the other
  from_code : (w : W) (y : Y) (g g' : ℕ → ℕ) → g ≡ g' → s.worlds w y → Still s.code_naming g' y → Still s.naming g w
  from_code w y g g' e h st =
      let none = f.heap.gone g w y h ∙ ap (λ (g : ℕ → ℕ). s.code_naming.gone g y) e ∙ st.none in
      record { kept = f.heap.kept g w y h none; none = none }

  pub to_code : (w : W) (y : Y) (g g' : ℕ → ℕ) → g ≡ g' → s.worlds w y → Still s.naming g w → Still s.code_naming g' y
  to_code w y g g' e h st =
      let none = sym (f.heap.gone g' w y h) ∙ ap (λ (g : ℕ → ℕ). s.naming.gone g w) (sym e) ∙ st.none in
      record { kept = f.heap.kept_too g' w y h none; none = none }

  -- both heaps without what nobody names
  settled_both : (i : ℕ) (ps : List (Doing P D)) (qs : List (Doing Q D)) (w : W) (y : Y) (t t' : List (Entry D M A H)) → Each ps qs → s.worlds w y → t ≡ t' →
      Paired s (settled s.naming i ps w t) (settled s.code_naming i qs y t')
  settled_both i ps qs w y t t' h v e =
      let same = total_same ps qs h in
      let g = total s.naming ps in
      record {
        processes = h;
        worlds = subst (λ (g' : ℕ → ℕ). s.worlds (s.naming.trim g w) (s.code_naming.trim g' y)) same (f.heap.trim g w y v);
        trace =
            ap (λ t. t ++ released i (s.naming.gone g w)) e
            ∙ ap (λ ns. t' ++ released i ns) (f.heap.gone g w y v ∙ ap (λ (g : ℕ → ℕ). s.code_naming.gone g y) same);
        still = f.heap.still g w y v;
      }

  -- one of the processes changed on both sides
  each_set : (ps : List (Doing P D)) (qs : List (Doing Q D)) (i : ℕ) (d d0 : Doing P D) (e e0 : Doing Q D) → slice_get ps i ≡ Some d0 → slice_get qs i ≡ Some e0 → Each ps qs → Alike s (Some d) (Some e) → Each (set ps i d) (set qs i e)
  each_set ps qs i d d0 e e0 m m' h a j =
      ⊎_elim
      (λ (same : j ≡ i). subst (λ j. Alike s (slice_get (set ps i d) j) (slice_get (set qs i e) j)) (sym same)
      (subst (λ o. Alike s o (slice_get (set qs i e) i)) (sym (set_same ps i d d0 m))
      (subst (λ o. Alike s (Some d) o) (sym (set_same qs i e e0 m')) a)))
      (λ (ne : j ≡ i → ⊥).
      subst (λ o. Alike s o (slice_get (set qs i e) j)) (sym (set_other ps i j d ne))
      (subst (λ o. Alike s (slice_get ps j) o) (sym (set_other qs i j e ne)) (h j)))
      (cases_eq j i)

  -- ---- a step of process i of the middle code: some of the source's

  record Took (c : Config W P D M A H) (d : Config Y Q D M A H) (i n : ℕ) (e : Config Y Q D M A H) : Type 0 where
    config : Config W P D M A H
    steps : ℕ
    run : Run s.program s.naming i c steps config
    paired : Paired s config e
    others : (j : ℕ) → (j ≡ i → ⊥) → rank f.place (slice_get d.processes j) ≤ rank f.place (slice_get e.processes j)
    moved : steps ≡ 0 → rank f.place (slice_get d.processes i) + n ≤ rank f.place (slice_get e.processes i)

  -- two meet on both sides
  meet_both : (c : Config W P D M A H) (d : Config Y Q D M A H) (i k : ℕ) (a : Branch D) (p : P) (q : Q) (j l : ℕ) (b : Branch D) (p2 : P) (q2 : Q) (bs cs : List (Branch D)) →
      Each c.processes d.processes → s.worlds c.world d.world → c.trace ≡ d.trace → (j ≡ i → ⊥) →
      slice_get c.processes i ≡ Some (Waiting bs p) → slice_get d.processes i ≡ Some (Waiting bs q) → SharedWaits s bs p q → slice_get bs k ≡ Some a →
      slice_get c.processes j ≡ Some (Waiting cs p2) → slice_get d.processes j ≡ Some (Waiting cs q2) → SharedWaits s cs p2 q2 → slice_get cs l ≡ Some b →
      Paired s (meeting s.program s.naming c i k a p j l b p2) (meeting s.code s.code_naming d i k a q j l b q2)
  meet_both c d i k a p q j l b p2 q2 bs cs h v e ne m m' u at n n' u' at' =
      let one = u.wakes k a (passing a b) c.world d.world at v in
      let other = u'.wakes l b (passing a b) _ _ at' one.alike in
      let g = both_wake s.program c.world k a p l b p2 in
      let g' = both_wake s.code d.world k a q l b q2 in
      settled_both i _ _ g.world g'.world _ _
      (each_set (set c.processes i (Ready g.one)) (set d.processes i (Ready g'.one)) j (Ready g.other) (Waiting cs p2) (Ready g'.other) (Waiting cs q2)
      (set_other c.processes i j (Ready g.one) ne ∙ n) (set_other d.processes i j (Ready g'.one) ne ∙ n')
      (each_set c.processes d.processes i (Ready g.one) (Waiting bs p) (Ready g'.one) (Waiting bs q) m m' h one.related)
      other.related)
      other.alike
      (ap (λ t. t ++ told i k a j l b ∷ []) e)

  -- whom the middle code may meet the source may
  fit_too : (c : Config W P D M A H) (d : Config Y Q D M A H) (i : ℕ) (a : Branch D) (j l : ℕ) (b : Branch D) (q : Q) → Each c.processes d.processes → (fit : Fitting d i a j l b q) →
      (p : P) × Fitting c i a j l b p × (slice_get c.processes j ≡ Some (Waiting fit.branches p)) × SharedWaits s fit.branches p q
  fit_too c d i a j l b q h fit =
      let o = waiting_of (slice_get c.processes j) fit.branches q (subst (λ o. Alike s (slice_get c.processes j) o) fit.waits (h j)) in
      (o.0, record { branches = fit.branches; waits = o.1; branch = fit.branch; fit = fit.fit; other = fit.other }, o.1, o.2)

  step_follows : (c : Config W P D M A H) (d e : Config Y Q D M A H) (i : ℕ) → Paired s c d → Steps s.code s.code_naming d i e → Took c d i 1 e
  step_follows c d e0 i0 h (goes i q y q' at does) =
      let r = ready_of (slice_get c.processes i) q (subst (λ o. Alike s (slice_get c.processes i) o) at (h.processes i)) in
      let m : SharedMoves s f.place (f.place q) c.world r.0 y q' = subst (λ e. SharedMatches s f.place (f.place q) c.world r.0 e) does (f.each c.world d.world r.0 q r.2 h.worlds) in
      record {
        config = settled s.naming i (set c.processes i (Ready m.after)) m.world c.trace;
        steps = m.steps;
        run = burst_runs s.program s.naming c i r.0 r.1 h.still m.burst;
        paired = settled_both i (set c.processes i (Ready m.after)) (set d.processes i (Ready q')) m.world y c.trace d.trace (each_set c.processes d.processes i (Ready m.after) (Ready r.0) (Ready q') (Ready q) r.1 at h.processes m.related) m.worlds h.trace;
        others = λ j ne. rank_set f.place d.processes i j (Ready q') ne;
        moved = λ z. subst (λ o. rank f.place o + 1 ≤ rank f.place (slice_get (set d.processes i (Ready q')) i)) (sym at) (subst (λ o. f.place q + 1 ≤ rank f.place o) (sym (set_same d.processes i (Ready q') (Ready q) at)) (let l = m.pace z in omega arith));
      }
  step_follows c d e0 i0 h (waits i q y bs q' at does) =
      let r = ready_of (slice_get c.processes i) q (subst (λ o. Alike s (slice_get c.processes i) o) at (h.processes i)) in
      let m : SharedParking s c.world r.0 y bs q' = subst (λ e. SharedMatches s f.place (f.place q) c.world r.0 e) does (f.each c.world d.world r.0 q r.2 h.worlds) in
      let ps = c.processes in
      let r0 = comes_runs s.program s.naming c i r.0 r.1 h.still (Parks m.world bs m.after) m.comes in
      let r1 = next r0 (source.waits i m.comes.before m.world bs m.after (set_same ps i (Ready m.comes.before) (Ready r.0) r.1) m.comes.does) in
      record {
        config = settled s.naming i (set ps i (Waiting bs m.after)) m.world c.trace;
        steps = suc m.comes.steps;
        run = subst (λ l. Run s.program s.naming i c (suc m.comes.steps) (settled s.naming i l m.world c.trace)) (set_set ps i (Ready m.comes.before) (Waiting bs m.after)) r1;
        paired = settled_both i (set ps i (Waiting bs m.after)) (set d.processes i (Waiting bs q')) m.world y c.trace d.trace (each_set ps d.processes i (Waiting bs m.after) (Ready r.0) (Waiting bs q') (Ready q) r.1 at h.processes (refl, m.waits)) m.worlds h.trace;
        others = λ j ne. rank_set f.place d.processes i j (Waiting bs q') ne;
        moved = λ z. absurd (omega arith);
      }
  step_follows c d e0 i0 h (meets i q bs k a j l b q2 at branch fit) =
      let o = waiting_of (slice_get c.processes i) bs q (subst (λ o. Alike s (slice_get c.processes i) o) at (h.processes i)) in
      let t = fit_too c d i a j l b q2 h.processes fit in
      record {
        config = meeting s.program s.naming c i k a o.0 j l b t.0;
        steps = 1;
        run = next still (source.meets i o.0 bs k a j l b t.0 o.1 branch t.1);
        paired = meet_both c d i k a o.0 q j l b t.0 q2 bs fit.branches h.processes h.worlds h.trace fit.other o.1 at o.2 branch t.2 fit.waits t.3 fit.branch;
        others = λ z ne. rank_two f.place d.processes i j z _ _ fit.branches q2 fit.waits ne;
        moved = λ z. absurd (omega arith);
      }
  step_follows c d e0 i0 h (polls i q y bs q' q'' k a j l b q2 at does branch fit) =
      let r = ready_of (slice_get c.processes i) q (subst (λ o. Alike s (slice_get c.processes i) o) at (h.processes i)) in
      let m : SharedPolling s c.world r.0 y bs q' q'' = subst (λ e. SharedMatches s f.place (f.place q) c.world r.0 e) does (f.each c.world d.world r.0 q r.2 h.worlds) in
      let ps = c.processes in
      let off : set (set ps i (Ready m.comes.before)) i (Waiting bs m.after) ≡ set ps i (Waiting bs m.after) = set_set ps i (Ready m.comes.before) (Waiting bs m.after) in
      let c' : Config W P D M A H = offering c i m.world bs m.after in
      let d' : Config Y Q D M A H = offering d i y bs q' in
      let each : Each c'.processes d'.processes = each_set ps d.processes i (Waiting bs m.after) (Ready r.0) (Waiting bs q') (Ready q) r.1 at h.processes (refl, m.waits) in
      let t = fit_too c' d' i a j l b q2 each fit in
      let r0 = comes_runs s.program s.naming c i r.0 r.1 h.still (Polls m.world bs m.after m.by_itself) m.comes in
      let r1 = next r0 (source.polls i m.comes.before m.world bs m.after m.by_itself k a j l b t.0 (set_same ps i (Ready m.comes.before) (Ready r.0) r.1) m.comes.does branch
      (subst (λ (ps : List (Doing P D)). Fitting (record { processes = ps; world = m.world; trace = c.trace }) i a j l b t.0) (sym off) t.1)) in
      record {
        config = meeting s.program s.naming c' i k a m.after j l b t.0;
        steps = suc m.comes.steps;
        run = subst (λ (ps : List (Doing P D)). Run s.program s.naming i c (suc m.comes.steps) (meeting s.program s.naming (record { processes = ps; world = m.world; trace = c.trace }) i k a m.after j l b t.0)) off r1;
        paired = meet_both c' d' i k a m.after q' j l b t.0 q2 bs fit.branches each m.worlds h.trace fit.other (set_same ps i (Waiting bs m.after) (Ready r.0) r.1) (set_same d.processes i (Waiting bs q') (Ready q) at) m.waits branch t.2 fit.waits t.3 fit.branch;
        others = λ z ne.
            let u = rank_set f.place d.processes i z (Waiting bs q') ne in
            let v = rank_two f.place (set d.processes i (Waiting bs q')) i j z (Ready (both_wake s.code y k a q' l b q2).one) (Ready (both_wake s.code y k a q' l b q2).other) fit.branches q2 fit.waits ne in
            omega arith;
        moved = λ z. absurd (omega arith);
      }
  step_follows c d e0 i0 h (passes i q y bs q' q'' at does none) =
      let r = ready_of (slice_get c.processes i) q (subst (λ o. Alike s (slice_get c.processes i) o) at (h.processes i)) in
      let m : SharedPolling s c.world r.0 y bs q' q'' = subst (λ e. SharedMatches s f.place (f.place q) c.world r.0 e) does (f.each c.world d.world r.0 q r.2 h.worlds) in
      let ps = c.processes in
      let cb = at_place s.program s.naming c i r.0 r.1 h.still m.comes.world m.comes.before in
      let nobody : NoneFits cb i bs = λ l theirs z ne e1 n a at1 l2 b at2.
      let e2 : slice_get ps l ≡ Some (Waiting theirs z) = sym (set_other ps i l (Ready m.comes.before) ne) ∙ e1 in
      let o = waiting_to theirs z (slice_get d.processes l) (subst (λ y. Alike s y (slice_get d.processes l)) e2 (h.processes l)) in
      none l theirs o.0 ne o.1 n a at1 l2 b at2 in
      let r0 = comes_runs s.program s.naming c i r.0 r.1 h.still (Polls m.world bs m.after m.by_itself) m.comes in
      let r1 = next r0 (source.passes i m.comes.before m.world bs m.after m.by_itself (set_same ps i (Ready m.comes.before) (Ready r.0) r.1) m.comes.does nobody) in
      record {
        config = settled s.naming i (set ps i (Ready m.by_itself)) m.world c.trace;
        steps = suc m.comes.steps;
        run = subst (λ l. Run s.program s.naming i c (suc m.comes.steps) (settled s.naming i l m.world c.trace)) (set_set ps i (Ready m.comes.before) (Ready m.by_itself)) r1;
        paired = settled_both i (set ps i (Ready m.by_itself)) (set d.processes i (Ready q'')) m.world y c.trace d.trace (each_set ps d.processes i (Ready m.by_itself) (Ready r.0) (Ready q'') (Ready q) r.1 at h.processes m.related) m.worlds h.trace;
        others = λ j ne. rank_set f.place d.processes i j (Ready q'') ne;
        moved = λ z. absurd (omega arith);
      }
  step_follows c d e0 i0 h (spawns i q y child q' at does) =
      let r = ready_of (slice_get c.processes i) q (subst (λ o. Alike s (slice_get c.processes i) o) at (h.processes i)) in
      let m : SharedSpawning s c.world r.0 y child q' = subst (λ e. SharedMatches s f.place (f.place q) c.world r.0 e) does (f.each c.world d.world r.0 q r.2 h.worlds) in
      let ps = c.processes in
      let r0 = comes_runs s.program s.naming c i r.0 r.1 h.still (Spawns m.world m.own m.after) m.comes in
      let r1 = next r0 (source.spawns i m.comes.before m.world m.own m.after (set_same ps i (Ready m.comes.before) (Ready r.0) r.1) m.comes.does) in
      record {
        config = settled s.naming i (set ps i (Ready m.after) ++ Ready m.own ∷ []) m.world c.trace;
        steps = suc m.comes.steps;
        run = subst (λ l. Run s.program s.naming i c (suc m.comes.steps) (settled s.naming i (l ++ Ready m.own ∷ []) m.world c.trace)) (set_set ps i (Ready m.comes.before) (Ready m.after)) r1;
        paired = settled_both i (set ps i (Ready m.after) ++ Ready m.own ∷ []) (set d.processes i (Ready q') ++ Ready child ∷ []) m.world y c.trace d.trace
            (each_more (λ j. Alike s) (λ j. no_more) (λ j. no_less) (set ps i (Ready m.after)) (set d.processes i (Ready q')) (Ready m.own) (Ready child) (each_set ps d.processes i (Ready m.after) (Ready r.0) (Ready q') (Ready q) r.1 at h.processes m.related) (λ j. m.related_child)) m.worlds h.trace;
        others = λ j ne. let u = rank_set f.place d.processes i j (Ready q') ne in let v = rank_more f.place (set d.processes i (Ready q')) j (Ready child) in omega arith;
        moved = λ z. absurd (omega arith);
      }
  step_follows c d e0 i0 h (asks i q y n q' at does) =
      let r = ready_of (slice_get c.processes i) q (subst (λ o. Alike s (slice_get c.processes i) o) at (h.processes i)) in
      let m : SharedAsking s c.world r.0 y n q' = subst (λ e. SharedMatches s f.place (f.place q) c.world r.0 e) does (f.each c.world d.world r.0 q r.2 h.worlds) in
      let ps = c.processes in
      let r0 = comes_runs s.program s.naming c i r.0 r.1 h.still (Asks m.world n m.after) m.comes in
      let r1 = next r0 (source.asks i m.comes.before m.world n m.after (set_same ps i (Ready m.comes.before) (Ready r.0) r.1) m.comes.does) in
      record {
        config = settled s.naming i (set ps i (Asking m.after)) m.world (c.trace ++ Requested i n ∷ []);
        steps = suc m.comes.steps;
        run = subst (λ l. Run s.program s.naming i c (suc m.comes.steps) (settled s.naming i l m.world (c.trace ++ Requested i n ∷ []))) (set_set ps i (Ready m.comes.before) (Asking m.after)) r1;
        paired = settled_both i (set ps i (Asking m.after)) (set d.processes i (Asking q')) m.world y (c.trace ++ Requested i n ∷ []) (d.trace ++ Requested i n ∷ []) (each_set ps d.processes i (Asking m.after) (Ready r.0) (Asking q') (Ready q) r.1 at h.processes m.related) m.worlds (ap (λ t. t ++ Requested i n ∷ []) h.trace);
        others = λ j ne. rank_set f.place d.processes i j (Asking q') ne;
        moved = λ z. absurd (omega arith);
      }
  step_follows c d e0 i0 h (ends i q y how at does) =
      let r = ready_of (slice_get c.processes i) q (subst (λ o. Alike s (slice_get c.processes i) o) at (h.processes i)) in
      let m : SharedEnding s c.world r.0 y how = subst (λ e. SharedMatches s f.place (f.place q) c.world r.0 e) does (f.each c.world d.world r.0 q r.2 h.worlds) in
      let ps = c.processes in
      let r0 = comes_runs s.program s.naming c i r.0 r.1 h.still (Ends m.world how) m.comes in
      let r1 = next r0 (source.ends i m.comes.before m.world how (set_same ps i (Ready m.comes.before) (Ready r.0) r.1) m.comes.does) in
      record {
        config = settled s.naming i (set ps i Gone) m.world (c.trace ++ Over i how ∷ []);
        steps = suc m.comes.steps;
        run = subst (λ l. Run s.program s.naming i c (suc m.comes.steps) (settled s.naming i l m.world (c.trace ++ Over i how ∷ []))) (set_set ps i (Ready m.comes.before) Gone) r1;
        paired = settled_both i (set ps i Gone) (set d.processes i Gone) m.world y (c.trace ++ Over i how ∷ []) (d.trace ++ Over i how ∷ []) (each_set ps d.processes i Gone (Ready r.0) Gone (Ready q) r.1 at h.processes tt) m.worlds (ap (λ t. t ++ Over i how ∷ []) h.trace);
        others = λ j ne. rank_set f.place d.processes i j Gone ne;
        moved = λ z. absurd (omega arith);
      }

  -- so many steps
  run_follows : (i : ℕ) (c : Config W P D M A H) (d e : Config Y Q D M A H) (n : ℕ) → Paired s c d → Run s.code s.code_naming i d n e → Took c d i n e
  run_follows i c d e n0 h still = record { config = c; steps = 0; run = still; paired = h; others = λ j ne. omega arith; moved = λ z. omega arith }
  run_follows i c d e n0 h (next {d = d1} {n = n} r st) =
      let a = run_follows i c d d1 n h r in
      let b = step_follows a.config d1 e i a.paired st in
      record {
        config = b.config;
        steps = add b.steps a.steps;
        run = run_on s.program s.naming i a.run b.run;
        paired = b.paired;
        others = λ j ne. let x = a.others j ne in let y = b.others j ne in omega arith;
        moved = λ z. let g = add_is b.steps a.steps in let x = a.moved (omega arith) in let y = b.moved (omega arith) in omega arith;
      }

  -- ---- a reply

  record Heard (c : Config W P D M A H) (d : Config Y Q D M A H) (i : ℕ) (a : A) (e : Config Y Q D M A H) : Type 0 where
    config : Config W P D M A H
    hears : Hears s.program s.naming c i a config
    paired : Paired s config e
    ranks : (j : ℕ) → rank f.place (slice_get d.processes j) ≤ rank f.place (slice_get e.processes j)

  rank_asked : (qs : List (Doing Q D)) (i : ℕ) (q : Q) (e : Doing Q D) → slice_get qs i ≡ Some (Asking q) → (j : ℕ) → rank f.place (slice_get qs j) ≤ rank f.place (slice_get (set qs i e) j)
  rank_asked qs i q e at j =
      ⊎_elim
      (λ (same : j ≡ i). subst (λ l. rank f.place (slice_get qs l) ≤ rank f.place (slice_get (set qs i e) j)) (sym same) (subst (λ o. rank f.place o ≤ rank f.place (slice_get (set qs i e) j)) (sym at) (omega arith)))
      (λ (ne : j ≡ i → ⊥). rank_set f.place qs i j e ne)
      (cases_eq j i)

  reply_follows : (c : Config W P D M A H) (d : Config Y Q D M A H) (i : ℕ) (a : A) (e : Config Y Q D M A H) → Paired s c d → Hears s.code s.code_naming d i a e → Heard c d i a e
  reply_follows c d i a e0 h (goes_on q y q' at does) =
      let r = asking_of (slice_get c.processes i) q (subst (λ o. Alike s (slice_get c.processes i) o) at (h.processes i)) in
      let m : SharedHeardOn s (s.program.answer a c.world r.0) y q' = subst (λ e. SharedMatchesReply s (s.program.answer a c.world r.0) e) does (f.answers a c.world d.world r.0 q r.2 h.worlds) in
      let es : List (Entry D M A H) = Replied i a ∷ [] in
      record {
        config = settled s.naming i (set c.processes i (Ready m.after)) m.world (c.trace ++ es);
        hears = source.goes_on r.0 m.world m.after r.1 m.does;
        paired = settled_both i (set c.processes i (Ready m.after)) (set d.processes i (Ready q')) m.world y (c.trace ++ es) (d.trace ++ es) (each_set c.processes d.processes i (Ready m.after) (Asking r.0) (Ready q') (Asking q) r.1 at h.processes m.related) m.worlds (ap (λ t. t ++ es) h.trace);
        ranks = rank_asked d.processes i q (Ready q') at;
      }
  reply_follows c d i a e0 h (asks_again q y n q' at does) =
      let r = asking_of (slice_get c.processes i) q (subst (λ o. Alike s (slice_get c.processes i) o) at (h.processes i)) in
      let m : SharedHeardAgain s (s.program.answer a c.world r.0) y n q' = subst (λ e. SharedMatchesReply s (s.program.answer a c.world r.0) e) does (f.answers a c.world d.world r.0 q r.2 h.worlds) in
      let es : List (Entry D M A H) = Replied i a ∷ Requested i n ∷ [] in
      record {
        config = settled s.naming i (set c.processes i (Asking m.after)) m.world (c.trace ++ es);
        hears = source.asks_again r.0 m.world n m.after r.1 m.does;
        paired = settled_both i (set c.processes i (Asking m.after)) (set d.processes i (Asking q')) m.world y (c.trace ++ es) (d.trace ++ es) (each_set c.processes d.processes i (Asking m.after) (Asking r.0) (Asking q') (Asking q) r.1 at h.processes m.related) m.worlds (ap (λ t. t ++ es) h.trace);
        ranks = rank_asked d.processes i q (Asking q') at;
      }
  reply_follows c d i a e0 h (is_over q y how at does) =
      let r = asking_of (slice_get c.processes i) q (subst (λ o. Alike s (slice_get c.processes i) o) at (h.processes i)) in
      let m : SharedHeardOver s (s.program.answer a c.world r.0) y how = subst (λ e. SharedMatchesReply s (s.program.answer a c.world r.0) e) does (f.answers a c.world d.world r.0 q r.2 h.worlds) in
      let es : List (Entry D M A H) = Replied i a ∷ Over i how ∷ [] in
      record {
        config = settled s.naming i (set c.processes i Gone) m.world (c.trace ++ es);
        hears = source.is_over r.0 m.world how r.1 m.does;
        paired = settled_both i (set c.processes i Gone) (set d.processes i Gone) m.world y (c.trace ++ es) (d.trace ++ es) (each_set c.processes d.processes i Gone (Asking r.0) Gone (Asking q) r.1 at h.processes tt) m.worlds (ap (λ t. t ++ es) h.trace);
        ranks = rank_asked d.processes i q Gone at;
      }

  -- ---- a whole run

  record Reaches (c : Config W P D M A H) (ts : List Turn) (e : Config Y Q D M A H) : Type 0 where
    turns : List Turn
    config : Config W P D M A H
    run : Matched s.program s.naming c turns config
    calm : Calm s.program s.naming run
    keeps_up : KeepsUp f.bound (λ j. 0) turns ts
    aheads : (j : ℕ) → ahead_all (λ j. 0) turns ts j ≤ rank f.place (slice_get e.processes j)
    paired : Paired s config e

  reach : (c : Config W P D M A H) (d e : Config Y Q D M A H) (ts : List Turn) → Paired s c d → (run : Matched s.code s.code_naming d ts e) → Calm s.code s.code_naming run → Reaches c ts e
  reach c d e ts0 h begun calm = record { turns = []; config = c; run = begun; calm = tt; keeps_up = tt; aheads = λ j. omega arith; paired = h }
  reach c d e ts0 h (turn {d = d1} {ts = ts} i n before run) calm =
      let a = reach c d d1 ts h before calm in
      let b = run_follows i a.config d1 e n a.paired run in
      let z = ahead_all (λ j. 0) a.turns ts in
      let u : Turn = record { pid = i; steps = b.steps } in
      let t : Turn = record { pid = i; steps = n } in
      let g : (j : ℕ) → ahead z u t j ≤ rank f.place (slice_get e.processes j) = λ j.
      ahead_moves z i b.steps n j (rank f.place (slice_get d1.processes j)) (rank f.place (slice_get e.processes j))
      (λ none same. subst (λ j. rank f.place (slice_get d1.processes j) + n ≤ rank f.place (slice_get e.processes j)) (sym same) (b.moved none)) (b.others j) (a.aheads j) in
      record {
        turns = a.turns ++ u ∷ [];
        config = b.config;
        run = turn i b.steps a.run b.run;
        calm = a.calm;
        keeps_up = keeps_more f.bound (λ j. 0) a.turns ts u t a.keeps_up refl (λ j. let x = g j in let w = rank_within (slice_get b.config.processes j) (slice_get e.processes j) (b.paired.processes j) in omega arith);
        aheads = λ j. subst (λ (k : ℕ → ℕ). k j ≤ rank f.place (slice_get e.processes j)) (sym (ahead_more f.bound (λ j. 0) a.turns ts u t a.keeps_up)) (g j);
        paired = b.paired;
      }
  reach c d e0 ts0 h (down {d = d1} {ts = ts} l y before does) calm =
      let a = reach c d d1 ts h before calm.0 in
      let v = f.downs l a.config.world d1.world y a.paired.worlds does in
      let same = total_same a.config.processes d1.processes a.paired.processes in
      record {
        turns = a.turns;
        config = source.lost l a.config v.0;
        run = down l v.0 a.run v.1;
        calm = (a.calm, λ named st. from_code v.0 y named named refl v.2 (calm.1 named (to_code a.config.world d1.world named named refl a.paired.worlds st)));
        keeps_up = a.keeps_up;
        aheads = a.aheads;
        paired = record {
          processes = a.paired.processes;
          worlds = v.2;
          trace = ap (λ t. t ++ Lost l ∷ []) a.paired.trace;
          still = from_code v.0 y _ _ same v.2 (calm.1 (total s.code_naming d1.processes) (to_code a.config.world d1.world _ _ same a.paired.worlds a.paired.still));
        };
      }
  reach c d e ts0 h (reply {d = d1} {ts = ts} i x before hears) calm =
      let a = reach c d d1 ts h before calm in
      let b = reply_follows a.config d1 i x e a.paired hears in
      record {
        turns = a.turns;
        config = b.config;
        run = reply i x a.run b.hears;
        calm = a.calm;
        keeps_up = a.keeps_up;
        aheads = λ j. let x = a.aheads j in let y = b.ranks j in omega arith;
        paired = b.paired;
      }

module _ {W Y P Q D M A H : Type 0} (s : SharedSides W Y P Q D M A H) where
  pub runs_follow : RunsFollow s
  runs_follow f c d e ts h run calm =
      let r = reach s f c d e ts h run calm in
      record { turns = r.turns; config = r.config; run = r.run; calm = r.calm; makers = keeps_makers f.bound (λ j. 0) r.turns ts r.keeps_up; keeps_up = r.keeps_up; paired = r.paired }

  pub openings_pair : OpeningsPair s
  openings_pair w y p q r h st = record {
    processes = at;
    worlds = h;
    trace = refl;
    still = subst (λ (g : ℕ → ℕ). Still s.naming g w) (sym (total_first s.naming p)) st;
  }
    where
      at : (j : ℕ) → Alike s (slice_get (Ready p ∷ []) j) (slice_get (Ready q ∷ []) j)
      at zero = r
      at (suc j) = tt

  pub runs_are_calm : RunsAreCalm s
  runs_are_calm quiet d e ts begun = tt
  runs_are_calm quiet d e ts0 (turn {d = d1} {ts = ts} i n before run) = runs_are_calm quiet d d1 ts before
  runs_are_calm quiet d e0 ts (down {d = d1} l y before does) = (runs_are_calm quiet d d1 ts before, quiet l d1.world y does)
  runs_are_calm quiet d e ts (reply {d = d1} i x before hears) = runs_are_calm quiet d d1 ts before
