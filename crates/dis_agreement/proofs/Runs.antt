-- Runs of both machines agree, instruction by instruction and event by event.
use Rattle.std.proofs.Common.{◌≡◌, ℕ, zero, suc, Bool, true, false, List, [], ◌∷◌, ◌++◌, refl, sym, ap, subst, ◌∙◌}
use Rattle.std.specs.Prelude.{Option, Some, None, slice_get, nat_lt, nat_eq, if◌then◌else◌}
use Rattle.styx_msg.specs.declared.message.Rmsg.{Rmsg}
use Rattle.process_model.specs.Process.{Went, Parks, Polls, Spawns, Asks, Ends, Doing, Ready, Waiting, Asking, Gone, Requested, Replied}
use Rattle.process_model.specs.Process.{Over}
use Rattle.process_model.specs.Machine as machine
use Rattle.process_model.specs.Machine.{Event, Quantum, Reply, Down}
use Rattle.process_model.specs.Plain.{no_names}
use Rattle.dis_file.specs.declared.object.Object.{Object}
use Rattle.system_model.specs.Values.{Value}
use Rattle.system_model.specs.Ending.{Ended, Broken, Faulted}
use Rattle.dis_meaning.specs.Process as process
use Rattle.dis_meaning.specs.Process.{Process}
use Rattle.dis_meaning.specs.Rules as today_rules
use Rattle.dis_meaning.specs.Step as step
use Rattle.dis_memory.specs.Control as control
use Rattle.dis_memory.specs.Naming.{naming}
use Rattle.dis_memory.specs.Process.{Does}
use Rattle.dis_memory.specs.Rules.{rules}
use Rattle.dis_memory.specs.Step as memory_step
use Rattle.dis_counts.specs.Counts.{Machine}
use Rattle.dis_counts.proofs.Exact.{events_keep_counts}
use Rattle.dis_agreement.specs.Agreement.{IsRight, SameDone}
use Rattle.dis_agreement.specs.Runs.{Today, NoFault, StatesAgree, ComesTo, TurnsAgree, RunsAgree}
use Rattle.dis_agreement.proofs.Traces.{no_fault_before, no_fault_behind}
use Rattle.dis_agreement.proofs.Together.{Near, near_of, near_ready, near_asking, near_gone, cut_agrees, process_agrees, does_near}
use Rattle.dis_agreement.proofs.Together.{does_right, does_back}
use Rattle.dis_agreement.proofs.Steps.{steps_agree}
use Rattle.dis_agreement.proofs.Answers.{answers_agree}

abbrev pub NextTurns : (limit : ℕ) → List Object → (i n : ℕ) → Option Today → Option Today
NextTurns limit objects i n o =
    elim o as (λ _. Option Today) [ None ↦ None | Some u ↦ machine.turns (today_rules.rules limit objects) no_names i n u ]

module _ (limit : ℕ) (objects : List Object) where
  -- ---- instructions

  abbrev pub obeyed : Today → (i : ℕ) → Option (Doing Process Value) → Option Today
  obeyed s i o = machine.obey (today_rules.rules limit objects) no_names s i (machine.ready o)

  abbrev pub obeys : Machine → (i : ℕ) → Option (Doing Process Value) → Option Machine
  obeys t i o = machine.obey (rules limit objects) naming t i (machine.ready o)

  pub obey_right : (i : ℕ) (s : Today) (t : Machine) (p : Process) → StatesAgree s t → slice_get s.processes i ≡ Some (Ready p)
      → IsRight (step.step limit objects s.world p)
      → ComesTo (obeys t i (slice_get t.processes i))
      (machine.cut no_names i (machine.does (today_rules.rules limit objects) s i (step.step limit objects s.world p)))
  obey_right i s t p a at right =
      let d = step.step limit objects s.world p in
      let done : SameDone d (memory_step.step limit objects t.world p) =
      steps_agree limit objects s.world t.world p (process_agrees s t i (Ready p) p a at (λ n q. q) (λ k. k)) right in
      let w = machine.does (rules limit objects) t i (memory_step.step limit objects t.world p) in
      let there : obeys t i (slice_get t.processes i) ≡ Some (machine.cut naming i w) =
      ap (λ o. obeys t i o) (ap (λ ps. slice_get ps i) a.processes ∙ at) in
      let turned : machine.turns (rules limit objects) naming i 1 t ≡ Some (machine.cut naming i w) =
      ap (λ o. elim o as (λ _. Option Machine) [ None ↦ None | Some u ↦ machine.turns (rules limit objects) naming i 0 u ]) there in
      record {
        after = machine.cut naming i w;
        is = there;
        agrees =
            cut_agrees i (machine.does (today_rules.rules limit objects) s i d) w
            (does_near limit objects i s t (near_of s t a) d (memory_step.step limit objects t.world p) done)
            (events_keep_counts.instructions limit objects t (machine.cut naming i w) i 1 a.counts turned);
      }

  obey_agrees : (i : ℕ) (s last : Today) (t : Machine) → StatesAgree s t → (o : Option (Doing Process Value)) → slice_get s.processes i ≡ o
      → obeyed s i o ≡ Some last → NoFault last.trace → ComesTo (obeys t i (slice_get t.processes i)) last
  obey_agrees i s last t a (Some (Ready p)) at e n =
      let d = step.step limit objects s.world p in
      let v = machine.does (today_rules.rules limit objects) s i d in
      let same : machine.cut no_names i v ≡ last = cc in
      let right : IsRight d = does_right limit objects i s d
      (no_fault_before v.trace [] (subst (λ (u : Today). NoFault u.trace) (sym same) n)) in
      subst (λ u. ComesTo (obeys t i (slice_get t.processes i)) u) same (obey_right i s t p a at right)
  obey_agrees i s last t a (Some (Waiting bs p)) at e n = absurd cc
  obey_agrees i s last t a (Some (Asking p)) at e n = absurd cc
  obey_agrees i s last t a (Some Gone) at e n = absurd cc
  obey_agrees i s last t a None at e n = absurd cc

  obey_back : (i : ℕ) (s last : Today) (o : Option (Doing Process Value)) → obeyed s i o ≡ Some last → NoFault last.trace → NoFault s.trace
  obey_back i s last (Some (Ready p)) e n =
      let d = step.step limit objects s.world p in
      let v = machine.does (today_rules.rules limit objects) s i d in
      let same : machine.cut no_names i v ≡ last = cc in
      does_back limit objects i s d (no_fault_before v.trace [] (subst (λ (u : Today). NoFault u.trace) (sym same) n))
  obey_back i s last (Some (Waiting bs p)) e n = absurd cc
  obey_back i s last (Some (Asking p)) e n = absurd cc
  obey_back i s last (Some Gone) e n = absurd cc
  obey_back i s last None e n = absurd cc

  turns_back : (k i : ℕ) (s last : Today) → machine.turns (today_rules.rules limit objects) no_names i k s ≡ Some last → NoFault last.trace
      → NoFault s.trace
  turns_back zero i s last e n = let q : s ≡ last = cc in subst (λ (u : Today). NoFault u.trace) (sym q) n
  turns_back (suc k) i s last e n = go (λ u e. turns_back k i u last e n) (obeyed s i (slice_get s.processes i)) refl e
    where
      go : ((u : Today) → machine.turns (today_rules.rules limit objects) no_names i k u ≡ Some last → NoFault u.trace) → (o : Option Today)
          → obeyed s i (slice_get s.processes i) ≡ o → NextTurns limit objects i k o ≡ Some last → NoFault s.trace
      go again None f e = absurd cc
      go again (Some u) f e = obey_back i s u (slice_get s.processes i) f (again u e)

  turns_follow : (k i : ℕ) (s last : Today) (t : Machine) → StatesAgree s t
      → machine.turns (today_rules.rules limit objects) no_names i k s ≡ Some last → NoFault last.trace
      → ComesTo (machine.turns (rules limit objects) naming i k t) last
  turns_follow zero i s last t a e n =
      let q : s ≡ last = cc in record { after = t; is = refl; agrees = subst (λ u. StatesAgree u t) q a }
  turns_follow (suc k) i s last t a e n =
      go (λ u v b e. turns_follow k i u last v b e n) (obeyed s i (slice_get s.processes i)) refl e
    where
      go : ((u : Today) (v : Machine) → StatesAgree u v → machine.turns (today_rules.rules limit objects) no_names i k u ≡ Some last
          → ComesTo (machine.turns (rules limit objects) naming i k v) last)
          → (o : Option Today) → obeyed s i (slice_get s.processes i) ≡ o → NextTurns limit objects i k o ≡ Some last
          → ComesTo (machine.turns (rules limit objects) naming i (suc k) t) last
      go again None f e = absurd cc
      go again (Some u) f e =
          let h = obey_agrees i s u t a (slice_get s.processes i) refl f (turns_back k i u last e n) in
          let g = again u h.after h.agrees e in
          record {
            after = g.after;
            is =
                ap (λ o. elim o as (λ _. Option Machine) [ None ↦ None | Some u ↦ machine.turns (rules limit objects) naming i k u ]) h.is
                ∙ g.is;
            agrees = g.agrees;
          }

  -- ---- replies

  record Answered (o : Option Machine) (v : Today) : Type 0 where
    after : Machine
    is : o ≡ Some after
    near : Near v after

  answered_is : (v u : Today) (w : Machine) → Some u ≡ Some v → Near u w → Answered (Some w) v
  answered_is v u w e n = record { after = w; is = refl; near = subst (λ u. Near u w) (let z : u ≡ v = cc in z) n }

  answered_near : (s v : Today) (t : Machine) → Near s t → (i : ℕ) (a : Rmsg) (d : process.Does) (e : Does) → SameDone d e
      → machine.answered s i a d ≡ Some v → Answered (machine.answered t i a e) v
  answered_near s v t n i a (Went x p) (Went y q) r e =
      answered_is v _ _ e (near_ready s t n i a x y p q r)
  answered_near s v t n i a (Asks x m p) (Asks y asked q) r e =
      answered_is v _ _ e (near_asking s t n i a x y m asked p q r)
  answered_near s v t n i a (Ends x how) (Ends y other) r e =
      answered_is v _ _ e (near_gone s t n i a x y how other r)
  answered_near s v t n i a (Parks x bs p) (Parks y cs q) r e = absurd cc
  answered_near s v t n i a d e r f = absurd r

  answered_right : (s v : Today) (i : ℕ) (a : Rmsg) (d : process.Does) → machine.answered s i a d ≡ Some v → NoFault v.trace → IsRight d
  answered_right s v i a (Ends x (Faulted number pc)) e n =
      let same : s.trace ++ Replied i a ∷ Over i (Faulted number pc) ∷ [] ≡ v.trace = cc in
      no_fault_behind s.trace (Replied i a ∷ Over i (Faulted number pc) ∷ []) (subst (λ u. NoFault u) (sym same) n)
  answered_right s v i a (Ends x Ended) e n = tt
  answered_right s v i a (Ends x (Broken text)) e n = tt
  answered_right s v i a d e n = tt

  answered_back : (s v : Today) (i : ℕ) (a : Rmsg) (d : process.Does) → machine.answered s i a d ≡ Some v → NoFault v.trace
      → NoFault s.trace
  answered_back s v i a (Went x p) e n =
      let same : s.trace ++ Replied i a ∷ [] ≡ v.trace = cc in
      no_fault_before s.trace (Replied i a ∷ []) (subst (λ u. NoFault u) (sym same) n)
  answered_back s v i a (Asks x m p) e n =
      let same : s.trace ++ Replied i a ∷ Requested i m ∷ [] ≡ v.trace = cc in
      no_fault_before s.trace (Replied i a ∷ Requested i m ∷ []) (subst (λ u. NoFault u) (sym same) n)
  answered_back s v i a (Ends x how) e n =
      let same : s.trace ++ Replied i a ∷ Over i how ∷ [] ≡ v.trace = cc in
      no_fault_before s.trace (Replied i a ∷ Over i how ∷ []) (subst (λ u. NoFault u) (sym same) n)
  answered_back s v i a (Parks x bs p) e n = absurd cc
  answered_back s v i a (Polls x bs p q) e n = absurd cc
  answered_back s v i a (Spawns x child p) e n = absurd cc

  abbrev pub cut_today : (i : ℕ) → Option Today → Option Today
  cut_today i o = elim o as (λ _. Option Today) [ None ↦ None | Some u ↦ Some (machine.cut no_names i u) ]

  abbrev pub cut_memory : (i : ℕ) → Option Machine → Option Machine
  cut_memory i o = elim o as (λ _. Option Machine) [ None ↦ None | Some u ↦ Some (machine.cut naming i u) ]

  abbrev pub reply_today : Today → (i : ℕ) → Rmsg → Option (Doing Process Value) → Option Today
  reply_today s i a o = machine.replied (today_rules.rules limit objects) no_names s i a o

  abbrev pub reply_memory : Machine → (i : ℕ) → Rmsg → Option (Doing Process Value) → Option Machine
  reply_memory t i a o = machine.replied (rules limit objects) naming t i a o

  -- What stands before the cut, of what stands behind it.
  before_cut : (i : ℕ) (v last : Today) → Some (machine.cut no_names i v) ≡ Some last → NoFault last.trace → NoFault v.trace
  before_cut i v last e n =
      let same : machine.cut no_names i v ≡ last = cc in
      no_fault_before v.trace [] (subst (λ (u : Today). NoFault u.trace) (sym same) n)

  replied_agrees : (longest : ℕ) (i : ℕ) (r : Rmsg) (s last : Today) (t : Machine) → StatesAgree s t → (o : Option (Doing Process Value))
      → slice_get s.processes i ≡ o → reply_today s i r o ≡ Some last → NoFault last.trace
      → ComesTo (reply_memory t i r (slice_get t.processes i)) last
  replied_agrees longest i r s last t a (Some (Asking p)) at e n = go (machine.answered s i r (step.answer r s.world p)) refl e
    where
      go : (o : Option Today) → machine.answered s i r (step.answer r s.world p) ≡ o → cut_today i o ≡ Some last
          → ComesTo (reply_memory t i r (slice_get t.processes i)) last
      go None f e = absurd cc
      go (Some v) f e =
          let d = step.answer r s.world p in
          let right : IsRight d = answered_right s v i r d f (before_cut i v last e n) in
          let done : SameDone d (control.answer r t.world p) =
          answers_agree r s.world t.world p (process_agrees s t i (Asking p) p a at (λ n q. q) (λ k. k)) right in
          let g = answered_near s v t (near_of s t a) i r d (control.answer r t.world p) done f in
          let is : reply_memory t i r (slice_get t.processes i) ≡ Some (machine.cut naming i g.after) =
          ap (λ o. reply_memory t i r o) (ap (λ ps. slice_get ps i) a.processes ∙ at) ∙ ap (λ o. cut_memory i o) g.is in
          record {
            after = machine.cut naming i g.after;
            is = is;
            agrees =
                subst (λ u. StatesAgree u (machine.cut naming i g.after)) (let z : machine.cut no_names i v ≡ last = cc in z)
                (cut_agrees i v g.after g.near
                (events_keep_counts.event limit longest objects t (machine.cut naming i g.after) (Reply i r) a.counts is));
          }
  replied_agrees longest i r s last t a (Some (Ready p)) at e n = absurd cc
  replied_agrees longest i r s last t a (Some (Waiting bs p)) at e n = absurd cc
  replied_agrees longest i r s last t a (Some Gone) at e n = absurd cc
  replied_agrees longest i r s last t a None at e n = absurd cc

  replied_back : (i : ℕ) (r : Rmsg) (s last : Today) (o : Option (Doing Process Value)) → reply_today s i r o ≡ Some last
      → NoFault last.trace
      → NoFault s.trace
  replied_back i r s last (Some (Asking p)) e n = go (machine.answered s i r (step.answer r s.world p)) refl e
    where
      go : (o : Option Today) → machine.answered s i r (step.answer r s.world p) ≡ o → cut_today i o ≡ Some last → NoFault s.trace
      go None f e = absurd cc
      go (Some v) f e = answered_back s v i r (step.answer r s.world p) f (before_cut i v last e n)
  replied_back i r s last (Some (Ready p)) e n = absurd cc
  replied_back i r s last (Some (Waiting bs p)) e n = absurd cc
  replied_back i r s last (Some Gone) e n = absurd cc
  replied_back i r s last None e n = absurd cc

  -- ---- events

  abbrev pub event_today : (longest : ℕ) → Today → Event Rmsg → Option Today
  event_today longest s e = machine.happens (today_rules.rules limit objects) no_names longest s e

  abbrev pub event_memory : (longest : ℕ) → Machine → Event Rmsg → Option Machine
  event_memory longest t e = machine.happens (rules limit objects) naming longest t e

  abbrev pub whole_today : (longest i n : ℕ) → Option Today → Option Today
  whole_today longest i n o = elim o as (λ _. Option Today) [ None ↦ None | Some u ↦ machine.is_whole longest i n u ]

  abbrev pub whole_memory : (longest i n : ℕ) → Option Machine → Option Machine
  whole_memory longest i n o = elim o as (λ _. Option Machine) [ None ↦ None | Some u ↦ machine.is_whole longest i n u ]

  -- A quantum is whole on both.
  is_whole_same : (longest i n : ℕ) (u last : Today) (v : Machine) → StatesAgree u v → machine.is_whole longest i n u ≡ Some last
      → ComesTo (machine.is_whole longest i n v) last
  is_whole_same longest i n u last v a e =
      subst (λ ps. ComesTo (wholes ps) last) (sym a.processes) (go (machine.ready (slice_get u.processes i)) e)
    where
      wholes : List (Doing Process Value) → Option Machine
      wholes ps =
          elim (machine.ready (slice_get ps i)) as
          (λ _. Option Machine) [ None ↦ Some v | Some p ↦ if nat_eq n longest then Some v else None ]

      agrees : u ≡ last → ComesTo (Some v) last
      agrees e = record { after = v; is = refl; agrees = subst (λ u. StatesAgree u v) e a }

      go : (o : Option Process)
          → (elim o as (λ _. Option Today) [ None ↦ Some u | Some p ↦ if nat_eq n longest then Some u else None ]) ≡ Some last
          → ComesTo (elim o as (λ _. Option Machine) [ None ↦ Some v | Some p ↦ if nat_eq n longest then Some v else None ]) last
      go None e = agrees cc
      go (Some p) e = full (nat_eq n longest) e
        where
          full : (b : Bool) → (if b then Some u else None) ≡ Some last → ComesTo (if b then Some v else None) last
          full true e = agrees cc
          full false e = absurd cc

  is_whole_is : (longest i n : ℕ) (u last : Today) → machine.is_whole longest i n u ≡ Some last → u ≡ last
  is_whole_is longest i n u last e = go (machine.ready (slice_get u.processes i)) e
    where
      go : (o : Option Process)
          → (elim o as (λ _. Option Today) [ None ↦ Some u | Some p ↦ if nat_eq n longest then Some u else None ]) ≡ Some last → u ≡ last
      go None e = cc
      go (Some p) e = full (nat_eq n longest) e
        where
          full : (b : Bool) → (if b then Some u else None) ≡ Some last → u ≡ last
          full true e = cc
          full false e = absurd cc

  pub event_agrees : (longest : ℕ) (e : Event Rmsg) (s last : Today) (t : Machine) → StatesAgree s t → event_today longest s e ≡ Some last
      → NoFault last.trace → ComesTo (event_memory longest t e) last
  event_agrees longest (Quantum i zero) s last t a e n = absurd cc
  event_agrees longest (Quantum i (suc k)) s last t a e n = fits (nat_lt longest (suc k)) e
    where
      inner : (o : Option Today) → machine.turns (today_rules.rules limit objects) no_names i (suc k) s ≡ o
          → whole_today longest i (suc k) o ≡ Some last
          → ComesTo (whole_memory longest i (suc k) (machine.turns (rules limit objects) naming i (suc k) t)) last
      inner None f e = absurd cc
      inner (Some u) f e =
          let same = is_whole_is longest i (suc k) u last e in
          let g = turns_follow (suc k) i s u t a f (subst (λ (u : Today). NoFault u.trace) (sym same) n) in
          let h = is_whole_same longest i (suc k) u last g.after g.agrees e in
          record { after = h.after; is = ap (λ o. whole_memory longest i (suc k) o) g.is ∙ h.is; agrees = h.agrees }

      fits : (b : Bool)
          → (if b then None else whole_today longest i (suc k)
          (machine.turns (today_rules.rules limit objects) no_names i (suc k) s)) ≡ Some last
          → ComesTo (if b then None else whole_memory longest i (suc k) (machine.turns (rules limit objects) naming i (suc k) t)) last
      fits true e = absurd cc
      fits false e = inner (machine.turns (today_rules.rules limit objects) no_names i (suc k) s) refl e
  event_agrees longest (Reply i r) s last t a e n = replied_agrees longest i r s last t a (slice_get s.processes i) refl e n
  event_agrees longest (Down l) s last t a e n = absurd cc

  event_back : (longest : ℕ) (e : Event Rmsg) (s last : Today) → event_today longest s e ≡ Some last → NoFault last.trace → NoFault s.trace
  event_back longest (Quantum i zero) s last e n = absurd cc
  event_back longest (Quantum i (suc k)) s last e n = fits (nat_lt longest (suc k)) e
    where
      inner : (o : Option Today) → machine.turns (today_rules.rules limit objects) no_names i (suc k) s ≡ o
          → whole_today longest i (suc k) o ≡ Some last
          → NoFault s.trace
      inner None f e = absurd cc
      inner (Some u) f e =
          turns_back (suc k) i s u f (subst (λ (u : Today). NoFault u.trace) (sym (is_whole_is longest i (suc k) u last e)) n)

      fits : (b : Bool)
          → (if b then None else whole_today longest i (suc k)
          (machine.turns (today_rules.rules limit objects) no_names i (suc k) s)) ≡ Some last
          → NoFault s.trace
      fits true e = absurd cc
      fits false e = inner (machine.turns (today_rules.rules limit objects) no_names i (suc k) s) refl e
  event_back longest (Reply i r) s last e n = replied_back i r s last (slice_get s.processes i) e n
  event_back longest (Down l) s last e n = absurd cc

  -- ---- journals

  abbrev pub rest_today : (longest : ℕ) → List (Event Rmsg) → Option Today → Option Today
  rest_today longest journal o =
      elim o as (λ _. Option Today) [ None ↦ None | Some u ↦ machine.replay (today_rules.rules limit objects) no_names longest u journal ]

  abbrev pub rest_memory : (longest : ℕ) → List (Event Rmsg) → Option Machine → Option Machine
  rest_memory longest journal o =
      elim o as (λ _. Option Machine) [ None ↦ None | Some u ↦ machine.replay (rules limit objects) naming longest u journal ]

  replay_back : (longest : ℕ) (journal : List (Event Rmsg)) (s last : Today)
      → machine.replay (today_rules.rules limit objects) no_names longest s journal ≡ Some last → NoFault last.trace → NoFault s.trace
  replay_back longest [] s last e n = let q : s ≡ last = cc in subst (λ (u : Today). NoFault u.trace) (sym q) n
  replay_back longest (v ∷ journal) s last e n = go (λ u e. replay_back longest journal u last e n) (event_today longest s v) refl e
    where
      go : ((u : Today) → machine.replay (today_rules.rules limit objects) no_names longest u journal ≡ Some last → NoFault u.trace)
          → (o : Option Today) → event_today longest s v ≡ o → rest_today longest journal o ≡ Some last → NoFault s.trace
      go again None f e = absurd cc
      go again (Some u) f e = event_back longest v s u f (again u e)

  replays : (longest : ℕ) (journal : List (Event Rmsg)) (s last : Today) (t : Machine) → StatesAgree s t
      → machine.replay (today_rules.rules limit objects) no_names longest s journal ≡ Some last → NoFault last.trace
      → ComesTo (machine.replay (rules limit objects) naming longest t journal) last
  replays longest [] s last t a e n =
      let q : s ≡ last = cc in record { after = t; is = refl; agrees = subst (λ u. StatesAgree u t) q a }
  replays longest (v ∷ journal) s last t a e n =
      go (λ u w b e. replays longest journal u last w b e n) (event_today longest s v) refl e
    where
      go : ((u : Today) (w : Machine) → StatesAgree u w
          → machine.replay (today_rules.rules limit objects) no_names longest u journal ≡ Some last
          → ComesTo (machine.replay (rules limit objects) naming longest w journal) last)
          → (o : Option Today) → event_today longest s v ≡ o → rest_today longest journal o ≡ Some last
          → ComesTo (machine.replay (rules limit objects) naming longest t (v ∷ journal)) last
      go again None f e = absurd cc
      go again (Some u) f e =
          let h = event_agrees longest v s u t a f (replay_back longest journal u last e n) in
          let g = again u h.after h.agrees e in
          record { after = g.after; is = ap (λ o. rest_memory longest journal o) h.is ∙ g.is; agrees = g.agrees }

pub turns_agree : TurnsAgree
turns_agree limit objects pid n s last t a e f = turns_follow limit objects n pid s last t a e f

pub runs_agree : RunsAgree
runs_agree limit longest objects journal s last t a e n = replays limit objects longest journal s last t a e n
