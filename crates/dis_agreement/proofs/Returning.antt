-- And back: what the machine with memory replays, the machine of numbers does, where that one never faults.
use Rattle.std.proofs.Common.{◌≡◌, ℕ, zero, suc, ◌+◌, ◌≤◌, Bool, true, false, List, [], ◌∷◌, refl, sym, ap, subst, ◌∙◌, arith}
use Rattle.std.specs.Prelude.{Option, Some, None, slice_get, nat_lt, nat_eq, if◌then◌else◌}
use Rattle.std.proofs.lemmas.Bool.{ltb-false, le-ltb}
use Rattle.std.proofs.Math.ListN.{set}
use Rattle.styx_msg.specs.declared.message.Rmsg.{Rmsg}
use Rattle.process_model.specs.Process.{Went, Parks, Polls, Spawns, Asks, Ends, Doing, Ready, Waiting, Asking, Gone}
use Rattle.process_model.specs.Machine as machine
use Rattle.process_model.specs.Machine.{Event, Quantum, Reply, Down}
use Rattle.process_model.specs.Plain.{no_names}
use Rattle.dis_file.specs.declared.object.Object.{Object}
use Rattle.system_model.specs.Values.{Value}
use Rattle.system_model.specs.Ending.{Ended, Broken, Faulted}
use Rattle.dis_meaning.specs.Process as process
use Rattle.dis_meaning.specs.Process.{Process}
use Rattle.dis_meaning.specs.Rules as today_rules
use Rattle.dis_meaning.specs.Step as step
use Rattle.dis_memory.specs.Control as control
use Rattle.dis_memory.specs.Naming.{naming}
use Rattle.dis_memory.specs.Process.{Does}
use Rattle.dis_memory.specs.Rules.{rules}
use Rattle.dis_counts.specs.Counts.{Machine}
use Rattle.dis_agreement.specs.Agreement.{IsRight, SameDone}
use Rattle.dis_agreement.specs.Runs.{Today, NoFault, StatesAgree, NeverFaults, ComesAlike, RunsReturn}
use Rattle.dis_agreement.proofs.Traces.{no_fault_before}
use Rattle.dis_agreement.proofs.Together.{process_agrees, does_right}
use Rattle.dis_agreement.proofs.Answers.{answers_agree}
use Rattle.dis_agreement.proofs.Runs.{NextTurns, obeyed, obeys, obey_right, reply_today, reply_memory, cut_today, cut_memory}
use Rattle.dis_agreement.proofs.Runs.{event_today, event_memory, event_agrees, whole_today, whole_memory, rest_today, rest_memory}

-- A process that is gone isn't ready.
gone_rests : (ps : List (Doing Process Value)) (i : ℕ) → machine.ready (slice_get (set ps i Gone) i) ≡ None
gone_rests [] i = refl
gone_rests (d ∷ ps) zero = refl
gone_rests (d ∷ ps) (suc i) = gone_rests ps i

module _ (limit longest : ℕ) (objects : List Object) where
  -- ---- within a quantum

  turns_last : (j i : ℕ) (s u v : Today) → machine.turns (today_rules.rules limit objects) no_names i j s ≡ Some u
      → obeyed limit objects u i (slice_get u.processes i) ≡ Some v
      → machine.turns (today_rules.rules limit objects) no_names i (suc j) s ≡ Some v
  turns_last zero i s u v e f =
      let same : s ≡ u = cc in
      ap (λ o. NextTurns limit objects i 0 o)
      (subst (λ (u : Today). obeyed limit objects u i (slice_get u.processes i) ≡ Some v) (sym same) f)
  turns_last (suc j) i s u v e f =
      go (λ w e. turns_last j i w u v e f) (obeyed limit objects s i (slice_get s.processes i)) refl e
    where
      go : ((w : Today) → machine.turns (today_rules.rules limit objects) no_names i j w ≡ Some u
          → machine.turns (today_rules.rules limit objects) no_names i (suc j) w ≡ Some v)
          → (o : Option Today) → obeyed limit objects s i (slice_get s.processes i) ≡ o → NextTurns limit objects i j o ≡ Some u
          → machine.turns (today_rules.rules limit objects) no_names i (suc (suc j)) s ≡ Some v
      go again None g e = absurd cc
      go again (Some w) g e = ap (λ o. NextTurns limit objects i (suc j) o) g ∙ again w e

  -- An instruction that faults would end a quantum.
  quantum_right : (i j : ℕ) (s u : Today) (p : Process) → NeverFaults limit longest objects s
      → machine.turns (today_rules.rules limit objects) no_names i j s ≡ Some u → suc j ≤ longest → slice_get u.processes i ≡ Some (Ready p)
      → IsRight (step.step limit objects u.world p)
  quantum_right i j s u p never e l at = go (step.step limit objects u.world p) refl
    where
      go : (d : process.Does) → step.step limit objects u.world p ≡ d → IsRight d
      go (Ends x (Faulted number pc)) f =
          let v = machine.does (today_rules.rules limit objects) u i (Ends x (Faulted number pc)) in
          let w : Today = machine.cut no_names i v in
          let done : obeyed limit objects u i (slice_get u.processes i) ≡ Some w =
          ap (λ o. obeyed limit objects u i o) at
          ∙ ap (λ d. Some (machine.cut no_names i (machine.does (today_rules.rules limit objects) u i d))) f in
          let turned = turns_last j i s u w e done in
          let whole : machine.is_whole longest i (suc j) w ≡ Some w =
          ap (λ o. elim o as (λ _. Option Today) [ None ↦ Some w | Some p ↦ if nat_eq (suc j) longest then Some w else None ])
          (gone_rests u.processes i) in
          let happened : event_today limit objects longest s (Quantum i (suc j)) ≡ Some w =
          ap (λ b. if b then None else whole_today limit objects longest i (suc j)
          (machine.turns (today_rules.rules limit objects) no_names i (suc j) s)) (le-ltb longest (suc j) l)
          ∙ (ap (λ o. whole_today limit objects longest i (suc j) o) turned ∙ whole) in
          let n : NoFault w.trace = never (Quantum i (suc j) ∷ []) w (ap (λ o. rest_today limit objects longest [] o) happened) in
          does_right limit objects i u (Ends x (Faulted number pc)) (no_fault_before v.trace [] n)
      go (Ends x Ended) f = tt
      go (Ends x (Broken text)) f = tt
      go d f = tt

  record IsReady (o : Option (Doing Process Value)) : Type 0 where
    process : Process
    is : o ≡ Some (Ready process)

  ready_is : (t v : Machine) (i : ℕ) (o : Option (Doing Process Value)) → obeys limit objects t i o ≡ Some v → IsReady o
  ready_is t v i (Some (Ready p)) e = record { process = p; is = refl }
  ready_is t v i (Some (Waiting bs p)) e = absurd cc
  ready_is t v i (Some (Asking p)) e = absurd cc
  ready_is t v i (Some Gone) e = absurd cc
  ready_is t v i None e = absurd cc

  onward : (n i : ℕ) (u w : Today) (last : Machine) → obeyed limit objects u i (slice_get u.processes i) ≡ Some w
      → ComesAlike (machine.turns (today_rules.rules limit objects) no_names i n w) last
      → ComesAlike (machine.turns (today_rules.rules limit objects) no_names i (suc n) u) last
  onward n i u w last f k = record { after = k.after; is = ap (λ o. NextTurns limit objects i n o) f ∙ k.is; agrees = k.agrees }

  turns_return : (n i j : ℕ) (s u : Today) (t last : Machine) → NeverFaults limit longest objects s
      → machine.turns (today_rules.rules limit objects) no_names i j s ≡ Some u → j + n ≤ longest → StatesAgree u t
      → machine.turns (rules limit objects) naming i n t ≡ Some last
      → ComesAlike (machine.turns (today_rules.rules limit objects) no_names i n u) last
  turns_return zero i j s u t last never e l a f =
      let same : t ≡ last = cc in record { after = u; is = refl; agrees = subst (λ t. StatesAgree u t) same a }
  turns_return (suc n) i j s u t last never e l a f =
      go (λ w v e b f. turns_return n i (suc j) s w v last never e (omega arith) b f) (omega arith)
      (obeys limit objects t i (slice_get t.processes i)) refl f
    where
      go : ((w : Today) (v : Machine) → machine.turns (today_rules.rules limit objects) no_names i (suc j) s ≡ Some w → StatesAgree w v
          → machine.turns (rules limit objects) naming i n v ≡ Some last
          → ComesAlike (machine.turns (today_rules.rules limit objects) no_names i n w) last)
          → suc j ≤ longest → (o : Option Machine) → obeys limit objects t i (slice_get t.processes i) ≡ o
          → (elim o as (λ _. Option Machine) [ None ↦ None | Some v ↦ machine.turns (rules limit objects) naming i n v ]) ≡ Some last
          → ComesAlike (machine.turns (today_rules.rules limit objects) no_names i (suc n) u) last
      go again l None g f = absurd cc
      go again l (Some v) g f =
          let r = ready_is t v i (slice_get t.processes i) g in
          let at : slice_get u.processes i ≡ Some (Ready r.process) = sym (ap (λ ps. slice_get ps i) a.processes) ∙ r.is in
          let h = obey_right limit objects i u t r.process a at (quantum_right i j s u r.process never e l at) in
          let w : Today =
          machine.cut no_names i (machine.does (today_rules.rules limit objects) u i (step.step limit objects u.world r.process)) in
          let done : obeyed limit objects u i (slice_get u.processes i) ≡ Some w = ap (λ o. obeyed limit objects u i o) at in
          let b : Some h.after ≡ Some v = sym h.is ∙ g in
          let same : h.after ≡ v = cc in
          let k = again w v (turns_last j i s u w e done) (subst (λ v. StatesAgree w v) same h.agrees) f in
          onward n i u w last done k

  -- ---- events

  whole_back : (i n : ℕ) (u : Today) (v last : Machine) → StatesAgree u v → machine.is_whole longest i n v ≡ Some last
      → ComesAlike (machine.is_whole longest i n u) last
  whole_back i n u v last a e =
      go (machine.ready (slice_get u.processes i)) (subst (λ ps. wholes ps ≡ Some last) a.processes e)
    where
      wholes : List (Doing Process Value) → Option Machine
      wholes ps =
          elim (machine.ready (slice_get ps i)) as
          (λ _. Option Machine) [ None ↦ Some v | Some p ↦ if nat_eq n longest then Some v else None ]

      agrees : v ≡ last → ComesAlike (Some u) last
      agrees e = record { after = u; is = refl; agrees = subst (λ v. StatesAgree u v) e a }

      go : (o : Option Process)
          → (elim o as (λ _. Option Machine) [ None ↦ Some v | Some p ↦ if nat_eq n longest then Some v else None ]) ≡ Some last
          → ComesAlike (elim o as (λ _. Option Today) [ None ↦ Some u | Some p ↦ if nat_eq n longest then Some u else None ]) last
      go None e = agrees cc
      go (Some p) e = full (nat_eq n longest) e
        where
          full : (b : Bool) → (if b then Some v else None) ≡ Some last → ComesAlike (if b then Some u else None) last
          full true e = agrees cc
          full false e = absurd cc

  record IsAsking (o : Option (Doing Process Value)) : Type 0 where
    process : Process
    is : o ≡ Some (Asking process)

  asking_is : (t last : Machine) (i : ℕ) (r : Rmsg) (o : Option (Doing Process Value)) → reply_memory limit objects t i r o ≡ Some last
      → IsAsking o
  asking_is t last i r (Some (Asking p)) e = record { process = p; is = refl }
  asking_is t last i r (Some (Ready p)) e = absurd cc
  asking_is t last i r (Some (Waiting bs p)) e = absurd cc
  asking_is t last i r (Some Gone) e = absurd cc
  asking_is t last i r None e = absurd cc

  record Stands (o : Option Today) : Type 0 where
    after : Today
    is : o ≡ Some after

  -- A reply that the machine with memory may take, today's may take.
  may_answer : (s : Today) (t last : Machine) (i : ℕ) (r : Rmsg) (d : process.Does) (e : Does) → (IsRight d → SameDone d e)
      → cut_memory limit objects i (machine.answered t i r e) ≡ Some last → Stands (machine.answered s i r d)
  may_answer s t last i r (Went x p) e h f = record { after = _; is = refl }
  may_answer s t last i r (Asks x m p) e h f = record { after = _; is = refl }
  may_answer s t last i r (Ends x how) e h f = record { after = _; is = refl }
  may_answer s t last i r (Parks x bs p) (Parks y cs q) h f = absurd cc
  may_answer s t last i r (Parks x bs p) (Went y q) h f = absurd (h tt)
  may_answer s t last i r (Parks x bs p) (Polls y cs q u) h f = absurd (h tt)
  may_answer s t last i r (Parks x bs p) (Spawns y child q) h f = absurd (h tt)
  may_answer s t last i r (Parks x bs p) (Asks y m q) h f = absurd (h tt)
  may_answer s t last i r (Parks x bs p) (Ends y how) h f = absurd (h tt)
  may_answer s t last i r (Polls x bs p u) e h f = absurd (h tt)
  may_answer s t last i r (Spawns x child p) e h f = absurd (h tt)

  may_reply : (s : Today) (t last : Machine) (i : ℕ) (r : Rmsg) → StatesAgree s t
      → reply_memory limit objects t i r (slice_get t.processes i) ≡ Some last
      → Stands (reply_today limit objects s i r (slice_get s.processes i))
  may_reply s t last i r a e =
      let k = asking_is t last i r (slice_get t.processes i) e in
      let p = k.process in
      let at : slice_get s.processes i ≡ Some (Asking p) = sym (ap (λ ps. slice_get ps i) a.processes) ∙ k.is in
      let f : cut_memory limit objects i (machine.answered t i r (control.answer r t.world p)) ≡ Some last =
      sym (ap (λ o. reply_memory limit objects t i r o) k.is) ∙ e in
      let h =
      may_answer s t last i r (step.answer r s.world p) (control.answer r t.world p)
      (λ right. answers_agree r s.world t.world p (process_agrees s t i (Asking p) p a at (λ n q. q) (λ k. k)) right) f in
      record {
        after = machine.cut no_names i h.after;
        is = ap (λ o. reply_today limit objects s i r o) at ∙ ap (λ o. cut_today limit objects i o) h.is;
      }

  event_returns : (e : Event Rmsg) (s : Today) (t last : Machine) → StatesAgree s t → NeverFaults limit longest objects s
      → event_memory limit objects longest t e ≡ Some last → ComesAlike (event_today limit objects longest s e) last
  event_returns (Quantum i zero) s t last a never e = absurd cc
  event_returns (Quantum i (suc n)) s t last a never e = fits (nat_lt longest (suc n)) refl e
    where
      inner : suc n ≤ longest → (o : Option Machine) → machine.turns (rules limit objects) naming i (suc n) t ≡ o
          → whole_memory limit objects longest i (suc n) o ≡ Some last
          → ComesAlike (whole_today limit objects longest i (suc n)
          (machine.turns (today_rules.rules limit objects) no_names i (suc n) s)) last
      inner l None f e = absurd cc
      inner l (Some v) f e =
          let h = turns_return (suc n) i 0 s s t v never refl (omega arith) a f in
          let k = whole_back i (suc n) h.after v last h.agrees e in
          record { after = k.after; is = ap (λ o. whole_today limit objects longest i (suc n) o) h.is ∙ k.is; agrees = k.agrees }

      fits : (b : Bool) → nat_lt longest (suc n) ≡ b
          → (if b then None else whole_memory limit objects longest i (suc n)
          (machine.turns (rules limit objects) naming i (suc n) t)) ≡ Some last
          → ComesAlike
          (if b
          then None
          else whole_today limit objects longest i (suc n) (machine.turns (today_rules.rules limit objects) no_names i (suc n) s)) last
      fits true l e = absurd cc
      fits false l e = inner (ltb-false longest (suc n) l) (machine.turns (rules limit objects) naming i (suc n) t) refl e
  event_returns (Reply i r) s t last a never e =
      let h = may_reply s t last i r a e in
      let n : NoFault h.after.trace =
      never (Reply i r ∷ []) h.after (ap (λ o. rest_today limit objects longest [] o) h.is) in
      let k = event_agrees limit objects longest (Reply i r) s h.after t a h.is n in
      let b : Some k.after ≡ Some last = sym k.is ∙ e in
      let same : k.after ≡ last = cc in
      record { after = h.after; is = h.is; agrees = subst (λ v. StatesAgree h.after v) same k.agrees }
  event_returns (Down l) s t last a never e = absurd cc

  -- ---- journals

  returns : (journal : List (Event Rmsg)) (s : Today) (t last : Machine) → StatesAgree s t → NeverFaults limit longest objects s
      → machine.replay (rules limit objects) naming longest t journal ≡ Some last
      → ComesAlike (machine.replay (today_rules.rules limit objects) no_names longest s journal) last
  returns [] s t last a never e =
      let same : t ≡ last = cc in record { after = s; is = refl; agrees = subst (λ t. StatesAgree s t) same a }
  returns (v ∷ journal) s t last a never e =
      go (λ u w b n e. returns journal u w last b n e) (event_memory limit objects longest t v) refl e
    where
      go : ((u : Today) (w : Machine) → StatesAgree u w → NeverFaults limit longest objects u
          → machine.replay (rules limit objects) naming longest w journal ≡ Some last
          → ComesAlike (machine.replay (today_rules.rules limit objects) no_names longest u journal) last)
          → (o : Option Machine) → event_memory limit objects longest t v ≡ o → rest_memory limit objects longest journal o ≡ Some last
          → ComesAlike (machine.replay (today_rules.rules limit objects) no_names longest s (v ∷ journal)) last
      go again None f e = absurd cc
      go again (Some w) f e =
          let h = event_returns v s t w a never f in
          let k = again h.after w h.agrees
          (λ more u g. never (v ∷ more) u (ap (λ o. rest_today limit objects longest more o) h.is ∙ g)) e in
          record { after = k.after; is = ap (λ o. rest_today limit objects longest journal o) h.is ∙ k.is; agrees = k.agrees }

pub runs_return : RunsReturn
runs_return limit longest objects journal s t last a never e = returns limit longest objects journal s t last a never e
