-- Where nothing is wrong that a process does next, no journal comes to a fault. Each state that a journal comes to, and each amid its
-- quanta, is one after a journal of single instructions.
use Rattle.std.proofs.Common.{◌≡◌, ℕ, zero, suc, Bool, true, false, List, [], ◌∷◌, ◌++◌, refl, sym, ap, subst, ◌∙◌}
use Rattle.std.specs.Prelude.{Option, Some, None, slice_get, nat_lt, nat_eq, if◌then◌else◌}
use Rattle.styx_msg.specs.declared.message.Rmsg.{Rmsg}
use Rattle.process_model.specs.Process.{Branch, Went, Parks, Polls, Spawns, Asks, Ends, Doing, Ready, Waiting, Asking, Gone, Requested}
use Rattle.process_model.specs.Process.{Replied, Over, told}
use Rattle.process_model.specs.Choice.{Choice, choose}
use Rattle.process_model.specs.Machine as machine
use Rattle.process_model.specs.Machine.{Event, Quantum, Reply, Down}
use Rattle.process_model.specs.Plain.{no_names}
use Rattle.dis_file.specs.declared.object.Object.{Object}
use Rattle.system_model.specs.Values.{Value}
use Rattle.system_model.specs.Ending.{Ended, Broken, Faulted}
use Rattle.dis_meaning.specs.World as today
use Rattle.dis_meaning.specs.Process as process
use Rattle.dis_meaning.specs.Process.{Process}
use Rattle.dis_meaning.specs.Rules as today_rules
use Rattle.dis_meaning.specs.Step as step
use Rattle.dis_agreement.specs.Agreement.{IsRight}
use Rattle.dis_agreement.specs.Runs.{Today, NoFault}
use Rattle.dis_agreement.specs.Faultless.{NothingIsWrong, RightNeverFaults}
use Rattle.dis_agreement.proofs.Traces.{no_fault_on, passed_right}
use Rattle.dis_agreement.proofs.Runs.{NextTurns, obeyed, reply_today, cut_today, event_today, whole_today, rest_today}

right_if : (d : process.Does) → ((y : today.World) (number pc : ℕ) → d ≡ Ends y (Faulted number pc) → ⊥) → IsRight d
right_if (Ends x (Faulted number pc)) h = h x number pc refl
right_if (Ends x Ended) h = tt
right_if (Ends x (Broken text)) h = tt
right_if d h = tt

module _ (limit : ℕ) (objects : List Object) where
  -- ---- what is right tells no fault

  module _ (i : ℕ) (s : Today) (n : NoFault s.trace) where
    meet_on : (x : today.World) (p : Process) (c : Choice Value) (o : Option (Doing Process Value))
        → NoFault (machine.meet (today_rules.rules limit objects) s i x p c o).trace
    meet_on x p c (Some (Waiting theirs q)) =
        no_fault_on s.trace (told i c.mine c.own c.met.pid c.met.theirs c.met.branch ∷ []) n
        (passed_right i c.mine c.own c.met.pid c.met.theirs c.met.branch)
    meet_on x p c (Some (Ready q)) = n
    meet_on x p c (Some (Asking q)) = n
    meet_on x p c (Some Gone) = n
    meet_on x p c None = n

    park_on : (x : today.World) (bs : List (Branch Value)) (p : Process) (o : Option (Choice Value))
        → NoFault (machine.park (today_rules.rules limit objects) s i x bs p o).trace
    park_on x bs p (Some c) = meet_on x p c (slice_get s.processes c.met.pid)
    park_on x bs p None = n

    poll_on : (x : today.World) (p q : Process) (o : Option (Choice Value))
        → NoFault (machine.poll (today_rules.rules limit objects) s i x p q o).trace
    poll_on x p q (Some c) = meet_on x p c (slice_get s.processes c.met.pid)
    poll_on x p q None = n

    does_on : (d : process.Does) → IsRight d → NoFault (machine.does (today_rules.rules limit objects) s i d).trace
    does_on (Went x p) r = n
    does_on (Parks x bs p) r = park_on x bs p (choose 0 bs s.waiters)
    does_on (Polls x bs p q) r = poll_on x p q (choose 0 bs s.waiters)
    does_on (Spawns x child p) r = n
    does_on (Asks x m p) r = no_fault_on s.trace (Requested i m ∷ []) n tt
    does_on (Ends x Ended) r = no_fault_on s.trace (Over i Ended ∷ []) n tt
    does_on (Ends x (Broken text)) r = no_fault_on s.trace (Over i (Broken text) ∷ []) n tt
    does_on (Ends x (Faulted number pc)) r = absurd r

    answered_on : (v : Today) (a : Rmsg) (d : process.Does) → IsRight d → machine.answered s i a d ≡ Some v → NoFault v.trace
    answered_on v a (Went x p) r e =
        let same : s.trace ++ Replied i a ∷ [] ≡ v.trace = cc in
        subst (λ u. NoFault u) same (no_fault_on s.trace (Replied i a ∷ []) n tt)
    answered_on v a (Asks x m p) r e =
        let same : s.trace ++ Replied i a ∷ Requested i m ∷ [] ≡ v.trace = cc in
        subst (λ u. NoFault u) same (no_fault_on s.trace (Replied i a ∷ Requested i m ∷ []) n tt)
    answered_on v a (Ends x Ended) r e =
        let same : s.trace ++ Replied i a ∷ Over i Ended ∷ [] ≡ v.trace = cc in
        subst (λ u. NoFault u) same (no_fault_on s.trace (Replied i a ∷ Over i Ended ∷ []) n tt)
    answered_on v a (Ends x (Broken text)) r e =
        let same : s.trace ++ Replied i a ∷ Over i (Broken text) ∷ [] ≡ v.trace = cc in
        subst (λ u. NoFault u) same (no_fault_on s.trace (Replied i a ∷ Over i (Broken text) ∷ []) n tt)
    answered_on v a (Ends x (Faulted number pc)) r e = absurd r
    answered_on v a (Parks x bs p) r e = absurd cc
    answered_on v a (Polls x bs p q) r e = absurd cc
    answered_on v a (Spawns x child p) r e = absurd cc

  module _ (s : Today) (wrong : NothingIsWrong limit objects s) where
    -- A state after a journal of single instructions, with no fault so far.
    record Slowly (u : Today) : Type 0 where
      journal : List (Event Rmsg)
      is : machine.replay (today_rules.rules limit objects) no_names 1 s journal ≡ Some u
      right : NoFault u.trace

    replay_on : (es fs : List (Event Rmsg)) (r u v : Today) → machine.replay (today_rules.rules limit objects) no_names 1 r es ≡ Some u
        → machine.replay (today_rules.rules limit objects) no_names 1 u fs ≡ Some v
        → machine.replay (today_rules.rules limit objects) no_names 1 r (es ++ fs) ≡ Some v
    replay_on [] fs r u v e f =
        let same : r ≡ u = cc in
        subst (λ u. machine.replay (today_rules.rules limit objects) no_names 1 u fs ≡ Some v) (sym same) f
    replay_on (x ∷ es) fs r u v e f =
        go (λ w e. replay_on es fs w u v e f) (event_today limit objects 1 r x) refl e
      where
        go : ((w : Today) → machine.replay (today_rules.rules limit objects) no_names 1 w es ≡ Some u
            → machine.replay (today_rules.rules limit objects) no_names 1 w (es ++ fs) ≡ Some v)
            → (o : Option Today) → event_today limit objects 1 r x ≡ o → rest_today limit objects 1 es o ≡ Some u
            → machine.replay (today_rules.rules limit objects) no_names 1 r (x ∷ es ++ fs) ≡ Some v
        go again None g e = absurd cc
        go again (Some w) g e = ap (λ o. rest_today limit objects 1 (es ++ fs) o) g ∙ again w e

    -- One event more.
    further : (u v : Today) (e : Event Rmsg) → Slowly u → event_today limit objects 1 u e ≡ Some v → NoFault v.trace → Slowly v
    further u v e a f n = record {
      journal = a.journal ++ e ∷ [];
      is = replay_on a.journal (e ∷ []) s u v a.is (ap (λ o. rest_today limit objects 1 [] o) f);
      right = n;
    }

    one : (i : ℕ) (u v : Today) → obeyed limit objects u i (slice_get u.processes i) ≡ Some v
        → event_today limit objects 1 u (Quantum i 1) ≡ Some v
    one i u v e =
        ap (λ o. whole_today limit objects 1 i 1 (NextTurns limit objects i 0 o)) e ∙ go (machine.ready (slice_get v.processes i))
      where
        go : (o : Option Process)
            → (elim o as (λ _. Option Today) [ None ↦ Some v | Some p ↦ if nat_eq 1 1 then Some v else None ]) ≡ Some v
        go None = refl
        go (Some p) = refl

    obey_slowly : (i : ℕ) (u v : Today) → Slowly u → (o : Option (Doing Process Value)) → slice_get u.processes i ≡ o
        → obeyed limit objects u i o ≡ Some v → Slowly v
    obey_slowly i u v a (Some (Ready p)) at e =
        let d = step.step limit objects u.world p in
        let w = machine.does (today_rules.rules limit objects) u i d in
        let same : machine.cut no_names i w ≡ v = cc in
        further u v (Quantum i 1) a (one i u v (ap (λ o. obeyed limit objects u i o) at ∙ e))
        (subst (λ (v : Today). NoFault v.trace) same
        (no_fault_on w.trace [] (does_on i u a.right d (right_if d (wrong.instructions 1 a.journal u a.is i p at))) tt))
    obey_slowly i u v a (Some (Waiting bs p)) at e = absurd cc
    obey_slowly i u v a (Some (Asking p)) at e = absurd cc
    obey_slowly i u v a (Some Gone) at e = absurd cc
    obey_slowly i u v a None at e = absurd cc

    turns_slowly : (n i : ℕ) (u v : Today) → Slowly u → machine.turns (today_rules.rules limit objects) no_names i n u ≡ Some v → Slowly v
    turns_slowly zero i u v a e = let same : u ≡ v = cc in subst (λ u. Slowly u) same a
    turns_slowly (suc n) i u v a e = go (λ w b e. turns_slowly n i w v b e) (obeyed limit objects u i (slice_get u.processes i)) refl e
      where
        go : ((w : Today) → Slowly w → machine.turns (today_rules.rules limit objects) no_names i n w ≡ Some v → Slowly v)
            → (o : Option Today)
            → obeyed limit objects u i (slice_get u.processes i) ≡ o → NextTurns limit objects i n o ≡ Some v → Slowly v
        go again None f e = absurd cc
        go again (Some w) f e = again w (obey_slowly i u w a (slice_get u.processes i) refl f) e

    reply_slowly : (i : ℕ) (r : Rmsg) (u v : Today) → Slowly u → (o : Option (Doing Process Value)) → slice_get u.processes i ≡ o
        → reply_today limit objects u i r o ≡ Some v → NoFault v.trace
    reply_slowly i r u v a (Some (Asking p)) at e = go (machine.answered u i r (step.answer r u.world p)) refl e
      where
        go : (o : Option Today) → machine.answered u i r (step.answer r u.world p) ≡ o → cut_today limit objects i o ≡ Some v
            → NoFault v.trace
        go None f e = absurd cc
        go (Some w) f e =
            let same : machine.cut no_names i w ≡ v = cc in
            let right = right_if (step.answer r u.world p) (wrong.replies 1 a.journal u a.is i p at r) in
            subst (λ (v : Today). NoFault v.trace) same
            (no_fault_on w.trace [] (answered_on i u a.right w r (step.answer r u.world p) right f) tt)
    reply_slowly i r u v a (Some (Ready p)) at e = absurd cc
    reply_slowly i r u v a (Some (Waiting bs p)) at e = absurd cc
    reply_slowly i r u v a (Some Gone) at e = absurd cc
    reply_slowly i r u v a None at e = absurd cc

    event_slowly : (longest : ℕ) (x : Event Rmsg) (u v : Today) → Slowly u → event_today limit objects longest u x ≡ Some v → Slowly v
    event_slowly longest (Quantum i zero) u v a e = absurd cc
    event_slowly longest (Quantum i (suc n)) u v a e = fits (nat_lt longest (suc n)) e
      where
        whole : (w : Today) (o : Option Process)
            → (elim o as (λ _. Option Today) [ None ↦ Some w | Some p ↦ if nat_eq (suc n) longest then Some w else None ]) ≡ Some v → w ≡ v
        whole w None e = cc
        whole w (Some p) e = full (nat_eq (suc n) longest) e
          where
            full : (b : Bool) → (if b then Some w else None) ≡ Some v → w ≡ v
            full true e = cc
            full false e = absurd cc

        inner : (o : Option Today) → machine.turns (today_rules.rules limit objects) no_names i (suc n) u ≡ o
            → whole_today limit objects longest i (suc n) o ≡ Some v → Slowly v
        inner None f e = absurd cc
        inner (Some w) f e =
            subst (λ w. Slowly w) (whole w (machine.ready (slice_get w.processes i)) e) (turns_slowly (suc n) i u w a f)

        fits : (b : Bool)
            → (if b
            then None
            else whole_today limit objects longest i (suc n)
            (machine.turns (today_rules.rules limit objects) no_names i (suc n) u)) ≡ Some v
            → Slowly v
        fits true e = absurd cc
        fits false e = inner (machine.turns (today_rules.rules limit objects) no_names i (suc n) u) refl e
    event_slowly longest (Reply i r) u v a e = further u v (Reply i r) a e (reply_slowly i r u v a (slice_get u.processes i) refl e)
    event_slowly longest (Down l) u v a e = absurd cc

    journal_slowly : (longest : ℕ) (journal : List (Event Rmsg)) (u v : Today) → Slowly u
        → machine.replay (today_rules.rules limit objects) no_names longest u journal ≡ Some v → Slowly v
    journal_slowly longest [] u v a e = let same : u ≡ v = cc in subst (λ u. Slowly u) same a
    journal_slowly longest (x ∷ journal) u v a e =
        go (λ w b e. journal_slowly longest journal w v b e) (event_today limit objects longest u x) refl e
      where
        go : ((w : Today) → Slowly w → machine.replay (today_rules.rules limit objects) no_names longest w journal ≡ Some v → Slowly v)
            → (o : Option Today) → event_today limit objects longest u x ≡ o → rest_today limit objects longest journal o ≡ Some v
            → Slowly v
        go again None f e = absurd cc
        go again (Some w) f e = again w (event_slowly longest x u w a f) e

pub right_never_faults : RightNeverFaults
right_never_faults limit longest objects s n wrong journal u e =
    let h = journal_slowly limit objects s wrong longest journal s u (record { journal = []; is = refl; right = n }) e in h.right
