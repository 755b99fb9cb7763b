-- What a machine keeps, an event later.
use Rattle.std.proofs.Common.{◌≡◌, ◌≢◌, ℕ, zero, suc, ◌+◌, ◌<◌, ◌≤◌, Bool, true, false, List, [], ◌∷◌, ◌++◌, map, Option, Some, None, refl, sym, ap, ◌∙◌, subst, arith}
use Rattle.std.specs.Option.{option_map}
use Rattle.std.proofs.lemmas.List.{append-nil}
use Rattle.dis_file.specs.declared.object.Object.{Object}
use Rattle.system_model.specs.Trace.{Trace}
use Rattle.dis_machine.specs.declared.event.Event.{Event}
use Rattle.dis_machine.specs.declared.event.Event.TheVariants as event
use Rattle.dis_machine.specs.declared.outcome.Faulted.{Faulted}
use Rattle.dis_machine.specs.declared.outcome.Outcome.{Outcome}
use Rattle.dis_machine.specs.declared.state.Running.{Running}
use Rattle.dis_machine.specs.declared.doing.Doing.{Doing}
use Rattle.dis_machine.specs.declared.doing.Doing.TheVariants as doing
use Rattle.dis_machine.specs.declared.running.Turn.{Turn}
use Rattle.dis_machine.specs.declared.running.Turn.TheVariants as turn
use Rattle.dis_machine.specs.Journal.{State, Fault, fault_in, or_else, unless_faulted, longest, machine_rules, happens, state_of, quanta}
use Rattle.process_model.specs.Machine as machine
use Rattle.dis_memory.specs.Naming.{naming}
use Rattle.styx_msg.specs.declared.message.Rmsg.{Rmsg}
use Rattle.inf_text.specs.Options.{◌>>=◌}
use Rattle.dis_counts.specs.Told as traces
use Rattle.dis_machine.specs.Running.{state_with, told_by, stands_after, ComesTo, HadTurns, stands_heard, told_heard, hears, IsHeard, MeansReply}
use Rattle.dis_machine.specs.Frames.{requests}
use Rattle.dis_machine.specs.Ends.{breaches}
use Rattle.dis_machine.specs.Kept.{told_after, view_broken, view_fault, frames_on, EndsWith, Keeps, IsKept, cut_of}
use Rattle.dis_machine.proofs.Traces.{requests_more, breaches_more, fault_more, ends_more, told_more, requests_told, breaches_told, fault_told}
use Rattle.dis_machine.proofs.Turning.{turned}
use Rattle.dis_machine.proofs.Entering.{entered, cut_off, quantum_happens, is_over, closes, told_is, quanta_more}

-- ---- what is kept of what was told

-- More was told, and is kept.
pub record Told (o o' : Outcome) (more : Trace) : Type 0 where
  pub asked : (link : ℕ) → frames_on link o'.outbox.items ≡ frames_on link o.outbox.items ++ requests link more
  pub broke : map view_broken o'.broken.items ≡ map view_broken o.broken.items ++ breaches more
  pub faulted : option_map view_fault o'.fault ≡ fault_in more

-- So it is too of what was told beside which blocks went.
pub told_all : (o o' : Outcome) (since more : Trace) → traces.told more ≡ since → Told o o' since → Told o o' more
told_all o o' since more e t = record {
  asked = λ link. t.asked link ∙ ap (λ t. frames_on link o.outbox.items ++ requests link t) (sym e) ∙ ap (λ xs. frames_on link o.outbox.items ++ xs) (requests_told link more);
  broke = t.broke ∙ ap (λ t. map view_broken o.broken.items ++ breaches t) (sym e) ∙ ap (λ bs. map view_broken o.broken.items ++ bs) (breaches_told more);
  faulted = t.faulted ∙ ap fault_in (sym e) ∙ fault_told more;
}

pub keeps_more : (told more : Trace) (o o' : Outcome) → Keeps told o → o.fault ≡ None → Told o o' more → Keeps (told ++ more) o'
keeps_more told more o o' k none t = record {
  fault = t.faulted ∙ sym (fault_more told more ∙ ap (λ f. or_else f (fault_in more)) (sym k.fault ∙ ap (option_map view_fault) none));
  broken = t.broke ∙ ap (λ bs. bs ++ breaches more) k.broken ∙ sym (breaches_more told more);
  outbox = λ link.
      subst (λ xs. EndsWith xs (requests link (told ++ more))) (sym (t.asked link))
      (subst (λ ys. EndsWith (frames_on link o.outbox.items ++ requests link more) ys) (sym (requests_more link told more)) (ends_more (frames_on link o.outbox.items) (requests link told) (requests link more) (k.outbox link)));
}

-- Where nothing was told but which blocks went.
pub keeps_quiet : (told more : Trace) (o : Outcome) → Keeps told o → o.fault ≡ None → traces.told more ≡ [] → Keeps (told ++ more) o
keeps_quiet told more o k none e =
    keeps_more told more o o k none
    (told_all o o [] more e (record {
      asked = λ link. sym (append-nil (frames_on link o.outbox.items));
      broke = sym (append-nil (map view_broken o.broken.items));
      faulted = ap (option_map view_fault) none;
    }))

-- The same is kept.
pub keeps_same : (told : Trace) (o o' : Outcome) → Keeps told o → o'.outbox.items ≡ o.outbox.items → o'.broken.items ≡ o.broken.items → o'.fault ≡ o.fault → Keeps told o'
keeps_same told o o' k e f g = record {
  fault = ap (option_map view_fault) g ∙ k.fault;
  broken = ap (map view_broken) f ∙ k.broken;
  outbox = λ link. subst (λ xs. EndsWith (frames_on link xs) (requests link told)) (sym e) (k.outbox link);
}

none_seen : (f : Option Faulted) → option_map view_fault f ≡ None → f ≡ None
none_seen None e = refl
none_seen (Some f) e = absurd cc

no_fault : (f : Option Faulted) (d : Doing) (t : Turn) → option_map view_fault f ≡ fault_in (told_by t) → d ≡ stands_after t → d ≢ doing.Gone → f ≡ None
no_fault f d turn.Went e s live = none_seen f e
no_fault f d (turn.Asked m) e s live = none_seen f e
no_fault f d turn.Ended e s live = none_seen f e
no_fault f d (turn.Broken text) e s live = none_seen f e
no_fault f d (turn.Fault number pc) e s live = absurd (live s)
no_fault f d turn.NoMemory e s live = none_seen f e

pub ready_lives : (d : Doing) → d ≡ doing.Ready → d ≢ doing.Gone
ready_lives d e g = absurd cc

-- ---- a quantum

module _ (objects : List Object) (limit : ℕ) (journal : List Event) (before : ℕ) (cut : Option ℕ) (lacks : Bool) (r r' : Running) (o : Outcome) (k : IsKept objects limit journal before cut lacks r o) (able : lacks ≡ false) where
  abbrev old_told : Trace
  old_told = told_after objects journal cut

  -- The state before, whose journal is whole.
  pub led : state_of objects journal None ≡ Some (state_with r old_told)
  led = ap (λ c. state_of objects journal c) (sym (k.whole able)) ∙ k.leads

  module _ (is_ready : r.doing ≡ doing.Ready) (count : ℕ) (last : Turn) (had : HadTurns objects r r' count last) (stands : r'.doing ≡ stands_after last) where
    pub none_yet : o.fault ≡ None
    none_yet = k.sound (ready_lives r.doing is_ready)

    sound_before : fault_in old_told ≡ None
    sound_before = sym k.keeps.fault ∙ ap (option_map view_fault) none_yet

    module _ (some : count ≡ 0 → last ≡ turn.NoMemory) (few : count ≤ 2048) (longest : last ≡ turn.Went → count ≡ 2048) (other : last ≡ turn.NoMemory → ⊥) (pid : ℕ) (one : pid ≡ 1) (items : List Event) (more : items ≡ journal ++ event.Quantum pid count ∷ []) where
      positive : (n : ℕ) → n ≡ count → 0 < n
      positive zero e = absurd (other (some (sym e)))
      positive (suc n) e = omega arith

      -- What was told in it, beside which blocks went and with these.
      abbrev since : Trace
      since = (had old_told).more

      leads_on : state_of objects items None ≡ Some (state_with r' (old_told ++ since))
      leads_on =
          ap (λ es. state_of objects es None) (more ∙ ap (λ n. journal ++ event.Quantum n count ∷ []) one)
          ∙ entered objects journal (event.Quantum 1 count) (state_with r old_told) (state_with r' (old_told ++ since)) led
          (quantum_happens objects (state_with r old_told) (state_with r' (old_told ++ since)) count (positive count refl) few sound_before (had old_told).state (is_over r' (old_told ++ since) count last other longest stands))

      leads_cut : state_of objects items cut ≡ Some (state_with r' (old_told ++ since))
      leads_cut = ap (λ c. state_of objects items c) (k.whole able) ∙ leads_on

      -- What was told after the quantum.
      told_since : told_after objects items cut ≡ old_told ++ since
      told_since = told_is (state_of objects items cut) r' (old_told ++ since) leads_cut

      pub requests_since : (link : ℕ) → requests link (told_after objects items cut) ≡ requests link old_told ++ requests link (told_by last)
      requests_since link =
          ap (requests link) told_since
          ∙ requests_more link old_told since
          ∙ ap (λ xs. requests link old_told ++ xs) (sym (requests_told link since) ∙ ap (requests link) (had old_told).since)

      -- What is kept after a whole quantum.
      pub quantum_kept : (o' : Outcome) → before < limit → Told o o' (told_by last) → IsKept objects limit items (before + 1) cut lacks r' o'
      quantum_kept o' left t =
          let counts = ap quanta more ∙ quanta_more journal (event.Quantum pid count) in
          let c = k.counted in
          record {
            leads = closes (state_of objects items cut) r' (old_told ++ since) leads_cut;
            keeps = subst (λ t. Keeps t o') (sym told_since) (keeps_more old_told since o o' k.keeps none_yet (told_all o o' (told_by last) since (had old_told).since t));
            counted = omega (arith, counts, c);
            within = omega (arith, left);
            whole = λ e. k.whole e;
            short = λ e. absurd (e (k.whole able));
            started = k.started;
            sound = λ live. no_fault o'.fault r'.doing last t.faulted stands live;
          }

  -- What is kept after a quantum that was cut short.
  module _ (count : ℕ) (had : HadTurns objects r r' count turn.NoMemory) where
    abbrev went : Trace
    went = (had old_told).more

    cut_leads : state_of objects journal (cut_of count) ≡ Some (state_with r' (old_told ++ went))
    cut_leads = go count (had old_told)
      where
        go : (count : ℕ) → (h : ComesTo (turned objects count (state_with r old_told)) r' old_told []) → state_of objects journal (cut_of count) ≡ Some (state_with r' (old_told ++ h.more))
        go zero h = led ∙ h.state
        go (suc n) h = cut_off objects journal (suc n) (state_with r old_told) (state_with r' (old_told ++ h.more)) led h.state

    cut_since : told_after objects journal (cut_of count) ≡ old_told ++ went
    cut_since = told_is (state_of objects journal (cut_of count)) r' (old_told ++ went) cut_leads

    -- Nothing was told in it but which blocks went.
    pub cut_told : traces.told (told_after objects journal (cut_of count)) ≡ traces.told old_told
    cut_told = ap traces.told cut_since ∙ told_more old_told went ∙ ap (λ t. traces.told old_told ++ t) (had old_told).since ∙ append-nil (traces.told old_told)

    pub cut_asked : (link : ℕ) → requests link (told_after objects journal (cut_of count)) ≡ requests link old_told
    cut_asked link = sym (requests_told link (told_after objects journal (cut_of count))) ∙ ap (requests link) cut_told ∙ requests_told link old_told

  cut_started : (n : ℕ) → cut_of n ≢ Some 0
  cut_started zero e = absurd cc
  cut_started (suc n) e = absurd cc

  pub cut_kept : (count : ℕ) → HadTurns objects r r' count turn.NoMemory → (o' : Outcome) → before < limit → r.doing ≡ doing.Ready → Keeps old_told o' → o'.fault ≡ o.fault → IsKept objects limit journal before (cut_of count) true r' o'
  cut_kept count had o' left is_ready keeps same =
      let none : o'.fault ≡ None = same ∙ k.sound (ready_lives r.doing is_ready) in
      record {
        leads = closes (state_of objects journal (cut_of count)) r' (old_told ++ went count had) (cut_leads count had);
        keeps = subst (λ t. Keeps t o') (sym (cut_since count had)) (keeps_quiet old_told (went count had) o' keeps none (had old_told).since);
        counted = k.counted;
        within = k.within;
        whole = λ e. absurd cc;
        short = λ e. left;
        started = cut_started count;
        sound = λ live. none;
      }

-- ---- a reply

none_heard : (f : Option Faulted) (d : Doing) (t : Turn) → option_map view_fault f ≡ fault_in (told_by t) → d ≡ stands_heard t → d ≢ doing.Gone → f ≡ None
none_heard f d turn.Went e s live = none_seen f e
none_heard f d (turn.Asked m) e s live = none_seen f e
none_heard f d turn.Ended e s live = none_seen f e
none_heard f d (turn.Broken text) e s live = none_seen f e
none_heard f d (turn.Fault number pc) e s live = absurd (live s)
none_heard f d turn.NoMemory e s live = none_seen f e

asking_lives : (d : Doing) → d ≡ doing.Asking → d ≢ doing.Gone
asking_lives d e g = absurd cc

nothing : (f : Option Fault) → unless_faulted {T = State} f None ≡ None
nothing None = refl
nothing (Some f) = refl

module _ (objects : List Object) (a : Rmsg) (r : Running) (link : ℕ) (frame : List ℕ) (means : MeansReply r link frame (Some a)) (told : Trace) where
  as_heard : (o : Option State) → hears objects a (state_with r told) ≡ o → happens objects (state_with r told) (event.Reply link frame) ≡ unless_faulted (fault_in told) o
  as_heard o h = ap (λ m. unless_faulted (fault_in told) (m >>= machine.happens (machine_rules objects) naming longest (state_with r told))) (means told) ∙ ap (unless_faulted (fault_in told)) h

  -- A reply that isn't heard doesn't happen.
  pub refused_happens : hears objects a (state_with r told) ≡ None → happens objects (state_with r told) (event.Reply link frame) ≡ None
  refused_happens h = as_heard None h ∙ nothing (fault_in told)

-- Nor does one that can't be read.
pub unread_happens : (objects : List Object) (r : Running) (link : ℕ) (frame : List ℕ) → MeansReply r link frame None → (told : Trace) →
    happens objects (state_with r told) (event.Reply link frame) ≡ None
unread_happens objects r link frame means told =
    ap (λ m. unless_faulted (fault_in told) (m >>= machine.happens (machine_rules objects) naming longest (state_with r told))) (means told) ∙ nothing (fault_in told)

obeys_heard : (objects : List Object) (a : Rmsg) (r r' : Running) (t : Turn) → (t ≡ turn.NoMemory → ⊥) → IsHeard objects a r r' t → (told : Trace) → ComesTo (hears objects a (state_with r told)) r' told (told_heard a t)
obeys_heard objects a r r' turn.Went other h told = h told
obeys_heard objects a r r' (turn.Asked m) other h told = h told
obeys_heard objects a r r' turn.Ended other h told = h told
obeys_heard objects a r r' (turn.Broken text) other h told = h told
obeys_heard objects a r r' (turn.Fault number pc) other h told = h told
obeys_heard objects a r r' turn.NoMemory other h told = absurd (other refl)

module _ (objects : List Object) (limit : ℕ) (journal : List Event) (before : ℕ) (cut : Option ℕ) (lacks : Bool) (r r' : Running) (o : Outcome) (k : IsKept objects limit journal before cut lacks r o) where
  -- Where nothing happened, the same is kept.
  pub same_kept : (lacks' : Bool) → lacks ≡ false → ((told : Trace) → state_with r' told ≡ state_with r told) → r'.doing ≡ r.doing → IsKept objects limit journal before cut lacks' r' o
  same_kept lacks' able same stands = record {
    leads = k.leads ∙ ap Some (sym (same (told_after objects journal cut)));
    keeps = k.keeps;
    counted = k.counted;
    within = k.within;
    whole = λ e. k.whole able;
    short = k.short;
    started = k.started;
    sound = λ live. k.sound (λ e. live (stands ∙ e));
  }

  module _ (able : lacks ≡ false) (asking : r.doing ≡ doing.Asking) (a : Rmsg) (link : ℕ) (frame : List ℕ) (means : MeansReply r link frame (Some a)) (t : Turn) (other : t ≡ turn.NoMemory → ⊥) (heard : IsHeard objects a r r' t) (items : List Event) (more : items ≡ journal ++ event.Reply link frame ∷ []) where
    abbrev told_then : Trace
    told_then = told_after objects journal cut

    pub not_yet : o.fault ≡ None
    not_yet = k.sound (asking_lives r.doing asking)

    told_so : ComesTo (hears objects a (state_with r told_then)) r' told_then (told_heard a t)
    told_so = obeys_heard objects a r r' t other heard told_then

    reply_leads : state_of objects items cut ≡ Some (state_with r' (told_then ++ told_so.more))
    reply_leads =
        ap (λ c. state_of objects items c) (k.whole able)
        ∙ ap (λ es. state_of objects es None) more
        ∙ entered objects journal (event.Reply link frame) (state_with r told_then) (state_with r' (told_then ++ told_so.more)) (led objects limit journal before cut lacks r r' o k able)
        (as_heard objects a r link frame means told_then (Some (state_with r' (told_then ++ told_so.more))) told_so.state
        ∙ ap (λ f. unless_faulted f (Some (state_with r' (told_then ++ told_so.more)))) (sym k.keeps.fault ∙ ap (option_map view_fault) not_yet))

    told_reply : told_after objects items cut ≡ told_then ++ told_so.more
    told_reply = told_is (state_of objects items cut) r' (told_then ++ told_so.more) reply_leads

    pub requests_reply : (l : ℕ) → requests l (told_after objects items cut) ≡ requests l told_then ++ requests l (told_by t)
    requests_reply l =
        ap (requests l) told_reply
        ∙ requests_more l told_then told_so.more
        ∙ ap (λ xs. requests l told_then ++ xs) (sym (requests_told l told_so.more) ∙ ap (requests l) told_so.since)

    -- What is kept after a reply.
    pub reply_kept : (o' : Outcome) → r'.doing ≡ stands_heard t → Told o o' (told_by t) → IsKept objects limit items before cut lacks r' o'
    reply_kept o' stands told =
        let counts = ap quanta more ∙ quanta_more journal (event.Reply link frame) in
        let c = k.counted in
        record {
          leads = closes (state_of objects items cut) r' (told_then ++ told_so.more) reply_leads;
          keeps = subst (λ t. Keeps t o') (sym told_reply) (keeps_more told_then told_so.more o o' k.keeps not_yet (told_all o o' (told_heard a t) told_so.more told_so.since (record { asked = told.asked; broke = told.broke; faulted = told.faulted })));
          counted = omega (arith, counts, c);
          within = k.within;
          whole = k.whole;
          short = k.short;
          started = k.started;
          sound = λ live. none_heard o'.fault r'.doing t told.faulted stands live;
        }
