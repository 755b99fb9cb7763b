-- A machine's journal, instruction by instruction, is a journal of process_model, of which memory_sim's law speaks.
use Rattle.std.proofs.Common.{◌≡◌, ℕ, zero, suc, Bool, true, false, List, [], ◌∷◌, ◌++◌, Option, Some, None, refl, sym, ap, subst, ◌∙◌, if◌then◌else◌, append-nil, append_assoc}
use Rattle.std.specs.Prelude.{◌==◌}
use Rattle.styx_msg.specs.declared.message.Rmsg.{Rmsg}
use Rattle.process_model.specs.Process.{Requested, Replied, Passed, Over, Released, Lost}
use Rattle.process_model.specs.Machine as model
use Rattle.process_model.specs.Law.{repeated}
use Rattle.process_model.specs.Law as law
use Rattle.system_model.specs.Ending.{Ended, Broken, Faulted}
use Rattle.system_model.specs.Trace.{Trace}
use Rattle.dis_file.specs.declared.object.Object.{Object}
use Rattle.limbo_typed.specs.Typed.{Module}
use Rattle.typed_meaning.specs.Program.{Routine}
use Rattle.typed_lower.specs.Sizes.{FrameTooLarge}
use Rattle.typed_part.specs.Part.{is_part}
use Rattle.inf_text.specs.Options.{◌>>=◌}
use Rattle.dis_meaning.specs.Words.{Access, Found, Wrong, Raises}
use Rattle.dis_meaning.specs.Opening.{if_found, StringsSpell}
use Rattle.dis_memory.specs.Naming.{naming}
use Rattle.dis_counts.specs.Opening.{Opened, opened}
use Rattle.dis_counts.specs.Counts.{CountsAreExact, begun}
use Rattle.dis_agreement.specs.Runs.{NoFault}
use Rattle.code_sim.specs.Keeps.{object_for, BeginsWith}
use Rattle.memory_sim.specs.Keeps.{KeepsWithMemory}
use Rattle.memory_sim.proofs.Keeping.{memory_keeps_meaning}
use Rattle.dis_machine.specs.declared.event.Event.{Event}
use Rattle.dis_machine.specs.declared.event.Event.TheVariants as event
use Rattle.dis_machine.specs.Journal.{State, Tagged, longest, machine_rules, fault_in, reply_in, asker, meant, happens, replay, begins, cut_short, state_of, cut_events, place_of}
use Rattle.dis_machine.specs.Translated.{translated}
use Rattle.dis_machine.proofs.Translation.{happened, same_replay}
use Rattle.limbo_compiler.specs.Fine.{singles, fine}
use Rattle.limbo_compiler.specs.Means.{at_place, instructions_of, instructions, Means, JournalsMean, NoneFault, CountsExact}
use Rattle.limbo_compiler.proofs.Fine.{on, turns_fine, replay_fine, fine_has}

-- ---- the instructions of the translation

joined : (es fs : List Event) → instructions (es ++ fs) ≡ instructions es ++ instructions fs
joined [] fs = refl
joined (e ∷ es) fs = ap (λ l. instructions_of e ++ l) (joined es fs) ∙ sym (append_assoc (instructions_of e) (instructions es) (instructions fs))

module _ (rest : List (model.Event Rmsg)) where
  quantum_has : (o : Option ℕ) (count : ℕ) (m : model.Event Rmsg) → (o >>= λ i. Some (model.Quantum i count)) ≡ Some m → law.instructions (m ∷ rest) ≡ at_place o count ++ law.instructions rest
  quantum_has None count m e = absurd cc
  quantum_has (Some i) count m e = let same : model.Quantum i count ≡ m = cc in subst (λ m. law.instructions (m ∷ rest) ≡ repeated i count ++ law.instructions rest) same refl

  asked_has : (o : Option ℕ) (reply : Rmsg) (m : model.Event Rmsg) → (o >>= λ i. Some (model.Reply i reply)) ≡ Some m → law.instructions (m ∷ rest) ≡ law.instructions rest
  asked_has None reply m e = absurd cc
  asked_has (Some i) reply m e = let same : model.Reply i reply ≡ m = cc in subst (λ m. law.instructions (m ∷ rest) ≡ law.instructions rest) same refl

  tagged_has : (s : State) (o : Option Tagged) (m : model.Event Rmsg) → (o >>= λ r. asker s r.tag >>= λ i. Some (model.Reply i r.reply)) ≡ Some m → law.instructions (m ∷ rest) ≡ law.instructions rest
  tagged_has s None m e = absurd cc
  tagged_has s (Some r) m e = asked_has (asker s r.tag) r.reply m e

  linked_has : (s : State) (b : Bool) (frame : List ℕ) (m : model.Event Rmsg) → (if b then reply_in frame >>= (λ r. asker s r.tag >>= λ i. Some (model.Reply i r.reply)) else None) ≡ Some m → law.instructions (m ∷ rest) ≡ law.instructions rest
  linked_has s true frame m e = tagged_has s (reply_in frame) m e
  linked_has s false frame m e = absurd cc

  meant_has : (s : State) (e : Event) (m : model.Event Rmsg) → meant s e ≡ Some m → law.instructions (m ∷ rest) ≡ instructions_of e ++ law.instructions rest
  meant_has s (event.Quantum pid count) m e = quantum_has (place_of pid) count m e
  meant_has s (event.Reply link frame) m e = linked_has s (link == 1) frame m e
  meant_has s (event.Down link why) m e = absurd cc

module _ (objects : List Object) where
  abbrev on_from : Option State → List Event → List (model.Event Rmsg)
  on_from u es = elim u [ None ↦ [] | Some t ↦ translated objects t es ]

  translated_has : (s t : State) (es : List Event) → replay objects s es ≡ Some t → law.instructions (translated objects s es) ≡ instructions es
  translated_has s t [] h = refl
  translated_has s t (e ∷ es) h = go (λ v h. translated_has v t es h) (happens objects s e) refl h
    where
      go : ((v : State) → replay objects v es ≡ Some t → law.instructions (translated objects v es) ≡ instructions es) → (o : Option State) → happens objects s e ≡ o → (o >>= λ v. replay objects v es) ≡ Some t → law.instructions (translated objects s (e ∷ es)) ≡ instructions (e ∷ es)
      go later None k h = absurd cc
      go later (Some v) k h =
          let m = happened objects s v e (fault_in s.trace) (meant s e) k in
          ap (λ o. law.instructions (elim o as (λ _. List (model.Event Rmsg)) [ None ↦ [] | Some m ↦ m ∷ on_from (happens objects s e) es ])) m.1
          ∙ ap (λ u. law.instructions (m.0 ∷ on_from u es)) k
          ∙ meant_has (translated objects v es) s e m.0 m.1
          ∙ ap (λ l. instructions_of e ++ l) (later v h)

-- ---- the journal as one of the law

-- So many instructions more.
abbrev cut_fine : Option ℕ → List (model.Event Rmsg)
cut_fine None = []
cut_fine (Some count) = singles 0 count

cut_replays : (objects : List Object) (cut : Option ℕ) (s t : State) → cut_short objects cut s ≡ Some t → model.replay (machine_rules objects) naming 1 s (cut_fine cut) ≡ Some t
cut_replays objects None s t e = e
cut_replays objects (Some count) s t e = turns_fine (machine_rules objects) naming 0 count s t e

cut_has : (es : List (model.Event Rmsg)) (cut : Option ℕ) → law.instructions (fine es ++ cut_fine cut) ≡ law.instructions es ++ instructions (cut_events cut)
cut_has es None = ap law.instructions (append-nil (fine es)) ∙ fine_has es ∙ sym (append-nil (law.instructions es))
cut_has es (Some count) = fine_joined es ∙ ap (λ l. law.instructions es ++ l) (cut_alone count)
  where
    cut_alone : (n : ℕ) → law.instructions (singles {A = Rmsg} 0 n) ≡ repeated 0 n ++ []
    cut_alone zero = refl
    cut_alone (suc n) = ap (λ l. 0 ∷ l) (cut_alone n)

    model_joined : (xs ys : List (model.Event Rmsg)) → law.instructions (xs ++ ys) ≡ law.instructions xs ++ law.instructions ys
    model_joined [] ys = refl
    model_joined (model.Quantum i n ∷ xs) ys = ap (λ l. repeated i n ++ l) (model_joined xs ys) ∙ sym (append_assoc (repeated i n) (law.instructions xs) (law.instructions ys))
    model_joined (model.Reply i a ∷ xs) ys = model_joined xs ys
    model_joined (model.Down l ∷ xs) ys = model_joined xs ys

    fine_joined : (es : List (model.Event Rmsg)) → law.instructions (fine es ++ singles 0 count) ≡ law.instructions es ++ law.instructions (singles {A = Rmsg} 0 count)
    fine_joined es = model_joined (fine es) (singles 0 count) ∙ ap (λ l. l ++ law.instructions (singles {A = Rmsg} 0 count)) (fine_has es)

-- A machine of these objects begins with this one's opening.
found_so : {T : Type 0} (a : Access T) (t : T) → if_found a ≡ Some t → a ≡ Found t
found_so (Found t) u e = cc
found_so (Wrong number) u e = absurd cc
found_so (Raises text) u e = absurd cc

-- Where no fault is told, none is found.
none_found : (es : Trace) → NoFault es → fault_in es ≡ None
none_found [] h = refl
none_found (Requested i m ∷ es) h = none_found es h
none_found (Replied i a ∷ es) h = none_found es h
none_found (Passed channel v i k j l ∷ es) h = none_found es h
none_found (Released i names ∷ es) h = none_found es h
none_found (Lost l ∷ es) h = none_found es h
none_found (Over i Ended ∷ es) h = none_found es h
none_found (Over i (Broken text) ∷ es) h = none_found es h
none_found (Over i (Faulted number pc) ∷ es) h = absurd h

module _ (m : Module) (part : is_part m ≡ true) (small : FrameTooLarge m → ⊥) (spell : StringsSpell (object_for m)) (init : ℕ) (first : Routine) (begins_so : BeginsWith m init first) where
  abbrev objects : List Object
  objects = object_for m ∷ []

  module _ (journal : List Event) (cut : Option ℕ) (t : State) where
    -- The journal as one of process_model, instruction by instruction, and the state from which the quantum that was cut short went on.
    record Told : Type 0 where
      opening : Opened
      opens : opened (object_for m) ≡ Found opening
      events : List (model.Event Rmsg)
      replays : model.replay (machine_rules objects) naming 1 (begun opening) events ≡ Some t
      has : law.instructions events ≡ instructions (journal ++ cut_events cut)

    told_from : (o : Opened) (s : State) → opened (object_for m) ≡ Found o → replay objects (begins o) journal ≡ Some s → cut_short objects cut s ≡ Some t → Told
    told_from o s opens replays more =
        let es = translated objects (begins o) journal in
        record {
          opening = o;
          opens = opens;
          events = fine es ++ cut_fine cut;
          replays =
              on (machine_rules objects) naming 1 (fine es) (cut_fine cut) (begins o) s t
              (replay_fine (machine_rules objects) naming longest es (begins o) s (same_replay objects (begins o) s journal replays))
              (cut_replays objects cut s t more);
          has =
              cut_has es cut
              ∙ ap (λ l. l ++ instructions (cut_events cut)) (translated_has objects (begins o) s journal replays)
              ∙ sym (joined journal (cut_events cut));
        }

    told : state_of objects journal cut ≡ Some t → Told
    told h = by_start (if_found (opened (object_for m))) refl h
      where
        by_replay : (o : Opened) (s : Option State) → if_found (opened (object_for m)) ≡ Some o → replay objects (begins o) journal ≡ s → (s >>= cut_short objects cut) ≡ Some t → Told
        by_replay o None opens k e = absurd cc
        by_replay o (Some s) opens k e = told_from o s (found_so (opened (object_for m)) o opens) k e

        by_start : (o : Option Opened) → if_found (opened (object_for m)) ≡ o → ((o >>= λ o. replay objects (begins o) journal) >>= cut_short objects cut) ≡ Some t → Told
        by_start None k e = absurd cc
        by_start (Some o) k e = by_replay o (replay objects (begins o) journal) k refl e

    module _ (h : state_of objects journal cut ≡ Some t) where
      keeps : KeepsWithMemory m
      keeps = memory_keeps_meaning m part small spell

      journal_means : Means m init (journal ++ cut_events cut) t
      journal_means =
          let was = told h in
          let run = keeps.journals init first begins_so was.opening was.opens 1 was.events t was.replays in
          record {
            turns = run.turns;
            config = run.config;
            run = run.run;
            makers = run.makers ∙ was.has;
            paced = run.paced;
            told = run.told;
          }

      never_faults : fault_in t.trace ≡ None
      never_faults =
          let was = told h in
          none_found t.trace (keeps.never_faults init first begins_so was.opening was.opens 1 was.events t was.replays)

      keeps_counts : CountsAreExact t
      keeps_counts =
          let was = told h in
          keeps.counts init first begins_so was.opening was.opens 1 was.events t was.replays

pub journals_mean : JournalsMean
journals_mean m part small spell init first begins_so journal cut t h = journal_means m part small spell init first begins_so journal cut t h

pub none_fault : NoneFault
none_fault m part small spell init first begins_so journal cut t h = never_faults m part small spell init first begins_so journal cut t h

pub counts_exact : CountsExact
counts_exact m part small spell init first begins_so journal cut t h = keeps_counts m part small spell init first begins_so journal cut t h
