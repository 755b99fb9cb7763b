-- An event more.
use Rattle.std.proofs.Common.{◌≡◌, ℕ, zero, suc, ◌+◌, ◌<◌, ◌≤◌, true, false, List, [], ◌∷◌, ◌++◌, Option, Some, None, refl, sym, ap, ◌∙◌, arith, rules, tests, if◌then◌else◌}
use Rattle.std.specs.Prelude.{nat_lt, nat_eq}
use Rattle.process_model.specs.Machine.{ready, turns, is_whole}
use Rattle.process_model.specs.Machine as machine
use Rattle.dis_memory.specs.Naming.{naming}
use Rattle.dis_file.specs.declared.object.Object.{Object}
use Rattle.system_model.specs.Trace.{Trace}
use Rattle.dis_meaning.specs.Process.{Process}
use Rattle.inf_text.specs.Options.{◌>>=◌}
use Rattle.dis_places.specs.View.{view_process}
use Rattle.dis_machine.specs.declared.event.Event.{Event}
use Rattle.dis_machine.specs.declared.event.Event.TheVariants as event
use Rattle.dis_machine.specs.declared.state.Running.{Running}
use Rattle.dis_machine.specs.declared.doing.Doing as doing
use Rattle.dis_machine.specs.declared.doing.Doing.TheVariants as code
use Rattle.dis_machine.specs.declared.running.Turn.{Turn}
use Rattle.dis_machine.specs.declared.running.Turn.TheVariants as turn
use Rattle.dis_machine.specs.Journal.{State, fault_in, unless_faulted, longest, machine_rules, happens, replay, begins, start_of, state_after, state_of, cut_short, quanta}
use Rattle.dis_machine.specs.Doings.{view_doing}
use Rattle.dis_machine.specs.Running.{state_with, stands_after}
use Rattle.dis_machine.specs.Kept.{trace_in}
use Rattle.dis_machine.proofs.Turning.{turned}

bind_some : {A : Type 0} (o : Option A) → (o >>= λ a. Some a) ≡ o
bind_some None = refl
bind_some (Some a) = refl

bind_more : {A B C : Type 0} (o : Option A) (f : A → Option B) (g : B → Option C) → ((o >>= f) >>= g) ≡ (o >>= λ a. f a >>= g)
bind_more None f g = refl
bind_more (Some a) f g = refl

bind_same : {A B : Type 0} (o : Option A) (f g : A → Option B) → ((a : A) → f a ≡ g a) → (o >>= f) ≡ (o >>= g)
bind_same None f g h = refl
bind_same (Some a) f g h = h a

module _ (objects : List Object) where
  replay_more : (s : State) (journal : List Event) (e : Event) → replay objects s (journal ++ e ∷ []) ≡ (replay objects s journal >>= λ t. happens objects t e)
  replay_more s [] e = bind_some (happens objects s e)
  replay_more s (d ∷ journal) e =
      bind_same (happens objects s d) (λ t. replay objects t (journal ++ e ∷ [])) (λ t. replay objects t journal >>= λ u. happens objects u e) (λ t. replay_more t journal e)
      ∙ sym (bind_more (happens objects s d) (λ t. replay objects t journal) (λ u. happens objects u e))

  state_more : (journal : List Event) (e : Event) → state_after objects (journal ++ e ∷ []) ≡ (state_after objects journal >>= λ t. happens objects t e)
  state_more journal e =
      bind_same (start_of objects) (λ o. replay objects (begins o) (journal ++ e ∷ [])) (λ o. replay objects (begins o) journal >>= λ t. happens objects t e) (λ o. replay_more (begins o) journal e)
      ∙ sym (bind_more (start_of objects) (λ o. replay objects (begins o) journal) (λ t. happens objects t e))

  -- A state after a whole journal.
  pub whole_state : (journal : List Event) → state_of objects journal None ≡ state_after objects journal
  whole_state journal = bind_some (state_after objects journal)

  -- An event that happens is one more of the journal.
  pub entered : (journal : List Event) (e : Event) (s t : State) → state_of objects journal None ≡ Some s → happens objects s e ≡ Some t → state_of objects (journal ++ e ∷ []) None ≡ Some t
  entered journal e s t h k =
      whole_state (journal ++ e ∷ []) ∙ state_more journal e
      ∙ ap (λ o. o >>= λ u. happens objects u e) (sym (whole_state journal) ∙ h)
      ∙ k

  -- A quantum that was cut short.
  pub cut_off : (journal : List Event) (count : ℕ) (s t : State) → state_of objects journal None ≡ Some s → turned objects count s ≡ Some t → state_of objects journal (Some count) ≡ Some t
  cut_off journal count s t h k = ap (λ o. o >>= cut_short objects (Some count)) (sym (whole_state journal) ∙ h) ∙ k

  abbrev wholly : ℕ → Option State → Option State
  wholly n o = elim o as (λ o. Option State) [ None ↦ None | Some t ↦ is_whole longest 0 n t ]

  -- A quantum that is whole happens.
  pub quantum_happens : (s t : State) (count : ℕ) → 0 < count → count ≤ 2048 → fault_in s.trace ≡ None → turned objects count s ≡ Some t → is_whole longest 0 count t ≡ Some t →
      happens objects s (event.Quantum 1 count) ≡ Some t
  quantum_happens s t zero some few sound h whole = absurd (omega (arith, some))
  quantum_happens s t (suc n) some few sound h whole =
      ap (λ f. unless_faulted f (machine.happens (machine_rules objects) naming longest s (machine.Quantum 0 (suc n)))) sound
      ∙ ap (λ b. if b then None else wholly (suc n) (turned objects (suc n) s)) (not_longer n few)
      ∙ ap (wholly (suc n)) h
      ∙ whole
    where
      not_longer : (n : ℕ) → suc n ≤ 2048 → nat_lt 2048 (suc n) ≡ false
      not_longer n le = search (rules, tests, le)

abbrev whole_with : Running → Trace → Option Process → ℕ → Option State
whole_with r told o count = elim o as (λ o. Option State) [ None ↦ Some (state_with r told) | Some p ↦ if nat_eq count longest then Some (state_with r told) else None ]

not_ready : (r : Running) (told : Trace) (count : ℕ) (d : doing.Doing) → (d ≡ code.Ready → ⊥) → r.doing ≡ d → is_whole longest 0 count (state_with r told) ≡ Some (state_with r told)
not_ready r told count code.Ready other e = absurd (other refl)
not_ready r told count code.Asking other e = ap (λ d. whole_with r told (ready (Some (view_doing d (view_process r.process)))) count) e
not_ready r told count code.Gone other e = ap (λ d. whole_with r told (ready (Some (view_doing d (view_process r.process)))) count) e

-- After the last instruction of a quantum the process can't go on, or it was the longest.
pub is_over : (r : Running) (told : Trace) (count : ℕ) (t : Turn) → (t ≡ turn.NoMemory → ⊥) → (t ≡ turn.Went → count ≡ 2048) → r.doing ≡ stands_after t → is_whole longest 0 count (state_with r told) ≡ Some (state_with r told)
is_over r told count turn.Went other full e =
    let n = full refl in
    ap (λ d. whole_with r told (ready (Some (view_doing d (view_process r.process)))) count) e
    ∙ ap (λ b. if b then Some (state_with r told) else None) (longest_is count n)
  where
    longest_is : (count : ℕ) → count ≡ 2048 → nat_eq count 2048 ≡ true
    longest_is count n = search (rules, tests, n)
is_over r told count (turn.Asked m) other full e = not_ready r told count code.Asking (λ e. absurd cc) e
is_over r told count turn.Ended other full e = not_ready r told count code.Gone (λ e. absurd cc) e
is_over r told count (turn.Broken text) other full e = not_ready r told count code.Gone (λ e. absurd cc) e
is_over r told count (turn.Fault number pc) other full e = not_ready r told count code.Gone (λ e. absurd cc) e
is_over r told count turn.NoMemory other full e = absurd (other refl)

-- ---- what was told

pub closes : (o : Option State) (r : Running) (told : Trace) → o ≡ Some (state_with r told) → o ≡ Some (state_with r (trace_in o))
closes o r told h = h ∙ ap (λ t. Some (state_with r t)) (sym (ap trace_in h))

pub told_is : (o : Option State) (r : Running) (told : Trace) → o ≡ Some (state_with r told) → trace_in o ≡ told
told_is o r told h = ap trace_in h

-- ---- quanta

pub quanta_more : (journal : List Event) (e : Event) → quanta (journal ++ e ∷ []) ≡ quanta journal + quanta (e ∷ [])
quanta_more [] e = omega arith
quanta_more (event.Quantum pid count ∷ es) e = let r = quanta_more es e in omega (arith, r)
quanta_more (event.Reply link frame ∷ es) e = quanta_more es e
quanta_more (event.Down link why ∷ es) e = quanta_more es e
