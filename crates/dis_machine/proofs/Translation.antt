-- A replay is that of process_model.
use Rattle.std.proofs.Common.{◌≡◌, List, [], ◌∷◌, Option, Some, None, refl, ap, ◌∙◌}
use Rattle.styx_msg.specs.declared.message.Rmsg.{Rmsg}
use Rattle.process_model.specs.Machine as model
use Rattle.dis_memory.specs.Naming.{naming}
use Rattle.dis_file.specs.declared.object.Object.{Object}
use Rattle.inf_text.specs.Options.{◌>>=◌}
use Rattle.dis_counts.specs.Opening.{Opened}
use Rattle.dis_machine.specs.declared.event.Event.{Event}
use Rattle.dis_machine.specs.Journal.{State, Fault, fault_in, unless_faulted, longest, machine_rules, meant, happens, replay, begins, start_of, state_after}
use Rattle.dis_machine.specs.Translated.{translated, Translates}

module _ (objects : List Object) where
  abbrev model_happens : State → model.Event Rmsg → Option State
  model_happens s e = model.happens (machine_rules objects) naming longest s e

  abbrev model_replay : State → List (model.Event Rmsg) → Option State
  model_replay s es = model.replay (machine_rules objects) naming longest s es

  -- What happened, by its translation.
  pub happened : (s t : State) (e : Event) (f : Option Fault) (o : Option (model.Event Rmsg)) → unless_faulted f (o >>= model_happens s) ≡ Some t → (m : model.Event Rmsg) × (o ≡ Some m) × (model_happens s m ≡ Some t)
  happened s t e (Some f) o h = absurd cc
  happened s t e None None h = absurd cc
  happened s t e None (Some m) h = (m, refl, h)

  abbrev steps_on : State → (o : Option (model.Event Rmsg)) → Option State → List Event → List (model.Event Rmsg)
  steps_on s o u es = elim o [ None ↦ [] | Some m ↦ m ∷ elim u [ None ↦ [] | Some t ↦ translated objects t es ] ]

  go_on : (s t : State) (e : Event) (es : List Event) (u : Option State) → happens objects s e ≡ u → (u >>= λ v. replay objects v es) ≡ Some t →
      ((v : State) → replay objects v es ≡ Some t → model_replay v (translated objects v es) ≡ Some t) → model_replay s (translated objects s (e ∷ es)) ≡ Some t
  go_on s t e es None k h later = absurd cc
  go_on s t e es (Some v) k h later =
      let m = happened s v e (fault_in s.trace) (meant s e) k in
      ap (λ o. model_replay s (steps_on s o (happens objects s e) es)) m.1
      ∙ ap (λ u. model_replay s (steps_on s (Some m.0) u es)) k
      ∙ ap (λ (u : Option State). elim u as (λ u. Option State) [ None ↦ None | Some w ↦ model_replay w (translated objects v es) ]) m.2
      ∙ later v h

  pub same_replay : (s t : State) (journal : List Event) → replay objects s journal ≡ Some t → model_replay s (translated objects s journal) ≡ Some t
  same_replay s t [] h = h
  same_replay s t (e ∷ es) h = go_on s t e es (happens objects s e) refl h (λ v k. same_replay v t es k)

pub translates : (objects : List Object) (journal : List Event) (t : State) → state_after objects journal ≡ Some t → Translates objects journal t
translates objects journal t h = go (start_of objects) refl h
  where
    go : (o : Option Opened) → start_of objects ≡ o → (o >>= λ o. replay objects (begins o) journal) ≡ Some t → Translates objects journal t
    go None k h = absurd cc
    go (Some o) k h = record { opened = o; opens = k; replays = same_replay objects (begins o) t journal h }
