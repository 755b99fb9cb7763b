-- How many instructions a machine's journal has, translated to events of process_model.
use Rattle.std.proofs.Common.{◌≡◌, ℕ, zero, suc, ◌+◌, ◌*◌, ◌≤◌, Bool, true, false, List, [], ◌∷◌, refl, ap, subst, ◌∙◌, arith}
use Rattle.std.proofs.Common.{if◌then◌else◌}
use Rattle.std.specs.Prelude.{Option, Some, None, nat_lt, ◌==◌}
use Rattle.std.proofs.lemmas.Bool.{ltb-false}
use Rattle.styx_msg.specs.declared.message.Rmsg.{Rmsg}
use Rattle.process_model.specs.Machine as model
use Rattle.dis_file.specs.declared.object.Object.{Object}
use Rattle.dis_memory.specs.Naming.{naming}
use Rattle.inf_text.specs.Options.{◌>>=◌}
use Rattle.dis_limits.specs.Limits.{instructions_in}
use Rattle.dis_limits.proofs.Running.{in_event, length_more}
use Rattle.dis_machine.specs.declared.event.Event.{Event}
use Rattle.dis_machine.specs.declared.event.Event.TheVariants as event
use Rattle.dis_machine.specs.Journal.{State, Tagged, longest, machine_rules, fault_in, reply_in, asker, meant, happens, replay, quanta}
use Rattle.dis_machine.specs.Translated.{translated}
use Rattle.dis_machine.proofs.Translation.{happened}

-- ---- an event

-- Replies have no instructions.
asked_few : (o : Option ℕ) (reply : Rmsg) (m : model.Event Rmsg) → (o >>= λ i. Some (model.Reply i reply)) ≡ Some m → in_event m ≡ 0
asked_few None reply m e = absurd cc
asked_few (Some i) reply m e = let same : model.Reply i reply ≡ m = cc in subst (λ m. in_event m ≡ 0) same refl

tagged_few : (s : State) (o : Option Tagged) (m : model.Event Rmsg)
    → (o >>= λ r. asker s r.tag >>= λ i. Some (model.Reply i r.reply)) ≡ Some m → in_event m ≡ 0
tagged_few s None m e = absurd cc
tagged_few s (Some r) m e = asked_few (asker s r.tag) r.reply m e

linked_few : (s : State) (b : Bool) (frame : List ℕ) (m : model.Event Rmsg)
    → (if b then reply_in frame >>= (λ r. asker s r.tag >>= λ i. Some (model.Reply i r.reply)) else None) ≡ Some m → in_event m ≡ 0
linked_few s true frame m e = tagged_few s (reply_in frame) m e
linked_few s false frame m e = absurd cc

module _ (objects : List Object) where
  abbrev model_happens : State → model.Event Rmsg → Option State
  model_happens s e = model.happens (machine_rules objects) naming longest s e

  -- A quantum has at most 2,048.
  event_few : (s t : State) (m : model.Event Rmsg) → model_happens s m ≡ Some t → in_event m ≤ 2048
  event_few s t (model.Quantum i zero) e = absurd cc
  event_few s t (model.Quantum i (suc l)) e = go (nat_lt 2048 (suc l)) refl e
    where
      go : (b : Bool) → nat_lt 2048 (suc l) ≡ b
          → (if b then None else
          (elim (model.turns (machine_rules objects) naming i (suc l) s) as
          (λ _. Option State) [ None ↦ None | Some u ↦ model.is_whole longest i (suc l) u ])) ≡ Some t → suc l ≤ 2048
      go true l e = absurd cc
      go false less e = ltb-false 2048 (suc l) less
  event_few s t (model.Reply i a) e = omega arith
  event_few s t (model.Down l) e = omega arith

  meant_few : (s t : State) (e : Event) (es : List Event) (m : model.Event Rmsg) → meant s e ≡ Some m → model_happens s m ≡ Some t
      → in_event m + 2048 * quanta es ≤ 2048 * quanta (e ∷ es)
  meant_few s t (event.Quantum pid count) es m e h = let z = event_few s t m h in omega arith
  meant_few s t (event.Reply link frame) es m e h = let z = linked_few s (link == 1) frame m e in omega arith
  meant_few s t (event.Down link why) es m e h = absurd cc

  -- ---- a journal

  abbrev on_from : Option State → List Event → List (model.Event Rmsg)
  on_from u es = elim u [ None ↦ [] | Some t ↦ translated objects t es ]

  pub journal_few : (s t : State) (es : List Event) → replay objects s es ≡ Some t
      → instructions_in (translated objects s es) ≤ 2048 * quanta es
  journal_few s t [] h = omega arith
  journal_few s t (e ∷ es) h = go (λ v h. journal_few v t es h) (happens objects s e) refl h
    where
      go : ((v : State) → replay objects v es ≡ Some t → instructions_in (translated objects v es) ≤ 2048 * quanta es)
          → (o : Option State) → happens objects s e ≡ o → (o >>= λ v. replay objects v es) ≡ Some t
          → instructions_in (translated objects s (e ∷ es)) ≤ 2048 * quanta (e ∷ es)
      go later None k h = absurd cc
      go later (Some v) k h =
          let m = happened objects s v e (fault_in s.trace) (meant s e) k in
          let is : translated objects s (e ∷ es) ≡ m.0 ∷ translated objects v es =
          ap (λ o. elim o as (λ _. List (model.Event Rmsg)) [ None ↦ [] | Some m ↦ m ∷ on_from (happens objects s e) es ]) m.1
          ∙ ap (λ u. m.0 ∷ on_from u es) k in
          let x : instructions_in (translated objects s (e ∷ es)) ≡ instructions_in (m.0 ∷ translated objects v es) =
          ap instructions_in is in
          let y = length_more m.0 (translated objects v es) in
          let z = meant_few s v e es m.0 m.1 m.2 in
          let w = later v h in omega arith
