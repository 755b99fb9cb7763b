-- No journal leads a machine to the ends of its counts.
use Rattle.std.proofs.Common.{◌≡◌, ℕ, ◌≤◌, List, [], ◌∷◌, Option, Some, None, refl, subst, arith}
use Rattle.dis_file.specs.declared.object.Object.{Object}
use Rattle.inf_text.specs.Options.{◌>>=◌}
use Rattle.process_model.specs.Machine as model
use Rattle.system_model.specs.Limits.{frames_limit}
use Rattle.dis_meaning.specs.Words.{Access, Found, Wrong, Raises}
use Rattle.dis_meaning.specs.Opening.{if_found}
use Rattle.dis_memory.specs.Naming.{naming}
use Rattle.dis_counts.specs.Counts.{begun}
use Rattle.dis_counts.specs.Opening.{Opened, opened}
use Rattle.dis_limits.specs.Limits.{instructions_in, IsFar, AllSized}
use Rattle.dis_limits.proofs.References.{limits_stay_far}
use Rattle.dis_machine.specs.declared.event.Event.{Event}
use Rattle.dis_machine.specs.Journal.{State, longest, machine_rules, quanta, replay, begins, state_after, cut_short}
use Rattle.dis_machine.specs.Translated.{translated}
use Rattle.dis_machine.proofs.Translation.{translates}
use Rattle.dis_ends.specs.Ends.{most_quanta, IsCounted, MachinesStayFar}
use Rattle.dis_ends.proofs.Quanta.{journal_few}

found_so : {T : Type 0} (a : Access T) (t : T) → if_found a ≡ Some t → a ≡ Found t
found_so (Found t) u e = cc
found_so (Wrong number) u e = absurd cc
found_so (Raises text) u e = absurd cc

module _ (o : Object) (others : List Object) (all : AllSized (o ∷ others)) (journal : List Event) (few : quanta journal ≤ most_quanta) where
  abbrev objects : List Object
  objects = o ∷ others

  -- How many instructions the whole quanta have.
  whole_few : (s : State) (m : Opened) → replay objects (begins m) journal ≡ Some s
      → instructions_in (translated objects (begins m) journal) ≤ 20480000000
  whole_few s m h = let z = journal_few objects (begins m) s journal h in omega arith

  -- After the whole quanta, and so many instructions more.
  far_after : (cut : Option ℕ) → IsCounted cut → (s t : State) → state_after objects journal ≡ Some s → cut_short objects cut s ≡ Some t
      → IsFar t
  far_after cut counted s t e more =
      let was = translates objects journal s e in
      let again : replay objects (begins was.opened) journal ≡ Some s =
      subst (λ (u : Option Opened). (u >>= λ m. replay objects (begins m) journal) ≡ Some s) was.opens e in
      go was.opened (found_so (opened o) was.opened was.opens) was.replays (whole_few s was.opened again) cut counted more
    where
      go : (m : Opened) → opened o ≡ Found m
          → model.replay (machine_rules objects) naming longest (begun m) (translated objects (begins m) journal) ≡ Some s
          → instructions_in (translated objects (begins m) journal) ≤ 20480000000
          → (cut : Option ℕ) → IsCounted cut → cut_short objects cut s ≡ Some t → IsFar t
      go m opens replays whole None counted more =
          limits_stay_far frames_limit longest o others m all opens (translated objects (begins m) journal) s replays 0 0 t more
          (omega arith)
      go m opens replays whole (Some count) counted more =
          limits_stay_far frames_limit longest o others m all opens (translated objects (begins m) journal) s replays 0 count t more
          (omega arith)

pub machines_stay_far : MachinesStayFar
machines_stay_far [] all journal few cut short t e = absurd cc
machines_stay_far (o ∷ others) all journal few cut short t e = go (state_after (o ∷ others) journal) refl e
  where
    go : (s : Option State) → state_after (o ∷ others) journal ≡ s → (s >>= cut_short (o ∷ others) cut) ≡ Some t → IsFar t
    go None k e = absurd cc
    go (Some s) k e = far_after o others all journal few cut short s t k e
