-- A journal whose replay stands has a replay instruction by instruction, which leads to the same state.
use Rattle.std.proofs.Common.{◌≡◌, ℕ, zero, suc, Bool, true, false, List, [], ◌∷◌, ◌++◌, Option, Some, None, refl, ap, ◌∙◌, if◌then◌else◌}
use Rattle.std.specs.Prelude.{nat_lt, nat_eq, slice_get}
use Rattle.process_model.specs.Process.{Rules}
use Rattle.process_model.specs.Naming.{Naming}
use Rattle.process_model.specs.Machine.{State, Event, Quantum, Reply, Down, ready, obey, turns, is_whole, happens, replay}
use Rattle.process_model.specs.Law.{instructions, repeated}
use Rattle.limbo_compiler.specs.Fine.{singles, fine_event, fine}

module _ {W P D M A H : Type 0} (rules : Rules W P D M A H) (naming : Naming W P D) where
  -- Two journals, one behind the other.
  pub on : (longest : ℕ) (es fs : List (Event A)) (s t u : State W P D M A H) → replay rules naming longest s es ≡ Some t → replay rules naming longest t fs ≡ Some u → replay rules naming longest s (es ++ fs) ≡ Some u
  on longest [] fs s t u first second = let same : s ≡ t = cc in rw same second
  on longest (e ∷ es) fs s t u first second = go (λ v first. on longest es fs v t u first second) (happens rules naming longest s e) first
    where
      go : ((v : State W P D M A H) → replay rules naming longest v es ≡ Some t → replay rules naming longest v (es ++ fs) ≡ Some u) → (o : Option (State W P D M A H)) → (elim o as (λ _. Option (State W P D M A H)) [ None ↦ None | Some v ↦ replay rules naming longest v es ]) ≡ Some t → (elim o as (λ _. Option (State W P D M A H)) [ None ↦ None | Some v ↦ replay rules naming longest v (es ++ fs) ]) ≡ Some u
      go rest None e = absurd cc
      go rest (Some v) e = rest v e

  one_whole : (i : ℕ) (u : State W P D M A H) → is_whole 1 i 1 u ≡ Some u
  one_whole i u = go (ready (slice_get u.processes i))
    where
      go : (o : Option P) → (elim o as (λ _. Option (State W P D M A H)) [ None ↦ Some u | Some p ↦ if nat_eq 1 1 then Some u else None ]) ≡ Some u
      go None = refl
      go (Some p) = refl

  single : (i : ℕ) (s u : State W P D M A H) → obey rules naming s i (ready (slice_get s.processes i)) ≡ Some u → happens rules naming 1 s (Quantum i 1) ≡ Some u
  single i s u e =
      ap (λ o. elim (elim o as (λ _. Option (State W P D M A H)) [ None ↦ None | Some v ↦ Some v ]) as (λ _. Option (State W P D M A H)) [ None ↦ None | Some v ↦ is_whole 1 i 1 v ]) e
      ∙ one_whole i u

  -- The instructions of a quantum, one by one.
  pub turns_fine : (i n : ℕ) (s t : State W P D M A H) → turns rules naming i n s ≡ Some t → replay rules naming 1 s (singles i n) ≡ Some t
  turns_fine i zero s t e = e
  turns_fine i (suc n) s t e = go (λ v e. turns_fine i n v t e) (obey rules naming s i (ready (slice_get s.processes i))) refl e
    where
      go : ((v : State W P D M A H) → turns rules naming i n v ≡ Some t → replay rules naming 1 v (singles i n) ≡ Some t) → (o : Option (State W P D M A H)) → obey rules naming s i (ready (slice_get s.processes i)) ≡ o → (elim o as (λ _. Option (State W P D M A H)) [ None ↦ None | Some v ↦ turns rules naming i n v ]) ≡ Some t → replay rules naming 1 s (singles i (suc n)) ≡ Some t
      go rest None o e = absurd cc
      go rest (Some v) o e =
          ap (λ o. elim o as (λ _. Option (State W P D M A H)) [ None ↦ None | Some v ↦ replay rules naming 1 v (singles i n) ]) (single i s v o)
          ∙ rest v e

  event_fine : (longest : ℕ) (e : Event A) (s t : State W P D M A H) → happens rules naming longest s e ≡ Some t → replay rules naming 1 s (fine_event e) ≡ Some t
  event_fine longest (Quantum i zero) s t e = absurd cc
  event_fine longest (Quantum i (suc n)) s t e = by_length (nat_lt longest (suc n)) e
    where
      whole : (v : State W P D M A H) (o : Option P) → (elim o as (λ _. Option (State W P D M A H)) [ None ↦ Some v | Some p ↦ if nat_eq (suc n) longest then Some v else None ]) ≡ Some t → v ≡ t
      whole v None e = cc
      whole v (Some p) e = by (nat_eq (suc n) longest) e
        where
          by : (b : Bool) → (if b then Some v else None) ≡ Some t → v ≡ t
          by true e = cc
          by false e = absurd cc

      go : (o : Option (State W P D M A H)) → turns rules naming i (suc n) s ≡ o → (elim o as (λ _. Option (State W P D M A H)) [ None ↦ None | Some v ↦ is_whole longest i (suc n) v ]) ≡ Some t → replay rules naming 1 s (singles i (suc n)) ≡ Some t
      go None o e = absurd cc
      go (Some v) o e = turns_fine i (suc n) s t (o ∙ ap (λ (v : State W P D M A H). Some v) (whole v (ready (slice_get v.processes i)) e))

      by_length : (b : Bool) → (if b then None else elim (turns rules naming i (suc n) s) as (λ _. Option (State W P D M A H)) [ None ↦ None | Some v ↦ is_whole longest i (suc n) v ]) ≡ Some t → replay rules naming 1 s (singles i (suc n)) ≡ Some t
      by_length true e = absurd cc
      by_length false e = go (turns rules naming i (suc n) s) refl e
  event_fine longest (Reply i a) s t e = ap (λ o. elim o as (λ _. Option (State W P D M A H)) [ None ↦ None | Some v ↦ Some v ]) e
  event_fine longest (Down l) s t e = ap (λ o. elim o as (λ _. Option (State W P D M A H)) [ None ↦ None | Some v ↦ Some v ]) e

  pub replay_fine : (longest : ℕ) (es : List (Event A)) (s t : State W P D M A H) → replay rules naming longest s es ≡ Some t → replay rules naming 1 s (fine es) ≡ Some t
  replay_fine longest [] s t e = e
  replay_fine longest (x ∷ es) s t e = go (λ v e. replay_fine longest es v t e) (happens rules naming longest s x) refl e
    where
      go : ((v : State W P D M A H) → replay rules naming longest v es ≡ Some t → replay rules naming 1 v (fine es) ≡ Some t) → (o : Option (State W P D M A H)) → happens rules naming longest s x ≡ o → (elim o as (λ _. Option (State W P D M A H)) [ None ↦ None | Some v ↦ replay rules naming longest v es ]) ≡ Some t → replay rules naming 1 s (fine (x ∷ es)) ≡ Some t
      go rest None o e = absurd cc
      go rest (Some v) o e = on 1 (fine_event x) (fine es) s v t (event_fine longest x s v o) (rest v e)

-- The instructions are the same.
singles_have : {A : Type 0} (i n : ℕ) (es : List (Event A)) → instructions (singles i n ++ es) ≡ repeated i n ++ instructions es
singles_have i zero es = refl
singles_have i (suc n) es = ap (λ l. i ∷ l) (singles_have i n es)

pub fine_has : {A : Type 0} (es : List (Event A)) → instructions (fine es) ≡ instructions es
fine_has [] = refl
fine_has (Quantum i n ∷ es) = singles_have i n (fine es) ∙ ap (λ l. repeated i n ++ l) (fine_has es)
fine_has (Reply i a ∷ es) = fine_has es
fine_has (Down l ∷ es) = fine_has es
