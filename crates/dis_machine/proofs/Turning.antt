-- Instructions of the one process, and rows of them.
use Rattle.std.proofs.Common.{◌≡◌, ℕ, zero, suc, ◌+◌, List, [], ◌∷◌, ◌++◌, Option, Some, None, refl, sym, ap, ◌∙◌, add-one, append_assoc}
use Rattle.std.proofs.lemmas.List.{append-nil}
use Rattle.process_model.specs.Process.{Doing, released}
use Rattle.process_model.specs.Machine.{turns}
use Rattle.dis_memory.specs.Naming.{naming}
use Rattle.dis_file.specs.declared.object.Object.{Object}
use Rattle.system_model.specs.Values.{Value}
use Rattle.system_model.specs.Trace.{Trace}
use Rattle.dis_memory.specs.Blocks.{World}
use Rattle.dis_meaning.specs.Process.{Process}
use Rattle.dis_counts.specs.Told as traces
use Rattle.dis_places.specs.View.{view_process, view_world}
use Rattle.dis_turns.specs.Turns.{alone}
use Rattle.dis_machine.specs.declared.state.Running.{Running}
use Rattle.dis_machine.specs.Doings.{view_doing}
use Rattle.dis_machine.specs.Journal.{State, machine_rules}
use Rattle.dis_machine.specs.Running.{obeyed, ComesTo}
use Rattle.dis_machine.proofs.Traces.{told_more}

-- What is told of blocks that went, beside all else.
went : (i : ℕ) (gone : List ℕ) → traces.told (released i gone) ≡ []
went i [] = refl
went i (n ∷ ns) = refl

pub told_beside : (a : Trace) (i : ℕ) (gone : List ℕ) → traces.told a ≡ a → traces.told (a ++ released i gone) ≡ a
told_beside a i gone e = told_more a (released i gone) ∙ ap (λ t. t ++ traces.told (released i gone)) e ∙ ap (λ t. a ++ t) (went i gone) ∙ append-nil a

-- A turn, where the process and memory behind it are these.
pub comes : (r : Running) (told since : Trace) (gone : List ℕ) (reached : Option State) (d : Doing Process Value) (x : World) →
    traces.told since ≡ since → view_doing r.doing (view_process r.process) ≡ d → view_world r.memory ≡ x →
    reached ≡ Some (alone d x ((told ++ since) ++ released 0 gone)) → ComesTo reached r told since
comes r told since gone reached d x plain doing world e = record {
  more = since ++ released 0 gone;
  since = told_beside since 0 gone plain;
  state =
      e
      ∙ ap (λ t. Some (alone d x t)) (append_assoc told since (released 0 gone))
      ∙ ap (λ d. Some (alone d x (told ++ (since ++ released 0 gone)))) (sym doing)
      ∙ ap (λ x. Some (alone (view_doing r.doing (view_process r.process)) x (told ++ (since ++ released 0 gone)))) (sym world);
}

module _ (objects : List Object) where
  abbrev pub turned : ℕ → State → Option State
  turned n s = turns (machine_rules objects) naming 0 n s

  abbrev and_then : ℕ → Option State → Option State
  and_then n o = elim o as (λ o. Option State) [ None ↦ None | Some t ↦ turned n t ]

  -- One instruction more.
  pub one_more : (n : ℕ) (s t u : State) → turned n s ≡ Some t → obeyed objects t ≡ Some u → turned (suc n) s ≡ Some u
  one_more zero s t u h k = let same : s ≡ t = cc in ap (and_then 0) (ap (obeyed objects) same ∙ k)
  one_more (suc n) s t u h k = go (obeyed objects s) refl h (λ v l. one_more n v t u l k)
    where
      go : (o : Option State) → obeyed objects s ≡ o → and_then n o ≡ Some t → ((v : State) → turned n v ≡ Some t → turned (suc n) v ≡ Some u) → turned (suc (suc n)) s ≡ Some u
      go None e h later = absurd cc
      go (Some v) e h later = ap (and_then (suc n)) e ∙ later v h

  pub then_one : (n : ℕ) (s t u : State) → turned n s ≡ Some t → obeyed objects t ≡ Some u → turned (n + 1) s ≡ Some u
  then_one n s t u h k = ap (λ n. turned n s) (add-one n) ∙ one_more n s t u h k
