-- A machine as it begins.
use Rattle.std.proofs.Common.{◌≡◌, ℕ, suc, List, [], ◌∷◌, length, map, Some, None, refl, sym, ap, subst, ◌∙◌, arith}
use Rattle.std.specs.Prelude.{slice_get, slice_index_or, ◌<◌, false}
use Rattle.std.specs.Option.{option_map}
use Rattle.dis_file.specs.declared.object.Object.{Object}
use Rattle.inf_text.specs.Options.{◌>>=◌}
use Rattle.dis_meaning.specs.Opening.{if_found}
use Rattle.dis_meaning.specs.Words.{Access, Found, Wrong, Raises}
use Rattle.dis_counts.specs.Opening.{Opened, opened}
use Rattle.dis_code.specs.declared.code.Code.{Code}
use Rattle.dis_places.specs.View.{view_process, view_world}
use Rattle.dis_steps.specs.Codes.{objects_of}
use Rattle.dis_machine.specs.declared.event.Event.{Event}
use Rattle.dis_machine.specs.declared.outcome.Outcome.{Outcome}
use Rattle.dis_machine.specs.declared.state.Running.{Running}
use Rattle.dis_machine.specs.declared.doing.Doing.TheVariants as doing
use Rattle.dis_machine.specs.Doings.{view_doing}
use Rattle.dis_machine.specs.Journal.{State, codes_of, start_of, state_of, replay, begins}
use Rattle.dis_machine.specs.Running.{state_with}
use Rattle.dis_machine.specs.Kept.{view_broken, view_fault, frames_on, EndsWith, IsKept, Keeps, told_after}
use Rattle.dis_machine.specs.Standing.{objects_in}
use Rattle.dis_machine.proofs.Entering.{closes, told_is}

none_found : {T : Type 0} (a : Access T) → ((t : T) → a ≡ Found t → ⊥) → if_found a ≡ None
none_found (Found t) h = absurd (h t refl)
none_found (Wrong n) h = refl
none_found (Raises text) h = refl

pub few : (codes : List (List ℕ × Code)) (objects : List (List ℕ × Object)) → objects_in codes ≡ objects → length codes ≡ length objects
few [] objects e = ap length e
few (c ∷ cs) objects e = ap suc (few cs (objects_in cs) refl) ∙ ap length e

pub same_codes : (codes : List (List ℕ × Code)) → objects_of codes ≡ codes_of (objects_in codes)
same_codes [] = refl
same_codes (c ∷ cs) = ap (λ os. c.1.object ∷ os) (same_codes cs)

pub codes_are : (codes : List (List ℕ × Code)) (objects : List (List ℕ × Object)) → objects_in codes ≡ objects → objects_of codes ≡ codes_of objects
codes_are codes objects e = same_codes codes ∙ ap codes_of e

-- The first object's opening is that of the whole.
first_of : (codes : List (List ℕ × Code)) (first : List ℕ × Code) → slice_get codes 0 ≡ Some first → start_of (objects_of codes) ≡ if_found (opened first.1.object)
first_of [] first e = absurd cc
first_of (c ∷ cs) first e = let same : c ≡ first = cc in ap (λ (c : List ℕ × Code). if_found (opened c.1.object)) same

pub there_first : (codes : List (List ℕ × Code)) (objects : List (List ℕ × Object)) (first : List ℕ × Code) → objects_in codes ≡ objects → 0 < length objects →
    first ≡ slice_index_or codes 0 first → slice_get codes 0 ≡ Some first
there_first [] objects first same some e = let l = ap length same in absurd (omega (arith, l, some))
there_first (c ∷ cs) objects first same some e = ap Some (sym e)

pub none_begins : (codes : List (List ℕ × Code)) (objects : List (List ℕ × Object)) (first : List ℕ × Code) → objects_in codes ≡ objects →
    slice_get codes 0 ≡ Some first → ((m : Opened) → opened first.1.object ≡ Found m → ⊥) → start_of (codes_of objects) ≡ None
none_begins codes objects first same there none =
    ap start_of (sym (codes_are codes objects same)) ∙ first_of codes first there ∙ none_found (opened first.1.object) none

nothing_told : (o : Outcome) → o.outbox.items ≡ [] → o.broken.items ≡ [] → o.fault ≡ None → Keeps [] o
nothing_told o outbox broken fault = record {
  fault = ap (option_map view_fault) fault;
  broken = ap (map view_broken) broken;
  outbox = λ link. subst (λ ms. EndsWith (frames_on link ms) []) (sym outbox) refl;
}

module _ (codes : List (List ℕ × Code)) (first : List ℕ × Code) (there : slice_get codes 0 ≡ Some first) (r : Running) (ready : r.doing ≡ doing.Ready)
    (opens : opened first.1.object ≡ Found (record { world = view_world r.memory; first = view_process r.process })) where
  leads : state_of (objects_of codes) [] None ≡ Some (state_with r [])
  leads =
      ap (λ s. (s >>= λ o. replay (objects_of codes) (begins o) []) >>= λ s. Some s) (first_of codes first there ∙ ap if_found opens)
      ∙ ap (λ d. Some (let s : State = record { processes = view_doing d (view_process r.process) ∷ []; world = view_world r.memory; waiters = []; trace = [] } in s)) (sym ready)

  kept : (limit : ℕ) (o : Outcome) → o.outbox.items ≡ [] → o.broken.items ≡ [] → o.fault ≡ None → IsKept (objects_of codes) limit [] 0 None false r o
  kept limit o outbox broken fault =
      let quiet : told_after (objects_of codes) [] None ≡ [] = told_is (state_of (objects_of codes) [] None) r [] leads in
      record {
        leads = closes (state_of (objects_of codes) [] None) r [] leads;
        keeps = subst (λ t. Keeps t o) (sym quiet) (nothing_told o outbox broken fault);
        counted = refl;
        within = omega arith;
        whole = λ e. refl;
        short = λ e. absurd (e refl);
        started = λ e. absurd cc;
        sound = λ live. fault;
      }

  pub begun_kept : (limit : ℕ) (journal : List Event) (o : Outcome) → journal ≡ [] → o.outbox.items ≡ [] → o.broken.items ≡ [] → o.fault ≡ None →
      IsKept (objects_of codes) limit journal 0 None false r o
  begun_kept limit journal o empty outbox broken fault = subst (λ es. IsKept (objects_of codes) limit es 0 None false r o) (sym empty) (kept limit o outbox broken fault)
