-- One step of the search, at the values of the code.
use Rattle.std.proofs.Common.{◌≡◌, ℕ, zero, suc, ◌+◌, ◌<◌, inl, inr, List, [], ◌∷◌, ◌++◌, length, Option, None, Some, slice_get, slice_set, get_or, replicate, refl, sym, ap, subst, ◌∙◌, arith}
use Rattle.std.proofs.lemmas.Option.{slice_get-get_or, slice_get_within}
use Rattle.std.proofs.lemmas.List.{length-append, length-replicate, length-set}
use Rattle.limbo_entries.specs.Entries.{Entry}
use Rattle.limbo_naming.specs.declared.state.State.{State}
use Rattle.limbo_naming.specs.declared.state.State.TheVariants.{NotYet, Entered, Done}
use Rattle.limbo_naming.specs.declared.state.Found.{Found}
use Rattle.limbo_naming.specs.declared.state.Found.TheVariants as found
use Rattle.limbo_naming.specs.Naming.{Leads}
use Rattle.limbo_naming.specs.Depth.{GoesThrough}
use Rattle.limbo_naming.specs.Search.{HasState, IsOpen, IsSearch, LeadsTo, Tries, AreDone, left, unseen}
use Rattle.limbo_naming.specs.Steps.{Settles, Enters, Advances, NoneForgotten}
use Rattle.limbo_naming.proofs.Lists.{set_there, set_cases, alike_there}
use Rattle.limbo_naming.proofs.Searching.{unseen_entered, unseen_done, enters, settles, top_entered}

pub state_or : (states : List State) (k : ℕ) (d st : State) → k < length states → get_or states k d ≡ st → HasState states k st
state_or states k d st l e = slice_get-get_or states k d l ∙ ap Some e

pub fresh : (states : List State) (k : ℕ) (st : State) → HasState states k st → (st ≡ Entered → ⊥) → IsOpen states k → HasState states k NotYet
fresh states k NotYet h n o = h
fresh states k Entered h n o = absurd (n refl)
fresh states k (Done r) h n o = absurd (o r h)

pub nowhere : (es : List Entry) (m : ℕ) (states : List State) (top : ℕ) (f : Found) → ((r : ℕ) → f ≡ found.Named r → ⊥) → ((k : ℕ) → f ≡ found.Needs k → ⊥)
    → Tries es m states top f → (r : ℕ) → Leads es m top r → ⊥
nowhere es m states top (found.Named r) a b t = absurd (a r refl)
nowhere es m states top found.Unknown a b t = t
nowhere es m states top found.Nothing a b t = t
nowhere es m states top (found.Needs k) a b t = absurd (b k refl)

same_left : (a b : List State) (c d : List ℕ) → a ≡ b → c ≡ d → left a c ≡ left b d
same_left a b c d e f = cc

module _ (es : List Entry) (m : ℕ) (states : List State) (path : List ℕ) (s : IsSearch es m states path) where
  pub stands_there : (i j : ℕ) → slice_get path i ≡ Some j → j < length states
  stands_there i j h = slice_get_within states j Entered (s.entered i j h)

  pub known : (to : Option ℕ) (after : List State) (rest : List ℕ) (w : Settles states path to after rest) → LeadsTo es m w.top to
      → Advances es m states path after rest
  known to after rest w l = record {
    search = subst (λ (z : List State). IsSearch es m z rest) (sym w.done) (settles es m states path s rest w.top w.apart to l);
    seen = λ j h. elim (set_cases states w.top j (Done to) NotYet (subst (λ (z : List State). HasState z j NotYet) w.done h)) [
      | inl x ↦ x.0
      | inr x ↦ absurd (let e : Done to ≡ NotYet = x.1 in cc)
    ];
    less =
        let e = unseen_done states w.top to (top_entered es m states path s rest w.top w.apart) in
        let f : length path ≡ length rest + 1 = rw w.apart (simp length-append (omega arith)) in
        let g : unseen after ≡ unseen states = ap unseen w.done ∙ e in
        omega arith;
  }

  pub onward : (front : List ℕ) (top next : ℕ) → path ≡ front ++ (top ∷ []) → (after : List State) (longer : List ℕ) → Enters states path next after longer
      → GoesThrough es m top next → HasState states next NotYet → Advances es m states path after longer
  onward front top next f after longer w g h = record {
    search =
        subst (λ (z : List ℕ). IsSearch es m after z) (sym w.path_is)
        (subst (λ (z : List State). IsSearch es m z (path ++ (next ∷ []))) (sym w.entered) (enters es m states path s front top f next g h));
    seen = λ j x. elim (set_cases states next j Entered NotYet (subst (λ (z : List State). HasState z j NotYet) w.entered x)) [
      | inl y ↦ y.0
      | inr y ↦ absurd (let e : Entered ≡ NotYet = y.1 in cc)
    ];
    less =
        let e = unseen_entered states next h in
        let f : length longer ≡ length path + 1 = rw w.path_is (simp length-append (omega arith)) in
        let g : unseen after + 1 ≡ unseen states = ap (λ n. unseen n + 1) w.entered ∙ e in
        omega arith;
  }

-- a path that begins
pub begins : (es : List Entry) (m : ℕ) (states : List State) (number : ℕ) → IsSearch es m states [] → HasState states number NotYet
    → IsSearch es m (slice_set states number Entered) (number ∷ [])
begins es m states number s h = record {
  known = record {
    same_length = length-set states number Entered ∙ s.known.same_length;
    leads = λ j r g. elim (set_cases states number j Entered (Done (Some r)) g) [
      | inl x ↦ s.known.leads j r x.0
      | inr x ↦ absurd (let e : Entered ≡ Done (Some r) = x.1 in cc)
    ];
    nowhere = λ j r g. elim (set_cases states number j Entered (Done None) g) [
      | inl x ↦ s.known.nowhere j r x.0
      | inr x ↦ absurd (let e : Entered ≡ Done None = x.1 in cc)
    ];
  };
  way = λ i j k a b. let l = slice_get_within (number ∷ []) (i + 1) k b in absurd (omega arith);
  entered = λ i j a. one i j a;
  on_path = λ j g. elim (set_cases states number j Entered Entered g) [
    | inl x ↦ let i = s.on_path j x.0 in let l = slice_get_within [] i.0 j i.1 in absurd (omega arith)
    | inr q ↦ (0, ap Some (sym q.0))
  ];
  once = λ i j k a b. both i j k a b;
}
  where
    one : (i j : ℕ) → slice_get (number ∷ []) i ≡ Some j → HasState (slice_set states number Entered) j Entered
    one zero j a = let e : number ≡ j = cc in subst (λ (z : ℕ). HasState (slice_set states number Entered) z Entered) e (set_there states number Entered (slice_get_within states number NotYet h))
    one (suc i) j a = absurd cc

    both : (i j k : ℕ) → slice_get (number ∷ []) i ≡ Some k → slice_get (number ∷ []) j ≡ Some k → i ≡ j
    both zero zero k a b = refl
    both zero (suc j) k a b = absurd cc
    both (suc i) j k a b = absurd cc

pub set_seen : (states : List State) (number : ℕ) → NoneForgotten states (slice_set states number Entered)
set_seen states number = λ j x. elim (set_cases states number j Entered NotYet x) [
  | inl y ↦ y.0
  | inr y ↦ absurd (let e : Entered ≡ NotYet = y.1 in cc)
]

pub set_here : (states : List State) (number : ℕ) → HasState (slice_set states number Entered) number NotYet → ⊥
set_here states number x = elim (set_cases states number number Entered NotYet x) [
  | inl y ↦ y.1 refl
  | inr y ↦ absurd (let e : Entered ≡ NotYet = y.1 in cc)
]

-- nothing was looked at
pub first : (es : List Entry) (m n : ℕ) → n ≡ length es → IsSearch es m (replicate n NotYet) []
first es m n e = record {
  known = record {
    same_length = length-replicate n NotYet ∙ e;
    leads = λ j r g. absurd (let x : NotYet ≡ Done (Some r) = alike_there n j NotYet (Done (Some r)) g in cc);
    nowhere = λ j r g. absurd (let x : NotYet ≡ Done None = alike_there n j NotYet (Done None) g in cc);
  };
  way = λ i j k a b. let l = slice_get_within [] i j a in absurd (omega arith);
  entered = λ i j a. let l = slice_get_within [] i j a in absurd (omega arith);
  on_path = λ j g. absurd (let x : NotYet ≡ Entered = alike_there n j NotYet Entered g in cc);
  once = λ i j k a b. let l = slice_get_within [] i k a in absurd (omega arith);
}

pub rests : (es : List Entry) (m : ℕ) (states : List State) (path : List ℕ) → length path ≡ 0 → IsSearch es m states path → IsSearch es m states []
rests es m states [] l s = s
rests es m states (x ∷ path) l s = absurd (omega arith)

-- all were looked at, and no path is left
pub all_done : (es : List Entry) (m : ℕ) (states : List State) → IsSearch es m states [] → ((j : ℕ) → HasState states j NotYet → ⊥) → AreDone states
all_done es m states s n j NotYet h = absurd (n j h)
all_done es m states s n j Entered h = let i = s.on_path j h in let l = slice_get_within [] i.0 j i.1 in absurd (omega arith)
all_done es m states s n j (Done to) h = (to, refl)
