-- A step of the search.
use Rattle.std.proofs.Common.{◌≡◌, ℕ, zero, suc, ◌+◌, ◌-◌, ◌<◌, ◌⊎◌, inl, inr, List, [], ◌∷◌, ◌++◌, length, Option, None, Some, slice_get, refl, sym, ap, subst, ◌∙◌, arith}
use Rattle.std.proofs.Math.ListN.{set}
use Rattle.std.proofs.lemmas.List.{length-set, length-append}
use Rattle.std.proofs.lemmas.Option.{slice_get_within}
use Rattle.limbo_entries.specs.Entries.{Entry}
use Rattle.limbo_naming.specs.declared.state.State.{State}
use Rattle.limbo_naming.specs.declared.state.State.TheVariants.{NotYet, Entered, Done}
use Rattle.limbo_naming.specs.Naming.{Leads}
use Rattle.limbo_naming.specs.Depth.{GoesThrough}
use Rattle.limbo_naming.specs.Search.{HasState, IsSearch, LeadsTo, unseen}
use Rattle.limbo_naming.proofs.Circles.{through, no_circle}
use Rattle.limbo_naming.proofs.Lists.{filled, stands_left, stands_last, stands_push, set_there, set_other, set_cases}

pub unseen_entered : (states : List State) (k : ℕ) → HasState states k NotYet → unseen (set states k Entered) + 1 ≡ unseen states
unseen_entered [] k h = absurd cc
unseen_entered (s ∷ ss) zero h = let e : s ≡ NotYet = cc in rw e (omega arith)
unseen_entered (NotYet ∷ ss) (suc k) h = let r = unseen_entered ss k h in omega arith
unseen_entered (Entered ∷ ss) (suc k) h = unseen_entered ss k h
unseen_entered (Done r ∷ ss) (suc k) h = unseen_entered ss k h

pub unseen_done : (states : List State) (k : ℕ) (to : Option ℕ) → HasState states k Entered → unseen (set states k (Done to)) ≡ unseen states
unseen_done [] k to h = absurd cc
unseen_done (s ∷ ss) zero to h = let e : s ≡ Entered = cc in rw e refl
unseen_done (NotYet ∷ ss) (suc k) to h = ap (λ n. 1 + n) (unseen_done ss k to h)
unseen_done (Entered ∷ ss) (suc k) to h = unseen_done ss k to h
unseen_done (Done r ∷ ss) (suc k) to h = unseen_done ss k to h

one_state : (states : List State) (k : ℕ) (a b : State) → HasState states k a → HasState states k b → a ≡ b
one_state states k a b f g = cc

entered_apart : (r : Option ℕ) → Entered ≡ Done r → ⊥
entered_apart r e = absurd cc

module _ (es : List Entry) (m : ℕ) (states : List State) (path : List ℕ) (s : IsSearch es m states path) where
  -- where the path leads on, each on it leads through those behind
  leads : (n i j a b : ℕ) → j ≡ i + 1 + n → slice_get path i ≡ Some a → slice_get path j ≡ Some b → GoesThrough es m a b
  leads zero i j a b f h k = s.way i a b h (subst (λ (z : ℕ). slice_get path z ≡ Some b) (omega arith) k)
  leads (suc n) i j a b f h k =
      let l = slice_get_within path j b k in
      let g = filled path (i + 1) (omega arith) in
      through es m a g.0 b (s.way i a g.0 h g.1) (leads n (i + 1) j g.0 b (omega arith) g.1 k)

  -- a declaration that the last one leads through is entered
  module _ (front : List ℕ) (top : ℕ) (f : path ≡ front ++ (top ∷ [])) where
    stands_top : slice_get path (length front) ≡ Some top
    stands_top = subst (λ (z : List ℕ). slice_get z (length front) ≡ Some top) (sym f) (stands_last front top)

    in_front : (i n : ℕ) → slice_get path i ≡ Some n → (slice_get front i ≡ Some n) ⊎ ((i ≡ length front) × (top ≡ n))
    in_front i n h = stands_push front top i n (subst (λ (z : List ℕ). slice_get z i ≡ Some n) f h)

    in_path : (i n : ℕ) → slice_get front i ≡ Some n → slice_get path i ≡ Some n
    in_path i n h = subst (λ (z : List ℕ). slice_get z i ≡ Some n) (sym f) (stands_left front (top ∷ []) i n h)

    pub top_entered : HasState states top Entered
    top_entered = s.entered (length front) top stands_top

    pub top_there : top < length states
    top_there = slice_get_within states top Entered top_entered

    long : length path ≡ length front + 1
    long = rw f (simp length-append (omega arith))

    -- who is led through by the last one and stands on the path
    pub circles : (next : ℕ) → GoesThrough es m top next → HasState states next Entered → (r : ℕ) → Leads es m top r → ⊥
    circles next w h r d =
        let b = s.on_path next h in
        let l = slice_get_within path b.0 next b.1 in
        let e = long in
        elim (in_front b.0 next b.1) [
          | inl x ↦
              let k = slice_get_within front b.0 next x in
              no_circle es m top r (through es m top next top w (leads (length front - b.0 - 1) b.0 (length front) next top (omega arith) b.1 stands_top)) d
          | inr q ↦ no_circle es m top r (subst (λ (z : ℕ). GoesThrough es m top z) (sym q.1) w) d
        ]

    pub enters : (next : ℕ) → GoesThrough es m top next → HasState states next NotYet → IsSearch es m (set states next Entered) (path ++ (next ∷ []))
    enters next w h = record {
      known = record {
        same_length = length-set states next Entered ∙ s.known.same_length;
        leads = λ j r g. elim (set_cases states next j Entered (Done (Some r)) g) [
          | inl x ↦ s.known.leads j r x.0
          | inr x ↦ absurd (entered_apart (Some r) x.1)
        ];
        nowhere = λ j r g. elim (set_cases states next j Entered (Done None) g) [
          | inl x ↦ s.known.nowhere j r x.0
          | inr x ↦ absurd (entered_apart None x.1)
        ];
      };
      way = λ i j k a b. elim (stands_push path next (i + 1) k b) [
        | inl y ↦ elim (stands_push path next i j a) [
          | inl x ↦ s.way i j k x y
          | inr q ↦ let l = slice_get_within path (i + 1) k y in let g = q.0 in absurd (omega arith)
        ]
        | inr y ↦ elim (stands_push path next i j a) [
          | inl x ↦ subst (λ (z : ℕ). GoesThrough es m j z) y.1 (last i j (let t = y.0 in omega arith) x)
          | inr q ↦ let g = q.0 in let l = y.0 in absurd (omega arith)
        ]
      ];
      entered = λ i j a. elim (stands_push path next i j a) [
        | inl x ↦ set_other states next j Entered Entered (s.entered i j x) (apart i j x)
        | inr q ↦ subst (λ (z : ℕ). HasState (set states next Entered) z Entered) q.1 (set_there states next Entered (slice_get_within states next NotYet h))
      ];
      on_path = λ j g. elim (set_cases states next j Entered Entered g) [
        | inl x ↦ let i = s.on_path j x.0 in (i.0, stands_left path (next ∷ []) i.0 j i.1)
        | inr q ↦ (length path, subst (λ (z : ℕ). slice_get (path ++ (next ∷ [])) (length path) ≡ Some z) (sym q.0) (stands_last path next))
      ];
      once = λ i j k a b. elim (stands_push path next i k a) [
        | inl x ↦ elim (stands_push path next j k b) [
          | inl y ↦ s.once i j k x y
          | inr q ↦ absurd (apart i k x (sym q.1))
        ]
        | inr p ↦ elim (stands_push path next j k b) [
          | inl y ↦ absurd (apart j k y (sym p.1))
          | inr q ↦ p.0 ∙ sym q.0
        ]
      ];
    }
      where
        apart : (i j : ℕ) → slice_get path i ≡ Some j → j ≡ next → ⊥
        apart i j x e =
            let y : Entered ≡ NotYet = one_state states j Entered NotYet (s.entered i j x) (subst (λ (z : ℕ). HasState states z NotYet) (sym e) h) in
            absurd cc

        last : (i j : ℕ) → i + 1 ≡ length path → slice_get path i ≡ Some j → GoesThrough es m j next
        last i j e x = elim (in_front i j x) [
          | inl y ↦ let l = slice_get_within front i j y in let t = long in absurd (omega arith)
          | inr q ↦ subst (λ (z : ℕ). GoesThrough es m z next) q.1 w
        ]

    -- it is known where the last one leads
    pub settles : (to : Option ℕ) → LeadsTo es m top to → IsSearch es m (set states top (Done to)) front
    settles to w = record {
      known = record {
        same_length = length-set states top (Done to) ∙ s.known.same_length;
        leads = λ j r g. elim (set_cases states top j (Done to) (Done (Some r)) g) [
          | inl x ↦ s.known.leads j r x.0
          | inr x ↦ subst (λ (z : ℕ). Leads es m z r) (sym x.0) (leads_some to r w (inside to (Some r) x.1))
        ];
        nowhere = λ j r g. elim (set_cases states top j (Done to) (Done None) g) [
          | inl x ↦ s.known.nowhere j r x.0
          | inr x ↦ λ d. leads_none to w (inside to None x.1) r (subst (λ (z : ℕ). Leads es m z r) x.0 d)
        ];
      };
      way = λ i j k a b. s.way i j k (in_path i j a) (in_path (i + 1) k b);
      entered = λ i j a. set_other states top j (Done to) Entered (s.entered i j (in_path i j a)) (apart i j a);
      on_path = λ j g. elim (set_cases states top j (Done to) Entered g) [
        | inl x ↦
            let i = s.on_path j x.0 in
            elim (in_front i.0 j i.1) [
              | inl y ↦ (i.0, y)
              | inr q ↦ absurd (x.1 (sym q.1))
            ]
        | inr x ↦ absurd (entered_apart to (sym x.1))
      ];
      once = λ i j k a b. s.once i j k (in_path i k a) (in_path j k b);
    }
      where
        inside : (a b : Option ℕ) → Done a ≡ Done b → a ≡ b
        inside a b e = cc

        leads_some : (t : Option ℕ) (r : ℕ) → LeadsTo es m top t → t ≡ Some r → Leads es m top r
        leads_some t r v e = subst (λ (z : Option ℕ). LeadsTo es m top z) e v

        leads_none : (t : Option ℕ) → LeadsTo es m top t → t ≡ None → (r : ℕ) → Leads es m top r → ⊥
        leads_none t v e = subst (λ (z : Option ℕ). LeadsTo es m top z) e v

        apart : (i j : ℕ) → slice_get front i ≡ Some j → j ≡ top → ⊥
        apart i j a e =
            let k : i ≡ length front = s.once i (length front) j (in_path i j a) (subst (λ (z : ℕ). slice_get path (length front) ≡ Some z) (sym e) stands_top) in
            let l = slice_get_within front i j a in
            absurd (omega arith)
