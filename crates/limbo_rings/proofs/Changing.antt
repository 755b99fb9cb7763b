-- New values, and changes of one value, make no ring.
use Rattle.std.proofs.Common.{◌≡◌, ℕ, zero, suc, ◌<◌, ◌⊎◌, inl, inr, List, [], ◌∷◌, ◌++◌, length, Option, None, Some, refl, sym, ap}
use Rattle.std.proofs.Common.{subst, ◌∙◌, arith}
use Rattle.std.specs.Prelude.{slice_get, slice_set}
use Rattle.heap_model.specs.Heap.{Heap, at, graph, in_one}
use Rattle.limbo_types.specs.Types.{Ty}
use Rattle.limbo_layout.specs.Adts.{Def}
use Rattle.limbo_adts.specs.Reaches.{Reaches, reaches_itself}
use Rattle.limbo_stores.proofs.Reaching.{reaches_on}
use Rattle.limbo_meaning.specs.Memory.{HeapValue, inside, changed, changed_to}
use Rattle.limbo_kept.specs.Values.{Standing, Items, Cells, Adts, Channels, Instances, Store}
use Rattle.limbo_kept.specs.Stores.{Contains, HeapIsOf}
use Rattle.limbo_rings.specs.Rings.{HasNoRing}
use Rattle.limbo_rings.specs.Storing.{type_of, IsUnnamed, NewMakesNoRing}
use Rattle.limbo_rings.proofs.Graphs.{no_ring_comes}
use Rattle.limbo_rings.proofs.Known.{Knows, KnowsBy, contained}

at_more : (h : Heap HeapValue) (u : HeapValue) (n : ℕ) (v : HeapValue) → at (h ++ Some u ∷ []) n ≡ Some v
    → (at h n ≡ Some v) ⊎ ((length h ≡ n) × (u ≡ v))
at_more [] u zero v e = inr (refl, cc)
at_more [] u (suc n) v e = absurd cc
at_more (o ∷ h) u zero v e = inl e
at_more (o ∷ h) u (suc n) v e = elim (at_more h u n v e) [ inl f ↦ inl f | inr f ↦ let l = f.0 in inr (omega arith, f.1) ]

set_at : (h : Heap HeapValue) (n k : ℕ) (v w : HeapValue) → at (slice_set h n (Some v)) k ≡ Some w → ((n ≡ k) × (v ≡ w)) ⊎
    (at h k ≡ Some w)
set_at [] n k v w e = inr e
set_at (o ∷ h) zero zero v w e = inl (refl, cc)
set_at (o ∷ h) zero (suc k) v w e = inr e
set_at (o ∷ h) (suc n) zero v w e = inr e
set_at (o ∷ h) (suc n) (suc k) v w e = elim (set_at h n k v w e) [ inl f ↦ inl (ap suc f.0, f.1) | inr f ↦ inr f ]

-- what names something is there
pub named_in : (h : Heap HeapValue) (a b : ℕ) → 0 < in_one inside (at h a) b → (u : HeapValue) × (at h a ≡ Some u) × (0 < inside u b)
named_in h a b l = go (at h a) refl l
  where
    go : (o : Option HeapValue) → at h a ≡ o → 0 < in_one inside o b → (u : HeapValue) × (at h a ≡ Some u) × (0 < inside u b)
    go None e l = absurd (omega (arith, l))
    go (Some u) e l = (u, e, l)

pub names_out : (h : Heap HeapValue) (a b : ℕ) (u : HeapValue) → at h a ≡ Some u → 0 < inside u b → 0 < in_one inside (at h a) b
names_out h a b u e l = subst (λ (o : Option HeapValue). 0 < in_one inside o b) (sym e) l

pub edge_of : (h : Heap HeapValue) (u : HeapValue) (a b : ℕ) → 0 < (graph inside (h ++ Some u ∷ [])).uses a b
    → (0 < (graph inside h).uses a b) ⊎ ((a ≡ length h) × (0 < inside u b))
edge_of h u a b l =
    let v = named_in (h ++ Some u ∷ []) a b l in
    elim (at_more h u a v.0 v.1) [
      | inl e ↦ inl (names_out h a b v.0 e v.2)
      | inr e ↦ inr (sym e.0, subst (λ (x : HeapValue). 0 < inside x b) (sym e.1) v.2)
    ]

pub says_below : (st : Store) (n : ℕ) (s : Standing) → slice_get st n ≡ Some s → n < length st
says_below [] n s e = absurd cc
says_below (x ∷ st) zero s e = omega arith
says_below (x ∷ st) (suc n) s e = let l = says_below st n s e in omega arith

module _ (defs : List Def) (globals : List Ty) (store : Store) where
  abbrev pub NotInstance : Standing → Type 0
  NotInstance s = s ≡ Instances → ⊥

  -- all that is named is known
  abbrev pub IsKnown : ℕ → Type 0
  IsKnown n = (t : Standing) × (slice_get store n ≡ Some t) × NotInstance t

  is_known : (s : Standing) (n : ℕ) → KnowsBy defs store s n → IsKnown n
  is_known Instances n k = (k.1.stands, k.1.said, k.1.proper)
  is_known (Items t) n k = (k.stands, k.said, k.proper)
  is_known (Cells t) n k = (k.stands, k.said, k.proper)
  is_known (Adts t) n k = (k.stands, k.said, k.proper)
  is_known (Channels t) n k = (k.stands, k.said, k.proper)

  is_reached : (s : Standing) (n : ℕ) → NotInstance s → KnowsBy defs store s n → Knows defs store (type_of s) n
  is_reached Instances n i k = absurd (i refl)
  is_reached (Items t) n i k = k
  is_reached (Cells t) n i k = k
  is_reached (Adts t) n i k = k
  is_reached (Channels t) n i k = k

  module _ (h : Heap HeapValue) (is : HeapIsOf defs globals store h) where
    -- ---- a new value

    pub named_there : (a b : ℕ) → 0 < (graph inside h).uses a b → IsKnown b
    named_there a b l =
        let u = named_in h a b l in
        let there = is.each a u.0 u.1 in
        is_known there.stands b (contained defs store globals there.stands u.0 b there.contains u.2)

    module _ (s : Standing) (u : HeapValue) (c : Contains defs globals store s u) where
      abbrev Older : ℕ → Type 0
      Older n = n ≡ length h → ⊥

      older : (n : ℕ) → IsKnown n → Older n
      older n k f = let l = says_below store n k.0 k.1 in let m = is.long in omega arith

      pub ringless_made : HasNoRing (graph inside h) → HasNoRing (graph inside (h ++ Some u ∷ []))
      ringless_made = no_ring_comes (graph inside h) (graph inside (h ++ Some u ∷ [])) (length h) Older
          (λ a b o l. older b (named_there a b l)) (λ o. o refl)
          (λ a b l. elim (edge_of h u a b l) [
            | inl k ↦ inl k
            | inr k ↦ inr (k.0, older b (is_known s b (contained defs store globals s u b c k.1)))
          ])

    -- ---- a change

    -- what never leads to what the store says of the value that changes
    abbrev pub Apart : Standing → ℕ → Type 0
    Apart so n =
        (t : Standing) × (slice_get store n ≡ Some t) × NotInstance t
        × ((so ≡ Instances) ⊎ (Reaches defs (type_of t) (type_of so) → ⊥))

    apart_next : (so : Standing) (a b : ℕ) → Apart so a → 0 < (graph inside h).uses a b → Apart so b
    apart_next so a b p l =
        let u = named_in h a b l in
        let there = is.each a u.0 u.1 in
        let same : there.stands ≡ p.0 =
        let e : slice_get store a ≡ Some there.stands = there.said in let f : slice_get store a ≡ Some p.0 = p.1 in cc in
        let c : Contains defs globals store p.0 u.0 = subst (λ (x : Standing). Contains defs globals store x u.0) same there.contains in
        let k = is_reached p.0 b p.2 (contained defs store globals p.0 u.0 b c u.2) in (
          k.stands,
          k.said,
          k.proper,
          elim p.3 [
            | inl e ↦ inl e
            | inr never ↦ inr (λ s. never (reaches_on defs (type_of p.0) (type_of k.stands) (type_of so) k.reached s))
          ],
        )

    apart_never : (so : Standing) (o : ℕ) → slice_get store o ≡ Some so → Apart so o → ⊥
    apart_never so o said p =
        let same : p.0 ≡ so = let e : slice_get store o ≡ Some p.0 = p.1 in cc in
        elim p.3 [
          | inl e ↦ p.2 (same ∙ e)
          | inr never ↦ never (subst (λ (x : Standing). Reaches defs (type_of x) (type_of so)) (sym same)
              (reaches_itself (type_of so) (type_of so) refl))
        ]

    pub ringless_changed : HasNoRing (graph inside h) → (o : ℕ) (so : Standing) (u : HeapValue) → slice_get store o ≡ Some so
        → ((b : ℕ) → 0 < inside u b → (0 < (graph inside h).uses o b) ⊎ Apart so b) → HasNoRing (graph inside (changed h o u))
    ringless_changed clean o so u said names = go (at h o)
      where
        edge : (a b : ℕ) → 0 < (graph inside (slice_set h o (Some u))).uses a b
            → (0 < (graph inside h).uses a b) ⊎ ((a ≡ o) × Apart so b)
        edge a b l =
            let v = named_in (slice_set h o (Some u)) a b l in
            elim (set_at h o a u v.0 v.1) [
              | inl e ↦ elim (names b (subst (λ (x : HeapValue). 0 < inside x b) (sym e.1) v.2)) [
                | inl k ↦ inl (subst (λ (x : ℕ). 0 < (graph inside h).uses x b) e.0 k)
                | inr k ↦ inr (sym e.0, k)
              ]
              | inr e ↦ inl (names_out h a b v.0 e v.2)
            ]

        go : (old : Option HeapValue) → HasNoRing (graph inside (changed_to h o old u))
        go None = clean
        go (Some w) = no_ring_comes (graph inside h) (graph inside (slice_set h o (Some u))) o (Apart so) (apart_next so)
            (apart_never so o said) edge clean

-- a change of a value that nobody names
module _ (h : Heap HeapValue) (clean : HasNoRing (graph inside h)) (o : ℕ) (u : HeapValue) (unnamed : IsUnnamed h o)
    (names : (b : ℕ) → 0 < inside u b → (0 < (graph inside h).uses o b) ⊎ (b ≡ o → ⊥)) where
  fill_edge : (a b : ℕ) → 0 < (graph inside (slice_set h o (Some u))).uses a b
      → (0 < (graph inside h).uses a b) ⊎ ((a ≡ o) × (b ≡ o → ⊥))
  fill_edge a b l =
      let v = named_in (slice_set h o (Some u)) a b l in
      elim (set_at h o a u v.0 v.1) [
        | inl e ↦ elim (names b (subst (λ (x : HeapValue). 0 < inside x b) (sym e.1) v.2)) [
          | inl k ↦ inl (subst (λ (x : ℕ). 0 < (graph inside h).uses x b) e.0 k)
          | inr k ↦ inr (sym e.0, k)
        ]
        | inr e ↦ inl (names_out h a b v.0 e v.2)
      ]

  pub ringless_filled : HasNoRing (graph inside (changed h o u))
  ringless_filled = go (at h o)
    where
      go : (old : Option HeapValue) → HasNoRing (graph inside (changed_to h o old u))
      go None = clean
      go (Some w) = no_ring_comes (graph inside h) (graph inside (slice_set h o (Some u))) o (λ b. b ≡ o → ⊥)
          (λ a b other l e. unnamed a (subst (λ (x : ℕ). 0 < (graph inside h).uses a x) e l)) (λ other. other refl)
          fill_edge clean

pub new_makes_no_ring : NewMakesNoRing
new_makes_no_ring defs globals store types m mem s u c clean = ringless_made defs globals store m.heap mem.heap s u c clean
