-- Operands that are together as one value.
use Rattle.std.proofs.Common.{◌≡◌, ℕ, zero, suc, ◌+◌, ◌-◌, ◌<◌, ◌≤◌, List, [], ◌∷◌, ◌++◌, length, Option}
use Rattle.std.proofs.Common.{None}
use Rattle.std.proofs.Common.{refl, sym, ap, subst, ◌∙◌, arith, append_assoc, length-append, inl, inr, ⊎_elim, take}
use Rattle.std.proofs.lemmas.Bool.{cases_eq}
use Rattle.std.specs.Prelude.{slice_index_or}
use Rattle.limbo_types.specs.Types as ty
use Rattle.limbo_types.specs.Types.{Ty, Tys}
use Rattle.limbo_layout.specs.Adts.{Def, listed}
use Rattle.limbo_meaning.specs.Values as values
use Rattle.limbo_meaning.specs.Values.{Value, Parts, row, references, references_in, all_fitted, fitted, among}
use Rattle.core_code.specs.Slots.{Slot, Holds, Slots, empty, slot, put, operands_of, slot_names}
use Rattle.core_code.specs.Code.{Instr, Drop}
use Rattle.core_code.specs.Naming.{reference}
use Rattle.core_code.specs.Terms.{Moved, drop_after, drops_after, drops_after_all, moves_into, count_of, count_all, numbers_from}
use Rattle.core_code.specs.Terms.{part_types, part_numbers, parts_there, adt_numbers}
use Rattle.core_code.specs.Whole.{with_parts}
use Rattle.limbo_layout.specs.Adts.{Field, Variant, types_of, variant_types, tag, parts}
use Rattle.limbo_meaning.specs.Operations.{adt_parts}
use Rattle.limbo_meaning.specs.Values.{nothing, Num}
use Rattle.limbo_typed.specs.declared.operation.Operation.TheVariants as operation
use Rattle.std.specs.Prelude.{slice_get, replicate}
use Rattle.std.proofs.Common.{Some, pos, drop, append-nil}
use Rattle.core_code.proofs.Names.{zero_fitted}
use Rattle.core_follows.proofs.Slots.{among_join}
use Rattle.core_follows.proofs.Given.{fitted_none}
use Rattle.core_follows.specs.Handled.{TakesFields, HasLayout}
use Rattle.core_code.proofs.Names.{names_put, listed_row, row_references}
use Rattle.core_code.proofs.Whole.{values_are_whole}
use Rattle.core_follows.specs.Drops.{IsWhole, Clean, Between, Beside, AllTouch, Touches, AllSpare, Dropping, Holding}
use Rattle.core_follows.specs.Handled.{Fits, AllFit, AllStandFor}
use Rattle.core_follows.specs.Stands.{SlotsName}
use Rattle.core_follows.proofs.Slots.{put_same, put_other, put_long, name_between}
use Rattle.core_follows.proofs.Drops.{dropping_kept, touch_others}
use Rattle.core_follows.proofs.Static.{after_all}
use Rattle.core_follows.proofs.Moves.{Under, AllUnder, IsMoved, IsNotMoved, moved_or, to_moved, to_same, Goes_over, move_dropping}
use Rattle.core_follows.proofs.Nodes.{AllBetween, AllHold, DiffersFrom, AllDiffer, hold_same}
use Rattle.core_follows.proofs.Placing.{In, in_or, out_of, Formed}
use Rattle.core_follows.proofs.Given.{counted}
use Rattle.core_follows.proofs.Valued.{spare_after_one}

-- ---- slots that are emptied

abbrev Below : ℕ → List ℕ → Type 0
Below n [] = Unit {0}
Below n (s ∷ ss) = (s < n) × Below n ss

abbrev cleared_all : Slots → List ℕ → Slots
cleared_all slots [] = slots
cleared_all slots (s ∷ ss) = cleared_all (put slots s empty) ss

cleared_other : (slots : Slots) (ss : List ℕ) (d : ℕ) → DiffersFrom d ss → slot (cleared_all slots ss) d ≡ slot slots d
cleared_other slots [] d h = refl
cleared_other slots (s ∷ ss) d h = cleared_other (put slots s empty) ss d h.1 ∙ put_other slots s d empty h.0

below_put : (slots : Slots) (s : ℕ) (x : Slot) (ss : List ℕ) → Below (length slots) ss → Below (length (put slots s x)) ss
below_put slots s x ss b = subst (λ (n : ℕ). Below n ss) (sym (put_long slots s x)) b

cleared_in : (slots : Slots) (ss : List ℕ) (d : ℕ) → Below (length slots) ss → In d ss → slot (cleared_all slots ss) d ≡ empty
cleared_in slots [] d b h = absurd h
cleared_in slots (s ∷ ss) d b h = ⊎_elim
    (λ (i : In d ss). cleared_in (put slots s empty) ss d (below_put slots s empty ss b.1) i)
    (λ (i : DiffersFrom d ss). cleared_other (put slots s empty) ss d i ∙ elim h [
      | inl e ↦ subst (λ (r : ℕ). slot (put slots s empty) r ≡ empty) (sym e) (put_same slots s empty b.0)
      | inr f ↦ absurd (apart d ss f i)
    ])
    (in_or d ss)
  where
    apart : (d : ℕ) (ss : List ℕ) → In d ss → DiffersFrom d ss → ⊥
    apart d [] h i = h
    apart d (s ∷ ss) h i = elim h [ inl e ↦ i.0 e | inr f ↦ apart d ss f i.1 ]

-- ---- where the references of parts are

module _ (defs : List Def) (P : List Ty) (u : Value) where
  abbrev pub Segments : (b : ℕ) → List ℕ → List ℕ → List Value → Type 0
  Segments b [] [] [] = Unit {0}
  Segments b (n ∷ ns) (s ∷ ss) (v ∷ vs) =
      (b ≤ count_all defs (take n P))
      × ((k : ℕ) → k < count_of defs (slice_index_or P n ty.Int) → reference (count_all defs (take n P) + k) (Holds u) ≡ reference k
      (Holds v))
      × (length (references v) ≡ count_of defs (slice_index_or P n ty.Int))
      × Segments (count_all defs (take n P) + count_of defs (slice_index_or P n ty.Int)) ns ss vs
  Segments b _ _ _ = ⊥

nth_past : (rs : List (Option ℕ)) (k : ℕ) → length rs ≤ k → slice_index_or rs k None ≡ None
nth_past [] k l = refl
nth_past (r ∷ rs) zero l = absurd (omega arith)
nth_past (r ∷ rs) (suc k) l = nth_past rs k (omega arith)

pub nth_front : (rs ss : List (Option ℕ)) (k : ℕ) → k < length rs → slice_index_or (rs ++ ss) k None ≡ slice_index_or rs k None
nth_front [] ss k l = absurd (omega arith)
nth_front (r ∷ rs) ss zero l = refl
nth_front (r ∷ rs) ss (suc k) l = nth_front rs ss k (omega arith)

pub nth_back : (rs ss : List (Option ℕ)) (k : ℕ) → slice_index_or (rs ++ ss) (length rs + k) None ≡ slice_index_or ss k None
nth_back [] ss k = let e : 0 + k ≡ k = omega arith in ap (λ (j : ℕ). slice_index_or ss j None) e
nth_back (r ∷ rs) ss k =
    let e : suc (length rs) + k ≡ suc (length rs + k) = omega arith in
    ap (λ (j : ℕ). slice_index_or (r ∷ (rs ++ ss)) j None) e ∙ nth_back rs ss k

abbrev pub SpareEach : List ℕ → List Instr → Type 0
SpareEach [] ds = Unit {0}
SpareEach (s ∷ ss) ds = AllSpare s ds × SpareEach ss ds

pub spare_each_after : (v : Moved) (ss : List ℕ) (ds : List Instr) → SpareEach ss ds → SpareEach ss (drops_after v ds)
spare_each_after v [] ds h = tt
spare_each_after v (s ∷ ss) ds h = (spare_after_one s v ds h.0, spare_each_after v ss ds h.1)

under_after : (s n first count at b c : ℕ) (ds : List Instr) → b ≤ c → at + count ≤ c → AllUnder n b ds
    → AllUnder n c (drops_after (record { slot = s; first = first; count = count; into = n; at = at }) ds)
under_after s n first count at b c [] l m h = tt
under_after s n first count at b c (i ∷ ds) l m h = (one i h.0, under_after s n first count at b c ds l m h.1)
  where
    v : Moved
    v = record { slot = s; first = first; count = count; into = n; at = at }

    one : (i : Instr) → Under n b i → Under n c (drop_after (record { slot = s; first = first; count = count; into = n; at = at }) i)
    one (Drop r j) h = ⊎_elim
        (λ (m' : IsMoved (record { slot = s; first = first; count = count; into = n; at = at }) r j).
        subst (Under n c) (sym (to_moved (record { slot = s; first = first; count = count; into = n; at = at }) r j m'.is))
        (λ e. let x = m'.from in let y = m'.to in omega (arith, x, y, m)))
        (λ (m' : IsNotMoved (record { slot = s; first = first; count = count; into = n; at = at }) r j).
        subst (Under n c) (sym (to_same (record { slot = s; first = first; count = count; into = n; at = at }) r j m'.is))
        (λ e. let x = h e in omega (arith, x, l)))
        (moved_or (record { slot = s; first = first; count = count; into = n; at = at }) r j)
    one _ h = tt

hold_cleared : (slots : Slots) (s : ℕ) (ss : List ℕ) (vs : List Value) → DiffersFrom s ss → AllHold slots ss vs
    → AllHold (put slots s empty) ss vs
hold_cleared slots s [] [] d h = tt
hold_cleared slots s [] (v ∷ vs) d h = h
hold_cleared slots s (r ∷ ss) [] d h = h
hold_cleared slots s (r ∷ ss) (v ∷ vs) d h = (put_other slots s r empty (λ e. d.0 (sym e)) ∙ h.0, hold_cleared slots s ss vs d.1 h.1)

-- All moves, one after the other.
moves_dropping : (defs : List Def) (P : List Ty) (u : Value) (into : ℕ) (ns ss : List ℕ) (vs : List Value) (b : ℕ) (slots : Slots)
    (ds : List Instr)
    (got : List (Option ℕ)) → Segments defs P u b ns ss vs → slot slots into ≡ Holds u → AllHold slots ss vs → AllDiffer ss
    → DiffersFrom into ss
    → Below (length slots) ss → AllUnder into b ds → SpareEach ss ds → AllSpare into ds → Dropping slots ds got
    → Dropping (cleared_all slots ss) (drops_after_all (moves_into defs P into ns ss) ds) got
moves_dropping defs P u into [] [] [] b slots ds got g e h a ai l un sp si d = d
moves_dropping defs P u into (n ∷ ns) (s ∷ ss) (v ∷ vs) b slots ds got g e h a ai l un sp si d =
    let at : ℕ = count_all defs (take n P) in
    let c : ℕ = count_of defs (slice_index_or P n ty.Int) in
    let m : Moved = record { slot = s; first = 0; count = c; into = into; at = at } in
    let one = put slots s empty in
    let here : slot one into ≡ Holds u = put_other slots s into empty ai.0 ∙ e in
    let over : Goes_over m slots one = record {
      moved = λ k p q. ap (reference (at + (k - 0))) here
          ∙ (let z : k - 0 ≡ k = omega arith in subst (λ (j : ℕ). reference (at + j) (Holds u) ≡ reference k (Holds v)) (sym z)
          (g.1 k (omega arith)))
          ∙ sym (ap (reference k) h.0);
      left = λ k p. ap (reference k) (put_same slots s empty l.0)
          ∙ sym (ap (reference k) h.0 ∙ nth_past (references v) k
          (let x = g.2 in elim p [ inl y ↦ absurd (omega arith) | inr y ↦ omega (arith, y, x) ]));
      others = λ r p q. put_other slots s r empty p;
      below = λ j p. ap (reference j) (put_other slots s into empty ai.0);
      apart = ai.0;
    } in
    moves_dropping defs P u into ns ss vs (at + c) one (drops_after m ds) got g.3 here (hold_cleared slots s ss vs a.0 h.1) a.1 ai.1
    (below_put slots s empty ss l.1) (under_after s into 0 c at b (at + c) ds (let x = g.0 in omega arith) (omega arith) un)
    (spare_each_after m ss ds sp.1) (spare_after_one into m ds si)
    (move_dropping m slots one ds got over (under_wide into b at ds g.0 un) sp.0 si d)
  where
    under_wide : (n b c : ℕ) (ds : List Instr) → b ≤ c → AllUnder n b ds → AllUnder n c ds
    under_wide n b c [] l h = tt
    under_wide n b c (i ∷ ds) l h = (one i h.0, under_wide n b c ds l h.1)
      where
        one : (i : Instr) → Under n b i → Under n c i
        one (Drop r j) h = λ e. let x = h e in omega (arith, x, l)
        one _ h = tt
moves_dropping defs P u into [] [] (v ∷ vs) b slots ds got g e h a ai l un sp si d = absurd g
moves_dropping defs P u into [] (s ∷ ss) vs b slots ds got g e h a ai l un sp si d = absurd g
moves_dropping defs P u into (n ∷ ns) [] vs b slots ds got g e h a ai l un sp si d = absurd g
moves_dropping defs P u into (n ∷ ns) (s ∷ ss) [] b slots ds got g e h a ai l un sp si d = absurd g

-- ---- the value that they move into

pub under_none : (lo mid : ℕ) (ds : List Instr) → AllTouch (Between lo mid) ds → AllUnder mid 0 ds
under_none lo mid [] t = tt
under_none lo mid (i ∷ ds) t = (under_one i t.0, under_none lo mid ds t.1)
  where
    under_one : (i : Instr) → Touches (Between lo mid) i → Under mid 0 i
    under_one (Drop r j) t = λ e. absurd (let y = t.1 in omega (arith, y, e))
    under_one _ t = tt

pub gather_names : (slots : Slots) (mid : ℕ) (u : Value) (vs : List Value) (held : List (Option ℕ)) → mid < length slots
    → ((n : ℕ) → slot_names (slot slots mid) n ≡ among n (references_in vs))
    → ((n : ℕ) → among n (references u) ≡ among n (references_in vs)) → SlotsName slots held → SlotsName (put slots mid (Holds u)) held
gather_names slots mid u vs held l formed names all n =
    let a1 = names_put n slots mid (Holds u) l in
    let a2 = formed n in
    let a3 = names n in
    let a4 = all n in
    omega arith

-- Where all operands are there, they are one value.
pub gather_holding : (defs : List Def) (P : List Ty) (u : Value) (one still slots : Slots) (lo mid : ℕ) (ns ss : List ℕ) (vs : List Value)
    (ds : List Instr) (held got : List (Option ℕ)) → lo ≤ mid → mid < length slots → Formed one still slots lo mid mid ss vs ds got
    → AllDiffer ss → SpareEach ss ds → AllSpare mid ds → Segments defs P u 0 ns ss vs → Clean one lo (suc mid) → SlotsName one held
    → SlotsName (put slots mid (Holds u)) (held ++ got)
    → Holding one (put slots mid (Holds u)) lo (suc mid) (drops_after_all (moves_into defs P mid ns ss) ds) got
gather_holding defs P u one still slots lo mid ns ss vs ds held got p l f differ sp si g clean before after =
    let h = f.holding in
    let bs = f.between in
    let x = Holds u in
    let placed = put still mid x in
    let last = put slots mid x in
    let long_one = h.long in
    let long_still = f.long in
    let in_still : mid < length still = omega arith in
    let long_last : length last ≡ length one = put_long slots mid x ∙ f.long ∙ h.long in
    let below = all_below lo mid (length placed) ss (let q = put_long still mid x in omega arith) bs in
    let apart = out_of lo mid mid ss (inr (omega arith)) bs in
    let within = after_all (Between lo (suc mid)) defs P mid ns ss ds (p, omega arith)
    (touch_others (Between lo mid) (Between lo (suc mid)) ds (λ s b. (b.0, let y = b.1 in omega (arith, y))) h.within) in
    let d0 : Dropping placed ds got = dropping_kept (Between lo mid) still placed ds got h.within
    (λ s b. put_other still mid s x (λ e. absurd (let y = b.1 in omega (arith, y, e)))) h.dropping in
    let d1 = moves_dropping defs P u mid ns ss vs 0 placed ds got g (put_same still mid x in_still)
    (hold_same still placed lo mid ss vs bs (λ s b. put_other still mid s x (λ e. absurd (let y = b.1 in omega (arith, y, e)))) f.held)
    differ apart below (under_none lo mid ds h.within) sp si d0 in
    let pointwise : (s : ℕ) → slot last s ≡ slot (cleared_all placed ss) s = λ s. ⊎_elim
    (λ (e : s ≡ mid). subst (λ (r : ℕ). slot last r ≡ slot (cleared_all placed ss) r) (sym e)
    (put_same slots mid x l ∙ sym (cleared_other placed ss mid apart ∙ put_same still mid x in_still)))
    (λ (e : s ≡ mid → ⊥). put_other slots mid s x e ∙ ⊎_elim
    (λ (i : In s ss). f.gone s i ∙ sym (cleared_in placed ss s below i))
    (λ (i : DiffersFrom s ss). f.others s e i ∙ sym (cleared_other placed ss s i ∙ put_other still mid s x e))
    (in_or s ss))
    (cases_eq s mid) in
    let same : (s : ℕ) → Beside lo (suc mid) s → slot last s ≡ slot one s = λ s b.
    let ne : s ≡ mid → ⊥ = λ e. absurd (elim b [ inl y ↦ omega (arith, y, e, p) | inr y ↦ omega (arith, y, e) ]) in
    let o : Beside lo mid s = elim b [ inl y ↦ inl y | inr y ↦ inr (omega arith) ] in
    put_other slots mid s x ne ∙ f.others s ne (out_of lo mid s ss o bs) ∙ h.same s o in
    record {
      long = long_last;
      same = same;
      whole = λ s w. ⊎_elim
          (λ (e : s ≡ mid). subst (λ (r : ℕ). IsWhole (slot last r)) (sym e) (ap operands_of (put_same slots mid x l)))
          (λ (e : s ≡ mid → ⊥). ap operands_of (put_other slots mid s x e) ∙ ⊎_elim
          (λ (i : In s ss). ap operands_of (f.gone s i))
          (λ (i : DiffersFrom s ss). ap operands_of (f.others s e i) ∙ h.whole s w)
          (in_or s ss))
          (cases_eq s mid);
      dropping = dropping_kept (λ s. Unit {0}) (cleared_all placed ss) last (drops_after_all (moves_into defs P mid ns ss) ds) got
          (touch_others (Between lo (suc mid)) (λ s. Unit {0}) (drops_after_all (moves_into defs P mid ns ss) ds) (λ s b. tt) within)
          (λ s b. pointwise s) d1;
      within = within;
      names = name_between one last lo (suc mid) held got (omega arith) (omega arith) long_last same clean before after;
    }
  where
    all_below : (lo mid n : ℕ) (ss : List ℕ) → mid ≤ n → AllBetween lo mid ss → Below n ss
    all_below lo mid n [] q b = tt
    all_below lo mid n (s ∷ ss) q b = (let y = b.0.1 in omega (arith, y, q), all_below lo mid n ss q b.1)

-- ---- what the parts of a value are made of

-- From a number on: a part that names nothing, or one that moved, which has the references that it had.
pub data Made : List Def → ℕ → List Ty → List Value → List ℕ → List Value → Type 0 where
  ends : {defs : List Def} {p : ℕ} {P : List Ty} → Made defs p P [] [] []
  fills : {defs : List Def} {p : ℕ} {P : List Ty} {full : List Value} {ns : List ℕ} {vs : List Value} (t : Ty) (v : Value)
      → ((n : ℕ) → among n (references v) ≡ 0) → Made defs (suc p) P full ns vs → Made defs p (t ∷ P) (v ∷ full) ns vs
  moves : {defs : List Def} {p : ℕ} {P : List Ty} {full : List Value} {ns : List ℕ} {vs : List Value} (t : Ty) (v : Value)
      → references (fitted defs t v) ≡ references v → Made defs (suc p) P full ns vs → Made defs p (t ∷ P) (v ∷ full) (p ∷ ns) (v ∷ vs)

module _ (defs : List Def) where
  none_fitted : (n : ℕ) (P : List Ty) → among n (references_in (all_fitted defs P [])) ≡ 0
  none_fitted n [] = refl
  none_fitted n (t ∷ P) =
      let a = none_fitted n P in
      let b = zero_fitted n defs t in
      let c = among_join n (references (fitted defs t nothing)) (references_in (all_fitted defs P [])) in
      omega arith

  -- parts name what moved
  pub made_same : (p : ℕ) (P : List Ty) (full : List Value) (ns : List ℕ) (vs : List Value) (n : ℕ) → Made defs p P full ns vs
      → among n (references_in (all_fitted defs P full)) ≡ among n (references_in vs)
  made_same p P full ns vs n ends = none_fitted n P
  made_same p P full ns vs n (fills {P = Q} {full = rest} t v z m) =
      let a = made_same (suc p) Q rest ns vs n m in
      let b = fitted_none n defs t v (z n) in
      let c = among_join n (references (fitted defs t v)) (references_in (all_fitted defs Q rest)) in
      omega arith
  made_same p P full ns vs n (moves {P = Q} {full = rest} {ns = ms} {vs = us} t v e m) =
      let a = made_same (suc p) Q rest ms us n m in
      let b = ap (among n) e in
      let c = among_join n (references (fitted defs t v)) (references_in (all_fitted defs Q rest)) in
      let d = among_join n (references v) (references_in us) in
      omega arith

  take_front : (pre P : List Ty) → take (length pre) (pre ++ P) ≡ pre
  take_front [] P = refl
  take_front (t ∷ pre) P = ap (λ (ts : List Ty). t ∷ ts) (take_front pre P)

  index_front : (pre P : List Ty) (t : Ty) → slice_index_or (pre ++ (t ∷ P)) (length pre) ty.Int ≡ t
  index_front [] P t = refl
  index_front (u ∷ pre) P t = index_front pre P t

  count_more : (pre : List Ty) (t : Ty) → count_all defs (pre ++ (t ∷ [])) ≡ count_all defs pre + count_of defs t
  count_more [] t = omega arith
  count_more (u ∷ pre) t = let a = count_more pre t in omega arith

  -- the references of what moved are where those of its part are
  pub made_segments : (u : Value) (p : ℕ) (P : List Ty) (full : List Value) (ns : List ℕ) (vs : List Value) (ss : List ℕ) (pre : List Ty)
      (front : List (Option ℕ)) (b : ℕ) → Made defs p P full ns vs → length pre ≡ p
      → references u ≡ front ++ references_in (all_fitted defs P full) → length front ≡ count_all defs pre → length ss ≡ length vs
      → b ≤ length front → Segments defs (pre ++ P) u b ns ss vs
  made_segments u p P full ns vs [] pre front b ends q e c l m = tt
  made_segments u p P full ns vs (s ∷ ss) pre front b ends q e c l m = absurd (omega arith)
  made_segments u p P full ns vs ss pre front b (fills {P = Q} {full = rest} t v z x) q e c l m =
      let R = references (fitted defs t v) in
      let e2 : references u ≡ (front ++ R) ++ references_in (all_fitted defs Q rest) =
      e ∙ sym (append_assoc front R (references_in (all_fitted defs Q rest))) in
      let n1 = length-append front R in
      let n2 = count_more pre t in
      let n3 = length-append pre (t ∷ []) in
      let n4 = counted defs t v in
      subst (λ (W : List Ty). Segments defs W u b ns ss vs) (append_assoc pre (t ∷ []) Q)
      (made_segments u (suc p) Q rest ns vs ss (pre ++ (t ∷ [])) (front ++ R) b x (omega arith) e2 (omega arith) l (omega arith))
  made_segments u p P full ns vs [] pre front b (moves {P = Q} {full = rest} {ns = ms} {vs = us} t v f x) q e c l m = absurd (omega arith)
  made_segments u p P full ns vs (s ∷ ss) pre front b (moves {P = Q} {full = rest} {ns = ms} {vs = us} t v f x) q e c l m =
      let R = references (fitted defs t v) in
      let eA : count_all defs (take (length pre) (pre ++ (t ∷ Q))) ≡ length front = ap (count_all defs) (take_front pre (t ∷ Q)) ∙ sym c in
      let eC : count_of defs (slice_index_or (pre ++ (t ∷ Q)) (length pre) ty.Int) ≡ count_of defs t = ap (count_of defs)
      (index_front pre Q t) in
      let long : length R ≡ count_of defs t = counted defs t v in
      let same : length R ≡ length (references v) = ap length f in
      let e2 : references u ≡ (front ++ R) ++ references_in (all_fitted defs Q rest) =
      e ∙ sym (append_assoc front R (references_in (all_fitted defs Q rest))) in
      let n1 = length-append front R in
      let n2 = count_more pre t in
      let n3 = length-append pre (t ∷ []) in
      let b2 : ℕ = count_all defs (take (length pre) (pre ++ (t ∷ Q))) + count_of defs (slice_index_or (pre ++ (t ∷ Q)) (length pre)
      ty.Int) in
      let more = made_segments u (suc p) Q rest ms us ss (pre ++ (t ∷ [])) (front ++ R) b2 x (omega arith) e2 (omega arith) (omega arith)
      (omega arith) in
      subst (λ (j : ℕ). Segments defs (pre ++ (t ∷ Q)) u b (j ∷ ms) (s ∷ ss) (v ∷ us)) q (
        omega arith,
        (λ k r.
            ap (λ (j : ℕ). reference (j + k) (Holds u)) eA ∙ ap (λ (rs : List (Option ℕ)). slice_index_or rs (length front + k) None) e
            ∙ nth_back front (R ++ references_in (all_fitted defs Q rest)) k
            ∙ nth_front R (references_in (all_fitted defs Q rest)) k (omega arith)
            ∙ ap (λ (rs : List (Option ℕ)). slice_index_or rs k None) f),
        (omega arith),
        subst (λ (W : List Ty). Segments defs W u b2 ms ss us) (append_assoc pre (t ∷ []) Q) more,
      )

  pub made_long : (p : ℕ) (P : List Ty) (full : List Value) (ns : List ℕ) (vs : List Value) → Made defs p P full ns vs
      → length ns ≡ length vs
  made_long p P full ns vs ends = refl
  made_long p P full ns vs (fills {P = Q} {full = rest} t v z m) = made_long (suc p) Q rest ns vs m
  made_long p P full ns vs (moves {P = Q} {full = rest} {ns = ms} {vs = us} t v e m) = ap suc (made_long (suc p) Q rest ms us m)

  -- ---- operands together as a tuple

  pub numbers_long : (n k : ℕ) → length (numbers_from defs n k) ≡ k
  numbers_long n zero = refl
  numbers_long n (suc k) = ap suc (numbers_long (suc n) k)

  fit_counted : (t : Ty) (v : Value) → Fits defs t v → length (references v) ≡ count_of defs t
  fit_counted t v (inl f) = ap (λ (x : Value). length (references x)) f.1 ∙ counted defs t f.0
  fit_counted t v (inr f) =
      ap (λ (x : Value). length (references x)) f.2 ∙ sym (ap (λ (u : Ty). count_of defs u) f.0)

  pub together_segments : (u : Value) (p : ℕ) (P : List Ty) (vs : List Value) (ss : List ℕ) (pre : List Ty) (front : List (Option ℕ)) (b : ℕ)
      → AllFit defs P vs → length pre ≡ p → references u ≡ front ++ references_in vs → length front ≡ count_all defs pre
      → length ss ≡ length vs → b ≤ length front → Segments defs (pre ++ P) u b (numbers_from defs p (length vs)) ss vs
  together_segments u p [] [] [] pre front b f q e c l m = tt
  together_segments u p [] [] (s ∷ ss) pre front b f q e c l m = absurd (omega arith)
  together_segments u p [] (v ∷ vs) ss pre front b f q e c l m = absurd f
  together_segments u p (t ∷ P) [] ss pre front b f q e c l m = absurd f
  together_segments u p (t ∷ P) (v ∷ vs) [] pre front b f q e c l m = absurd (omega arith)
  together_segments u p (t ∷ P) (v ∷ vs) (s ∷ ss) pre front b f q e c l m =
      let R = references v in
      let eA : count_all defs (take (length pre) (pre ++ (t ∷ P))) ≡ length front = ap (count_all defs) (take_front pre (t ∷ P)) ∙ sym c in
      let eC : count_of defs (slice_index_or (pre ++ (t ∷ P)) (length pre) ty.Int) ≡ count_of defs t = ap (count_of defs)
      (index_front pre P t) in
      let long : length R ≡ count_of defs t = fit_counted t v f.0 in
      let e2 : references u ≡ (front ++ R) ++ references_in vs = e ∙ sym (append_assoc front R (references_in vs)) in
      let n1 = length-append front R in
      let n2 = count_more pre t in
      let n3 = length-append pre (t ∷ []) in
      let b2 : ℕ = count_all defs (take (length pre) (pre ++ (t ∷ P))) + count_of defs (slice_index_or (pre ++ (t ∷ P)) (length pre)
      ty.Int) in
      let more = together_segments u (suc p) P vs ss (pre ++ (t ∷ [])) (front ++ R) b2 f.1 (omega arith) e2 (omega arith) (omega arith)
      (omega arith) in
      subst (λ (j : ℕ). Segments defs (pre ++ (t ∷ P)) u b (j ∷ numbers_from defs (suc p) (length vs)) (s ∷ ss) (v ∷ vs)) q (
        omega arith,
        (λ k r.
            ap (λ (j : ℕ). reference (j + k) (Holds u)) eA ∙ ap (λ (rs : List (Option ℕ)). slice_index_or rs (length front + k) None) e
            ∙ nth_back front (R ++ references_in vs) k ∙ nth_front R (references_in vs) k (omega arith)),
        (omega arith),
        subst (λ (W : List Ty). Segments defs W u b2 (numbers_from defs (suc p) (length vs)) ss vs) (append_assoc pre (t ∷ []) P) more,
      )

  -- ---- the parts of tuples and of adts' values

  abbrev AllRefer : List Ty → List Value → Type 0
  AllRefer [] [] = Unit {0}
  AllRefer [] (v ∷ vs) = ⊥
  AllRefer (t ∷ P) [] = ⊥
  AllRefer (t ∷ P) (v ∷ vs) = (references (fitted defs t v) ≡ references v) × AllRefer P vs

  stand_refer : (Ts P : List Ty) (vs : List Value) → AllStandFor defs Ts P → AllFit defs Ts vs → AllRefer P vs
  stand_refer [] [] [] a f = tt
  stand_refer [] [] (v ∷ vs) a f = absurd f
  stand_refer [] (t ∷ P) vs a f = absurd a
  stand_refer (T ∷ Ts) [] vs a f = absurd a
  stand_refer (T ∷ Ts) (t ∷ P) [] a f = absurd f
  stand_refer (T ∷ Ts) (t ∷ P) (v ∷ vs) a f = (a.0 v f.0, stand_refer Ts P vs a.1 f.1)

  made_row : (p : ℕ) (P Q : List Ty) (vs : List Value) → AllRefer P vs → Made defs p (P ++ Q) vs (numbers_from defs p (length vs)) vs
  made_row p [] Q [] h = ends
  made_row p [] Q (v ∷ vs) h = absurd h
  made_row p (t ∷ P) Q [] h = absurd h
  made_row p (t ∷ P) Q (v ∷ vs) h = moves t v h.0 (made_row (suc p) P Q vs h.1)

  moved_on : (p : ℕ) (P Q : List Ty) (us full : List Value) (ns : List ℕ) (ws : List Value) → AllRefer P us
      → Made defs (p + length P) Q full ns ws → Made defs p (P ++ Q) (us ++ full) (numbers_from defs p (length P) ++ ns) (us ++ ws)
  moved_on p [] Q [] full ns ws h m = let e : p + 0 ≡ p = omega arith in subst (λ (j : ℕ). Made defs j Q full ns ws) e m
  moved_on p [] Q (v ∷ us) full ns ws h m = absurd h
  moved_on p (t ∷ P) Q [] full ns ws h m = absurd h
  moved_on p (t ∷ P) Q (v ∷ us) full ns ws h m =
      let e : p + suc (length P) ≡ suc p + length P = omega arith in
      moves t v h.0 (moved_on (suc p) P Q us full ns ws h.1 (subst (λ (j : ℕ). Made defs j Q full ns ws) e m))

  filled_on : (p : ℕ) (P Q : List Ty) (full : List Value) (ns : List ℕ) (ws : List Value) → Made defs (p + length P) Q full ns ws
      → Made defs p (P ++ Q) (replicate (length P) nothing ++ full) ns ws
  filled_on p [] Q full ns ws m = let e : p + 0 ≡ p = omega arith in subst (λ (j : ℕ). Made defs j Q full ns ws) e m
  filled_on p (t ∷ P) Q full ns ws m =
      let e : p + suc (length P) ≡ suc p + length P = omega arith in
      fills t nothing (λ n. refl) (filled_on (suc p) P Q full ns ws (subst (λ (j : ℕ). Made defs j Q full ns ws) e m))

  split : (F W : List Ty) (vs : List Value) → AllRefer (F ++ W) vs
      → AllRefer F (take (length F) vs) × AllRefer W (drop (length F) vs)
  split [] W vs h = (tt, h)
  split (t ∷ F) W [] h = absurd h
  split (t ∷ F) W (v ∷ vs) h = let x = split F W vs h.1 in ((h.0, x.0), x.1)

  join_back : (c : ℕ) (vs : List Value) → take c vs ++ drop c vs ≡ vs
  join_back zero vs = refl
  join_back (suc c) [] = refl
  join_back (suc c) (v ∷ vs) = ap (λ (us : List Value). v ∷ us) (join_back c vs)

  long_drop : (c : ℕ) (vs : List Value) → length (drop c vs) ≡ length vs - c
  long_drop zero vs = omega arith
  long_drop (suc c) [] = omega arith
  long_drop (suc c) (v ∷ vs) = let a = long_drop c vs in omega arith

  types_long : (fs : List Field) → length (types_of fs) ≡ length fs
  types_long [] = refl
  types_long (f ∷ fs) = ap suc (types_long fs)

  picks_split : (ps : List Variant) (k : ℕ) (w : Variant) → slice_get ps k ≡ Some w
      → variant_types ps ≡ variant_types (take k ps) ++ (types_of w.fields ++ variant_types (drop (suc k) ps))
  picks_split [] zero w e = absurd cc
  picks_split [] (suc k) w e = absurd cc
  picks_split (p ∷ ps) zero w e =
      let f : p ≡ w = cc in
      ap (λ (x : Variant). types_of x.fields ++ variant_types ps) f
  picks_split (p ∷ ps) (suc k) w e =
      ap (λ (ts : List Ty). types_of p.fields ++ ts) (picks_split ps k w e)
      ∙ sym (append_assoc (types_of p.fields) (variant_types (take k ps)) (types_of w.fields ++ variant_types (drop (suc k) ps)))

  tag_there : (ps : List Variant) (k : ℕ) (w : Variant) → slice_get ps k ≡ Some w → tag ps ≡ ty.Int ∷ []
  tag_there [] zero w e = absurd cc
  tag_there [] (suc k) w e = absurd cc
  tag_there (p ∷ ps) k w e = refl

  pub made_tuple : (us : Tys) (Ts : List Ty) (vs : List Value) → AllStandFor defs Ts (listed us) → AllFit defs Ts vs
      → Made defs 0 (listed us) vs (numbers_from defs 0 (length vs)) vs
  made_tuple us Ts vs a f =
      subst (λ (P : List Ty). Made defs 0 P vs (numbers_from defs 0 (length vs)) vs) (append-nil (listed us))
      (made_row 0 (listed us) [] vs (stand_refer Ts (listed us) vs a f))

  made_fields : (d : Def) (variant : Option ℕ) (Ts : List Ty) (vs : List Value) → TakesFields defs d variant Ts → AllFit defs Ts vs
      → Made defs 0 (parts d) (adt_parts (Some d) variant vs) (adt_numbers defs (Some d) variant (length vs)) vs
  made_fields d None Ts vs a f =
      subst (λ (ps : List Variant). Made defs 0 (tag ps ++ (types_of d.fields ++ variant_types ps)) vs (numbers_from defs 0 (length vs)) vs)
      (sym a.0) (made_row 0 (types_of d.fields) [] vs (stand_refer Ts (types_of d.fields) vs a.1 f))
  made_fields d (Some k) Ts vs a f =
      let w = a.0 in
      let F = types_of d.fields in
      let W = types_of w.fields in
      let V = variant_types (take k d.picks) in
      let V2 = variant_types (drop (suc k) d.picks) in
      let c : ℕ = length F in
      let z : ℕ = length V in
      let both = split F W vs (stand_refer Ts (F ++ W) vs a.2 f) in
      let last = made_row (1 + c + z) W V2 (drop c vs) both.1 in
      let others = filled_on (1 + c) V (W ++ V2) (drop c vs) (numbers_from defs (1 + c + z) (length (drop c vs))) (drop c vs) last in
      let common = moved_on 1 F (V ++ (W ++ V2)) (take c vs) (replicate z nothing ++ drop c vs)
      (numbers_from defs (1 + c + z) (length (drop c vs))) (drop c vs) both.0 others in
      let here : Made defs 0 (ty.Int ∷ (F ++ (V ++ (W ++ V2)))) (Num (pos k) ∷ (take c vs ++ (replicate z nothing ++ drop c vs)))
      (numbers_from defs 1 c ++ numbers_from defs (1 + c + z) (length (drop c vs))) (take c vs ++ drop c vs) =
      fills ty.Int (Num (pos k)) (λ n. refl) common in
      let e1 : ty.Int ∷ (F ++ (V ++ (W ++ V2))) ≡ parts d =
      sym (ap (λ (ts : List Ty). ts ++ (F ++ variant_types d.picks)) (tag_there d.picks k w a.1)
      ∙ ap (λ (ts : List Ty). ty.Int ∷ (F ++ ts)) (picks_split d.picks k w a.1)) in
      subst (λ (c : ℕ). Made defs 0 (parts d) (Num (pos k) ∷ (take c vs ++ (replicate z nothing ++ drop c vs)))
      (numbers_from defs 1 c ++ numbers_from defs (1 + c + z) (length vs - c)) vs) (types_long d.fields)
      (subst (λ (P : List Ty). Made defs 0 P (Num (pos k) ∷ (take c vs ++ (replicate z nothing ++ drop c vs)))
      (numbers_from defs 1 c ++ numbers_from defs (1 + c + z) (length vs - c)) vs) e1
      (subst (λ (j : ℕ). Made defs 0 (ty.Int ∷ (F ++ (V ++ (W ++ V2)))) (Num (pos k) ∷ (take c vs ++ (replicate z nothing ++ drop c vs)))
      (numbers_from defs 1 c ++ numbers_from defs (1 + c + z) j) vs) (long_drop c vs)
      (subst (λ (xs : List Value). Made defs 0 (ty.Int ∷ (F ++ (V ++ (W ++ V2))))
      (Num (pos k) ∷ (take c vs ++ (replicate z nothing ++ drop c vs)))
      (numbers_from defs 1 c ++ numbers_from defs (1 + c + z) (length (drop c vs))) xs) (join_back c vs) here)))

  pub made_adt : (n : ℕ) (d : Def) (variant : Option ℕ) (Ts : List Ty) (vs : List Value) → slice_get defs n ≡ Some d
      → TakesFields defs d variant Ts → AllFit defs Ts vs
      → Made defs 0 (part_types defs (ty.Adt n)) (adt_parts (slice_get defs n) variant vs)
      (part_numbers defs (operation.Adt n variant) (length vs)) vs
  made_adt n d variant Ts vs e a f =
      subst (λ (o : Option Def). Made defs 0 (parts_there defs o) (adt_parts o variant vs) (adt_numbers defs o variant (length vs)) vs)
      (sym e)
      (made_fields d variant Ts vs a f)

  -- A value of a type that has a layout has its parts.
  pub whole_is : (t : Ty) → HasLayout defs t → (v : Value) → fitted defs t v ≡ with_parts defs (part_types defs t) v
  whole_is (ty.Tuple us) h v = values_are_whole.tuples defs us v
  whole_is (ty.Adt n) h v =
      values_are_whole.adts defs n h.0 h.2.0 v h.2.1 h.1
      ∙ sym (ap (λ (o : Option Def). with_parts defs (parts_there defs o) v) h.1)
  whole_is _ h v = absurd h

  pub made_references : (t : Ty) (full : List Value) → HasLayout defs t
      → references (fitted defs t (Parts (row full))) ≡ references_in (all_fitted defs (part_types defs t) full)
  made_references t full h =
      ap references (whole_is t h (Parts (row full)))
      ∙ ap (λ (xs : List Value). values.all_references (row (all_fitted defs (part_types defs t) xs))) (listed_row full)
      ∙ row_references (all_fitted defs (part_types defs t) full)
