-- Parts that are taken out of a value: they move into a slot of their own.
use Rattle.std.proofs.Common.{◌≡◌, ℕ, zero, suc, ◌+◌, ◌-◌, ◌<◌, ◌≤◌, List, [], ◌∷◌, ◌++◌, length, Option}
use Rattle.std.proofs.Common.{None, refl, sym, ap, subst, ◌∙◌, arith, append_assoc, length-append, inl, inr, ◌⊎◌, take}
use Rattle.std.specs.Prelude.{slice_index_or}
use Rattle.limbo_types.specs.Types as ty
use Rattle.limbo_types.specs.Types.{Ty}
use Rattle.limbo_layout.specs.Adts.{Def}
use Rattle.limbo_meaning.specs.Values.{Value, Values, Parts, row, listed, nothing, parts_of, references, all_references, all_fitted}
use Rattle.limbo_meaning.specs.Values.{fitted, among}
use Rattle.limbo_meaning.specs.Places.{value_part, put_part}
use Rattle.core_code.specs.Slots.{Slot, Holds, Slots, slot, put, slot_names}
use Rattle.core_code.specs.Code.{Instr}
use Rattle.core_code.specs.Naming.{reference}
use Rattle.core_code.specs.Terms.{Moved, drops_after, moves_out, part_types, count_of, count_all}
use Rattle.core_code.proofs.Names.{names_put, part_goes, zero_fitted}
use Rattle.core_follows.specs.Drops.{Between, Beside, AllSpare, Holding}
use Rattle.core_follows.specs.Handled.{Fits, StandsFor, HasLayout}
use Rattle.core_follows.proofs.Slots.{put_same, put_other, put_long, put_whole, total, total_same, total_split, slots_split}
use Rattle.core_follows.proofs.Static.{after_touch, touch_wide}
use Rattle.core_follows.proofs.Moves.{Goes_over, move_dropping}
use Rattle.core_follows.proofs.Gathers.{nth_front, nth_back, under_none, whole_is}
use Rattle.core_follows.proofs.Given.{counted}

-- Where the references of a part are among those of its whole, and that others in its place change none of the others.
pub record Taken (defs : List Def) (P : List Ty) (ws : Values) (k : ℕ) : Type 0 where
  pub front : List (Option ℕ)
  pub behind : List (Option ℕ)
  pub long : length front ≡ count_all defs (take k P)
  pub value : Value
  pub fits : value_part k ws ≡ fitted defs (slice_index_or P k ty.Nothing) value
  pub now : all_references ws ≡ front ++ (references (value_part k ws) ++ behind)
  pub other : (z : Value) → all_references (put_part k z ws) ≡ front ++ (references z ++ behind)

pub taken : (defs : List Def) (P : List Ty) (ys : List Value) (k : ℕ) → k < length P → Taken defs P (row (all_fitted defs P ys)) k
taken defs [] ys k l = absurd (omega arith)
taken defs (t ∷ P) [] zero l = record {
  front = [];
  behind = all_references (row (all_fitted defs P []));
  long = refl;
  value = nothing;
  fits = refl;
  now = refl;
  other = λ z. refl;
}
taken defs (t ∷ P) (y ∷ ys) zero l = record {
  front = [];
  behind = all_references (row (all_fitted defs P ys));
  long = refl;
  value = y;
  fits = refl;
  now = refl;
  other = λ z. refl;
}
taken defs (t ∷ P) [] (suc k) l =
    let x = taken defs P [] k (omega arith) in
    let R = references (fitted defs t nothing) in
    record {
      front = R ++ x.front;
      behind = x.behind;
      long = let a = length-append R x.front in let b = counted defs t nothing in let c = x.long in omega arith;
      value = x.value;
      fits = x.fits;
      now = ap (λ (rs : List (Option ℕ)). R ++ rs) x.now
          ∙ sym (append_assoc R x.front (references (value_part k (row (all_fitted defs P []))) ++ x.behind));
      other = λ z. ap (λ (rs : List (Option ℕ)). R ++ rs) (x.other z) ∙ sym (append_assoc R x.front (references z ++ x.behind));
    }
taken defs (t ∷ P) (y ∷ ys) (suc k) l =
    let x = taken defs P ys k (omega arith) in
    let R = references (fitted defs t y) in
    record {
      front = R ++ x.front;
      behind = x.behind;
      long = let a = length-append R x.front in let b = counted defs t y in let c = x.long in omega arith;
      value = x.value;
      fits = x.fits;
      now = ap (λ (rs : List (Option ℕ)). R ++ rs) x.now
          ∙ sym (append_assoc R x.front (references (value_part k (row (all_fitted defs P ys))) ++ x.behind));
      other = λ z. ap (λ (rs : List (Option ℕ)). R ++ rs) (x.other z) ∙ sym (append_assoc R x.front (references z ++ x.behind));
    }

-- A value of a type that has a layout has its parts.
pub whole_of : (defs : List Def) (u : Ty) (k : ℕ) (v : Value) → HasLayout defs u → k < length (part_types defs u) → Fits defs u v
    → (ys : List Value) × (v ≡ Parts (row (all_fitted defs (part_types defs u) ys)))
whole_of defs u k v h l (inl f) = (listed (parts_of f.0), f.1 ∙ whole_is defs u h f.0)
whole_of defs u k v h l (inr f) = absurd (subst (HasLayout defs) f.0 h)

-- Beside what is put in its place nothing of a row changes.
nth_apart : (front xs ys behind : List (Option ℕ)) (k : ℕ) → length xs ≡ length ys → (k < length front) ⊎ (length front + length ys ≤ k)
    → slice_index_or (front ++ (xs ++ behind)) k None ≡ slice_index_or (front ++ (ys ++ behind)) k None
nth_apart front xs ys behind k e (inl p) = nth_front front (xs ++ behind) k p ∙ sym (nth_front front (ys ++ behind) k p)
nth_apart front xs ys behind k e (inr p) =
    let r : ℕ = k - (length front + length ys) in
    let ea : k ≡ length front + (length xs + r) = omega arith in
    let eb : k ≡ length front + (length ys + r) = omega arith in
    ap (λ (j : ℕ). slice_index_or (front ++ (xs ++ behind)) j None) ea ∙ nth_back front (xs ++ behind) (length xs + r)
    ∙ nth_back xs behind r ∙ sym (nth_back ys behind r) ∙ sym (nth_back front (ys ++ behind) (length ys + r))
    ∙ sym (ap (λ (j : ℕ). slice_index_or (front ++ (ys ++ behind)) j None) eb)

-- The slots behind a part that was taken, and the drops for what they hold.
pub pick_holding : (defs : List Def) (u t : Ty) (k : ℕ) (one slots : Slots) (lo mid from : ℕ) (ws : Values) (ds : List Instr)
    (got : List (Option ℕ)) → lo ≤ mid → mid < length slots → Holding one slots lo mid ds got → slot slots from ≡ Holds (Parts ws)
    → Between lo mid from → AllSpare from ds → AllSpare mid ds → Taken defs (part_types defs u) ws k
    → StandsFor defs (slice_index_or (part_types defs u) k ty.Nothing) t → ((n : ℕ) → slot_names (slot slots mid) n ≡ 0)
    → Holding one (put (put slots from (Holds (Parts (put_part k (fitted defs t nothing) ws)))) mid
    (Holds (fitted defs t (value_part k ws))))
    lo (suc mid) (drops_after (moves_out defs u k from mid) ds) got
pick_holding defs u t k one slots lo mid from ws ds got p l h e b sp si w s clean =
    let P = part_types defs u in
    let T = slice_index_or P k ty.Nothing in
    let c : ℕ = count_of defs T in
    let first : ℕ = count_all defs (take k P) in
    let m : Moved = moves_out defs u k from mid in
    let part = value_part k ws in
    let z = fitted defs t nothing in
    let x = Holds (fitted defs t part) in
    let left = Holds (Parts (put_part k z ws)) in
    let out = put slots from left in
    let last = put out mid x in
    let lf : from < length slots = let y = b.1 in omega (arith, y, l) in
    let long_out = put_long slots from left in
    let lm : mid < length out = omega (arith, l, long_out) in
    let apart : from ≡ mid → ⊥ = λ q. absurd (let y = b.1 in omega (arith, y, q)) in
    let at_from : slot last from ≡ left = put_other out mid from x apart ∙ put_same slots from left lf in
    let at_mid : slot last mid ≡ x = put_same out mid x lm in
    let stands : references (fitted defs t part) ≡ references part = s part (inl (w.value, w.fits)) in
    let n1 : length (references part) ≡ c = ap (λ (v : Value). length (references v)) w.fits ∙ counted defs T w.value in
    let n2 : length (references z) ≡ length (references part) = counted defs t nothing ∙ sym (counted defs t part) ∙ ap length stands in
    let n3 = w.long in
    let over : Goes_over m slots last = record {
      moved = λ j q r.
          let a : ℕ = 0 + (j - first) in
          let f : j ≡ length w.front + a = omega arith in
          ap (reference a) at_mid ∙ ap (λ (rs : List (Option ℕ)). slice_index_or rs a None) stands
          ∙ sym (ap (reference j) e ∙ ap (λ (rs : List (Option ℕ)). slice_index_or rs j None) w.now
          ∙ ap (λ (i : ℕ). slice_index_or (w.front ++ (references part ++ w.behind)) i None) f
          ∙ nth_back w.front (references part ++ w.behind) a ∙ nth_front (references part) w.behind a (omega arith));
      left = λ j q.
          ap (reference j) at_from ∙ ap (λ (rs : List (Option ℕ)). slice_index_or rs j None) (w.other z)
          ∙ nth_apart w.front (references z) (references part) w.behind j n2
          (elim q [ inl y ↦ inl (omega (arith, y, n3)) | inr y ↦ inr (omega (arith, y, n3, n1)) ])
          ∙ sym (ap (reference j) e ∙ ap (λ (rs : List (Option ℕ)). slice_index_or rs j None) w.now);
      others = λ d q r. put_other out mid d x r ∙ put_other slots from d left q;
      below = λ j q. absurd (omega arith);
      apart = λ q. apart (sym q);
    } in
    let out_same : (r : ℕ) → Beside lo (suc mid) r → slot last r ≡ slot slots r = λ r o.
    put_other out mid r x (λ q. absurd (elim o [ inl y ↦ omega (arith, y, q, p) | inr y ↦ omega (arith, y, q) ]))
    ∙ put_other slots from r left
    (λ q. absurd (let b0 = b.0 in let b1 = b.1 in elim o [ inl y ↦ omega (arith, y, q, b0) | inr y ↦ omega (arith, y, q, b1) ])) in
    record {
      long = put_long out mid x ∙ long_out ∙ h.long;
      same = λ r o. out_same r o ∙ h.same r (elim o [ inl y ↦ inl y | inr y ↦ inr (omega arith) ]);
      whole = λ r e. put_whole out mid x refl r (put_whole slots from left refl r (h.whole r e));
      dropping = move_dropping m slots last ds got over (under_none lo mid ds h.within) sp si h.dropping;
      within = after_touch (Between lo (suc mid)) m ds (p, omega arith)
          (touch_wide lo mid lo (suc mid) ds (omega arith) (omega arith) h.within);
      names = λ n.
          let a1 = names_put n slots from left lf in
          let a2 = names_put n out mid x lm in
          let a3 = ap (λ (y : Slot). slot_names y n) (put_other slots from mid left (λ q. apart (sym q))) in
          let a4 = clean n in
          let a5 = ap (λ (y : Slot). slot_names y n) e in
          let a6 = part_goes n k z ws (zero_fitted n defs t) in
          let a7 = ap (among n) stands in
          let b1 = slots_split n slots lo (suc mid) (omega arith) (omega arith) in
          let b2 = slots_split n last lo (suc mid) (omega arith) (let q = put_long out mid x in omega arith) in
          let c1 = total_same n slots last 0 lo (λ r q f. out_same r (inl (omega arith))) in
          let c2 = total_same n slots last (suc mid) (length slots - suc mid) (λ r q f. out_same r (inr q)) in
          let c3 : length last ≡ length slots = put_long out mid x ∙ long_out in
          let c4 = ap (λ (i : ℕ). total last (suc mid) (i - suc mid) n) c3 in
          let e1 : suc mid - lo ≡ (mid - lo) + 1 = omega arith in
          let e2 = ap (λ (i : ℕ). total slots lo i n) e1 in
          let e3 = total_split n slots lo (mid - lo) 1 in
          let e4 : lo + (mid - lo) ≡ mid = omega arith in
          let e5 = ap (λ (i : ℕ). total slots i 1 n) e4 in
          let e6 : total slots mid 1 n ≡ slot_names (slot slots mid) n + 0 = refl in
          let e7 = h.names n in
          omega arith;
    }
