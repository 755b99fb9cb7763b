-- What slots name, as counts: as one is written, emptied, kept in a chain, brought back, and as references go and move.
use Rattle.std.proofs.Common.{◌≡◌, ◌≢◌, ℕ, zero, suc, ◌+◌, ◌-◌, ◌<◌, ◌≤◌, Bool, true, false, List, [], ◌∷◌, ◌++◌, length, Option, Some}
use Rattle.std.proofs.Common.{None}
use Rattle.std.proofs.Common.{refl, sym, ap, subst, ◌∙◌, arith, length-set, get_or-set_other, inl, inr, take, drop, replicate}
use Rattle.std.proofs.lemmas.Bool.{ltb-true, ltb-false}
use Rattle.std.specs.Prelude.{nat_lt, slice_index_or, slice_get, if◌then◌else◌}
use Rattle.process_model.specs.Process.{Went}
use Rattle.limbo_types.specs.Types as ty
use Rattle.limbo_types.specs.Types.{Ty, Tys, NoTys, MoreTys}
use Rattle.limbo_types.specs.View.{tys_of}
use Rattle.limbo_layout.specs.Adts as adts
use Rattle.limbo_layout.specs.Adts.{Def, parts, variant_types}
use Rattle.limbo_meaning.specs.Values.{Value, Num, Chars, Ref, Array, Parts, Values, NoValues, MoreValues, nothing, parts_of}
use Rattle.limbo_meaning.specs.Values.{formed, all_formed, by_def, adt_formed, fitted, references, all_references, one, among}
use Rattle.limbo_meaning.specs.Values.{references_in, row, listed, all_fitted}
use Rattle.limbo_meaning.specs.Operations.{adt_parts}
use Rattle.limbo_meaning.specs.Places.{value_part, put_part}
use Rattle.limbo_meaning.specs.Process.{Shared}
use Rattle.core_code.specs.Slots.{Slot, Holds, Forms, Turns, Region, NoSlot, MoreSlots, Regions, NoRegion, MoreRegions, Slots, empty, slot}
use Rattle.core_code.specs.Slots.{put}
use Rattle.core_code.specs.Slots.{value_of, chain_of, next_of, without, all_without, dropped, region, cleared, placed, chained, slot_names}
use Rattle.core_code.specs.Slots.{region_names, regions_name, slots_name, operands_of}
use Rattle.core_code.specs.Code.{Program}
use Rattle.core_code.specs.Machine.{Process, at, with_frames, goes_to, takes, left_whole, picked, process_names}
use Rattle.core_code.specs.Naming.{reference, size, NamesTheSame, DropsOne, KeepsAll, TakesAll, MovesParts, PlacesOperands}
use Rattle.core_code.specs.Naming.{GathersTuples, GathersAdts, IsForming, AreOf, ReferencesGoSo}
use Rattle.core_code.specs.Whole.{with_parts}
use Rattle.core_code.proofs.Whole.{values_are_whole}

-- ---- references of values

among_join : (n : ℕ) (rs ss : List (Option ℕ)) → among n (rs ++ ss) ≡ among n rs + among n ss
among_join n [] ss = omega arith
among_join n (r ∷ rs) ss = let a = among_join n rs ss in omega arith

-- the reference of this number in two rows
nth_left : (rs ss : List (Option ℕ)) (k : ℕ) → k < length rs → slice_index_or (rs ++ ss) k None ≡ slice_index_or rs k None
nth_left [] ss k l = absurd (omega arith)
nth_left (r ∷ rs) ss zero l = refl
nth_left (r ∷ rs) ss (suc k) l = nth_left rs ss k (omega arith)

nth_right : (rs ss : List (Option ℕ)) (k : ℕ) → length rs ≤ k → slice_index_or (rs ++ ss) k None ≡ slice_index_or ss (k - length rs) None
nth_right [] ss k l = let e : k ≡ k - 0 = omega arith in ap (λ (j : ℕ). slice_index_or ss j None) e
nth_right (r ∷ rs) ss zero l = absurd (omega arith)
nth_right (r ∷ rs) ss (suc k) l =
    let e : k - length rs ≡ suc k - suc (length rs) = omega arith in
    nth_right rs ss k (omega arith) ∙ ap (λ (j : ℕ). slice_index_or ss j None) e

chosen : (n k : ℕ) (v : Value) (vs : Values) (b : Bool) → nat_lt k (length (references v)) ≡ b
    → among n (references (without k v)) + one n (slice_index_or (references v) k None) ≡ among n (references v)
    → among n (all_references (all_without (k - length (references v)) vs))
    + one n (slice_index_or (all_references vs) (k - length (references v)) None) ≡ among n (all_references vs)
    → among n (all_references (if b
    then MoreValues (without k v) vs
    else MoreValues v (all_without (k - length (references v)) vs)))
    + one n (slice_index_or (references v ++ all_references vs) k None) ≡ among n (references v ++ all_references vs)
chosen n k v vs true e f g =
    let a = ap (one n) (nth_left (references v) (all_references vs) k (ltb-true _ _ e)) in
    let b = among_join n (references (without k v)) (all_references vs) in
    let c = among_join n (references v) (all_references vs) in
    omega arith
chosen n k v vs false e f g =
    let a = ap (one n) (nth_right (references v) (all_references vs) k (ltb-false _ _ e)) in
    let b = among_join n (references v) (all_references (all_without (k - length (references v)) vs)) in
    let c = among_join n (references v) (all_references vs) in
    omega arith

mutual
  one_goes : (n k : ℕ) (v : Value) →
      among n (references (without k v)) + one n (slice_index_or (references v) k None) ≡ among n (references v)
  one_goes n k (Num z) = omega arith
  one_goes n k (Chars s) = omega arith
  one_goes n zero (Ref r) = omega arith
  one_goes n (suc k) (Ref r) = omega arith
  one_goes n zero (Array p) = omega arith
  one_goes n (suc k) (Array p) = omega arith
  one_goes n k (Parts vs) = one_goes_in n k vs

  one_goes_in : (n k : ℕ) (vs : Values) →
      among n (all_references (all_without k vs)) + one n (slice_index_or (all_references vs) k None) ≡ among n (all_references vs)
  one_goes_in n k NoValues = omega arith
  one_goes_in n k (MoreValues v vs) =
      chosen n k v vs (nat_lt k (length (references v))) refl (one_goes n k v) (one_goes_in n (k - length (references v)) vs)

drop_goes : (n k : ℕ) (s : Slot) → slot_names (dropped k s) n + one n (reference k s) ≡ slot_names s n
drop_goes n k (Holds v) = one_goes n k v
drop_goes n k (Forms vs) = omega arith
drop_goes n k (Turns i rs) = omega arith

-- ---- slots

pub names_put : (n : ℕ) (slots : Slots) (s : ℕ) (v : Slot) → s < length slots
    → slots_name (put slots s v) n + slot_names (slot slots s) n ≡ slots_name slots n + slot_names v n
names_put n [] s v l = absurd (omega arith)
names_put n (x ∷ slots) zero v l = omega arith
names_put n (x ∷ slots) (suc s) v l = let a = names_put n slots s v (omega arith) in omega arith

pub slot_other : (slots : Slots) (s d : ℕ) (v : Slot) → d ≢ s → slot (put slots s v) d ≡ slot slots d
slot_other slots s d v e = get_or-set_other slots s d v empty e

pub long_cleared : (slots : Slots) (from words : ℕ) → length (cleared slots from words) ≡ length slots
long_cleared slots from zero = refl
long_cleared slots from (suc n) = length-set (cleared slots (suc from) n) from _ ∙ long_cleared slots (suc from) n

pub cleared_below : (slots : Slots) (from words d : ℕ) → d < from → slot (cleared slots from words) d ≡ slot slots d
cleared_below slots from zero d l = refl
cleared_below slots from (suc n) d l =
    slot_other (cleared slots (suc from) n) from d empty (omega arith) ∙ cleared_below slots (suc from) n d (omega arith)

pub names_cleared : (n : ℕ) (slots : Slots) (from words : ℕ) → from + words ≤ length slots
    → slots_name (cleared slots from words) n + region_names (region slots from words) n ≡ slots_name slots n
names_cleared n slots from zero l = omega arith
names_cleared n slots from (suc words) l =
    let a = names_cleared n slots (suc from) words (omega arith) in
    let b = long_cleared slots (suc from) words in
    let c = names_put n (cleared slots (suc from) words) from empty (omega arith) in
    let d = ap (λ (s : Slot). slot_names s n) (cleared_below slots (suc from) words from (omega arith)) in
    omega arith

pub names_chained : (n : ℕ) (rs : Regions) (g : Region) → regions_name (chained rs g) n ≡ regions_name rs n + region_names g n
names_chained n NoRegion g = omega arith
names_chained n (MoreRegions h rs) g = let a = names_chained n rs g in omega arith

pub long_placed : (slots : Slots) (from : ℕ) (g : Region) → length (placed slots from g) ≡ length slots
long_placed slots from NoSlot = refl
long_placed slots from (MoreSlots s g) = length-set (placed slots (suc from) g) from _ ∙ long_placed slots (suc from) g

pub placed_below : (slots : Slots) (from d : ℕ) (g : Region) → d < from → slot (placed slots from g) d ≡ slot slots d
placed_below slots from d NoSlot l = refl
placed_below slots from d (MoreSlots s g) l =
    slot_other (placed slots (suc from) g) from d s (omega arith) ∙ placed_below slots (suc from) d g (omega arith)

pub names_placed : (n : ℕ) (slots : Slots) (from : ℕ) (g : Region) → from + size g ≤ length slots
    → slots_name (placed slots from g) n + region_names (region slots from (size g)) n ≡ slots_name slots n + region_names g n
names_placed n slots from NoSlot l = omega arith
names_placed n slots from (MoreSlots s g) l =
    let a = names_placed n slots (suc from) g (omega arith) in
    let b = long_placed slots (suc from) g in
    let c = names_put n (placed slots (suc from) g) from s (omega arith) in
    let d = ap (λ (s : Slot). slot_names s n) (placed_below slots (suc from) from g (omega arith)) in
    omega arith

-- ---- zero names nothing

module _ (n : ℕ) (adt : ℕ → Value → Value) (adts : (k : ℕ) → among n (references (adt k nothing)) ≡ 0) where
  mutual
    zero_names : (t : Ty) → among n (references (formed adt t nothing)) ≡ 0
    zero_names (ty.Tuple ts) = all_zero_name ts
    zero_names (ty.Adt k) = adts k
    zero_names _ = refl

    all_zero_name : (ts : Tys) → among n (all_references (all_formed adt ts NoValues)) ≡ 0
    all_zero_name NoTys = refl
    all_zero_name (MoreTys t ts) =
        let a = among_join n (references (formed adt t nothing)) (all_references (all_formed adt ts NoValues)) in
        let b = zero_names t in
        let c = all_zero_name ts in
        omega arith

  zero_by_def : (o : Option Def) → among n (references (by_def (formed adt) (all_formed adt) o nothing)) ≡ 0
  zero_by_def None = refl
  zero_by_def (Some d) = all_zero_name (tys_of (parts d))

zero_adt : (n : ℕ) (defs : List Def) (depth k : ℕ) → among n (references (adt_formed defs depth k nothing)) ≡ 0
zero_adt n defs zero k = refl
zero_adt n defs (suc d) k = zero_by_def n (adt_formed defs d) (zero_adt n defs d) (slice_get defs k)

pub zero_fitted : (n : ℕ) (defs : List Def) (t : Ty) → among n (references (fitted defs t nothing)) ≡ 0
zero_fitted n defs t = zero_names n (adt_formed defs (length defs)) (zero_adt n defs (length defs)) t

-- ---- a part that is taken out

pub part_goes : (n k : ℕ) (z : Value) (vs : Values) → among n (references z) ≡ 0
    → among n (all_references (put_part k z vs)) + among n (references (value_part k vs)) ≡ among n (all_references vs)
part_goes n zero z NoValues e = omega arith
part_goes n (suc k) z NoValues e = let a = part_goes n k z NoValues e in omega arith
part_goes n zero z (MoreValues v vs) e =
    let a = among_join n (references z) (all_references vs) in
    let b = among_join n (references v) (all_references vs) in
    omega arith
part_goes n (suc k) z (MoreValues v vs) e =
    let a = part_goes n k z vs e in
    let b = among_join n (references v) (all_references (put_part k z vs)) in
    let c = among_join n (references v) (all_references vs) in
    omega arith

-- ---- processes

-- the process that goes on with these slots
went : (w v : Shared) (p q : Process) (pc : ℕ) (slots : Slots) (extra : ℕ → ℕ)
    → goes_to w p pc slots ≡ Went v q
    → ((n : ℕ) → slots_name slots n + extra n ≡ slots_name p.frame.slots n)
    → (v ≡ w) × ((n : ℕ) → process_names q n + extra n ≡ process_names p n)
went w v p q pc slots extra e f =
    let a : w ≡ v = cc in
    let b : with_frames p (at p.frame pc p.frame.variables slots) p.below ≡ q = cc in
    (sym a, λ n. subst (λ (r : Process). process_names r n + extra n ≡ process_names p n) b (let c = f n in omega arith))

drops_one : (limit : ℕ) (program : Program) → DropsOne limit program
drops_one limit program w v p q s k e l =
    let slots = p.frame.slots in
    let after = dropped k (slot slots s) in
    let a = went w v p q (suc p.frame.pc) (put slots s after) (λ n. one n (reference k (slot slots s))) e
    (λ n. let b = names_put n slots s after l in let c = drop_goes n k (slot slots s) in omega arith) in
    record { world = a.0; names = a.1 }

keeps_all : (limit : ℕ) (program : Program) → KeepsAll limit program
keeps_all limit program w v p q loop from words next rs e c l m =
    let slots = p.frame.slots in
    let g = region slots from words in
    let kept = cleared slots from words in
    let whole = Turns (next_of (slot slots loop)) (chained (chain_of (slot slots loop)) g) in
    let a = went w v p q (suc p.frame.pc) (put kept loop whole) (λ n. 0) e (λ n.
    let b = names_cleared n slots from words m in
    let d = names_put n kept loop whole (let k = long_cleared slots from words in omega arith) in
    let f = names_chained n (chain_of (slot slots loop)) g in
    let h = ap (λ (s : Slot). slot_names s n) (cleared_below slots from words loop l) in
    let i : slot_names (slot slots loop) n ≡ regions_name (chain_of (slot slots loop)) n =
    subst (λ (s : Slot). slot_names s n ≡ regions_name (chain_of s) n) (sym c) refl in
    omega arith) in
    record { world = a.0; names = λ n. let b = a.1 n in omega arith }

takes_all : (limit : ℕ) (program : Program) → TakesAll limit program
takes_all limit program w v p q loop from words passes next g rs e c l m z =
    let slots = p.frame.slots in
    let back = placed slots from g in
    let e' = subst (λ (s : Slot). takes limit program w p loop from passes (next_of s) (chain_of s) ≡ Went v q) c e in
    let a = went w v p q (suc p.frame.pc) (put back loop (Turns next rs)) (λ n. 0) e' (λ n.
    let b = names_placed n slots from g m in
    let y = z n in
    let d = names_put n back loop (Turns next rs) (let k = long_placed slots from g in omega arith) in
    let h = ap (λ (s : Slot). slot_names s n) (placed_below slots from loop g l) in
    let i = ap (λ (s : Slot). slot_names s n) c in
    omega arith) in
    record { world = a.0; names = λ n. let b = a.1 n in omega arith }

moves_parts : (limit : ℕ) (program : Program) → MovesParts limit program
moves_parts limit program w v p q t part into from vs e c f apart li lf z =
    let slots = p.frame.slots in
    let u = value_of (slot slots from) in
    let whole = Holds (left_whole limit program w p t part u) in
    let out = Holds (picked limit program w p t part u) in
    let a = went w v p q (suc p.frame.pc) (put (put slots from whole) into out) (λ n. 0) e (λ n.
    let b = names_put n slots from whole lf in
    let d = names_put n (put slots from whole) into out (let k = length-set slots from whole in omega arith) in
    let h = ap (λ (s : Slot). slot_names s n) (slot_other slots from into whole apart) in
    let y = z n in
    let i : slot_names (slot slots from) n ≡ among n (all_references (parts_of u)) =
    subst (λ (s : Slot). slot_names s n ≡ among n (all_references (parts_of (value_of s)))) (sym c) refl in
    let j : among n (references (fitted program.adts t (value_part part (parts_of u)))) ≡ among n
    (references (value_part part (parts_of u))) =
    subst (λ (s : Slot).
    among n (references (fitted program.adts t (value_part part (parts_of (value_of s))))) ≡ among n
    (references (value_part part (parts_of (value_of s))))) (sym c) (ap (λ (x : Value). among n (references x)) f) in
    let k = part_goes n part (fitted program.adts t nothing) (parts_of u) (zero_fitted n program.adts t) in
    omega arith) in
    record { world = a.0; names = λ n. let b = a.1 n in omega arith }

-- ---- operands that are put together

pub listed_row : (vs : List Value) → listed (row vs) ≡ vs
listed_row [] = refl
listed_row (v ∷ vs) = ap (λ (us : List Value). v ∷ us) (listed_row vs)

pub row_references : (vs : List Value) → all_references (row vs) ≡ references_in vs
row_references [] = refl
row_references (v ∷ vs) = ap (λ (rs : List (Option ℕ)). references v ++ rs) (row_references vs)

pub names_in_join : (n : ℕ) (us vs : List Value)
    → among n (references_in (us ++ vs)) ≡ among n (references_in us) + among n (references_in vs)
names_in_join n [] vs = omega arith
names_in_join n (u ∷ us) vs =
    let a = names_in_join n us vs in
    let b = among_join n (references u) (references_in (us ++ vs)) in
    let c = among_join n (references u) (references_in us) in
    omega arith

-- as ones of their types values have the names that they have
pub fitted_names : (n : ℕ) (defs : List Def) (ts : List Ty) (vs : List Value) → AreOf defs ts vs
    → among n (references_in (all_fitted defs ts vs)) ≡ among n (references_in vs)
fitted_names n defs [] [] h = refl
fitted_names n defs [] (v ∷ vs) h = absurd h
fitted_names n defs (t ∷ ts) [] h =
    let a = fitted_names n defs ts [] tt in
    let b = zero_fitted n defs t in
    let c = among_join n (references (fitted defs t nothing)) (references_in (all_fitted defs ts [])) in
    omega arith
fitted_names n defs (t ∷ ts) (v ∷ vs) h =
    let a = fitted_names n defs ts vs h.1 in
    let b : among n (references (fitted defs t v)) ≡ among n (references v) = elim h.0 [
      | inl e ↦ ap (λ (u : Value). among n (references u)) e
      | inr e ↦ ap (λ (u : Value). among n (references (fitted defs t u))) e ∙ zero_fitted n defs t
          ∙ sym (ap (λ (u : Value). among n (references u)) e)
    ] in
    let c = among_join n (references (fitted defs t v)) (references_in (all_fitted defs ts vs)) in
    let d = among_join n (references v) (references_in vs) in
    omega arith

-- a value made of parts has their names
pub made_names : (n : ℕ) (defs : List Def) (ts : List Ty) (vs : List Value) → AreOf defs ts vs
    → among n (references (with_parts defs ts (Parts (row vs)))) ≡ among n (references_in vs)
made_names n defs ts vs h =
    ap (λ (us : List Value). among n (all_references (row (all_fitted defs ts us)))) (listed_row vs)
    ∙ ap (among n) (row_references (all_fitted defs ts vs)) ∙ fitted_names n defs ts vs h

nothings_name : (n k : ℕ) → among n (references_in (replicate k nothing)) ≡ 0
nothings_name n zero = refl
nothings_name n (suc k) = nothings_name n k

split_names : (n k : ℕ) (vs : List Value)
    → among n (references_in (take k vs)) + among n (references_in (drop k vs)) ≡ among n (references_in vs)
split_names n zero vs = omega arith
split_names n (suc k) [] = omega arith
split_names n (suc k) (v ∷ vs) =
    let a = split_names n k vs in
    let b = among_join n (references v) (references_in (take k vs)) in
    let c = among_join n (references v) (references_in vs) in
    omega arith

-- the tag, and what other variants have, name nothing
pub adt_names : (n : ℕ) (d : Def) (variant : Option ℕ) (vs : List Value)
    → among n (references_in (adt_parts (Some d) variant vs)) ≡ among n (references_in vs)
adt_names n d None vs = refl
adt_names n d (Some k) vs =
    let common = take (length d.fields) vs in
    let others = replicate (length (variant_types (take k d.picks))) nothing in
    let a = names_in_join n common (others ++ drop (length d.fields) vs) in
    let b = names_in_join n others (drop (length d.fields) vs) in
    let c = nothings_name n (length (variant_types (take k d.picks))) in
    let e = split_names n (length d.fields) vs in
    omega arith

-- what is put together has the names of its operands
pub forming_names : (n : ℕ) (s : Slot) → IsForming s → slot_names s n ≡ among n (references_in (operands_of s))
forming_names n s (inl e) = ap (λ (x : Slot). slot_names x n) e
forming_names n s (inr e) = subst (λ (x : Slot). slot_names x n ≡ among n (references_in (operands_of x))) (sym e) refl

places_operands : (limit : ℕ) (program : Program) → PlacesOperands limit program
places_operands limit program w v p q t variant operand part into from e holds forming apart li lf =
    let slots = p.frame.slots in
    let u = value_of (slot slots from) in
    let vs = operands_of (slot slots into) in
    let a = went w v p q (suc p.frame.pc) (put (put slots from empty) into (Forms (vs ++ u ∷ []))) (λ n. 0) e (λ n.
    let b = names_put n slots from empty lf in
    let c = names_put n (put slots from empty) into (Forms (vs ++ u ∷ [])) (let k = length-set slots from empty in omega arith) in
    let d = ap (λ (s : Slot). slot_names s n) (slot_other slots from into empty apart) in
    let f = forming_names n (slot slots into) forming in
    let g = ap (λ (s : Slot). slot_names s n) holds in
    let h = names_in_join n vs (u ∷ []) in
    let i = among_join n (references u) [] in
    omega arith) in
    record { world = a.0; names = λ n. let b = a.1 n in omega arith }

-- they are one value then
gathered : (w v : Shared) (p q : Process) (into : ℕ) (u : Value) → IsForming (slot p.frame.slots into) → into < length p.frame.slots
    → goes_to w p (suc p.frame.pc) (put p.frame.slots into (Holds u)) ≡ Went v q
    → ((n : ℕ) → among n (references u) ≡ among n (references_in (operands_of (slot p.frame.slots into)))) → NamesTheSame w v p q
gathered w v p q into u c l e f =
    let slots = p.frame.slots in
    let a = went w v p q (suc p.frame.pc) (put slots into (Holds u)) (λ n. 0) e (λ n.
    let b = names_put n slots into (Holds u) l in
    let d = forming_names n (slot slots into) c in
    let g = f n in
    omega arith) in
    record { world = a.0; names = λ n. let b = a.1 n in omega arith }

gathers_tuples : (limit : ℕ) (program : Program) → GathersTuples limit program
gathers_tuples limit program w v p q ts into count e c l h =
    let vs = operands_of (slot p.frame.slots into) in
    gathered w v p q into (fitted program.adts (ty.Tuple ts) (Parts (row vs))) c l e (λ n.
    ap (λ (u : Value). among n (references u)) (values_are_whole.tuples program.adts ts (Parts (row vs)))
    ∙ made_names n program.adts (adts.listed ts) vs h)

gathers_adts : (limit : ℕ) (program : Program) → GathersAdts limit program
gathers_adts limit program w v p q k variant d r into count e there laid c l h =
    let vs = operands_of (slot p.frame.slots into) in
    let made = λ (o : Option Def). fitted program.adts (ty.Adt k) (Parts (row (adt_parts o variant vs))) in
    gathered w v p q into (made (slice_get program.adts k)) c l e (λ n.
    ap (λ (o : Option Def). among n (references (made o))) there
    ∙ ap (λ (u : Value). among n (references u))
    (values_are_whole.adts program.adts k d r (Parts (row (adt_parts (Some d) variant vs))) laid there)
    ∙ made_names n program.adts (parts d) (adt_parts (Some d) variant vs) h ∙ adt_names n d variant vs)

pub references_go_so : ReferencesGoSo
references_go_so = record {
  drops = drops_one;
  keeps = keeps_all;
  takes = takes_all;
  moves = moves_parts;
  places = places_operands;
  gathers = gathers_tuples;
  gathers_adts = gathers_adts;
}
