-- Parts of variables that have a box where they are read into slots. (Where a part of a variable lies is shown as in `rows_moving`, of frames
-- that may have busy slots.)
use Rattle.std.proofs.Common.{◌≡◌, ℕ, zero, suc, pos, ◌+◌, ◌*◌, ◌<◌, List, [], ◌∷◌, length, map, Option, Some, refl, sym, ap, ◌∙◌, subst, arith, inl, inr}
use Rattle.std.specs.Prelude.{slice_get, slice_index_or}
use Rattle.std.specs.List.{range_with_len}
use Rattle.limbo_types.specs.Types as ty
use Rattle.limbo_types.specs.Types.{Ty}
use Rattle.limbo_layout.specs.Adts.{Def}
use Rattle.limbo_layout.specs.Layout.{Room, nothing}
use Rattle.limbo_layout.specs.Laying.{rooms_of}
use Rattle.limbo_layout.proofs.Rooms.{has_cases}
use Rattle.limbo_typed.specs.Typed as typed
use Rattle.limbo_typed.specs.Fitting.{HasPart}
use Rattle.limbo_kept.specs.Places.{Leads}
use Rattle.limbo_kept.specs.Trees.{WayIs}
use Rattle.limbo_meaning.specs.Values.{Value}
use Rattle.limbo_meaning.specs.Values as value
use Rattle.limbo_meaning.specs.Places.{part_at}
use Rattle.limbo_meaning.specs.Process.{Shared}
use Rattle.limbo_meaning.specs.Trees.{Read}
use Rattle.limbo_meaning.specs.Exceptions.{Raising}
use Rattle.limbo_meaning.specs.Evaluation as evaluation
use Rattle.system_model.specs.Limits.{frames_limit}
use Rattle.core_code.specs.Code.{Give}
use Rattle.core_code.specs.Rooms.{rooms_in}
use Rattle.core_code.specs.Terms.{part_types, parts_there}
use Rattle.core_code.specs.Machine as code
use Rattle.core_code.specs.Slots as core
use Rattle.core_code.specs.Slots.{Holds}
use Rattle.dis_isa.specs.declared.inst.Operand as isa
use Rattle.dis_isa.specs.declared.inst.Operand.TheVariants as operand
use Rattle.dis_isa.specs.declared.inst.Middle.TheVariants as middle
use Rattle.dis_isa.specs.declared.op.Op.TheVariants as op
use Rattle.dis_meaning.specs.Words.{Word}
use Rattle.dis_meaning.specs.Process.{Frame}
use Rattle.dis_memory.specs.Blocks.{World}
use Rattle.value_words.specs.Facts.{Facts}
use Rattle.value_words.specs.Stands.{AllStand, none_stand, more_stand}
use Rattle.value_words.proofs.Blank.{mapped}
use Rattle.value_words.proofs.Wholes.{stands_whole}
use Rattle.value_roots.proofs.Words.{has_counts}
use Rattle.value_frames.specs.Frames.{Boxed, form_of, linkage_bytes, spare_place, reference_place, row_of, room_for, within, type_within, variable_place}
use Rattle.value_moves.specs.Operands.{inst, own, moved}
use Rattle.value_moves.specs.Writing.{Lies}
use Rattle.value_moves.proofs.Leading.{spots_lead}
use Rattle.value_stores.specs.Paths.{HasPath, RowLies}
use Rattle.value_stores.proofs.Parts.{parts_lie}
use Rattle.value_stores.proofs.Places.{places_change}
use Rattle.value_code.specs.Data.{OfRecord}
use Rattle.value_code.specs.Operands.{reference, in_box}
use Rattle.value_code.specs.Code.{Site, code_of}
use Rattle.value_follows.specs.Stands.{scope, types_of, FrameIs}
use Rattle.value_follows.specs.Sides.{sides, program}
use Rattle.value_follows.proofs.Standing.{same_some}
use Rattle.rows_boxes.specs.Rows.{of_local, BoxReadsGo}
use Rattle.rows_boxes.proofs.Giving.{room_laid}
use Rattle.rows_boxes.proofs.Numbers.{finds_on}
use Rattle.rows_boxes.proofs.Names.{names_got}
use Rattle.rows_boxes.proofs.Whole.{whole_goes}

pub found_there : {A : Type 0} (xs : List A) (n : ℕ) (d y : A) → slice_get xs n ≡ Some y → (n < length xs) × (slice_index_or xs n d ≡ y)
found_there [] n d y e = absurd cc
found_there (x ∷ xs) zero d y e = (omega arith, same_some x y e)
found_there (x ∷ xs) (suc n) d y e = let r = found_there xs n d y e in let l = r.0 in (omega (arith, l), r.1)

module _ (defs : List Def) where
  part_here : (t : Ty) (n : ℕ) (u : Ty) → HasPart defs t n u → slice_get (part_types defs t) n ≡ Some u
  part_here (ty.Tuple ts) n u h = h
  part_here (ty.Adt a) n u h = ap (λ (o : Option Def). slice_get (parts_there defs o) n) h.1 ∙ h.2
  part_here t n u h = absurd h

  -- numbers that lead to a part are a path to one of its type
  pub has_path : (t : Ty) (part : List ℕ) (u : Ty) → Leads defs t part u → HasPath defs t part × (type_within defs t part ≡ u)
  has_path t [] u e = (tt, e)
  has_path t (n ∷ ns) u h =
      let there = found_there (part_types defs t) n ty.Nothing h.0 (part_here t n h.0 h.1) in
      let on = has_path (slice_index_or (part_types defs t) n ty.Nothing) ns u (subst (λ s. Leads defs s ns u) (sym there.1) h.2) in
      ((there.0, on.0), on.1)

  -- a variable of a type has a value
  pub value_there : (k : Facts) (words : List Word) (at : ℕ) (w : Room) (ts : List Ty) (rs : List Room) (vs : List Value) (x : ℕ) (t : Ty)
      → AllStand defs k words at w ts rs vs → slice_get ts x ≡ Some t → (v : Value) × (slice_get vs x ≡ Some v)
  value_there k words _ _ _ _ _ x t (none_stand at w) e = absurd cc
  value_there k words _ _ _ _ _ zero t (more_stand at w u ts r rs v vs a more) e = (v, refl)
  value_there k words _ _ _ _ _ (suc x) t (more_stand at w u ts r rs v vs a more) e = value_there k words at _ ts rs vs x t more e

-- where a part of a variable lies in a frame with these variables
abbrev pub part_place : List Def → List Ty → (variable : ℕ) → (part : List ℕ) → ℕ
part_place defs types v part = variable_place defs types v + within defs (slice_index_or types v ty.Nothing) part

module _ (m : typed.Module) (k : Facts) (i : ℕ) (x : World) (busy : List ℕ) (g : code.Frame) (fr : Frame) (is : FrameIs m k i x busy g fr) where
  abbrev types : List Ty
  types = types_of m is.function

  -- the variables lie in a row
  variables_lie : RowLies m.adts k fr.words linkage_bytes types g.variables
  variables_lie =
      let are = is.words in
      let many = are.kind.many in
      record {
        laid = are.laid;
        aligned = refl;
        whole = (λ w h. let below = h.1 in omega (arith, many, below), are.kind.ranged);
        only = λ w to e h.
            let below = h.1 in
            elim (has_cases (map (λ o. linkage_bytes + o) (row_of m.adts types).references)
            (spare_place m.adts types ∷ map (λ s. reference_place m.adts types s) (range_with_len 0 (length g.slots)))
            (4 * w) (are.kind.only w to e)) [
              | inl there ↦ mapped (λ o. linkage_bytes + o) (row_of m.adts types).references (4 * w) there
              | inr (inl f) ↦ absurd (omega (arith, f, below))
              | inr (inr slot) ↦
                  let a = mapped (λ s. reference_place m.adts types s) (range_with_len 0 (length g.slots)) (4 * w) slot in
                  let f = a.2 in
                  absurd (omega (arith, f, below))
            ];
        stand = are.values;
      }

  module _ (v : ℕ) (part : List ℕ) where
    abbrev root : Ty
    root = slice_index_or types v ty.Nothing

    pub record PartThere (f : typed.Function) (t : Ty) : Type 0 where
      pub value : Value
      pub there : slice_get g.variables v ≡ Some value
      pub lies : Lies m.adts k fr.words (part_place m.adts (types_of m f) v part) t (room_for m.adts t) (part_at part value)

    pub part_there : (f : typed.Function) → is.function ≡ f → (us : List Ty) (t : Ty) → WayIs (scope m is.function) (of_local v part) us t → PartThere f t
    part_there f same us t way =
        let here = found_there types v ty.Nothing way.root way.begins in
        let type_is = way.begins ∙ ap (λ (u : Ty). Some u) (sym here.1) in
        let leads = subst (λ s. Leads m.adts s part way.inner) (sym here.1) way.leads in
        let path = has_path m.adts root part way.inner leads in
        let ends = path.1 ∙ way.ends in
        let are = is.words in
        let old = value_there m.adts k fr.words linkage_bytes nothing types (rooms_of (rooms_in m.adts) types) g.variables v root are.values type_is in
        let whole = parts_lie.of_row m.adts k fr.words linkage_bytes types g.variables v root old.0 variables_lie type_is old.1 in
        record {
          value = old.0;
          there = old.1;
          lies = subst (λ (h : typed.Function). Lies m.adts k fr.words (part_place m.adts (types_of m h) v part) t (room_for m.adts t) (part_at part old.0)) same
              (subst (λ u. Lies m.adts k fr.words (part_place m.adts types v part) u (room_for m.adts u) (part_at part old.0)) ends
              (parts_lie.there m.adts k fr.words (variable_place m.adts types v) root part old.0 path.0 whole));
        }

-- the part is read as one of its type
module _ (m : typed.Module) (w : Shared) (p : code.Process) (t : Ty) (v : ℕ) (part : List ℕ) (into : ℕ) (from : List ℕ)
    (here : slice_get p.frame.code p.frame.pc ≡ Some (Give t (Read (of_local v part)) into from)) where
  reads : (old : Value) → slice_get p.frame.variables v ≡ Some old → part_at part old ≡ value.fitted m.adts t (part_at part old)
      → (sides m).program.step w p ≡ code.goes_on w p (core.put p.frame.slots into (Holds (part_at part old)))
  reads old there whole =
      let read = (places_change.local m.adts (code.memory_of w p.frame) t v part (core.values_of p.frame.slots from) old there).0 in
      ap (code.next frames_limit (program m) w p) here
      ∙ ap (λ (r : Raising Value). code.gives frames_limit (program m) w p into
      (evaluation.unless_raised r (evaluation.gets m.adts (code.memory_of w p.frame) t))) read
      ∙ ap (λ (u : Value). code.goes_on w p (core.put p.frame.slots into (Holds u))) (sym whole)

abbrev local_source : ℕ → List ℕ → Site → isa.Operand
local_source v part c = own (part_place c.scene.adts c.scene.variables v part)

local_code : (t : Ty) (v : ℕ) (part : List ℕ) (into : ℕ) (from : List ℕ) → form_of t ≡ Boxed → (c : Site) → code_of c (Give t (Read (of_local v part)) into from)
    ≡ inst op.New (operand.Imm (pos (c.type_number (OfRecord t)))) middle.None (reference c.scene into)
    ∷ moved c.scene.adts t (c.type_number (OfRecord t)) (local_source v part c) (in_box c.scene into 0)
local_code ty.Big v part into from e c = refl
local_code (ty.Tuple ts) v part into from e c = refl
local_code (ty.Adt n) v part into from e c = refl
local_code t v part into from e c = absurd cc

pub box_reads_go : BoxReadsGo
box_reads_go m b t v part into from form small =
    whole_goes m b t form (Read (of_local v part)) into from small (λ f known found. room_laid m.adts t found.2.1) (local_source v part)
    (local_code t v part into from form)
    (λ i p here number f row j box inner q k w x s hold worlds.
    let o = Read (of_local v part) in
    let found = finds_on m b t o into from number f j box inner i p q k x s here in
    let is = part_there m k i x (into ∷ []) p.frame q.frame s.stands.is v part f s.function_is found.0 t found.2.0 in
    let place = part_place m.adts (types_of m f) v part in
    let whole = stands_whole m.adts k q.frame.words place t (part_at part is.value) is.lies.stands in
    record {
      value = part_at part is.value;
      lies = record {
        words = q.frame.words;
        at = place;
        lies = is.lies;
        led = λ n h. let c = has_counts q.frame.words n h in hold.same.live n (hold.same.roots n (omega (arith, c)));
      };
      leads = (spots_lead.own x q place).0;
      names = names_got m.adts t o (part_at part is.value) refl whole;
      does = reads m w p t v part into from here is.value is.there whole;
    })
