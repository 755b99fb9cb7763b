-- Parts of what a `ref` names that have a record of their own, where they are read into slots.
use Rattle.std.proofs.Common.{◌≡◌, ◌≢◌, ◌⊎◌, ℕ, pos, ◌+◌, ◌<◌, ◌≤◌, List, [], ◌∷◌, length, Option, Some, None, refl, sym, ap, ◌∙◌, subst, arith, inl, inr}
use Rattle.std.specs.Prelude.{Ok, Err, slice_get}
use Rattle.inf_text.specs.Steps.{◌>>=◌}
use Rattle.process_model.specs.Process.{Ends}
use Rattle.system_model.specs.Ending.{Broken}
use Rattle.system_model.specs.Limits.{frames_limit}
use Rattle.heap_model.specs.Heap.{at, in_one}
use Rattle.heap_model.proofs.Heap.{there_of}
use Rattle.limbo_types.specs.Types as ty
use Rattle.limbo_types.specs.Types.{Ty}
use Rattle.limbo_layout.specs.Adts.{Has}
use Rattle.limbo_layout.specs.Layout.{limit}
use Rattle.limbo_typed.specs.Typed as typed
use Rattle.limbo_typed.specs.Fitting.{IsRefOf}
use Rattle.limbo_kept.specs.Places as kept
use Rattle.limbo_kept.specs.Trees.{WayIs}
use Rattle.limbo_meaning.specs.Evaluation as evaluation
use Rattle.limbo_meaning.specs.Exceptions.{Raising, dereference_of_nil}
use Rattle.limbo_meaning.specs.Memory as source
use Rattle.limbo_meaning.specs.Memory.{HeapValue}
use Rattle.limbo_meaning.specs.Places.{Target, part_at, part_read, root_value}
use Rattle.limbo_meaning.specs.Process.{Shared}
use Rattle.limbo_meaning.specs.Trees.{Work, Read}
use Rattle.limbo_meaning.specs.Values.{Value, Ref, fitted}
use Rattle.core_code.specs.Code.{Instr, Give}
use Rattle.core_code.specs.Machine as code
use Rattle.core_code.specs.Slots as core
use Rattle.core_code.specs.Slots.{Holds}
use Rattle.core_typing.specs.Held as held
use Rattle.core_typing.specs.Held.{type_held, Of}
use Rattle.core_typing.specs.Needs.{IsA, AreThese}
use Rattle.core_typing.specs.Written.{told}
use Rattle.dis_isa.specs.declared.inst.Operand as isa
use Rattle.dis_isa.specs.declared.inst.Operand.TheVariants as operand
use Rattle.dis_isa.specs.declared.inst.Middle.TheVariants as middle
use Rattle.dis_isa.specs.declared.op.Op.TheVariants as op
use Rattle.dis_meaning.specs.Words.{Word, Refer, Found}
use Rattle.dis_meaning.specs.Process.{Frame, Process}
use Rattle.dis_memory.specs.Blocks.{World, Record}
use Rattle.dis_memory.specs.Naming.{inside}
use Rattle.value_words.specs.Forms.{Adts}
use Rattle.value_words.specs.Facts.{Facts, IsName}
use Rattle.value_words.proofs.Wholes.{stands_whole}
use Rattle.value_roots.proofs.Words.{has_counts}
use Rattle.value_frames.specs.Frames.{Boxed, form_of, number_place, reference_place, room_for, within}
use Rattle.value_frames.specs.Standing.{SlotStands}
use Rattle.value_frames.proofs.Rest.{slots_rest}
use Rattle.value_moves.specs.Operands.{inst, behind, moved}
use Rattle.value_moves.specs.Spots.{Leads}
use Rattle.value_moves.specs.Writing.{Lies}
use Rattle.value_moves.proofs.Leading.{spots_lead}
use Rattle.value_stores.proofs.Parts.{parts_lie}
use Rattle.value_stores.proofs.Stores.{blocks_change}
use Rattle.value_code.specs.Data.{OfRecord}
use Rattle.value_code.specs.Objects.{of_function, globals, constants, or_nothing}
use Rattle.value_code.specs.Operands.{reference, in_box, adt_of}
use Rattle.value_code.specs.Code.{Site, code_of}
use Rattle.value_follows.specs.Stands.{FrameIs, scope, types_of}
use Rattle.value_follows.specs.Sides.{sides, HoldTheSame, program}
use Rattle.value_follows.specs.Rows.{Base, InstrGoes, RowStands, site_of}
use Rattle.value_follows.proofs.Standing.{same_some, finds, code_here}
use Rattle.value_follows.proofs.Slots.{of_type, slot_is}
use Rattle.rows_boxes.proofs.Boxing.{Boxing, names_word, only_one}
use Rattle.rows_boxes.proofs.Differing.{slots_differ}
use Rattle.rows_boxes.proofs.Giving.{room_laid}
use Rattle.rows_boxes.proofs.Names.{names_got}
use Rattle.rows_boxes.proofs.Numbers.{finds_on, uses_on}
use Rattle.rows_places.specs.Rows.{way_from, BoxTargetsGo}
use Rattle.rows_places.proofs.Fitting.{PlacesFit, places_fit}
use Rattle.rows_places.proofs.Words.{has_path}
use Rattle.rows_places.proofs.Places.{RefIs, ref_is, ref_form, record_there}
use Rattle.rows_places.proofs.BoxWhole.{Gives, Stops, whole_goes}

-- ---- a reference in a slot that isn't busy

module _ (m : typed.Module) (k : Facts) (i : ℕ) (x : World) (busy : List ℕ) (g : code.Frame) (fr : Frame) (is : FrameIs m k i x busy g fr) (f : typed.Function)
    (same : is.function ≡ f) (n : ℕ) where
  record RefOn (s : ℕ) : Type 0 where
    type : Ty
    known : type_held (held.slot is.known s) ≡ Some type
    value : Value
    holds : core.value_of (core.slot g.slots s) ≡ value
    ref : RefIs m k fr.words (reference_place m.adts (types_of m f) s) n type value

  ref_on : (s : ℕ) → s < length g.slots → (Has busy s → ⊥) → (r : Ty) → IsA is.known s r → IsRefOf n r → RefOn s
  ref_on s l free r a of =
      let h = of_type (held.slot is.known s) a.0 a.1 in
      let n_at = number_place m.adts (types_of m is.function) s in
      let r_at = reference_place m.adts (types_of m is.function) s in
      let own = is.words.own s in
      let slot = core.slot g.slots s in
      let stands = subst (λ h. SlotStands m.adts k x.heap fr.serial fr.words n_at r_at h slot own) h.1 (slot_is m k i x busy g fr is s l free) in
      let v = slots_rest.is_value m.adts k x.heap fr.serial fr.words n_at r_at a.0 h.0 slot own stands in
      let reads = slots_rest.reads m.adts k x.heap fr.serial fr.words n_at r_at a.0 h.0 v.0 own
      (subst (λ o. SlotStands m.adts k x.heap fr.serial fr.words n_at r_at (Of a.0 h.0) o own) v.1 stands) in
      record {
        type = a.0;
        known = a.1;
        value = v.0;
        holds = ap core.value_of v.1;
        ref = subst (λ (h : typed.Function). RefIs m k fr.words (reference_place m.adts (types_of m h) s) n a.0 v.0) same
            (ref_is m k fr.words n r_at a.0 r v.0 a.2 of (reads.reference (ref_form n a.0 r a.2 of)));
      }

-- ---- what the other does

module _ (m : typed.Module) (w : Shared) (p : code.Process) (t : Ty) (part : List ℕ) (into : ℕ) (from : List ℕ)
    (here : slice_get p.frame.code p.frame.pc ≡ Some (Give t (Read (way_from Target part)) into from)) where
  abbrev comes_to : Raising Value → code.Does
  comes_to r =
      code.gives frames_limit (program m) w p into
      (evaluation.unless_raised
      (r >>= λ v. part_read (record { type = t; way = way_from Target part; operands = core.values_of p.frame.slots from }) (part_at part v))
      (evaluation.gets m.adts (code.memory_of w p.frame) t))

  does_read : (old : Value) → root_value (code.memory_of w p.frame) Target (core.values_of p.frame.slots from) ≡ Ok old
      → part_at part old ≡ fitted m.adts t (part_at part old)
      → (sides m).program.step w p ≡ code.goes_on w p (core.put p.frame.slots into (Holds (part_at part old)))
  does_read old rooted whole =
      ap (code.next frames_limit (program m) w p) here ∙ ap comes_to rooted
      ∙ ap (λ (u : Value). code.goes_on w p (core.put p.frame.slots into (Holds u))) (sym whole)

  does_raise : (text : List ℕ) → root_value (code.memory_of w p.frame) Target (core.values_of p.frame.slots from) ≡ Err text
      → (sides m).program.step w p ≡ Ends w (Broken text)
  does_raise text raised = ap (code.next frames_limit (program m) w p) here ∙ ap comes_to raised

-- ---- the row

abbrev target_source : ℕ → List ℕ → Site → isa.Operand
target_source r0 part c = behind (reference_place c.scene.adts c.scene.variables r0) (within c.scene.adts (adt_of c.scene (c.told r0)) part)

target_code : (t : Ty) (part : List ℕ) (into r0 : ℕ) (rs : List ℕ) → form_of t ≡ Boxed → (c : Site)
    → code_of c (Give t (Read (way_from Target part)) into (r0 ∷ rs))
    ≡ inst op.New (operand.Imm (pos (c.type_number (OfRecord t)))) middle.None (reference c.scene into)
    ∷ moved c.scene.adts t (c.type_number (OfRecord t)) (target_source r0 part c) (in_box c.scene into 0)
target_code ty.Big part into r0 rs e c = refl
target_code (ty.Tuple ts) part into r0 rs e c = refl
target_code (ty.Adt n) part into r0 rs e c = refl
target_code t part into r0 rs e c = absurd cc

first_type : (known : held.Slots) (r0 : ℕ) (rs : List ℕ) (us : List Ty) → AreThese known (r0 ∷ rs) us → (r : Ty) → slice_get us 0 ≡ Some r → IsA known r0 r
first_type known r0 rs [] a r e = absurd cc
first_type known r0 rs (u ∷ us) a r e = subst (IsA known r0) (same_some u r e) a.0

module _ (m : typed.Module) (b : Base m) (fit : PlacesFit m) (t : Ty) (form : form_of t ≡ Boxed) (small : (room_for m.adts t).size ≤ limit) (part : List ℕ)
    (into r0 : ℕ) (rs : List ℕ) (apart : into ≢ r0) where
  abbrev o : Work
  o = Read (way_from Target part)

  abbrev from : List ℕ
  from = r0 ∷ rs

  abbrev instr : Instr
  instr = Give t o into from

  module _ (i : ℕ) (p : code.Process) (here : slice_get p.frame.code p.frame.pc ≡ Some instr) (number : ℕ) (f : typed.Function)
      (row : RowStands m number f p.frame.pc instr) (j box : ℕ) (inner : List Word) (q : Process) (k : Facts) (w : Shared) (x : World)
      (s : Boxing m number f t into j box inner k i x p q) (hold : HoldTheSame m k i x p q) (worlds : (sides m).worlds k w x) where
    abbrev site : Site
    site = site_of m number f p.frame.pc row.at

    abbrev r_at : ℕ
    r_at = reference_place m.adts (types_of m f) r0

    abbrev function : typed.Function
    function = s.stands.is.function

    module _ (us : List Ty) (way : WayIs (scope m function) (way_from Target part) us t)
        (target : RefOn m k i x (into ∷ []) p.frame q.frame s.stands.is f s.function_is way.begins.0 r0) (tells : site.told r0 ≡ target.type) where
      abbrev adt : ℕ
      adt = way.begins.0

      abbrev holds_ref : (n : Option ℕ) → target.ref.name ≡ n → core.value_of (core.slot p.frame.slots r0) ≡ Ref n
      holds_ref n e = target.holds ∙ target.ref.is ∙ ap (λ (a : Option ℕ). Ref a) e

      nil_stops : target.ref.refers ≡ None → target.ref.name ≡ None
          → Stops m b t form o into from small (λ f known found. room_laid m.adts t found.2.1) (target_source r0 part) (target_code t part into r0 rs form) p site q w
      nil_stops e g = record {
        word = r_at;
        offset = within m.adts (adt_of site.scene (site.told r0)) part;
        source_is = refl;
        nothing = target.ref.word ∙ ap (λ (a : Option ℕ). Found (Refer a)) e;
        does = does_raise m w p t part into from here dereference_of_nil
            (ap (λ (v : Value). root_value (code.memory_of w p.frame) Target (v ∷ core.values_of p.frame.slots rs)) (holds_ref None g));
      }

      part_given : (c n : ℕ) → target.ref.refers ≡ Some c → target.ref.name ≡ Some n
          → Gives m b t form o into from small (λ f known found. room_laid m.adts t found.2.1) (target_source r0 part) (target_code t part into r0 rs form) p site q k w x
      part_given c n e g =
          let formed = subst (λ a. IsName k (Some (Adts adt)) (Some c) a) g (subst (λ a. IsName k (Some (Adts adt)) a target.ref.name) e target.ref.named) in
          let word = target.ref.word ∙ ap (λ (a : Option ℕ). Found (Refer a)) e in
          let live = hold.same.live c (hold.same.roots c (names_word q r_at c word)) in
          let j = record_there m k w x worlds.0 n c adt formed.fact formed.formed live in
          let whole = ((blocks_change m.adts (globals m) (constants m) k c).record_lies adt j.words j.value j.stands formed.formed).0 in
          let leads = subst (λ y. kept.Leads m.adts y part way.inner) way.begins.1 way.leads in
          let path = has_path m.adts (ty.Adt adt) part way.inner leads in
          let ends = path.1 ∙ way.ends in
          let byte = within m.adts (ty.Adt adt) part in
          let lies = subst (λ a. Lies m.adts k j.words a t (room_for m.adts t) (part_at part j.value)) (omega arith)
          (subst (λ y. Lies m.adts k j.words (0 + byte) y (room_for m.adts y) (part_at part j.value)) ends
          (parts_lie.there m.adts k j.words 0 (ty.Adt adt) part j.value path.0 whole)) in
          let fits = stands_whole m.adts k j.words byte t (part_at part j.value) lies.stands in
          record {
            value = part_at part j.value;
            lies = record {
              words = j.words;
              at = byte;
              lies = lies;
              led = λ a h.
                  let counts = has_counts j.words a h in
                  worlds.0.closed.closed c a (there_of (at x.heap c) (Record j.words) j.block)
                  (subst (λ y. 0 < in_one inside y a) (sym j.block) counts);
            };
            leads = subst (λ y. Leads x q (behind r_at (within m.adts y part)) j.words byte)
                (sym (ap (λ u. adt_of site.scene u) tells ∙ target.ref.adt site.scene c e))
                (spots_lead.inner x q r_at c j.words byte word j.block).0;
            names = names_got m.adts t o (part_at part j.value) refl fits;
            does = does_read m w p t part into from here j.value
                (ap (λ (v : Value). root_value (code.memory_of w p.frame) Target (v ∷ core.values_of p.frame.slots rs)) (holds_ref (Some n) g)
                ∙ ap (λ (a : Option HeapValue). Ok (source.record_in a)) j.there) fits;
          }

      abbrev Comes : Type 0
      Comes =
          Gives m b t form o into from small (λ f known found. room_laid m.adts t found.2.1) (target_source r0 part) (target_code t part into r0 rs form) p site q k w x
          ⊎ Stops m b t form o into from small (λ f known found. room_laid m.adts t found.2.1) (target_source r0 part) (target_code t part into r0 rs form) p site q w

      comes : Comes
      comes = go target.ref.refers target.ref.name refl refl target.ref.named
        where
          go : (r n : Option ℕ) → target.ref.refers ≡ r → target.ref.name ≡ n → IsName k (Some (Adts adt)) r n → Comes
          go None None e g h = inr (nil_stops e g)
          go (Some c) (Some n) e g h = inl (part_given c n e g)
          go None (Some n) e g h = absurd h
          go (Some c) None e g h = absurd h

    target_comes : Gives m b t form o into from small (λ f known found. room_laid m.adts t found.2.1) (target_source r0 part) (target_code t part into r0 rs form) p site q k w x
        ⊎ Stops m b t form o into from small (λ f known found. room_laid m.adts t found.2.1) (target_source r0 part) (target_code t part into r0 rs form) p site q w
    target_comes =
        let found = finds_on m b t o into from number f j box inner i p q k x s here in
        let used = (uses_on m b t o into from number f j box inner i p q k x s here).1.0 in
        let row_is = subst (λ c. slice_get c p.frame.pc ≡ Some instr) s.stands.is.code here in
        let way = found.2.0 in
        let begins = way.begins in
        let target = ref_on m k i x (into ∷ []) p.frame q.frame s.stands.is f s.function_is begins.0 r0 used (λ h. apart (only_one into r0 h)) begins.2.0
        (first_type s.stands.is.known r0 rs found.0 found.1 begins.2.0 begins.2.1) begins.2.2 in
        let told_is = (fit.operands function p.frame.pc s.stands.is.known instr s.stands.goes row_is).0 in
        comes found.0 way target
        (ap (λ (g : typed.Function). or_nothing (told (of_function m g).code p.frame.pc r0)) (sym s.function_is)
        ∙ ap or_nothing told_is.2 ∙ same_some told_is.0 target.type (sym told_is.1 ∙ target.known))

  target_goes : InstrGoes m instr
  target_goes =
      whole_goes m b t form o into from small (λ f known found. room_laid m.adts t found.2.1) (target_source r0 part) (target_code t part into r0 rs form)
      (λ i p here number f row j box inner q k w x s hold worlds. target_comes i p here number f row j box inner q k w x s hold worlds)

-- operands of such a place are there
has_first : (m : typed.Module) (f : typed.Function) (known : held.Slots) (t : Ty) (part : List ℕ) (us : List Ty)
    → WayIs (scope m f) (way_from Target part) us t → AreThese known [] us → ⊥
has_first m f known t part [] is these = let e = is.begins.2.1 in absurd cc
has_first m f known t part (u ∷ us) is these = these

pub box_targets_go : BoxTargetsGo
box_targets_go m b t part into [] form small k i x p q ready here =
    let r = ready.0 in
    let f = r.stands.is.function in
    let instr = Give t (Read (way_from Target part)) into [] in
    let found = finds m f p.frame.pc r.stands.is.known instr r.stands.goes (code_here m k i x p q r instr here) in
    absurd (has_first m f r.stands.is.known t part found.0 found.2.0 found.1)
box_targets_go m b t part into (r0 ∷ rs) form small k i x p q ready here =
    let r = ready.0 in
    let instr = Give t (Read (way_from Target part)) into (r0 ∷ rs) in
    let differ = slots_differ m r.stands.is.function p.frame.pc instr (code_here m k i x p q r instr here) in
    target_goes m b (places_fit m) t form small part into r0 rs differ.0 k i x p q ready here
