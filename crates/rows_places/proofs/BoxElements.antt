-- Parts of elements of arrays that have a record of their own, where they are read into slots.
use Rattle.std.proofs.Common.{◌≡◌, ◌≢◌, ℕ, ℤ, Bool, true, false, suc, pos, ◌+◌, ◌*◌, ◌/◌, ◌<◌, ◌≤◌, List, [], ◌∷◌, length, Option, Some, None, refl, sym, ap, ◌∙◌, subst, arith, inl, inr}
use Rattle.limbo_values.specs.declared.raised.Raised.{Raised}
use Rattle.std.specs.Prelude.{Result, Ok, slice_get, slice_index_or}
use Rattle.inf_text.specs.Steps.{◌>>=◌}
use Rattle.system_model.specs.Limits.{frames_limit}
use Rattle.heap_model.specs.Heap.{at, in_one}
use Rattle.heap_model.specs.Facts.{Named}
use Rattle.heap_model.proofs.Heap.{there_of}
use Rattle.limbo_types.specs.Types as ty
use Rattle.limbo_types.specs.Types.{Ty}
use Rattle.limbo_layout.specs.Adts.{Has}
use Rattle.limbo_layout.specs.Layout.{Laid}
use Rattle.limbo_typed.specs.Typed as typed
use Rattle.limbo_values.specs.Texts.{index_in}
use Rattle.limbo_meaning.specs.Exceptions.{Raising, with_text}
use Rattle.limbo_meaning.specs.Evaluation as evaluation
use Rattle.limbo_meaning.specs.Memory.{HeapValue, elements_in}
use Rattle.limbo_meaning.specs.Operations.{item_of}
use Rattle.limbo_meaning.specs.Places.{Element, element_of, element_value, part_at, part_read, root_value}
use Rattle.limbo_meaning.specs.Process.{Shared}
use Rattle.limbo_meaning.specs.Trees.{Work, Read}
use Rattle.limbo_meaning.specs.Values as value
use Rattle.limbo_meaning.specs.Values.{Value, part_of, number_of, nothing, fitted}
use Rattle.core_code.specs.Code.{Instr, Give}
use Rattle.core_code.specs.Machine as code
use Rattle.core_code.specs.Slots as core
use Rattle.core_code.specs.Slots.{Holds}
use Rattle.core_typing.specs.Going.{got_by}
use Rattle.core_typing.specs.Held as held
use Rattle.core_typing.specs.Held.{type_held, Of}
use Rattle.core_typing.specs.Needs.{IsA, IsClean}
use Rattle.core_typing.specs.Written.{told}
use Rattle.dis_isa.specs.declared.inst.Operand.TheVariants as operand
use Rattle.dis_isa.specs.declared.inst.Middle.TheVariants as middle
use Rattle.dis_isa.specs.declared.op.Op.TheVariants as op
use Rattle.dis_meaning.specs.Words.{Word, Refer, Address, InBlock, Found}
use Rattle.dis_meaning.specs.Process.{Frame, Process}
use Rattle.dis_memory.specs.Blocks as block
use Rattle.dis_memory.specs.Blocks.{World}
use Rattle.dis_memory.specs.Naming.{inside}
use Rattle.value_words.specs.Forms as forms
use Rattle.value_words.specs.Facts.{Facts, IsPart}
use Rattle.value_words.proofs.Rows.{is_there}
use Rattle.value_words.proofs.Wholes.{stands_whole}
use Rattle.value_roots.proofs.Words.{has_counts}
use Rattle.value_frames.specs.Frames.{Boxed, form_of, number_place, reference_place, element_place, room_for, within, type_within}
use Rattle.value_frames.specs.Standing.{SlotStands}
use Rattle.value_frames.proofs.Rest.{slots_rest}
use Rattle.value_moves.specs.Operands.{Code, inst, own, of_own, behind, moved}
use Rattle.value_moves.specs.Spots.{Leads}
use Rattle.value_moves.specs.Writing.{Lies}
use Rattle.value_moves.proofs.Leading.{spots_lead}
use Rattle.value_stores.specs.Paths.{HasPath}
use Rattle.value_stores.proofs.Parts.{parts_lie}
use Rattle.value_stores.proofs.Stores.{blocks_change}
use Rattle.value_code.specs.Data.{OfRecord}
use Rattle.value_code.specs.Objects.{or_nothing, object_of, of_function, size_at, type_number, globals, constants, blank_site}
use Rattle.value_code.specs.Operands.{reference, in_box}
use Rattle.value_code.specs.Code.{Site, code_of}
use Rattle.value_code.proofs.Having.{objects_have}
use Rattle.block_effects.specs.Contents.{IsThere}
use Rattle.block_effects.proofs.Referring.{references_lead}
use Rattle.value_follows.specs.Stands.{FrameIs, Ready, types_of}
use Rattle.value_follows.specs.Sides.{sides, contents, HoldTheSame, program}
use Rattle.value_follows.specs.Rows.{Base, RowStands, site_of}
use Rattle.value_follows.proofs.Standing.{same_some, finds, code_here}
use Rattle.value_follows.proofs.Putting.{word_same}
use Rattle.value_follows.proofs.Slots.{of_type, slot_is, uses}
use Rattle.value_follows.proofs.Several.{Next, moved_to, row_now}
use Rattle.rows_boxes.proofs.Boxing.{Boxing, box_place, names_word, only_one}
use Rattle.rows_boxes.proofs.Differing.{slots_differ}
use Rattle.rows_boxes.proofs.Filling.{reaches_on, full_goes}
use Rattle.rows_boxes.proofs.Giving.{room_laid}
use Rattle.rows_boxes.proofs.Moving.{SourceLies, target_leads, box_room, write_fills, write_goes}
use Rattle.rows_boxes.proofs.Names.{names_got}
use Rattle.rows_boxes.proofs.Numbers.{finds_on, uses_on}
use Rattle.rows_boxes.proofs.Starting.{new_words}
use Rattle.limbo_layout.specs.Layout.{limit}
use Rattle.dis_meaning.specs.Words.{Plain}
use Rattle.core_typing.specs.Needs.{StandsAs}
use Rattle.value_frames.specs.Frames.{passing_place}
use Rattle.number_effects.specs.Giving.{with_word}
use Rattle.number_effects.proofs.Reading.{operands_are_read}
use Rattle.number_effects.proofs.Records.{words_move}
use Rattle.value_follows.proofs.Single.{nothing_changes}
use Rattle.rows_boxes.proofs.Boxing.{boxing_holds, boxing_later}
use Rattle.rows_boxes.proofs.Passing.{passing_leads, passing_word, passed_goes, boxing_passed}
use Rattle.rows_boxes.proofs.Starting.{steps_silently, further}
use Rattle.rows_boxes.proofs.Whole.{small_range}
use Rattle.rows_boxes.proofs.Typed.{is_sized, sizing}
use Rattle.rows_places.proofs.Sizing.{many_of, IsOnWay, last_moves, last_there, front_long, passing_is}
use Rattle.rows_places.specs.Rows.{way_from, BoxElementsGo}
use Rattle.rows_places.proofs.Fitting.{PlacesFit, places_fit}
use Rattle.rows_places.proofs.Going.{going_on}
use Rattle.rows_places.proofs.Last.{site_now}
use Rattle.rows_places.proofs.Arrays.{array_here, ArrayIs, array_is, array_form, are_blocks}
use Rattle.rows_places.proofs.Elements.{AddressHere, address_later, below_long, index_is}
use Rattle.rows_places.proofs.Looking.{ElementSlots, element_slots, Behind, element_way, so_far}
use Rattle.rows_places.proofs.Reading.{does_raise}
use Rattle.rows_places.proofs.BoxStart.{started, stored}

-- ---- an array in a slot that isn't busy

module _ (m : typed.Module) (k : Facts) (i : ℕ) (x : World) (busy : List ℕ) (g : code.Frame) (fr : Frame) (is : FrameIs m k i x busy g fr) (f : typed.Function)
    (same : is.function ≡ f) (item : Ty) where
  record ArrayOn (s : ℕ) : Type 0 where
    type : Ty
    value : Value
    holds : core.value_of (core.slot g.slots s) ≡ value
    array : ArrayIs m k fr.words (reference_place m.adts (types_of m f) s) item type value

  array_on : (s : ℕ) → s < length g.slots → (Has busy s → ⊥) → IsA is.known s (ty.ArrayOf item) → ArrayOn s
  array_on s l free a =
      let h = of_type (held.slot is.known s) a.0 a.1 in
      let n_at = number_place m.adts (types_of m is.function) s in
      let r_at = reference_place m.adts (types_of m is.function) s in
      let own = is.words.own s in
      let slot = core.slot g.slots s in
      let stands = subst (λ h. SlotStands m.adts k x.heap fr.serial fr.words n_at r_at h slot own) h.1 (slot_is m k i x busy g fr is s l free) in
      let v = slots_rest.is_value m.adts k x.heap fr.serial fr.words n_at r_at a.0 h.0 slot own stands in
      let reads = slots_rest.reads m.adts k x.heap fr.serial fr.words n_at r_at a.0 h.0 v.0 own
      (subst (λ o. SlotStands m.adts k x.heap fr.serial fr.words n_at r_at (Of a.0 h.0) o own) v.1 stands) in
      record {
        type = a.0;
        value = v.0;
        holds = ap core.value_of v.1;
        array = subst (λ (h : typed.Function). ArrayIs m k fr.words (reference_place m.adts (types_of m h) s) item a.0 v.0) same
            (array_is m k fr.words r_at a.0 item v.0 a.2 (reads.reference (array_form a.0 item a.2)));
      }

-- ---- the row

element_code : (t : Ty) (part : List ℕ) (into r0 r1 : ℕ) (rs : List ℕ) → form_of t ≡ Boxed → (c : Site)
    → code_of c (Give t (Read (way_from Element part)) into (r0 ∷ r1 ∷ rs))
    ≡ inst op.Indx (own (reference_place c.scene.adts c.scene.variables r0)) (of_own element_place) (own (number_place c.scene.adts c.scene.variables r1))
    ∷ inst op.New (operand.Imm (pos (c.type_number (OfRecord t)))) middle.None (reference c.scene into)
    ∷ moved c.scene.adts t (c.type_number (OfRecord t)) (behind element_place (within c.scene.adts (item_of (c.told r0)) part)) (in_box c.scene into 0)
element_code ty.Big part into r0 r1 rs e c = refl
element_code (ty.Tuple ts) part into r0 r1 rs e c = refl
element_code (ty.Adt n) part into r0 r1 rs e c = refl
element_code t part into r0 r1 rs e c = absurd cc

-- what the other does
module _ (m : typed.Module) (w : Shared) (p : code.Process) (t : Ty) (part : List ℕ) (into : ℕ) (from : List ℕ)
    (here : slice_get p.frame.code p.frame.pc ≡ Some (Give t (Read (way_from Element part)) into from)) where
  abbrev comes_to : Raising Value → code.Does
  comes_to r =
      code.gives frames_limit (program m) w p into
      (evaluation.unless_raised
      (r >>= λ v. part_read (record { type = t; way = way_from Element part; operands = core.values_of p.frame.slots from }) (part_at part v))
      (evaluation.gets m.adts (code.memory_of w p.frame) t))

  does_read : (old : Value) → root_value (code.memory_of w p.frame) Element (core.values_of p.frame.slots from) ≡ Ok old
      → part_at part old ≡ fitted m.adts t (part_at part old)
      → (sides m).program.step w p ≡ code.goes_on w p (core.put p.frame.slots into (Holds (part_at part old)))
  does_read old rooted whole =
      ap (code.next frames_limit (program m) w p) here ∙ ap comes_to rooted
      ∙ ap (λ (u : Value). code.goes_on w p (core.put p.frame.slots into (Holds u))) (sym whole)

module _ (m : typed.Module) (b : Base m) (fit : PlacesFit m) (t : Ty) (form : form_of t ≡ Boxed) (c : Bool)
    (is_so : is_sized m.adts t ≡ c) (small : (room_for m.adts t).size ≤ limit) (part : List ℕ) (into r0 r1 : ℕ) (rs : List ℕ) (apart : into ≢ r0)
    (i : ℕ) (p : code.Process) (here : slice_get p.frame.code p.frame.pc ≡ Some (Give t (Read (way_from Element part)) into (r0 ∷ r1 ∷ rs))) where
  abbrev o : Work
  o = Read (way_from Element part)

  abbrev from : List ℕ
  from = r0 ∷ r1 ∷ rs

  abbrev instr : Instr
  instr = Give t o into from

  abbrev v0 : Value
  v0 = core.value_of (core.slot p.frame.slots r0)

  abbrev v1 : Value
  v1 = core.value_of (core.slot p.frame.slots r1)

  size_is : (f : typed.Function) → size_at m f.of.answer (of_function m f) p.frame.pc (Some instr) ≡ suc (suc (suc (many_of c)))
  size_is f =
      let s = blank_site m f.of.answer (of_function m f) p.frame.pc in
      let last = last_moves m.adts t (s.type_number (OfRecord t)) (behind element_place (within m.adts (item_of (s.told r0)) part)) (in_box s.scene into 0) c form is_so in
      ap (λ (l : Code). length l) (element_code t part into r0 r1 rs form s) ∙ ap (λ (l : Code). suc (suc (length l))) last.1
      ∙ ap (λ n. suc (suc n)) (front_long c (room_for m.adts t).size last.0)

  -- ---- the last instruction

  module _ (number : ℕ) (f : typed.Function) (there_f : slice_get m.functions number ≡ Some f) (in_code : slice_get (of_function m f).code p.frame.pc ≡ Some instr)
      (row : RowStands m number f p.frame.pc instr) (box : ℕ) (inner : List Word) (q : Process) (k : Facts) (w : Shared) (x : World)
      (s : Boxing m number f t into (suc (suc (many_of c))) box inner k i x p q) (so : IsOnWay c (room_for m.adts t).size q) (hold : HoldTheSame m k i x p q) (worlds : (sides m).worlds k w x) (item : Ty)
      (told_item : item_of ((site_of m number f p.frame.pc row.at).told r0) ≡ item) (below0 : r0 < length p.frame.slots)
      (is_a : IsA s.stands.is.known r0 (ty.ArrayOf item)) (path : HasPath m.adts item part) (ends : type_within m.adts item part ≡ t)
      (array : value.Part) (array_is_it : part_of v0 ≡ Some array) (z : ℤ) (z_is : number_of v1 ≡ z) (h : ℕ) (index : index_in array.long z ≡ Ok h)
      (address : AddressHere m k q.frame.words array item h) where
    abbrev site : Site
    site = site_of m number f p.frame.pc row.at

    abbrev off : ℕ
    off = within m.adts item part

    abbrev looked_by : Result ℕ Raised → Raising (ℕ × ℕ)
    looked_by r = with_text r >>= λ n. Ok (array.array, array.start + n)

    abbrev reads : Raising (ℕ × ℕ) → Raising Value
    reads r = r >>= λ e. Ok (element_value (code.memory_of w p.frame) e)

    element_is : element_of (part_of v0) (number_of v1) ≡ Ok (array.array, array.start + h)
    element_is =
        ap (λ (a : Option value.Part). element_of a (number_of v1)) array_is_it ∙ ap (λ (y : ℤ). looked_by (index_in array.long y)) z_is
        ∙ ap looked_by index

    record ElementGiven : Type 0 where
      old : Value
      rooted : root_value (code.memory_of w p.frame) Element (core.values_of p.frame.slots from) ≡ Ok old
      lies : SourceLies m t k x (part_at part old)
      leads : Leads x q (behind element_place off) lies.words lies.at

    given : ElementGiven
    given =
        let a = array_on m k i x (into ∷ []) p.frame q.frame s.stands.is f s.function_is item r0 below0 (λ g. apart (only_one into r0 g)) is_a in
        let some : a.array.part ≡ Some array = sym (ap part_of a.holds ∙ a.array.is) ∙ array_is_it in
        let stands = subst (IsPart k item a.array.refers) some a.array.stands in
        let alive : IsThere x a.array.refers = λ c e.
        hold.same.live c (hold.same.roots c (names_word q (reference_place m.adts (types_of m f) r0) c
        (a.array.word ∙ ap (λ (y : Option ℕ). Found (Refer y)) e))) in
        let r = (references_lead m.adts (contents m) (are_blocks m) k w.heap x worlds.0).array item a.array.refers array stands alive in
        let l = r.2 in
        let es = r.0 in
        let here_block : address.block ≡ es.array = k.once array.array address.block es.array address.named l.named in
        let change = blocks_change m.adts (globals m) (constants m) k es.array in
        let many = length l.vs in
        let inside_it = fits_in a.array.refers stands in
        let same_block : inside_it.0 ≡ es.array = k.once array.array inside_it.0 es.array inside_it.2 l.named in
        let long_is : inside_it.1 ≡ many = same_long (subst (λ c. k.form c ≡ Some (forms.Elements item inside_it.1)) same_block inside_it.3) l.formed in
        let below = below_long array.long z h index in
        let bound = inside_it.4 in
        let n = array.start + h in
        let old = is_there l.vs n (omega (arith, below, bound, long_is)) in
        let placed = (change.element_lies item es.element many many es.words l.vs n old.0 l.stands.0 l.formed old.1).0 in
        let base = n * (room_for m.adts item).size in
        let byte = base + off in
        let lies = parts_lie.there m.adts k es.words base item part old.0 path placed in
        let word = address.word ∙ ap (λ (c : ℕ). Found (Address (InBlock c) (pos address.byte))) here_block
        ∙ ap (λ (y : ℕ). Found (Address (InBlock es.array) (pos y))) address.is in
        record {
          old = old.0;
          rooted = ap reads element_is
              ∙ ap (λ (y : Option HeapValue). Ok (slice_index_or (elements_in y) n nothing)) l.is
              ∙ ap (λ (v : Value). Ok v) (index_is l.vs n nothing old.0 old.1);
          lies = record {
            words = es.words;
            at = byte;
            lies = subst (λ y. Lies m.adts k es.words byte y (room_for m.adts y) (part_at part old.0)) ends lies;
            led = λ c g.
                let counts = has_counts es.words c g in
                worlds.0.closed.closed es.array c (there_of (at x.heap es.array) (block.Array es.element many es.words) l.found)
                (subst (λ y. 0 < in_one inside y c) (sym l.found) counts);
          };
          leads = (spots_lead.element x q element_place es.array base many es.element es.words off word l.found).0;
        }
      where
        fits_in : (r : Option ℕ) → IsPart k item r (Some array)
            → (c : ℕ) × (long : ℕ) × (k.fact c ≡ Some (Named array.array)) × (k.form c ≡ Some (forms.Elements item long)) × (array.start + array.long ≤ long)
        fits_in None g = absurd g
        fits_in (Some c) g = let e = fit.parts k item c array g in (e.0, e.1, e.2.fact, e.2.formed, e.3)

        same_long : {y : Option forms.Form} {n l : ℕ} → y ≡ Some (forms.Elements item n) → y ≡ Some (forms.Elements item l) → n ≡ l
        same_long {n = n} {l = l} e g = let g : Some (forms.Elements item n) ≡ Some (forms.Elements item l) = sym e ∙ g in cc

    element_ends : Next m b i p 0 k w x q
    element_ends =
        let laid = room_laid m.adts t (finds_on m b t o into from number f (suc (suc (many_of c))) box inner i p q k x s here).2.1 in
        let g = given in
        let v = part_at part g.old in
        let n = type_number m (OfRecord t) in
        let source = behind element_place off in
        let target = behind (box_place m number f t into) 0 in
        let move = last_moves m.adts t n source target c form is_so in
        let room = box_room m b number f t into (suc (suc (many_of c))) box inner i p q k w x s hold worlds laid in
        let d = target_leads m b number f t into (suc (suc (many_of c))) box inner i p q k w x s hold worlds laid in
        let types = objects_have.types m number f p.frame.pc instr (OfRecord t) there_f in_code (inl refl) in
        let done = move.2 k frames_limit (object_of m) x q v g.lies.words inner g.lies.at 0 g.leads d g.lies.lies room types so in
        let fits = stands_whole m.adts k g.lies.words g.lies.at t v g.lies.lies.stands in
        let at_last : slice_get (code_of site instr) (suc (suc (many_of c))) ≡ Some move.0 =
        ap (λ (l : Code). slice_get l (suc (suc (many_of c)))) (element_code t part into r0 r1 rs form site)
        ∙ ap (λ u. slice_get (moved m.adts t n (behind element_place (within m.adts u part)) target) (many_of c)) told_item
        ∙ ap (λ (l : Code). slice_get l (many_of c)) move.1 ∙ last_there c (room_for m.adts t).size move.0 in
        full_goes m b number f t into (suc (suc (many_of c))) box inner i p q k w x s hold worlds done.0 (got_by m.adts t o) v
        (write_fills m b number f t into (suc (suc (many_of c))) box inner i p q k w x s hold worlds laid v g.lies done.0 done.1 (got_by m.adts t o) (names_got m.adts t o v refl fits))
        form (uses_on m b t o into from number f (suc (suc (many_of c))) box inner i p q k x s here).0 instr here (λ slots. refl) (size_is f)
        (write_goes m b number f t into (suc (suc (many_of c))) box inner i p q k w x s hold worlds laid v g.lies done.0 done.1 move.0
        (reaches_on m b number f t into (suc (suc (many_of c))) box inner i p q k w x s hold worlds instr row move.0 at_last) done.2)
        (does_read m w p t part into from here g.old g.rooted fits)

  -- ---- the record is there: the value goes, or its size first

  module _ (number : ℕ) (f : typed.Function) (there_f : slice_get m.functions number ≡ Some f) (in_code : slice_get (of_function m f).code p.frame.pc ≡ Some instr)
      (row : RowStands m number f p.frame.pc instr) (item : Ty) (told_item : item_of ((site_of m number f p.frame.pc row.at).told r0) ≡ item)
      (below0 : r0 < length p.frame.slots) (type : Ty) (tells : or_nothing (told (of_function m f).code p.frame.pc r0) ≡ type)
      (stands_as : StandsAs type (ty.ArrayOf item)) (path : HasPath m.adts item part) (ends : type_within m.adts item part ≡ t)
      (array : value.Part) (array_is_it : part_of v0 ≡ Some array) (z : ℤ) (z_is : number_of v1 ≡ z) (h : ℕ) (index : index_in array.long z ≡ Ok h) where
    -- the array is still told
    is_array_on : (j box : ℕ) (inner : List Word) (q : Process) (k : Facts) (x : World) (s : Boxing m number f t into j box inner k i x p q)
        → IsA s.stands.is.known r0 (ty.ArrayOf item)
    is_array_on j box inner q k x s =
        let is = s.stands.is in
        let row_is = subst (λ (code : List Instr). slice_get code p.frame.pc ≡ Some instr) is.code here in
        let told_now = (fit.operands is.function p.frame.pc is.known instr s.stands.goes row_is).0.0 in
        let same : told_now.0 ≡ type = sym (ap or_nothing told_now.2)
        ∙ ap (λ (h : typed.Function). or_nothing (told (of_function m h).code p.frame.pc r0)) s.function_is ∙ tells in
        (type, told_now.1 ∙ ap (λ (u : Ty). Some u) same, stands_as)

    value_goes : (box : ℕ) (inner : List Word) (q : Process) (k : Facts) (w : Shared) (x : World) (s : Boxing m number f t into 2 box inner k i x p q)
        → HoldTheSame m k i x p q → (sides m).worlds k w x → AddressHere m k q.frame.words array item h → Next m b i p (many_of c) k w x q
    value_goes box inner q k w x s hold worlds address = go c refl
      where
        go : (d : Bool) → c ≡ d → Next m b i p (many_of d) k w x q
        go false e =
            let s' = subst (λ d. Boxing m number f t into (suc (suc (many_of d))) box inner k i x p q) (sym e) s in
            element_ends number f there_f in_code row box inner q k w x s' (subst (λ d. IsOnWay d (room_for m.adts t).size q) (sym e) tt) hold worlds item told_item below0
            (is_array_on (suc (suc (many_of c))) box inner q k x s') path ends array array_is_it z z_is h index address
        go true e =
            let size = (room_for m.adts t).size in
            let real = site_of m number f p.frame.pc row.at in
            let target = in_box real.scene into 0 in
            let last = last_moves m.adts t (type_number m (OfRecord t)) (behind element_place (within m.adts (item_of (real.told r0)) part)) target true form (is_so ∙ e) in
            let at_size : slice_get (code_of real instr) 2 ≡ Some (sizing size) =
            ap (λ (l : Code). slice_get l 2) (element_code t part into r0 r1 rs form real) ∙ ap (λ (l : Code). slice_get l 0) last.1 in
            let old = passing_word m.adts (types_of m s.stands.is.function) (length p.frame.slots) q.frame.words s.stands.is.words.kind in
            let stored = words_move.word frames_limit (object_of m) x q (sizing size) (Plain (pos size)) q.frame.words passing_place
            (passing_leads m b number f t into 2 box inner i p q k w x s) old.old refl (operands_are_read.source_plain_given x q (pos size)) old.plainly in
            let words = with_word q.frame.words passing_place (Plain (pos size)) in
            let changes = stored.0.changes in
            let ranged = stored.0.ranged (λ z g. small_range size z small g) s.stands.is.words.kind.ranged in
            let passed = moved_to q (suc q.frame.pc) words in
            let step = passed_goes m b number f t into 2 box inner i p q k w x s (sizing size) words changes ranged stored.1
            (reaches_on m b number f t into 2 box inner i p q k w x s hold worlds instr row (sizing size) at_size) in
            let boxing = boxing_passed m b number f t into 2 box inner i p q k w x s (sizing size) words changes ranged stored.1 in
            let live = b.there_again x x q passed step worlds.0.closed (λ n h. hold.same.live n (hold.same.roots n h)) in
            let long = size_is f ∙ ap (λ d. suc (suc (suc (many_of d)))) e in
            steps_silently m b i p 1 k k w x x q passed step (nothing_changes m k i x) worlds
            (further m b i p number f instr there_f in_code refl 2 q passed (subst (λ n. 3 < n) (sym long) (omega arith)) s.pc boxing.pc) (
              boxing_holds m number f t into b 3 box inner i p passed k x boxing w worlds live,
              λ now y v left holds alike.
                  let later = boxing_later m number f t into b 3 box inner i p passed k now x y boxing left holds in
                  let s' = subst (λ d. Boxing m number f t into (suc (suc (many_of d))) box inner now i y p passed) (sym e) later in
                  element_ends number f there_f in_code row box inner passed now v y s'
                  (subst (λ d. IsOnWay d (room_for m.adts t).size (moved_to q (suc q.frame.pc) words)) (sym e) (passing_is words size stored.0.there))
                  holds alike item told_item below0 (is_array_on (suc (suc (many_of c))) box inner passed now y s') path ends array array_is_it z z_is h index
                  (address_later m k now words array item h left.0.grows (record {
                    block = address.block;
                    byte = address.byte;
                    named = address.named;
                    word = word_same q.frame.words words element_place (changes.words (element_place / 4) (inr (omega arith))) ∙ address.word;
                    is = address.is;
                  })),
            )

  -- ---- the row

  module _ (k : Facts) (w : Shared) (x : World) (q : Process) (ready : Ready m k i x p q) (hold : HoldTheSame m k i x p q) (worlds : (sides m).worlds k w x) where
    abbrev f_now : typed.Function
    f_now = ready.stands.is.function

    abbrev known : held.Slots
    known = ready.stands.is.known

    module _ (item : Ty) (slots : ElementSlots m f_now known p.frame.pc r0 r1 part t item) (laid : Laid m.adts t (room_for m.adts t))
        (used : into < length p.frame.slots) (below0 : r0 < length p.frame.slots) (clean : IsClean (held.slot known into)) (others : List Word) where
      element_made : (last : Facts) (v : Shared) (y : World)
          → Behind m b k i w x p q ready hold worlds instr here r0 r1 (core.values_of p.frame.slots rs) part t item others last v y
          → Next m b i p (suc (many_of c)) last v y (moved_to q (suc q.frame.pc) others)
      element_made last v y be =
          let q' = moved_to q q.frame.pc others in
          let s = be.still in
          let g = s.stands.is.function in
          let so_far' : suc q.frame.pc ≡ q'.frame.pc + 1 = omega arith in
          let slots' = subst (λ h. ElementSlots m h s.stands.is.known p.frame.pc r0 r1 part t item) (sym be.function)
          (subst (λ kn. ElementSlots m f_now kn p.frame.pc r0 r1 part t item) (sym be.known_so) slots) in
          let in_code = code_here m last i y p q' s instr here in
          let number = s.stands.is.number in
          let type = type_number m (OfRecord t) in
          let types = objects_have.types m number g p.frame.pc instr (OfRecord t) s.stands.is.there in_code (inl refl) in
          let clean' = subst (λ kn. IsClean (held.slot kn into)) (sym be.known_so) clean in
          let row = row_now m b last i v y p q' s be.holds be.alike instr here in
          let real = site_now m b last i v y p q' s be.holds be.alike instr here (suc q.frame.pc) None 1 so_far' in
          let a = array_here m last i v y p q' s be.holds be.alike (suc q.frame.pc) None r0 item below0 (slots'.type, slots'.has_type, slots'.array) in
          let some = sym (ap part_of a.holds ∙ a.array.is) ∙ be.array in
          let told_is : real.told r0 ≡ a.type = slots'.tells ∙ same_some slots'.type a.type (sym slots'.has_type ∙ a.known) in
          let is_item : item_of (real.told r0) ≡ item = ap item_of told_is ∙ a.array.item be.whole some in
          let begins = ap (λ (l : Code). slice_get l 1) (element_code t part into r0 r1 rs form real) in
          let kept = stored m b last i v y p q' s be.holds be.alike instr here (suc q.frame.pc) None 1 so_far' t laid into used clean' type types begins in
          started m b last i v y p q' s be.holds be.alike instr here (suc q.frame.pc) None 1 so_far' t laid into used clean' type types begins
          (many_of c) refl (subst (λ n. 2 < n) (sym (size_is g)) (omega arith))
          (λ now u z first more boxing holds alike.
          let near = address_later m last _ others be.whole item be.h first be.address in
          let address = address_later m _ now others be.whole item be.h more near in
          value_goes number g s.stands.is.there in_code row item is_item below0 slots'.type slots'.tells slots'.array slots'.path slots'.ends be.whole be.array be.z be.number
          be.h be.index _ (new_words m.adts t) _ now u z boxing holds alike
          (record {
            block = address.block;
            byte = address.byte;
            named = address.named;
            word = word_same others _ element_place (kept.changes.words (element_place / 4) (inl (omega arith))) ∙ address.word;
            is = address.is;
          }))

    element_read : Next m b i p (suc (suc (many_of c))) k w x q
    element_read =
        let row_is = code_here m k i x p q ready instr here in
        let found = finds m f_now p.frame.pc known instr ready.stands.goes row_is in
        let used = uses m k i x [] p.frame q.frame ready.stands.is p.frame.pc instr row_is in
        let operands = (fit.operands f_now p.frame.pc known instr ready.stands.goes row_is).0 in
        let slots = element_slots m f_now known p.frame.pc r0 r1 part t found.0 (r1 ∷ rs) found.1 found.2.0 operands.0 operands.1 in
        let vs = core.values_of p.frame.slots rs in
        let real = site_now m b k i w x p q ready hold worlds instr here q.frame.pc q.printing 0
        (so_far m b k i w x p q ready hold worlds instr here r0 r1 vs part t) in
        element_way m b k i w x p q ready hold worlds instr here r0 r1 vs part t found.2.0.root slots used.1.0 used.1.1.0
        refl (subst (λ n. 1 < n) (sym (size_is f_now)) (omega arith)) (ap (λ (l : Code). slice_get l 0) (element_code t part into r0 r1 rs form real))
        (does_raise m b k i w x p q ready hold worlds t Element part into from here) (suc (many_of c))
        (λ others last v y be. element_made found.2.0.root slots (room_laid m.adts t found.2.1) used.0 used.1.0 found.3 others last v y be)

pub box_elements_go : BoxElementsGo
box_elements_go m b t part into [] whole k i x p q ready here =
    let r = ready.0 in
    let instr = Give t (Read (way_from Element part)) into [] in
    absurd ((places_fit m).operands r.stands.is.function p.frame.pc r.stands.is.known instr r.stands.goes (code_here m k i x p q r instr here)).0
box_elements_go m b t part into (r0 ∷ []) whole k i x p q ready here =
    let r = ready.0 in
    let instr = Give t (Read (way_from Element part)) into (r0 ∷ []) in
    absurd ((places_fit m).operands r.stands.is.function p.frame.pc r.stands.is.known instr r.stands.goes (code_here m k i x p q r instr here)).0
box_elements_go m b t part into (r0 ∷ r1 ∷ rs) whole k i x p q ready here =
    let r = ready.0 in
    let instr = Give t (Read (way_from Element part)) into (r0 ∷ r1 ∷ rs) in
    let differ = slots_differ m r.stands.is.function p.frame.pc instr (code_here m k i x p q r instr here) in (
      suc (suc (many_of (is_sized m.adts t))),
      going_on m b i p q q (λ n. refl) (suc (suc (many_of (is_sized m.adts t)))) k x ready.0 ready.1 (λ now w y s grows same hold worlds.
          element_read m b (places_fit m) t whole.0 (is_sized m.adts t) refl whole.1 part into r0 r1 rs differ.0 i p here now w y q s hold worlds),
    )
