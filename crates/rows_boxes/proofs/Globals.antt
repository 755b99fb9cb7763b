-- Parts of the module's variables that have a box where they are read into slots. (What the module's instance has is shown as in
-- `rows_moving`.)
use Rattle.std.proofs.Common.{◌≡◌, ℕ, true, pos, ◌+◌, ◌<◌, List, [], ◌∷◌, Some, refl, sym, ap, ◌∙◌, subst, arith}
use Rattle.std.specs.Prelude.{slice_get, slice_index_or}
use Rattle.heap_model.specs.Heap.{at, there}
use Rattle.heap_model.specs.Facts.{Is}
use Rattle.heap_model.specs.Worlds.{WorldsAlike}
use Rattle.heap_model.proofs.Heap.{there_is, there_of}
use Rattle.limbo_types.specs.Types as ty
use Rattle.limbo_types.specs.Types.{Ty}
use Rattle.limbo_layout.specs.Adts.{Has}
use Rattle.limbo_layout.specs.Layout as layout
use Rattle.limbo_typed.specs.Typed as typed
use Rattle.limbo_kept.specs.Places as steps
use Rattle.limbo_kept.specs.Trees.{WayIs}
use Rattle.limbo_meaning.specs.Trees.{Read}
use Rattle.limbo_meaning.specs.Places.{part_at}
use Rattle.limbo_meaning.specs.Process.{Shared}
use Rattle.limbo_meaning.specs.Memory as source
use Rattle.limbo_meaning.specs.Memory.{HeapValue}
use Rattle.limbo_meaning.specs.Values.{Value}
use Rattle.limbo_meaning.specs.Exceptions.{Raising}
use Rattle.limbo_meaning.specs.Evaluation as evaluation
use Rattle.system_model.specs.Limits.{frames_limit}
use Rattle.core_code.specs.Code.{Give}
use Rattle.core_code.specs.Machine as code
use Rattle.core_code.specs.Slots as core
use Rattle.core_code.specs.Slots.{Holds}
use Rattle.dis_isa.specs.declared.inst.Operand as isa
use Rattle.dis_isa.specs.declared.inst.Operand.TheVariants as operand
use Rattle.dis_isa.specs.declared.inst.Middle.TheVariants as middle
use Rattle.dis_isa.specs.declared.op.Op.TheVariants as op
use Rattle.dis_meaning.specs.Words.{Word, Refer}
use Rattle.dis_meaning.specs.Process.{Process}
use Rattle.dis_memory.specs.Blocks.{Block, World, Instance}
use Rattle.dis_memory.specs.Naming.{inside}
use Rattle.heap_model.specs.Heap.{in_one}
use Rattle.value_words.specs.Forms.{Instances}
use Rattle.value_words.specs.Facts.{Facts}
use Rattle.value_words.proofs.Wholes.{stands_whole}
use Rattle.value_heaps.specs.Blocks.{IsBlock, elements, cell, record_of, channel, instance_of, globals_place}
use Rattle.value_heaps.proofs.Words.{refers_it}
use Rattle.value_roots.proofs.Words.{has_counts}
use Rattle.value_frames.specs.Frames.{Boxed, form_of, room_for, within, within_row}
use Rattle.value_moves.specs.Operands.{inst, moved}
use Rattle.value_moves.specs.Spots.{Leads}
use Rattle.value_moves.specs.Writing.{Lies}
use Rattle.value_moves.proofs.Leading.{spots_lead}
use Rattle.value_stores.proofs.Parts.{parts_lie}
use Rattle.value_stores.proofs.Places.{places_change}
use Rattle.value_stores.proofs.Stores.{blocks_change}
use Rattle.value_code.specs.Data.{OfRecord}
use Rattle.value_code.specs.Operands.{reference, in_box}
use Rattle.value_code.specs.Objects.{globals, constants}
use Rattle.value_code.specs.Code.{Site, code_of}
use Rattle.value_follows.specs.Stands.{scope, FrameIs}
use Rattle.value_follows.specs.Sides.{sides, contents, HoldTheSame, IsOfFirst, program}
use Rattle.rows_boxes.specs.Rows.{of_global, BoxGlobalsGo}
use Rattle.rows_boxes.proofs.Giving.{room_laid}
use Rattle.rows_boxes.proofs.Numbers.{finds_on}
use Rattle.rows_boxes.proofs.Names.{names_got}
use Rattle.rows_boxes.proofs.Variables.{found_there, has_path, value_there}
use Rattle.rows_boxes.proofs.Whole.{whole_goes}

-- ---- the module's instance, which has its variables

module _ (m : typed.Module) (k : Facts) where
  record IsInstance (n : ℕ) (v : HeapValue) (b : Block) : Type 0 where
    words : List Word
    values : List Value
    value : v ≡ source.Instance values
    block : b ≡ Instance 0 words
    have : (g : ℕ) (t : Ty) → slice_get (globals m) g ≡ Some t → (u : Value) × (slice_get values g ≡ Some u)

  is_instance : (n : ℕ) (v : HeapValue) (b : Block) → k.form n ≡ Some Instances → IsBlock m.adts (globals m) (constants m) k n v b → IsOfFirst b
      → IsInstance n v b
  is_instance n _ _ f (elements t r words vs g l few w e o) first = absurd cc
  is_instance n _ _ f (cell t r words v tail rest g l w s o a e older) first = absurd cc
  is_instance n _ _ f (record_of a r words v g l w s o e) first = absurd cc
  is_instance n _ _ f (channel t desc g) first = absurd cc
  is_instance n _ _ f (instance_of object rs words vs g l w s o t c) first = record {
    words = words;
    values = vs;
    value = refl;
    block = ap (λ o. Instance o words) first;
    have = λ g t e. value_there m.adts k words globals_place layout.nothing (globals m) rs vs g t s e;
  }

  record GlobalsAre (w : Shared) (x : World) (n s : ℕ) : Type 0 where
    words : List Word
    values : List Value
    value : at w.heap n ≡ Some (source.Instance values)
    block : at x.heap s ≡ Some (Instance 0 words)
    stands : IsBlock m.adts (globals m) (constants m) k s (source.Instance values) (Instance 0 words)
    have : (g : ℕ) (t : Ty) → slice_get (globals m) g ≡ Some t → (u : Value) × (slice_get values g ≡ Some u)

  globals_are : (w : Shared) (x : World) → WorldsAlike (contents m) k w.heap x.heap → (n s : ℕ) → Is k n s → k.form s ≡ Some Instances
      → there (at x.heap s) ≡ true → GlobalsAre w x n s
  globals_are w x alike n s is f e =
      let b = there_is (at x.heap s) e in
      let v = alike.here n s b.0 is b.1 in
      let t = alike.there n v.0 v.1 in
      let same : t.0 ≡ s = k.once n t.0 s t.2 is in
      let stands = subst (λ r. IsBlock m.adts (globals m) (constants m) k r v.0 t.1) same t.4.0 in
      let j = is_instance s v.0 t.1 f stands t.4.1 in
      record {
        words = j.words;
        values = j.values;
        value = v.1 ∙ ap (λ (u : HeapValue). Some u) j.value;
        block = subst (λ r. at x.heap r ≡ Some t.1) same t.3 ∙ ap (λ (c : Block). Some c) j.block;
        stands = subst (λ u. IsBlock m.adts (globals m) (constants m) k s u (Instance 0 j.words)) j.value
            (subst (λ c. IsBlock m.adts (globals m) (constants m) k s v.0 c) j.block stands);
        have = j.have;
      }

-- ---- part of one of them

abbrev global_place : typed.Module → (variable : ℕ) → (part : List ℕ) → ℕ
global_place m v part = globals_place + within_row m.adts (globals m) v + within m.adts (slice_index_or (globals m) v ty.Nothing) part

module _ (m : typed.Module) (k : Facts) (i : ℕ) (w : Shared) (x : World) (p : code.Process) (q : Process) (busy : List ℕ)
    (is : FrameIs m k i x busy p.frame q.frame) (hold : HoldTheSame m k i x p q) (worlds : (sides m).worlds k w x) (v : ℕ) (part : List ℕ) where
  abbrev root : Ty
  root = slice_index_or (globals m) v ty.Nothing

  record PartThere (t : Ty) : Type 0 where
    words : List Word
    values : List Value
    instance : at w.heap p.frame.instance ≡ Some (source.Instance values)
    value : Value
    there : slice_get values v ≡ Some value
    block : at x.heap q.frame.instance ≡ Some (Instance 0 words)
    leads : Leads x q (operand.Mp (pos (global_place m v part))) words (global_place m v part)
    lies : Lies m.adts k words (global_place m v part) t (room_for m.adts t) (part_at part value)

  part_there : (us : List Ty) (t : Ty) → WayIs (scope m is.function) (of_global v part) us t → PartThere t
  part_there us t way =
      let instance = q.frame.instance in
      let refers = refers_it instance in
      let all = globals_are m k w x worlds.0 p.frame.instance instance is.instance is.formed
      (hold.same.live instance (hold.same.roots instance (omega (arith, refers)))) in
      let here = found_there (globals m) v ty.Nothing way.root way.begins in
      let type_is = way.begins ∙ ap (λ (u : Ty). Some u) (sym here.1) in
      let path = has_path m.adts root part way.inner (subst (λ s. steps.Leads m.adts s part way.inner) (sym here.1) way.leads) in
      let old = all.have v root type_is in
      let whole = ((blocks_change m.adts (globals m) (constants m) k instance).global_lies 0 all.words all.values v root old.0 all.stands type_is old.1).0 in
      let lies = parts_lie.there m.adts k all.words (globals_place + within_row m.adts (globals m) v) root part old.0 path.0 whole in
      record {
        words = all.words;
        values = all.values;
        instance = all.value;
        value = old.0;
        there = old.1;
        block = all.block;
        leads = (spots_lead.of_module x q 0 all.words (global_place m v part) all.block).0;
        lies = subst (λ u. Lies m.adts k all.words (global_place m v part) u (room_for m.adts u) (part_at part old.0)) (path.1 ∙ way.ends) lies;
      }

  -- what these words refer to is there
  led_there : (words : List Word) → at x.heap q.frame.instance ≡ Some (Instance 0 words) → (n : ℕ) → Has words (Refer (Some n)) → there (at x.heap n) ≡ true
  led_there words e n h =
      let c = has_counts words n h in
      worlds.0.closed.closed q.frame.instance n (there_of (at x.heap q.frame.instance) (Instance 0 words) e)
      (subst (λ o. 0 < in_one inside o n) (sym e) c)

  module _ (t : Ty) (into : ℕ) (from : List ℕ) (here : slice_get p.frame.code p.frame.pc ≡ Some (Give t (Read (of_global v part)) into from)) where
    -- the part is read as one of its type
    reads : (there : PartThere t) → (sides m).program.step w p ≡ code.goes_on w p (core.put p.frame.slots into (Holds (part_at part there.value)))
    reads there =
        let memory = code.memory_of w p.frame in
        let read = (places_change.global m.adts memory t v part (core.values_of p.frame.slots from) there.values there.value there.instance there.there).0 in
        ap (code.next frames_limit (program m) w p) here
        ∙ ap (λ (r : Raising Value). code.gives frames_limit (program m) w p into
        (evaluation.unless_raised r (evaluation.gets m.adts memory t))) read
        ∙ ap (λ (u : Value). code.goes_on w p (core.put p.frame.slots into (Holds u)))
        (sym (stands_whole m.adts k there.words (global_place m v part) t (part_at part there.value) there.lies.stands))

-- ---- the row

abbrev global_source : ℕ → List ℕ → Site → isa.Operand
global_source v part c = operand.Mp
    (pos (globals_place + within_row c.scene.adts c.scene.globals v + within c.scene.adts (slice_index_or c.scene.globals v ty.Nothing) part))

global_code : (t : Ty) (v : ℕ) (part : List ℕ) (into : ℕ) (from : List ℕ) → form_of t ≡ Boxed → (c : Site) → code_of c (Give t (Read (of_global v part)) into from)
    ≡ inst op.New (operand.Imm (pos (c.type_number (OfRecord t)))) middle.None (reference c.scene into)
    ∷ moved c.scene.adts t (c.type_number (OfRecord t)) (global_source v part c) (in_box c.scene into 0)
global_code ty.Big v part into from e c = refl
global_code (ty.Tuple ts) v part into from e c = refl
global_code (ty.Adt n) v part into from e c = refl
global_code t v part into from e c = absurd cc

pub box_globals_go : BoxGlobalsGo
box_globals_go m b t v part into from form small =
    whole_goes m b t form (Read (of_global v part)) into from small (λ f known found. room_laid m.adts t found.2.1) (global_source v part)
    (global_code t v part into from form)
    (λ i p here number f row j box inner q k w x s hold worlds.
    let o = Read (of_global v part) in
    let found = finds_on m b t o into from number f j box inner i p q k x s here in
    let is = part_there m k i w x p q (into ∷ []) s.stands.is hold worlds v part found.0 t found.2.0 in
    let place = global_place m v part in
    record {
      value = part_at part is.value;
      lies = record {
        words = is.words;
        at = place;
        lies = is.lies;
        led = led_there m k i w x p q (into ∷ []) s.stands.is hold worlds v part is.words is.block;
      };
      leads = is.leads;
      names = names_got m.adts t o (part_at part is.value) refl (stands_whole m.adts k is.words place t (part_at part is.value) is.lies.stands);
      does = reads m k i w x p q (into ∷ []) s.stands.is hold worlds v part t into from here is;
    })
