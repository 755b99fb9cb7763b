-- Variables of the module as places.
use Rattle.std.proofs.Common.{◌≡◌, ℕ, true, pos, ◌+◌, List, Some, refl, sym, ap, ◌∙◌, subst, arith}
use Rattle.std.specs.Prelude.{slice_get, slice_index_or}
use Rattle.heap_model.specs.Heap.{at, there}
use Rattle.heap_model.specs.Facts.{Is}
use Rattle.heap_model.specs.Worlds.{WorldsAlike}
use Rattle.limbo_types.specs.Types as ty
use Rattle.limbo_types.specs.Types.{Ty}
use Rattle.limbo_layout.specs.Layout as layout
use Rattle.limbo_typed.specs.Typed as typed
use Rattle.limbo_kept.specs.Places as steps
use Rattle.limbo_kept.specs.Trees.{WayIs}
use Rattle.limbo_meaning.specs.Places.{part_at}
use Rattle.limbo_meaning.specs.Process.{Shared}
use Rattle.limbo_meaning.specs.Memory as source
use Rattle.limbo_meaning.specs.Memory.{HeapValue}
use Rattle.limbo_meaning.specs.Values.{Value}
use Rattle.core_code.specs.Machine as code
use Rattle.dis_isa.specs.declared.inst.Operand.TheVariants as operand
use Rattle.dis_meaning.specs.Words.{Word}
use Rattle.dis_meaning.specs.Process.{Process}
use Rattle.dis_memory.specs.Blocks.{Block, World, Instance}
use Rattle.value_words.specs.Forms.{Instances}
use Rattle.value_words.specs.Facts.{Facts}
use Rattle.value_heaps.specs.Blocks.{IsBlock, elements, cell, record_of, channel, instance_of, globals_place}
use Rattle.value_heaps.proofs.Words.{refers_it}
use Rattle.value_frames.specs.Frames.{within, within_row}
use Rattle.value_moves.proofs.Leading.{spots_lead}
use Rattle.value_stores.proofs.Parts.{parts_lie}
use Rattle.value_stores.proofs.Stores.{blocks_change}
use Rattle.value_code.specs.Objects.{globals, constants}
use Rattle.value_follows.specs.Stands.{Ready, scope}
use Rattle.value_follows.specs.Sides.{sides, contents, HoldTheSame, IsOfFirst}
use Rattle.limbo_meaning.specs.Memory.{with_heap, changed}
use Rattle.limbo_meaning.specs.Places.{Global}
use Rattle.limbo_meaning.specs.Values.{nothing}
use Rattle.std.specs.Prelude.{Ok, slice_set}
use Rattle.dis_meaning.specs.Process.{Printing}
use Rattle.value_frames.specs.Frames.{room_for}
use Rattle.value_moves.specs.Writing.{Lies, Writes}
use Rattle.rows_places.specs.Rows.{way_from}
use Rattle.rows_places.proofs.Words.{found_there, has_path, value_there, there_is}
use Rattle.rows_places.proofs.Going.{at_place_of}
use Rattle.rows_places.proofs.Places.{HeapPlace}
use Rattle.std.proofs.Common.{Option}
use Rattle.value_code.proofs.Constants.{constants_lie_apart}

-- ---- the module's instance, which has its variables

module _ (m : typed.Module) (k : Facts) where
  record IsInstance (n : ℕ) (v : HeapValue) (b : Block) : Type 0 where
    words : List Word
    values : List Value
    value : v ≡ source.Instance values
    block : b ≡ Instance 0 words
    have : (g : ℕ) (t : Ty) → slice_get (globals m) g ≡ Some t → (u : Value) × (slice_get values g ≡ Some u)

  is_instance : (n : ℕ) (v : HeapValue) (b : Block) → k.form n ≡ Some Instances → IsBlock m.adts (globals m) (constants m) k n v b → IsOfFirst b
      → IsInstance n v b
  is_instance n _ _ f (elements t r words vs g l counted w e o) first = absurd cc
  is_instance n _ _ f (cell t r words v tail rest g l w s o a e older) first = absurd cc
  is_instance n _ _ f (record_of a r words v g l w s o e) first = absurd cc
  is_instance n _ _ f (channel t desc g) first = absurd cc
  is_instance n _ _ f (instance_of object rs words vs g l w s o t c) first = record {
    words = words;
    values = vs;
    value = refl;
    block = ap (λ o. Instance o words) first;
    have = λ g t e. value_there m.adts k words globals_place layout.nothing (globals m) rs vs g t s e;
  }

  pub record GlobalsAre (w : Shared) (x : World) (n s : ℕ) : Type 0 where
    pub words : List Word
    pub values : List Value
    pub value : at w.heap n ≡ Some (source.Instance values)
    pub block : at x.heap s ≡ Some (Instance 0 words)
    pub stands : IsBlock m.adts (globals m) (constants m) k s (source.Instance values) (Instance 0 words)
    pub have : (g : ℕ) (t : Ty) → slice_get (globals m) g ≡ Some t → (u : Value) × (slice_get values g ≡ Some u)

  pub globals_are : (w : Shared) (x : World) → WorldsAlike (contents m) k w.heap x.heap → (n s : ℕ) → Is k n s → k.form s ≡ Some Instances
      → there (at x.heap s) ≡ true → GlobalsAre w x n s
  globals_are w x alike n s is f e =
      let b = there_is (at x.heap s) e in
      let v = alike.here n s b.0 is b.1 in
      let t = alike.there n v.0 v.1 in
      let same : t.0 ≡ s = k.once n t.0 s t.2 is in
      let stands = subst (λ r. IsBlock m.adts (globals m) (constants m) k r v.0 t.1) same t.4.0 in
      let j = is_instance s v.0 t.1 f stands t.4.1 in
      record {
        words = j.words;
        values = j.values;
        value = v.1 ∙ ap (λ (u : HeapValue). Some u) j.value;
        block = subst (λ r. at x.heap r ≡ Some t.1) same t.3 ∙ ap (λ (c : Block). Some c) j.block;
        stands = subst (λ u. IsBlock m.adts (globals m) (constants m) k s u (Instance 0 j.words)) j.value
            (subst (λ c. IsBlock m.adts (globals m) (constants m) k s v.0 c) j.block stands);
        have = j.have;
      }

-- ---- one of its variables as a place

module _ (m : typed.Module) (k : Facts) (i : ℕ) (w : Shared) (x : World) (p : code.Process) (q : Process) (ready : Ready m k i x p q) (hold : HoldTheSame m k i x p q) (worlds : (sides m).worlds k w x) (pc : ℕ) (pr : Option Printing)
    (v : ℕ) (part : List ℕ) where
  abbrev now : Process
  now = at_place_of q pc pr

  abbrev pub root : Ty
  root = slice_index_or (globals m) v ty.Nothing

  abbrev pub place : ℕ
  place = globals_place + within_row m.adts (globals m) v + within m.adts root part

  pub global_place : (us : List Ty) (t : Ty) → WayIs (scope m ready.stands.is.function) (way_from (Global v) part) us t → (operands : List Value)
      → HeapPlace m k i w x p q ready hold worlds pc pr (Global v) operands (operand.Mp (pos place)) t part
  global_place us t is operands =
      let instance = q.frame.instance in
      let refers = refers_it instance in
      let all = globals_are m k w x worlds.0 p.frame.instance instance ready.stands.is.instance ready.stands.is.formed
      (hold.same.live instance (hold.same.roots instance (omega (arith, refers)))) in
      let here = found_there (globals m) v ty.Nothing is.root is.begins in
      let typed = is.begins ∙ ap (λ (u : Ty). Some u) (sym here.1) in
      let path = has_path m.adts root part is.inner (subst (λ s. steps.Leads m.adts s part is.inner) (sym here.1) is.leads) in
      let ends = path.1 ∙ is.ends in
      let old = all.have v root typed in
      let change = blocks_change m.adts (globals m) (constants m) k instance in
      let whole = (change.global_lies 0 all.words all.values v root old.0 all.stands typed old.1).0 in
      let lies = parts_lie.there m.adts k all.words (globals_place + within_row m.adts (globals m) v) root part old.0 path.0 whole in
      let store = code.memory_of w p.frame in
      record {
        name = p.frame.instance;
        serial = instance;
        named = ready.stands.is.instance;
        words = all.words;
        byte = place;
        value = old.0;
        becomes = λ u. source.Instance (slice_set all.values v u);
        held = λ ws. Instance 0 ws;
        old = source.Instance all.values;
        there = all.value;
        block = all.block;
        leads = spots_lead.of_module x now 0 all.words place all.block;
        lies = subst (λ u. Lies m.adts k all.words place u (room_for m.adts u) (part_at part old.0)) ends lies;
        rooted = ap (λ (o : Option HeapValue). Ok (slice_index_or (source.variables_in o) v nothing)) all.value
            ∙ ap (λ (u : Value). Ok u) (found_there all.values v nothing old.0 old.1).1;
        rooting = λ new.
            ap (λ (o : Option HeapValue). Ok (with_heap store (changed w.heap p.frame.instance (source.Instance (slice_set (source.variables_in o) v new)))))
            all.value;
        anew = λ later grows others from_words from u writes there. (
          (blocks_change m.adts (globals m) (constants m) later instance).global 0 all.words others all.values v root old.0 u part
              ((contents m).grows k later instance (source.Instance all.values) (Instance 0 all.words) grows (all.stands, refl)).0 (λ c h. (constants_lie_apart m).variables c h) typed old.1 (record {
                source = from_words;
                from = from;
                path = path.0;
                writes = subst (λ y. Writes all.words others place from_words from (room_for m.adts y).size) (sym ends) writes;
                lies = subst (λ y. Lies m.adts later others place y (room_for m.adts y) u) (sym ends) there;
              }),
          refl,
        );
        names = λ ws n. refl;
      }
