-- The record that a slot's value has, where others may have stepped: what it refers to, and that another record gets the same value.
use Rattle.std.proofs.Common.{◌≡◌, ℕ, zero, suc, pos, ◌/◌, ◌<◌, true, List, [], ◌∷◌, length, Option, Some, None}
use Rattle.std.proofs.Common.{refl, sym, ap, ◌∙◌, subst, arith}
use Rattle.heap_model.specs.Heap.{at, there, in_one}
use Rattle.limbo_types.specs.Types.{Ty}
use Rattle.limbo_layout.specs.Adts.{Has}
use Rattle.limbo_layout.specs.Layout.{Laid}
use Rattle.limbo_typed.specs.Typed as typed
use Rattle.limbo_meaning.specs.Process.{Shared}
use Rattle.limbo_meaning.specs.Values.{Value, references}
use Rattle.limbo_meaning.specs.Origins.{Name}
use Rattle.core_code.specs.Machine as code
use Rattle.core_code.specs.Slots as core
use Rattle.core_code.specs.Slots.{Slot, Holds}
use Rattle.core_typing.specs.Held as held
use Rattle.core_typing.specs.Held.{Of, type_held}
use Rattle.dis_meaning.specs.Words.{Word, Refer, Found, word_at}
use Rattle.dis_meaning.specs.Process.{Process}
use Rattle.dis_memory.specs.Blocks.{Block, World, Record}
use Rattle.dis_memory.specs.Naming.{inside}
use Rattle.value_words.specs.Facts.{Facts}
use Rattle.value_words.proofs.Bytes.{word_found}
use Rattle.value_heaps.proofs.Words.{named_by}
use Rattle.value_roots.proofs.Words.{has_counts}
use Rattle.value_frames.specs.Frames.{Boxed, form_of, number_place, reference_place, room_for}
use Rattle.value_frames.specs.Standing.{SlotStands, NamesOnly}
use Rattle.value_frames.specs.Rest.{SlotReads}
use Rattle.value_frames.proofs.Rest.{slots_rest}
use Rattle.value_follows.specs.Stands.{types_of, FrameIs}
use Rattle.value_follows.specs.Sides.{sides, HoldTheSame}
use Rattle.value_follows.proofs.Slots.{slot_is, of_type}
use Rattle.value_follows.proofs.RootedValues.{stands_laid}
use Rattle.rows_answers.proofs.Boxes.{Boxes}

-- ---- what a slot names its process does

pub slot_among : (slots : core.Slots) (r n : ℕ) → 0 < core.slot_names (core.slot slots r) n → 0 < core.slots_name slots n
slot_among [] zero n l = absurd (omega (arith, l))
slot_among [] (suc r) n l = absurd (omega (arith, l))
slot_among (s ∷ slots) zero n l = omega (arith, l)
slot_among (s ∷ slots) (suc r) n l = let h = slot_among slots r n l in omega (arith, h)

pub named_by_process : (p : code.Process) (r : ℕ) (v : Value) → core.slot p.frame.slots r ≡ Holds v → (n : ℕ) → Name (references v) n
    → 0 < code.process_names p n
named_by_process p r v e n h =
    let a = slot_among p.frame.slots r n (subst (λ s. 0 < core.slot_names s n) (sym e) h) in omega (arith, a)

there_is : {A : Type 0} (o : Option A) → there o ≡ true → (a : A) × (o ≡ Some a)
there_is None e = absurd cc
there_is (Some a) e = (a, refl)

module _ (m : typed.Module) (k : Facts) (i : ℕ) (w : Shared) (x : World) (p : code.Process) (q : Process) (busy : List ℕ)
    (is : FrameIs m k i x busy p.frame q.frame) (hold : HoldTheSame m k i x p q) (worlds : (sides m).worlds k w x) where
  abbrev types : List Ty
  types = types_of m is.function

  -- what a word of the frame refers to is there
  pub block_there : (place c : ℕ) → word_at q.frame.words (pos place) ≡ Found (Refer (Some c)) → there (at x.heap c) ≡ true
  block_there place c e =
      let named = named_by q.frame.words (place / 4) c (word_found q.frame.words place (Refer (Some c)) e).1 in
      hold.same.live c (hold.same.roots c (omega (arith, named)))

  -- what a record that is there refers to is there
  pub inner_there : (c : ℕ) (inner : List Word) → at x.heap c ≡ Some (Record inner) → (d : ℕ) → Has inner (Refer (Some d)) → there (at x.heap d) ≡ true
  inner_there c inner e d h =
      worlds.0.closed.closed c d (ap there e) (subst (λ (o : Option Block). 0 < in_one inside o d) (sym e) (has_counts inner d h))

  module _ (r : ℕ) (below : r < length p.frame.slots) (idle : Has busy r → ⊥) (t : Ty) (form : form_of t ≡ Boxed)
      (known_so : type_held (held.slot is.known r) ≡ Some t) where
    pub record BoxIs : Type 0 where
      pub value : Value
      pub live : List ℕ
      pub known : held.slot is.known r ≡ Of t live
      pub holds : core.slot p.frame.slots r ≡ Holds value
      pub names : NamesOnly live value
      pub bare : is.words.own r ≡ []
      pub laid : Laid m.adts t (room_for m.adts t)
      pub block : ℕ
      pub inner : List Word
      pub word : word_at q.frame.words (pos (reference_place m.adts types r)) ≡ Found (Refer (Some block))
      pub there : at x.heap block ≡ Some (Record inner)
      pub boxes : Boxes m.adts t k inner value

    pub box_is : BoxIs
    box_is =
        let n_at = number_place m.adts types r in
        let r_at = reference_place m.adts types r in
        let own_blocks = is.words.own r in
        let h = of_type (held.slot is.known r) t known_so in
        let stands = subst (λ h. SlotStands m.adts k x.heap q.frame.serial q.frame.words n_at r_at h (core.slot p.frame.slots r) own_blocks) h.1
        (slot_is m k i x busy p.frame q.frame is r below idle) in
        let v = slots_rest.is_value m.adts k x.heap q.frame.serial q.frame.words n_at r_at t h.0 (core.slot p.frame.slots r) own_blocks stands in
        let reads : SlotReads m.adts k q.frame.words n_at r_at t h.0 v.0 own_blocks =
        slots_rest.reads m.adts k x.heap q.frame.serial q.frame.words n_at r_at t h.0 v.0 own_blocks
        (subst (λ o. SlotStands m.adts k x.heap q.frame.serial q.frame.words n_at r_at (Of t h.0) o own_blocks) v.1 stands) in
        let box = reads.boxed form in
        let live = block_there r_at box.0 box.2 in
        let block = there_is (at x.heap box.0) live in
        record {
          value = v.0;
          live = h.0;
          known = h.1;
          holds = v.1;
          names = reads.names;
          bare = reads.bare;
          laid = stands_laid m.adts k box.1 0 t v.0 box.4;
          block = box.0;
          inner = box.1;
          word = box.2;
          there = block.1 ∙ ap (λ (c : Block). Some c) (worlds.0.carriers box.0 (Record box.1) block.0 box.3.carries block.1).0;
          boxes = (box.3.kind, box.4);
        }
