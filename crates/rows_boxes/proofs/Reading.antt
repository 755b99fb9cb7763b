-- Slots whose values have a box are read: the slot refers to a record that carries the value.
use Rattle.std.proofs.Common.{◌≡◌, ℕ, ℤ, pos, ◌<◌, List, length, Some, refl, sym, ap, subst, ◌∙◌, inl, inr}
use Rattle.heap_model.specs.Heap.{at}
use Rattle.heap_model.specs.Facts.{Carrier}
use Rattle.heap_model.proofs.Heap.{there_is}
use Rattle.limbo_types.specs.Types as ty
use Rattle.limbo_types.specs.Types.{Ty}
use Rattle.limbo_layout.specs.Adts.{Has}
use Rattle.limbo_values.specs.declared.number.Kind.TheVariants as kind
use Rattle.limbo_values.specs.declared.number.Kind.{Kind}
use Rattle.limbo_values.specs.Numbers.{InRange}
use Rattle.limbo_typed.specs.Fitting.{of_kind}
use Rattle.limbo_typed.specs.Typed as typed
use Rattle.limbo_meaning.specs.Process.{Shared}
use Rattle.limbo_meaning.specs.Values.{Value, Num}
use Rattle.core_code.specs.Machine as code
use Rattle.core_code.specs.Slots as core
use Rattle.core_code.specs.Slots.{Slot, Holds}
use Rattle.core_typing.specs.Held as held
use Rattle.core_typing.specs.Held.{Of}
use Rattle.core_typing.specs.Needs.{IsA, StandsAs}
use Rattle.dis_meaning.specs.Words.{Word, Refer, Found, word_at}
use Rattle.dis_meaning.specs.Numbers.{number_at}
use Rattle.dis_meaning.specs.Process.{Frame, Process}
use Rattle.dis_memory.specs.Blocks.{Block, World, Record}
use Rattle.dis_memory.specs.Places.{source_of}
use Rattle.value_words.specs.Facts.{Facts}
use Rattle.value_frames.specs.Frames.{AsNumber, form_of, number_place, reference_place}
use Rattle.value_frames.specs.Standing.{SlotStands}
use Rattle.value_frames.proofs.Rest.{slots_rest}
use Rattle.value_moves.specs.Operands.{behind}
use Rattle.value_moves.proofs.Leading.{spots_lead}
use Rattle.number_effects.proofs.Reading.{operands_are_read}
use Rattle.value_follows.specs.Stands.{types_of, FrameIs}
use Rattle.value_follows.specs.Sides.{sides, HoldTheSame}
use Rattle.value_follows.proofs.Slots.{of_type, slot_is, number_there, number_is}
use Rattle.rows_boxes.proofs.Boxing.{names_word}

only_big : (u : Ty) → StandsAs u ty.Big → u ≡ ty.Big
only_big u (inl (inl e)) = e
only_big (ty.RefPick n v) (inl (inr h)) = absurd cc
only_big u (inl (inr h)) = absurd h
only_big u (inr n) = absurd n.1

held_number : (l : Slot) (v : Value) (z : ℤ) → l ≡ Holds v → v ≡ Num z → l ≡ Holds (Num z)
held_number l v z e f = e ∙ ap Holds f

module _ (m : typed.Module) (k : Facts) (i : ℕ) (x : World) (busy : List ℕ) (g : code.Frame) (fr : Frame) (is : FrameIs m k i x busy g fr) (f : typed.Function)
    (same : is.function ≡ f) where
  -- A slot has a big, by the places of this function.
  pub record BigIs (s : ℕ) : Type 0 where
    pub number : ℤ
    pub holds : core.slot g.slots s ≡ Holds (Num number)
    pub block : ℕ
    pub inner : List Word
    pub word : word_at fr.words (pos (reference_place m.adts (types_of m f) s)) ≡ Found (Refer (Some block))
    pub carries : k.fact block ≡ Some (Carrier (Record inner))
    pub found : number_at kind.Big inner (pos 0) ≡ Found number
    pub range : InRange kind.Big number

  pub big_is : (s : ℕ) → s < length g.slots → (Has busy s → ⊥) → IsA is.known s ty.Big → BigIs s
  big_is s l free a =
      let u : a.0 ≡ ty.Big = only_big a.0 a.2 in
      let h = of_type (held.slot is.known s) a.0 a.1 in
      let known_so : held.slot is.known s ≡ Of ty.Big h.0 = h.1 ∙ ap (λ t. Of t h.0) u in
      let n = number_place m.adts (types_of m is.function) s in
      let r = reference_place m.adts (types_of m is.function) s in
      let own = is.words.own s in
      let stands = subst (λ h. SlotStands m.adts k x.heap fr.serial fr.words n r h (core.slot g.slots s) own) known_so (slot_is m k i x busy g fr is s l free) in
      let v = slots_rest.is_value m.adts k x.heap fr.serial fr.words n r ty.Big h.0 (core.slot g.slots s) own stands in
      let reads = slots_rest.reads m.adts k x.heap fr.serial fr.words n r ty.Big h.0 v.0 own
      (subst (λ o. SlotStands m.adts k x.heap fr.serial fr.words n r (Of ty.Big h.0) o own) v.1 stands) in
      let box = reads.boxed refl in
      let z = number_there m.adts k box.1 0 ty.Big v.0 kind.Big refl box.4 in
      record {
        number = z.number;
        holds = held_number (core.slot g.slots s) v.0 z.number v.1 z.is;
        block = box.0;
        inner = box.1;
        word = ap (λ (h : typed.Function). word_at fr.words (pos (reference_place m.adts (types_of m h) s))) (sym same) ∙ box.2;
        carries = box.3.carries;
        found = z.found;
        range = z.range;
      }

  -- what a process that holds it reads there
  module _ (p : code.Process) (q : Process) (w : Shared) (hold : HoldTheSame m k i x p q) (worlds : (sides m).worlds k w x) where
    -- a carrier that a word of it refers to is there
    pub carrier_there : (at_word c : ℕ) (inner : List Word) → word_at q.frame.words (pos at_word) ≡ Found (Refer (Some c))
        → k.fact c ≡ Some (Carrier (Record inner)) → at x.heap c ≡ Some (Record inner)
    carrier_there at_word c inner e carries =
        let live = hold.same.live c (hold.same.roots c (names_word q at_word c e)) in
        let b = there_is (at x.heap c) live in
        b.1 ∙ ap (λ (d : Block). Some d) (worlds.0.carriers c (Record inner) b.0 carries b.1).0

module _ (m : typed.Module) (k : Facts) (i : ℕ) (x : World) (p : code.Process) (q : Process) (w : Shared) (hold : HoldTheSame m k i x p q)
    (worlds : (sides m).worlds k w x) (busy : List ℕ) (is : FrameIs m k i x busy p.frame q.frame) (f : typed.Function) (same : is.function ≡ f) (s : ℕ)
    (big : BigIs m k i x busy p.frame q.frame is f same s) where
  pub big_source : source_of kind.Big x q (behind (reference_place m.adts (types_of m f) s) 0) ≡ Found big.number
  big_source =
      let to = reference_place m.adts (types_of m f) s in
      let there = carrier_there m k i x busy p.frame q.frame is f same p q w hold worlds to big.block big.inner big.word big.carries in
      operands_are_read.source_number x q (behind to 0) big.inner 0 kind.Big (spots_lead.inner x q to big.block big.inner 0 big.word there).0 ∙ big.found

-- ---- numbers of slots, by the places of a function

module _ (m : typed.Module) (k : Facts) (i : ℕ) (x : World) (busy : List ℕ) (g : code.Frame) (fr : Frame) (is : FrameIs m k i x busy g fr) (f : typed.Function)
    (same : is.function ≡ f) where
  pub record NumberOn (j : Kind) (s : ℕ) : Type 0 where
    pub number : ℤ
    pub holds : core.slot g.slots s ≡ Holds (Num number)
    pub found : number_at j fr.words (pos (number_place m.adts (types_of m f) s)) ≡ Found number
    pub range : InRange j number

  pub number_on : (j : Kind) (s : ℕ) → form_of (of_kind j) ≡ AsNumber → s < length g.slots → (Has busy s → ⊥) → IsA is.known s (of_kind j)
      → NumberOn j s
  number_on j s form l free a =
      let n = number_is m k i x busy g fr is j s form l free a in
      record {
        number = n.number;
        holds = n.holds;
        found = ap (λ (h : typed.Function). number_at j fr.words (pos (number_place m.adts (types_of m h) s))) (sym same) ∙ n.found;
        range = n.range;
      }
