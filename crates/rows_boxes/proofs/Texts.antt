-- The number that a text begins with, as a big; and what slots have that have texts. (As in `rows_texts`, of frames that may have busy slots.)
use Rattle.std.proofs.Common.{◌≡◌, ◌≢◌, ℕ, ℤ, pos, ◌<◌, List, [], ◌∷◌, length, Option, Some, None, refl, sym, ap, ◌∙◌, subst, arith, inl, inr}
use Rattle.heap_model.specs.Heap.{at}
use Rattle.heap_model.proofs.Heap.{there_is}
use Rattle.limbo_types.specs.Types as ty
use Rattle.limbo_types.specs.Types.{Ty}
use Rattle.limbo_layout.specs.Adts.{Def, Has}
use Rattle.limbo_values.specs.declared.number.Kind.TheVariants as kind
use Rattle.limbo_values.specs.Conversions.{number_in, number_read}
use Rattle.limbo_values.proofs.Ranges.{within, always}
use Rattle.limbo_typed.specs.Typed as typed
use Rattle.limbo_typed.specs.Fitting.{IsVariantOf}
use Rattle.limbo_typed.specs.declared.operation.Operation.TheVariants.{ReadNumber}
use Rattle.limbo_meaning.specs.Process.{Shared}
use Rattle.limbo_meaning.specs.Trees.{Operate}
use Rattle.limbo_meaning.specs.Values.{Value, Num, Chars, text_of, fitted}
use Rattle.system_model.specs.Limits.{frames_limit}
use Rattle.core_code.specs.Code.{Give}
use Rattle.core_code.specs.Machine as code
use Rattle.core_code.specs.Slots as core
use Rattle.core_code.specs.Slots.{Slot, Holds}
use Rattle.core_typing.specs.Held as held
use Rattle.core_typing.specs.Held.{Of}
use Rattle.core_typing.specs.Needs.{AreThese, IsA, StandsAs}
use Rattle.dis_isa.specs.declared.inst.Middle.TheVariants as middle
use Rattle.dis_isa.specs.declared.op.Op.TheVariants as op
use Rattle.dis_meaning.specs.Words.{Word, Refer, Found, ◌>>=◌, word_at, or_wrong, dead_address, reference}
use Rattle.dis_meaning.specs.Process.{Frame, Process}
use Rattle.dis_memory.specs.Blocks.{Block, World}
use Rattle.dis_memory.specs.Kinds.{text_at, text_in}
use Rattle.value_words.specs.Facts.{Facts, IsText}
use Rattle.value_words.specs.Stands.{Stands, a_number, a_text, a_name, an_array, no_words, a_tuple, an_adt}
use Rattle.value_frames.specs.Frames.{number_place, reference_place}
use Rattle.value_frames.specs.Standing.{SlotStands}
use Rattle.value_frames.proofs.Rest.{slots_rest}
use Rattle.value_moves.specs.Operands.{inst, own, behind}
use Rattle.value_moves.proofs.Leading.{spots_lead}
use Rattle.value_moves.proofs.Changing.{words_change}
use Rattle.value_code.specs.Objects.{object_of}
use Rattle.number_effects.proofs.Reading.{operands_are_read}
use Rattle.block_effects.specs.Stored.{ReadsText}
use Rattle.block_effects.proofs.Strings.{strings_come}
use Rattle.value_follows.specs.Stands.{types_of, FrameIs}
use Rattle.value_follows.specs.Sides.{sides, program, HoldTheSame}
use Rattle.value_follows.specs.Rows.{Base, InstrGoes}
use Rattle.value_follows.proofs.Standing.{finds, code_here}
use Rattle.value_follows.proofs.Slots.{of_type, slot_is}
use Rattle.value_follows.proofs.Comparing.{one_slot}
use Rattle.rows_boxes.proofs.Differing.{slots_differ}
use Rattle.rows_boxes.specs.Differing.{DiffersFrom}
use Rattle.rows_boxes.specs.Rows.{BigNumbersReadGo}
use Rattle.rows_boxes.proofs.Boxing.{box_place, only_one, names_word}
use Rattle.rows_boxes.proofs.Starting.{new_words}
use Rattle.rows_boxes.proofs.Giving.{starts}
use Rattle.rows_boxes.proofs.Bigs.{big_laid, old_big, box_leads}
use Rattle.rows_boxes.proofs.Numbers.{finds_on, uses_on, ends_big}

no_variant : (u : Ty) → IsVariantOf u ty.Chars → ⊥
no_variant (ty.RefPick n v) e = absurd cc
no_variant _ e = e

text_type : (u : Ty) → StandsAs u ty.Chars → u ≡ ty.Chars
text_type u (inl (inl e)) = e
text_type u (inl (inr v)) = absurd (no_variant u v)
text_type u (inr n) = absurd n.1

module _ (defs : List Def) (k : Facts) (words : List Word) where
  record TextAt (at : ℕ) (v : Value) : Type 0 where
    chars : List ℕ
    is : v ≡ Chars chars
    refers : Option ℕ
    word : word_at words (pos at) ≡ Found (Refer refers)
    text : IsText k refers chars

  text_there : (at : ℕ) (t : Ty) (v : Value) → t ≡ ty.Chars → Stands defs k words at t v → TextAt at v
  text_there _ _ _ e (a_number at kind.Byte z g i) = absurd cc
  text_there _ _ _ e (a_number at kind.Int z g i) = absurd cc
  text_there _ _ _ e (a_number at kind.Big z g i) = absurd cc
  text_there _ _ _ e (a_text at r s g i) = record { chars = s; is = refl; refers = r; word = g; text = i }
  text_there _ _ _ e (a_name at ty.Chars r n i g h) = absurd i
  text_there _ _ _ e (a_name at t r n i g h) = absurd cc
  text_there _ _ _ e (an_array at t r p g i) = absurd cc
  text_there _ _ _ e (no_words at) = absurd cc
  text_there _ _ _ e (a_tuple at ts rs vs l all) = absurd cc
  text_there _ _ _ e (an_adt at n d rs vs g l all) = absurd cc

module _ (m : typed.Module) (k : Facts) (i : ℕ) (x : World) (busy : List ℕ) (g : code.Frame) (fr : Frame) (is : FrameIs m k i x busy g fr) (f : typed.Function)
    (same : is.function ≡ f) where
  -- A slot has a text, by the places of this function.
  pub record TextOn (s : ℕ) : Type 0 where
    pub chars : List ℕ
    pub holds : core.slot g.slots s ≡ Holds (Chars chars)
    pub refers : Option ℕ
    pub word : word_at fr.words (pos (reference_place m.adts (types_of m f) s)) ≡ Found (Refer refers)
    pub text : IsText k refers chars

  pub text_on : (s : ℕ) → s < length g.slots → (Has busy s → ⊥) → IsA is.known s ty.Chars → TextOn s
  text_on s l free a =
      let h = of_type (held.slot is.known s) a.0 a.1 in
      let known_so : held.slot is.known s ≡ Of ty.Chars h.0 = h.1 ∙ ap (λ t. Of t h.0) (text_type a.0 a.2) in
      let n = number_place m.adts (types_of m is.function) s in
      let r = reference_place m.adts (types_of m is.function) s in
      let own = is.words.own s in
      let slot = core.slot g.slots s in
      let stands = subst (λ h. SlotStands m.adts k x.heap fr.serial fr.words n r h slot own) known_so (slot_is m k i x busy g fr is s l free) in
      let v = slots_rest.is_value m.adts k x.heap fr.serial fr.words n r ty.Chars h.0 slot own stands in
      let reads = slots_rest.reads m.adts k x.heap fr.serial fr.words n r ty.Chars h.0 v.0 own
      (subst (λ o. SlotStands m.adts k x.heap fr.serial fr.words n r (Of ty.Chars h.0) o own) v.1 stands) in
      let t = text_there m.adts k fr.words r ty.Chars v.0 refl (reads.reference refl) in
      record {
        chars = t.chars;
        holds = v.1 ∙ ap Holds t.is;
        refers = t.refers;
        word = ap (λ (h : typed.Function). word_at fr.words (pos (reference_place m.adts (types_of m h) s))) (sym same) ∙ t.word;
        text = t.text;
      }

module _ (m : typed.Module) (k : Facts) (i : ℕ) (w : Shared) (x : World) (p : code.Process) (q : Process) (hold : HoldTheSame m k i x p q)
    (worlds : (sides m).worlds k w x) where
  -- a text is that of its block
  text_found : (place : ℕ) (r : Option ℕ) (s : List ℕ) → word_at q.frame.words (pos place) ≡ Found (Refer r) → IsText k r s → text_at x r ≡ Found s
  text_found place None s f e = ap Found (sym e)
  text_found place (Some b) s f e =
      let d = there_is (at x.heap b) (hold.same.live b (hold.same.roots b (names_word q place b f))) in
      ap (λ (o : Option Block). or_wrong dead_address o >>= text_in) (d.1 ∙ ap Some (worlds.0.texts b s d.0 e.0 d.1))

  module _ (busy : List ℕ) (is : FrameIs m k i x busy p.frame q.frame) (f : typed.Function) (same : is.function ≡ f) (s : ℕ)
      (t : TextOn m k i x busy p.frame q.frame is f same s) where
    pub reads_text : ReadsText x q (own (reference_place m.adts (types_of m f) s)) t.chars
    reads_text =
        let to = reference_place m.adts (types_of m f) s in (
          t.refers,
          operands_are_read.source_referring x q (own to) q.frame.words to (spots_lead.own x q to).0 ∙ ap (λ a. a >>= reference) t.word,
          text_found to t.refers t.chars t.word t.text,
        )

-- ---- the row

read_go : (m : typed.Module) (b : Base m) (into a : ℕ) → into ≢ a → InstrGoes m (Give ty.Big (Operate (ReadNumber kind.Big)) into (a ∷ []))
read_go m b into a apart k i x p q ready here =
    let o = Operate (ReadNumber kind.Big) in
    let from = a ∷ [] in (
      1,
      starts m b ty.Big o into from 0 (λ f known found. big_laid m.adts) (λ c. refl) (λ f pc. omega arith) k i x p q ready here
          (λ number f there in_code row box r now w y s hold worlds.
          let inner = new_words m.adts ty.Big in
          let found = finds_on m b ty.Big o into from number f 1 box inner i p r now y s here in
          let these = subst (AreThese s.stands.is.known from) found.2.0.0 found.1 in
          let text = text_on m now i y (into ∷ []) p.frame r.frame s.stands.is f s.function_is a
          (uses_on m b ty.Big o into from number f 1 box inner i p r now y s here).1.0 (λ h. apart (only_one into a h)) these.0 in
          let source = own (reference_place m.adts (types_of m f) a) in
          let target = behind (box_place m number f ty.Big into) 0 in
          let it = inst op.Cvtcl source middle.None target in
          let old = old_big m b number f into 1 box inner i p r now w y s in
          let leads = box_leads m b number f into 1 box inner i p r now w y s in
          let z = number_read kind.Big text.chars in
          let range = always kind.Big (number_in text.chars) in
          let stored = words_change.number kind.Big inner 0 old.0 z old.1 in
          ends_big m b o into from number f there i p here in_code row 1 box inner r now w y s hold worlds it refl z range (
            stored,
            (strings_come frames_limit (object_of m) y r).convert.as_big source target middle.None text.chars stored.others
                (record { words = inner; byte = 0; leads = leads; old = old.0; stands = old.1 })
                (reads_text m now i w y p r hold worlds (into ∷ []) s.stands.is f s.function_is a text) stored.found,
          )
          refl
          (ap (code.next frames_limit (program m) w p) here
          ∙ ap (λ (v : Slot). code.goes_on w p (core.put p.frame.slots into
          (Holds (fitted m.adts ty.Big (Num (number_read kind.Big (text_of (core.value_of v)))))))) text.holds
          ∙ ap (λ (v : ℤ). code.goes_on w p (core.put p.frame.slots into (Holds (Num v)))) (within kind.Big z range))),
    )

pub big_numbers_read_go : BigNumbersReadGo
big_numbers_read_go m b t into from k i x p q ready here =
    let it = Give t (Operate (ReadNumber kind.Big)) into from in
    let r = ready.0 in
    let known = r.stands.is.known in
    let found = finds m r.stands.is.function p.frame.pc known it r.stands.goes (code_here m k i x p q r it here) in
    let slot = one_slot known from ty.Chars (subst (AreThese known from) found.2.0.0 found.1) in
    let differ = subst (DiffersFrom into) slot.1 (slots_differ m r.stands.is.function p.frame.pc it (code_here m k i x p q r it here)) in
    read_go m b into slot.0 differ.0 k i x p q ready
    (here ∙ ap (λ (v : Ty). Some (Give v (Operate (ReadNumber kind.Big)) into from)) found.2.0.1
    ∙ ap (λ (rs : List ℕ). Some (Give ty.Big (Operate (ReadNumber kind.Big)) into rs)) slot.1)
