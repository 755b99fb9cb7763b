-- Constants that are texts: the slot refers to the text in the module's data.
use Rattle.std.proofs.Common.{◌≡◌, ℕ, suc, pos, List, [], Option, Some, refl, ap, ◌∙◌, subst, arith, inl}
use Rattle.limbo_types.specs.Types as ty
use Rattle.limbo_types.specs.Types.{Ty}
use Rattle.limbo_layout.specs.Adts.{Def}
use Rattle.limbo_values.specs.declared.number.Kind.TheVariants as kind
use Rattle.limbo_typed.specs.Typed as typed
use Rattle.limbo_typed.specs.declared.stmt.Constant.TheVariants as constant
use Rattle.limbo_meaning.specs.Trees.{Literal}
use Rattle.limbo_meaning.specs.Values as value
use Rattle.limbo_meaning.specs.Values.{Value}
use Rattle.system_model.specs.Limits.{frames_limit}
use Rattle.core_code.specs.Code.{Give}
use Rattle.core_code.specs.Machine as code
use Rattle.core_typing.specs.Held as held
use Rattle.core_typing.specs.Held.{Of}
use Rattle.dis_isa.specs.declared.inst.Operand.TheVariants as operand
use Rattle.dis_meaning.specs.Words.{Word, Refer, Found, ◌>>=◌, word_at, reference}
use Rattle.value_words.specs.Facts.{Facts, IsText}
use Rattle.value_words.specs.Stands.{Stands, a_number, a_text, a_name, an_array, no_words, a_tuple, an_adt}
use Rattle.value_frames.specs.Frames.{number_place, reference_place}
use Rattle.value_frames.specs.Standing.{a_value}
use Rattle.value_moves.proofs.Leading.{spots_lead}
use Rattle.value_code.specs.Objects.{placed}
use Rattle.number_effects.proofs.Reading.{operands_are_read}
use Rattle.value_follows.specs.Stands.{types_of}
use Rattle.value_follows.specs.Sides.{program}
use Rattle.value_follows.specs.Rows.{Base, InstrGoes, TextsGo}
use Rattle.value_follows.proofs.Standing.{finds, instance_here, code_here}
use Rattle.value_follows.proofs.Slots.{uses}
use Rattle.value_follows.proofs.Single.{single}
use Rattle.value_follows.proofs.Jumps.{row, behind_it}
use Rattle.value_follows.proofs.References.{reference_goes}

module _ (defs : List Def) (k : Facts) (words : List Word) (cs : List ℕ) where
  text_there : (at : ℕ) (t : Ty) (v : Value) → t ≡ ty.Chars → v ≡ value.Chars cs → Stands defs k words at t v
      → (r : Option ℕ) × (word_at words (pos at) ≡ Found (Refer r)) × IsText k r cs
  text_there _ _ _ e f (a_number at kind.Byte z g i) = absurd cc
  text_there _ _ _ e f (a_number at kind.Int z g i) = absurd cc
  text_there _ _ _ e f (a_number at kind.Big z g i) = absurd cc
  text_there _ _ _ e f (a_text at r s g i) = let same : s ≡ cs = cc in (r, g, subst (IsText k r) same i)
  text_there _ _ _ e f (a_name at t r n i g h) = absurd cc
  text_there _ _ _ e f (an_array at t r p g i) = absurd cc
  text_there _ _ _ e f (no_words at) = absurd cc
  text_there _ _ _ e f (a_tuple at ts rs vs l all) = absurd cc
  text_there _ _ _ e f (an_adt at n d rs vs g l all) = absurd cc

chars_go : (m : typed.Module) (b : Base m) (cs : List ℕ) (into : ℕ) (from : List ℕ) → InstrGoes m (Give ty.Chars (Literal (constant.Chars cs)) into from)
chars_go m b cs into from k i x p q ready here =
    single m b i p q k x ready (λ now w y r hold worlds.
    let is = r.stands.is in
    let instr = Give ty.Chars (Literal (constant.Chars cs)) into from in
    let found = finds m is.function p.frame.pc is.known instr r.stands.goes (code_here m now i y p q r instr here) in
    let at = row m b now i w y p q r hold worlds instr here in
    let instance = instance_here m b now i w y p q [] is hold worlds.0 in
    let constant = instance.2 (placed m at.at ty.Chars (value.Chars cs)) (at.stand (placed m at.at ty.Chars (value.Chars cs)) (inl refl)) in
    let text = text_there m.adts now instance.0 cs at.at ty.Chars (value.Chars cs) refl refl constant.stands in
    reference_goes m b now i w y p q r hold worlds instr here into
    (uses m now i y [] p.frame q.frame is p.frame.pc instr (code_here m now i y p q r instr here)).0 found.3
    (operand.Mp (pos at.at)) text.0
    (operands_are_read.source_referring y q (operand.Mp (pos at.at)) instance.0 at.at (spots_lead.of_module y q 0 instance.0 at.at instance.1).0
    ∙ ap (λ a. a >>= reference) text.1)
    refl refl ty.Chars [] (value.Chars cs)
    (λ words e.
    a_value words (number_place m.adts (types_of m is.function) into) (reference_place m.adts (types_of m is.function) into) ty.Chars [] (value.Chars cs)
    (a_text (reference_place m.adts (types_of m is.function) into) text.0 cs e text.2) (λ l n f. absurd cc))
    (behind_it m b now i w y p q r hold worlds instr here 0 (suc p.frame.pc) (held.put is.known into (Of ty.Chars [])) (omega arith) refl)
    (ap (code.next frames_limit (program m) w p) here))

pub texts_go : TextsGo
texts_go m b t cs into from k i x p q ready here =
    let it = Give t (Literal (constant.Chars cs)) into from in
    let r = ready.0 in
    let found = finds m r.stands.is.function p.frame.pc r.stands.is.known it r.stands.goes (code_here m k i x p q r it here) in
    chars_go m b cs into from k i x p q ready (here ∙ ap (λ (u : Ty). Some (Give u (Literal (constant.Chars cs)) into from)) found.2.0)
