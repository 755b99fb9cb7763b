-- Parts of variables that are read into slots.
use Rattle.std.proofs.Common.{◌≡◌, ℕ, ℤ, zero, suc, ◌+◌, List, [], ◌∷◌, length, Option, Some, refl, sym, ap, ◌∙◌, arith, inl, inr}
use Rattle.std.specs.Prelude.{slice_get, slice_index_or}
use Rattle.limbo_types.specs.Types as ty
use Rattle.limbo_types.specs.Types.{Ty}
use Rattle.limbo_layout.specs.Adts.{Def}
use Rattle.limbo_values.specs.declared.number.Kind.TheVariants as kind
use Rattle.limbo_typed.specs.Typed as typed
use Rattle.limbo_meaning.specs.Trees.{Read}
use Rattle.limbo_meaning.specs.Places.{Way, part_at}
use Rattle.limbo_meaning.specs.Process.{Shared}
use Rattle.limbo_meaning.specs.Values.{Value, Num, Ref, Array, array_named, references}
use Rattle.limbo_meaning.specs.Values as value
use Rattle.limbo_meaning.specs.Exceptions.{Raising}
use Rattle.limbo_meaning.specs.Evaluation as evaluation
use Rattle.system_model.specs.Limits.{frames_limit}
use Rattle.core_code.specs.Code.{Give}
use Rattle.core_code.specs.Machine as code
use Rattle.core_code.specs.Slots as core
use Rattle.core_code.specs.Slots.{Holds}
use Rattle.core_typing.specs.Held as held
use Rattle.core_typing.specs.Held.{Of}
use Rattle.core_typing.specs.Going.{got_by}
use Rattle.dis_isa.specs.declared.inst.Middle.TheVariants as middle
use Rattle.dis_isa.specs.declared.op.Op.TheVariants as op
use Rattle.dis_meaning.specs.Words.{Word, Access, ◌>>=◌, reference}
use Rattle.value_words.specs.Facts.{Facts}
use Rattle.value_words.specs.Stands.{IsReference, Stands, a_number, a_text, a_name, an_array, no_words, a_tuple, an_adt}
use Rattle.value_words.proofs.Wholes.{stands_whole}
use Rattle.value_frames.specs.Frames.{AsReference, form_of, number_place, reference_place, variable_place, within}
use Rattle.value_frames.specs.Standing.{NamesOnly}
use Rattle.value_moves.specs.Operands.{Code, inst, own}
use Rattle.value_moves.proofs.Leading.{spots_lead}
use Rattle.value_stores.proofs.Places.{places_change}
use Rattle.value_code.specs.Objects.{object_of, of_function, blank_site}
use Rattle.value_code.specs.Code.{Site, code_of}
use Rattle.number_effects.proofs.Reading.{operands_are_read}
use Rattle.number_effects.proofs.Numbers.{numbers_work}
use Rattle.value_follows.specs.Sides.{sides, program}
use Rattle.value_follows.specs.Rows.{Base, InstrGoes, site_of}
use Rattle.value_follows.proofs.Standing.{finds, code_here}
use Rattle.value_follows.proofs.Slots.{uses, number_there}
use Rattle.value_follows.proofs.Single.{single}
use Rattle.value_follows.proofs.Jumps.{row, behind_it}
use Rattle.value_follows.proofs.Putting.{old_word}
use Rattle.value_follows.proofs.Numbers.{leads, int_moved, number_stored}
use Rattle.rows_moving.specs.Rows.{of_local, ReadsGo}
use Rattle.rows_moving.proofs.References.{one_word, reference_stored}
use Rattle.rows_moving.proofs.Variables.{types, place, part_there}

-- ---- what the source does

module _ (m : typed.Module) (w : Shared) (p : code.Process) (t : Ty) (v : ℕ) (part : List ℕ) (into : ℕ) (from : List ℕ)
    (here : slice_get p.frame.code p.frame.pc ≡ Some (Give t (Read (of_local v part)) into from)) where
  -- the part is read as one of its type
  reads : (old : Value) → slice_get p.frame.variables v ≡ Some old → part_at part old ≡ value.fitted m.adts t (part_at part old)
      → (sides m).program.step w p ≡ code.goes_on w p (core.put p.frame.slots into (Holds (part_at part old)))
  reads old there whole =
      let read = (places_change.local m.adts (code.memory_of w p.frame) t v part (core.values_of p.frame.slots from) old there).0 in
      ap (code.next frames_limit (program m) w p) here
      ∙ ap (λ (r : Raising Value). code.gives frames_limit (program m) w p into
      (evaluation.unless_raised r (evaluation.gets m.adts (code.memory_of w p.frame) t))) read
      ∙ ap (λ (u : Value). code.goes_on w p (core.put p.frame.slots into (Holds u))) (sym whole)

  -- and is a number, where it stands for one
  reads_number : (old : Value) → slice_get p.frame.variables v ≡ Some old → part_at part old ≡ value.fitted m.adts t (part_at part old) → (z : ℤ)
      → part_at part old ≡ Num z → (sides m).program.step w p ≡ code.goes_on w p (core.put p.frame.slots into (Holds (Num z)))
  reads_number old there whole z e =
      reads old there whole ∙ ap (λ (u : Value). code.goes_on w p (core.put p.frame.slots into (Holds u))) e

-- ---- which references of what is read may name something

one_name : (n : ℕ) (r : Option ℕ) (k : ℕ) → slice_get (r ∷ []) k ≡ Some (Some n) → held.Has (0 ∷ []) k
one_name n r zero e = inl refl
one_name n r (suc k) e = absurd cc

name_names : (defs : List Def) (w : Way) (t : Ty) (n : Option ℕ) → IsReference t → NamesOnly (got_by defs t (Read w)) (Ref n)
name_names defs w ty.Nil n i k a e = one_name a n k e
name_names defs w (ty.ListOf t) n i k a e = one_name a n k e
name_names defs w (ty.ChanOf t) n i k a e = one_name a n k e
name_names defs w (ty.RefAdt b) n i k a e = one_name a n k e
name_names defs w (ty.RefPick b j) n i k a e = one_name a n k e
name_names defs w (ty.Module b) n i k a e = one_name a n k e
name_names defs w t n i k a e = absurd i

pub read_names : (defs : List Def) (f : Facts) (words : List Word) (w : Way) (at : ℕ) (t : Ty) (v : Value) → form_of t ≡ AsReference
    → Stands defs f words at t v → NamesOnly (got_by defs t (Read w)) v
read_names defs f words w _ _ _ e (a_number at kind.Byte z g i) = absurd cc
read_names defs f words w _ _ _ e (a_number at kind.Int z g i) = absurd cc
read_names defs f words w _ _ _ e (a_number at kind.Big z g i) = absurd cc
read_names defs f words w _ _ _ e (a_text at r s g i) = λ k a h. absurd cc
read_names defs f words w _ _ _ e (a_name at t r n i g h) = name_names defs w t n i
read_names defs f words w _ _ _ e (an_array at t r p g i) = λ k a h. one_name a (array_named p) k h
read_names defs f words w _ _ _ e (no_words at) = absurd cc
read_names defs f words w _ _ _ e (a_tuple at ts rs vs l all) = absurd cc
read_names defs f words w _ _ _ e (an_adt at n d rs vs g l all) = absurd cc

-- ---- the row's code

-- where the part lies
abbrev source_at : (c : Site) → (v : ℕ) → (part : List ℕ) → ℕ
source_at c v part =
    variable_place c.scene.adts c.scene.variables v + within c.scene.adts (slice_index_or c.scene.variables v ty.Nothing) part

read_code : (c : Site) (t : Ty) (v : ℕ) (part : List ℕ) (into : ℕ) (from : List ℕ) → form_of t ≡ AsReference
    → code_of c (Give t (Read (of_local v part)) into from)
    ≡ inst op.Movp (own (source_at c v part)) middle.None (own (reference_place c.scene.adts c.scene.variables into)) ∷ []
read_code c ty.Chars v part into from e = refl
read_code c ty.Nil v part into from e = refl
read_code c (ty.ArrayOf t) v part into from e = refl
read_code c (ty.ListOf t) v part into from e = refl
read_code c (ty.ChanOf t) v part into from e = refl
read_code c (ty.RefAdt a) v part into from e = refl
read_code c (ty.RefPick a j) v part into from e = refl
read_code c (ty.Module a) v part into from e = refl
read_code c t v part into from e = absurd cc

-- ---- numbers

ints_go : (m : typed.Module) (b : Base m) (v : ℕ) (part : List ℕ) (into : ℕ) (from : List ℕ)
    → InstrGoes m (Give ty.Int (Read (of_local v part)) into from)
ints_go m b v part into from k i x p q ready here =
    single m b i p q k x ready (λ now w y r hold worlds.
    let is = r.stands.is in
    let instr = Give ty.Int (Read (of_local v part)) into from in
    let found = finds m is.function p.frame.pc is.known instr r.stands.goes (code_here m now i y p q r instr here) in
    let part_is = part_there m now i y p q r v part found.0 ty.Int found.2.0 in
    let at = place m now i y p q r v part in
    let z = number_there m.adts now q.frame.words at ty.Int (part_at part part_is.value) kind.Int refl part_is.lies.stands in
    let plainly = operands_are_read.int_is_plain q.frame.words at z.number z.found in
    int_moved m b now i w y p q r hold worlds instr here into
    (uses m now i y [] p.frame q.frame is p.frame.pc instr (code_here m now i y p q r instr here)).0 found.3
    refl (own at) refl z.number
    (record {
      word = plainly.0;
      plainly = operands_are_read.source_plain_word y q (own at) q.frame.words at (spots_lead.own y q at).0 ∙ plainly.1;
      number = plainly.2;
      range = z.range;
    })
    []
    (behind_it m b now i w y p q r hold worlds instr here 0 (suc p.frame.pc) (held.put is.known into (Of ty.Int [])) (omega arith) refl)
    (reads_number m w p ty.Int v part into from here part_is.value part_is.there
    (stands_whole m.adts now q.frame.words at ty.Int (part_at part part_is.value) part_is.lies.stands) z.number z.is))

bytes_go : (m : typed.Module) (b : Base m) (v : ℕ) (part : List ℕ) (into : ℕ) (from : List ℕ)
    → InstrGoes m (Give ty.Byte (Read (of_local v part)) into from)
bytes_go m b v part into from k i x p q ready here =
    single m b i p q k x ready (λ now w y r hold worlds.
    let is = r.stands.is in
    let instr = Give ty.Byte (Read (of_local v part)) into from in
    let found = finds m is.function p.frame.pc is.known instr r.stands.goes (code_here m now i y p q r instr here) in
    let part_is = part_there m now i y p q r v part found.0 ty.Byte found.2.0 in
    let at = place m now i y p q r v part in
    let z = number_there m.adts now q.frame.words at ty.Byte (part_at part part_is.value) kind.Byte refl part_is.lies.stands in
    let uses = uses m now i y [] p.frame q.frame is p.frame.pc instr (code_here m now i y p q r instr here) in
    let to = number_place m.adts (types m now i y p q r) into in
    let move = inst op.Movb (own at) middle.None (own to) in
    let old = (old_word m now i y p q r into uses.0 found.3).number kind.Byte refl in
    number_stored m b now i w y p q r hold worlds instr here into uses.0 found.3
    refl move refl kind.Byte refl z.number z.range []
    (behind_it m b now i w y p q r hold worlds instr here 0 (suc p.frame.pc) (held.put is.known into (Of ty.Byte [])) (omega arith) refl)
    (reads_number m w p ty.Byte v part into from here part_is.value part_is.there
    (stands_whole m.adts now q.frame.words at ty.Byte (part_at part part_is.value) part_is.lies.stands) z.number z.is)
    (numbers_work.moves frames_limit (object_of m) y q move kind.Byte z.number q.frame.words to
    (leads m b now i w y p q r hold worlds instr here into uses.0 found.3) old.0 refl
    (operands_are_read.source_number y q (own at) q.frame.words at kind.Byte (spots_lead.own y q at).0 ∙ z.found) old.1)
    (omega arith))

-- ---- references

references_go : (m : typed.Module) (b : Base m) (t : Ty) (v : ℕ) (part : List ℕ) (into : ℕ) (from : List ℕ) → form_of t ≡ AsReference
    → InstrGoes m (Give t (Read (of_local v part)) into from)
references_go m b t v part into from form k i x p q ready here =
    single m b i p q k x ready (λ now w y r hold worlds.
    let is = r.stands.is in
    let instr = Give t (Read (of_local v part)) into from in
    let found = finds m is.function p.frame.pc is.known instr r.stands.goes (code_here m now i y p q r instr here) in
    let part_is = part_there m now i y p q r v part found.0 t found.2.0 in
    let at = place m now i y p q r v part in
    let old = part_at part part_is.value in
    let one = one_word m.adts now q.frame.words at t old form part_is.lies.stands in
    let row_at = row m b now i w y p q r hold worlds instr here in
    let live = got_by m.adts t (Read (of_local v part)) in
    reference_stored m b now i w y p q r hold worlds instr here into
    (uses m now i y [] p.frame q.frame is p.frame.pc instr (code_here m now i y p q r instr here)).0 found.3
    (ap (λ (c : Code). length c)
    (read_code (blank_site m is.function.of.answer (of_function m is.function) p.frame.pc) t v part into from form))
    (own at)
    (ap (λ (c : Code). slice_get c 0) (read_code (site_of m is.number is.function p.frame.pc row_at.at) t v part into from form))
    one.refers
    (operands_are_read.source_referring y q (own at) q.frame.words at (spots_lead.own y q at).0
    ∙ ap (λ (a : Access Word). a >>= reference) one.word)
    t old live form one.elsewhere
    (read_names m.adts now q.frame.words (of_local v part) at t old form part_is.lies.stands)
    (behind_it m b now i w y p q r hold worlds instr here 0 (suc p.frame.pc) (held.put is.known into (Of t live)) (omega arith) refl)
    (reads m w p t v part into from here part_is.value part_is.there
    (stands_whole m.adts now q.frame.words at t old part_is.lies.stands)))

pub reads_go : ReadsGo
reads_go m b ty.Byte v part into from (inl e) = bytes_go m b v part into from
reads_go m b ty.Int v part into from (inl e) = ints_go m b v part into from
reads_go m b t v part into from (inl e) = absurd cc
reads_go m b t v part into from (inr e) = references_go m b t v part into from e
