-- Parts of the module's variables that are read into slots.
use Rattle.std.proofs.Common.{◌≡◌, ℕ, ℤ, true, suc, pos, ◌+◌, List, [], ◌∷◌, length, Some, refl, sym, ap, ◌∙◌, subst, arith, inl, inr}
use Rattle.std.specs.Prelude.{slice_get, slice_index_or}
use Rattle.heap_model.specs.Heap.{at, there}
use Rattle.heap_model.specs.Facts.{Is}
use Rattle.heap_model.specs.Worlds.{WorldsAlike}
use Rattle.limbo_types.specs.Types as ty
use Rattle.limbo_types.specs.Types.{Ty}
use Rattle.limbo_layout.specs.Layout as layout
use Rattle.limbo_values.specs.declared.number.Kind.TheVariants as kind
use Rattle.limbo_typed.specs.Typed as typed
use Rattle.limbo_kept.specs.Places as steps
use Rattle.limbo_kept.specs.Trees.{WayIs}
use Rattle.limbo_meaning.specs.Trees.{Read}
use Rattle.limbo_meaning.specs.Places.{part_at}
use Rattle.limbo_meaning.specs.Process.{Shared}
use Rattle.limbo_meaning.specs.Memory as source
use Rattle.limbo_meaning.specs.Memory.{HeapValue}
use Rattle.limbo_meaning.specs.Values.{Value, Num}
use Rattle.limbo_meaning.specs.Exceptions.{Raising}
use Rattle.limbo_meaning.specs.Evaluation as evaluation
use Rattle.system_model.specs.Limits.{frames_limit}
use Rattle.core_code.specs.Code.{Give}
use Rattle.core_code.specs.Machine as code
use Rattle.core_code.specs.Slots as core
use Rattle.core_code.specs.Slots.{Holds}
use Rattle.core_typing.specs.Held as held
use Rattle.core_typing.specs.Held.{Of}
use Rattle.core_typing.specs.Going.{got_by}
use Rattle.dis_isa.specs.declared.inst.Operand as isa
use Rattle.dis_isa.specs.declared.inst.Operand.TheVariants as operand
use Rattle.dis_isa.specs.declared.inst.Middle.TheVariants as middle
use Rattle.dis_isa.specs.declared.op.Op.TheVariants as op
use Rattle.dis_meaning.specs.Words.{Word, Access, ◌>>=◌, reference}
use Rattle.dis_meaning.specs.Process.{Process}
use Rattle.dis_memory.specs.Blocks.{Block, World, Instance}
use Rattle.value_words.specs.Forms.{Instances}
use Rattle.value_words.specs.Facts.{Facts}
use Rattle.value_words.specs.Stands.{Stands}
use Rattle.value_words.proofs.Wholes.{stands_whole}
use Rattle.value_heaps.specs.Blocks.{IsBlock, elements, cell, record_of, channel, instance_of, globals_place}
use Rattle.value_heaps.proofs.Words.{refers_it}
use Rattle.value_frames.specs.Frames.{AsReference, form_of, number_place, reference_place, within, within_row}
use Rattle.value_moves.specs.Operands.{Code, inst, own}
use Rattle.value_moves.specs.Spots.{Leads}
use Rattle.value_moves.proofs.Leading.{spots_lead}
use Rattle.value_stores.proofs.Parts.{parts_lie}
use Rattle.value_stores.proofs.Places.{places_change}
use Rattle.value_stores.proofs.Stores.{blocks_change}
use Rattle.value_code.specs.Objects.{object_of, of_function, globals, constants, blank_site}
use Rattle.value_code.specs.Code.{Site, code_of}
use Rattle.number_effects.proofs.Reading.{operands_are_read}
use Rattle.number_effects.proofs.Numbers.{numbers_work}
use Rattle.value_follows.specs.Stands.{Ready, scope, types_of}
use Rattle.value_follows.specs.Sides.{sides, contents, HoldTheSame, IsOfFirst, program}
use Rattle.value_follows.specs.Rows.{Base, InstrGoes, site_of}
use Rattle.value_follows.proofs.Standing.{finds, code_here}
use Rattle.value_follows.proofs.Slots.{uses, number_there}
use Rattle.value_follows.proofs.Single.{single}
use Rattle.value_follows.proofs.Jumps.{row, behind_it}
use Rattle.value_follows.proofs.Putting.{old_word}
use Rattle.value_follows.proofs.Numbers.{leads, int_moved, number_stored}
use Rattle.rows_moving.specs.Rows.{of_global, GlobalsGo}
use Rattle.rows_moving.proofs.References.{one_word, reference_stored}
use Rattle.rows_moving.proofs.Variables.{found_there, has_path, value_there}
use Rattle.rows_moving.proofs.Sources.{there_is}
use Rattle.rows_moving.proofs.Reading.{read_names}

-- ---- the module's instance, which has its variables

module _ (m : typed.Module) (k : Facts) where
  record IsInstance (n : ℕ) (v : HeapValue) (b : Block) : Type 0 where
    words : List Word
    values : List Value
    value : v ≡ source.Instance values
    block : b ≡ Instance 0 words
    have : (g : ℕ) (t : Ty) → slice_get (globals m) g ≡ Some t → (u : Value) × (slice_get values g ≡ Some u)

  is_instance : (n : ℕ) (v : HeapValue) (b : Block) → k.form n ≡ Some Instances → IsBlock m.adts (globals m) (constants m) k n v b → IsOfFirst b
      → IsInstance n v b
  is_instance n _ _ f (elements t r words vs g l few w e o) first = absurd cc
  is_instance n _ _ f (cell t r words v tail rest g l w s o a e older) first = absurd cc
  is_instance n _ _ f (record_of a r words v g l w s o e) first = absurd cc
  is_instance n _ _ f (channel t desc g) first = absurd cc
  is_instance n _ _ f (instance_of object rs words vs g l w s o t c) first = record {
    words = words;
    values = vs;
    value = refl;
    block = ap (λ o. Instance o words) first;
    have = λ g t e. value_there m.adts k words globals_place layout.nothing (globals m) rs vs g t s e;
  }

  record GlobalsAre (w : Shared) (x : World) (n s : ℕ) : Type 0 where
    words : List Word
    values : List Value
    value : at w.heap n ≡ Some (source.Instance values)
    block : at x.heap s ≡ Some (Instance 0 words)
    stands : IsBlock m.adts (globals m) (constants m) k s (source.Instance values) (Instance 0 words)
    have : (g : ℕ) (t : Ty) → slice_get (globals m) g ≡ Some t → (u : Value) × (slice_get values g ≡ Some u)

  globals_are : (w : Shared) (x : World) → WorldsAlike (contents m) k w.heap x.heap → (n s : ℕ) → Is k n s → k.form s ≡ Some Instances
      → there (at x.heap s) ≡ true → GlobalsAre w x n s
  globals_are w x alike n s is f e =
      let b = there_is (at x.heap s) e in
      let v = alike.here n s b.0 is b.1 in
      let t = alike.there n v.0 v.1 in
      let same : t.0 ≡ s = k.once n t.0 s t.2 is in
      let stands = subst (λ r. IsBlock m.adts (globals m) (constants m) k r v.0 t.1) same t.4.0 in
      let j = is_instance s v.0 t.1 f stands t.4.1 in
      record {
        words = j.words;
        values = j.values;
        value = v.1 ∙ ap (λ (u : HeapValue). Some u) j.value;
        block = subst (λ r. at x.heap r ≡ Some t.1) same t.3 ∙ ap (λ (c : Block). Some c) j.block;
        stands = subst (λ u. IsBlock m.adts (globals m) (constants m) k s u (Instance 0 j.words)) j.value
            (subst (λ c. IsBlock m.adts (globals m) (constants m) k s v.0 c) j.block stands);
        have = j.have;
      }

-- ---- part of one of them

module _ (m : typed.Module) (k : Facts) (i : ℕ) (w : Shared) (x : World) (p : code.Process) (q : Process) (ready : Ready m k i x p q) (hold : HoldTheSame m k i x p q) (worlds : (sides m).worlds k w x)
    (v : ℕ) (part : List ℕ) where
  abbrev root : Ty
  root = slice_index_or (globals m) v ty.Nothing

  abbrev place : ℕ
  place = globals_place + within_row m.adts (globals m) v + within m.adts root part

  record PartThere (t : Ty) : Type 0 where
    words : List Word
    values : List Value
    instance : at w.heap p.frame.instance ≡ Some (source.Instance values)
    value : Value
    there : slice_get values v ≡ Some value
    leads : Leads x q (operand.Mp (pos place)) words place
    stands : Stands m.adts k words place t (part_at part value)

  part_there : (us : List Ty) (t : Ty) → WayIs (scope m ready.stands.is.function) (of_global v part) us t → PartThere t
  part_there us t is =
      let instance = q.frame.instance in
      let refers = refers_it instance in
      let all = globals_are m k w x worlds.0 p.frame.instance instance ready.stands.is.instance ready.stands.is.formed
      (hold.same.live instance (omega (arith, refers))) in
      let here = found_there (globals m) v ty.Nothing is.root is.begins in
      let typed = is.begins ∙ ap (λ (u : Ty). Some u) (sym here.1) in
      let path = has_path m.adts root part is.inner (subst (λ s. steps.Leads m.adts s part is.inner) (sym here.1) is.leads) in
      let old = all.have v root typed in
      let whole = ((blocks_change m.adts (globals m) (constants m) k instance).global_lies 0 all.words all.values v root old.0 all.stands typed old.1).0 in
      let lies = parts_lie.there m.adts k all.words (globals_place + within_row m.adts (globals m) v) root part old.0 path.0 whole in
      record {
        words = all.words;
        values = all.values;
        instance = all.value;
        value = old.0;
        there = old.1;
        leads = (spots_lead.of_module x q 0 all.words place all.block).0;
        stands = subst (λ u. Stands m.adts k all.words place u (part_at part old.0)) (path.1 ∙ is.ends) lies.stands;
      }

  module _ (t : Ty) (into : ℕ) (from : List ℕ) (here : slice_get p.frame.code p.frame.pc ≡ Some (Give t (Read (of_global v part)) into from)) where
    -- the part is read as one of its type
    reads : (is : PartThere t) → (sides m).program.step w p ≡ code.goes_on w p (core.put p.frame.slots into (Holds (part_at part is.value)))
    reads is =
        let memory = code.memory_of w p.frame in
        let read = (places_change.global m.adts memory t v part (core.values_of p.frame.slots from) is.values is.value is.instance is.there).0 in
        ap (code.next frames_limit (program m) w p) here
        ∙ ap (λ (r : Raising Value). code.gives frames_limit (program m) w p into
        (evaluation.unless_raised r (evaluation.gets m.adts memory t))) read
        ∙ ap (λ (u : Value). code.goes_on w p (core.put p.frame.slots into (Holds u)))
        (sym (stands_whole m.adts k is.words place t (part_at part is.value) is.stands))

    reads_number : (is : PartThere t) (z : ℤ) → part_at part is.value ≡ Num z
        → (sides m).program.step w p ≡ code.goes_on w p (core.put p.frame.slots into (Holds (Num z)))
    reads_number is z e = reads is ∙ ap (λ (u : Value). code.goes_on w p (core.put p.frame.slots into (Holds u))) e

-- ---- the row's code

abbrev source_at : (c : Site) → (v : ℕ) → (part : List ℕ) → isa.Operand
source_at c v part = operand.Mp
    (pos (globals_place + within_row c.scene.adts c.scene.globals v + within c.scene.adts (slice_index_or c.scene.globals v ty.Nothing) part))

read_code : (c : Site) (t : Ty) (v : ℕ) (part : List ℕ) (into : ℕ) (from : List ℕ) → form_of t ≡ AsReference
    → code_of c (Give t (Read (of_global v part)) into from)
    ≡ inst op.Movp (source_at c v part) middle.None (own (reference_place c.scene.adts c.scene.variables into)) ∷ []
read_code c ty.Chars v part into from e = refl
read_code c ty.Nil v part into from e = refl
read_code c (ty.ArrayOf t) v part into from e = refl
read_code c (ty.ListOf t) v part into from e = refl
read_code c (ty.ChanOf t) v part into from e = refl
read_code c (ty.RefAdt a) v part into from e = refl
read_code c (ty.RefPick a j) v part into from e = refl
read_code c (ty.Module a) v part into from e = refl
read_code c t v part into from e = absurd cc

-- ---- the rows

ints_go : (m : typed.Module) (b : Base m) (v : ℕ) (part : List ℕ) (into : ℕ) (from : List ℕ)
    → InstrGoes m (Give ty.Int (Read (of_global v part)) into from)
ints_go m b v part into from k i x p q ready here =
    single m b i p q k x ready (λ now w y r hold worlds.
    let is = r.stands.is in
    let instr = Give ty.Int (Read (of_global v part)) into from in
    let found = finds m is.function p.frame.pc is.known instr r.stands.goes (code_here m now i y p q r instr here) in
    let part_is = part_there m now i w y p q r hold worlds v part found.0 ty.Int found.2.0 in
    let at = place m now i w y p q r hold worlds v part in
    let z = number_there m.adts now part_is.words at ty.Int (part_at part part_is.value) kind.Int refl part_is.stands in
    let plainly = operands_are_read.int_is_plain part_is.words at z.number z.found in
    int_moved m b now i w y p q r hold worlds instr here into
    (uses m now i y [] p.frame q.frame is p.frame.pc instr (code_here m now i y p q r instr here)).0 found.3
    refl (operand.Mp (pos at)) refl z.number
    (record {
      word = plainly.0;
      plainly = operands_are_read.source_plain_word y q (operand.Mp (pos at)) part_is.words at part_is.leads ∙ plainly.1;
      number = plainly.2;
      range = z.range;
    })
    []
    (behind_it m b now i w y p q r hold worlds instr here 0 (suc p.frame.pc) (held.put is.known into (Of ty.Int [])) (omega arith) refl)
    (reads_number m now i w y p q r hold worlds v part ty.Int into from here part_is z.number z.is))

bytes_go : (m : typed.Module) (b : Base m) (v : ℕ) (part : List ℕ) (into : ℕ) (from : List ℕ)
    → InstrGoes m (Give ty.Byte (Read (of_global v part)) into from)
bytes_go m b v part into from k i x p q ready here =
    single m b i p q k x ready (λ now w y r hold worlds.
    let is = r.stands.is in
    let instr = Give ty.Byte (Read (of_global v part)) into from in
    let found = finds m is.function p.frame.pc is.known instr r.stands.goes (code_here m now i y p q r instr here) in
    let part_is = part_there m now i w y p q r hold worlds v part found.0 ty.Byte found.2.0 in
    let at = place m now i w y p q r hold worlds v part in
    let z = number_there m.adts now part_is.words at ty.Byte (part_at part part_is.value) kind.Byte refl part_is.stands in
    let uses = uses m now i y [] p.frame q.frame is p.frame.pc instr (code_here m now i y p q r instr here) in
    let to = number_place m.adts (types_of m is.function) into in
    let move = inst op.Movb (operand.Mp (pos at)) middle.None (own to) in
    let old = (old_word m now i y p q r into uses.0 found.3).number kind.Byte refl in
    number_stored m b now i w y p q r hold worlds instr here into uses.0 found.3
    refl move refl kind.Byte refl z.number z.range []
    (behind_it m b now i w y p q r hold worlds instr here 0 (suc p.frame.pc) (held.put is.known into (Of ty.Byte [])) (omega arith) refl)
    (reads_number m now i w y p q r hold worlds v part ty.Byte into from here part_is z.number z.is)
    (numbers_work.moves frames_limit (object_of m) y q move kind.Byte z.number q.frame.words to
    (leads m b now i w y p q r hold worlds instr here into uses.0 found.3) old.0 refl
    (operands_are_read.source_number y q (operand.Mp (pos at)) part_is.words at kind.Byte part_is.leads ∙ z.found) old.1)
    (omega arith))

references_go : (m : typed.Module) (b : Base m) (t : Ty) (v : ℕ) (part : List ℕ) (into : ℕ) (from : List ℕ) → form_of t ≡ AsReference
    → InstrGoes m (Give t (Read (of_global v part)) into from)
references_go m b t v part into from form k i x p q ready here =
    single m b i p q k x ready (λ now w y r hold worlds.
    let is = r.stands.is in
    let instr = Give t (Read (of_global v part)) into from in
    let found = finds m is.function p.frame.pc is.known instr r.stands.goes (code_here m now i y p q r instr here) in
    let part_is = part_there m now i w y p q r hold worlds v part found.0 t found.2.0 in
    let at = place m now i w y p q r hold worlds v part in
    let old = part_at part part_is.value in
    let one = one_word m.adts now part_is.words at t old form part_is.stands in
    let row_at = row m b now i w y p q r hold worlds instr here in
    let live = got_by m.adts t (Read (of_global v part)) in
    reference_stored m b now i w y p q r hold worlds instr here into
    (uses m now i y [] p.frame q.frame is p.frame.pc instr (code_here m now i y p q r instr here)).0 found.3
    (ap (λ (c : Code). length c)
    (read_code (blank_site m is.function.of.answer (of_function m is.function) p.frame.pc) t v part into from form))
    (operand.Mp (pos at))
    (ap (λ (c : Code). slice_get c 0) (read_code (site_of m is.number is.function p.frame.pc row_at.at) t v part into from form))
    one.refers
    (operands_are_read.source_referring y q (operand.Mp (pos at)) part_is.words at part_is.leads ∙ ap (λ (a : Access Word). a >>= reference) one.word)
    t old live form one.elsewhere
    (read_names m.adts now part_is.words (of_global v part) at t old form part_is.stands)
    (behind_it m b now i w y p q r hold worlds instr here 0 (suc p.frame.pc) (held.put is.known into (Of t live)) (omega arith) refl)
    (reads m now i w y p q r hold worlds v part t into from here part_is))

pub globals_go : GlobalsGo
globals_go m b ty.Byte v part into from (inl e) = bytes_go m b v part into from
globals_go m b ty.Int v part into from (inl e) = ints_go m b v part into from
globals_go m b t v part into from (inl e) = absurd cc
globals_go m b t v part into from (inr e) = references_go m b t v part into from e
