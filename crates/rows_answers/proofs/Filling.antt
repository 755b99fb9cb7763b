-- What one instruction does that moves an answer into the record which is to be its box.
use Rattle.std.proofs.Common.{◌≡◌, ℕ, ℤ, pos, ◌+◌, ◌*◌, ◌/◌, ◌%◌, ◌<◌, true, List, [], Option, Some, refl, sym, ap, ◌∙◌, subst, arith}
use Rattle.std.specs.Prelude.{slice_get}
use Rattle.std.proofs.lemmas.Int.{ints}
use Rattle.heap_model.specs.Heap.{at, there}
use Rattle.limbo_types.specs.Types as ty
use Rattle.limbo_types.specs.Types.{Ty}
use Rattle.limbo_layout.specs.Adts.{Def, Has}
use Rattle.limbo_values.specs.declared.number.Kind.TheVariants as kind
use Rattle.limbo_values.specs.Numbers.{InRange}
use Rattle.limbo_typed.specs.Typed as typed
use Rattle.limbo_meaning.specs.Values.{Value, Num, references}
use Rattle.limbo_meaning.specs.Origins.{Name}
use Rattle.system_model.specs.Limits.{frames_limit}
use Rattle.core_code.specs.Machine as code
use Rattle.dis_isa.specs.declared.inst.Inst.{Inst}
use Rattle.dis_isa.specs.declared.inst.Operand.{Operand}
use Rattle.dis_isa.specs.declared.inst.Operand.TheVariants as operand
use Rattle.dis_isa.specs.declared.inst.Middle.TheVariants as middle
use Rattle.dis_isa.specs.declared.op.Op.TheVariants as op
use Rattle.dis_meaning.specs.Words.{Word, Plain, Refer, Address, Access, Found, ◌>>=◌, or_wrong, type_check, number_in}
use Rattle.dis_meaning.specs.Numbers.{number_at, joined, nth_number}
use Rattle.dis_meaning.specs.Process.{Process}
use Rattle.dis_memory.specs.Blocks.{World}
use Rattle.value_words.specs.Contents as contents
use Rattle.value_words.specs.Contents.{content, content_of, content_in}
use Rattle.value_words.specs.Facts.{Facts}
use Rattle.value_words.specs.Stands.{Stands, a_number}
use Rattle.value_words.proofs.Blank.{laid_within}
use Rattle.value_words.proofs.Bytes.{word_found}
use Rattle.value_words.proofs.Rows.{is_there}
use Rattle.value_frames.specs.Frames.{answer_place, box_bytes, room_for}
use Rattle.value_frames.specs.Types.{AreOf, desc}
use Rattle.value_frames.proofs.Replacing.{kinds_stay}
use Rattle.value_moves.specs.Operands.{inst, behind}
use Rattle.value_moves.specs.Spots.{Leads}
use Rattle.value_moves.specs.Writing.{Writes, Lies}
use Rattle.value_moves.proofs.Moving.{values_move}
use Rattle.value_moves.proofs.Referring.{refers}
use Rattle.value_code.specs.Objects.{object_of}
use Rattle.number_effects.proofs.Numbers.{numbers_work}
use Rattle.number_effects.proofs.Reading.{operands_are_read}
use Rattle.value_follows.specs.Stands.{Awaited}
use Rattle.value_follows.proofs.RootedValues.{word_has}
use Rattle.rows_answers.proofs.Boxes.{room_in, boxes_cover, has_where, content_first}
use Rattle.rows_answers.proofs.Boxing.{AnswerBox, Fills, address_leads}
use Rattle.rows_answers.proofs.Returning.{WaitsOn}
use Rattle.rows_answers.proofs.Typed.{MovesWhere}

-- ---- what a value refers to that was moved

same_content : (w : Word) (r : Option ℕ) → content_of w 0 ≡ contents.Reference r 0 → w ≡ Refer r
same_content (Plain z) r e = absurd cc
same_content (Refer s) r e = cc
same_content (Address p a) r e = absurd cc

same_referred : (u : Option ℕ) (d : ℕ) → Some (contents.Reference (Some d) 0) ≡ Some (contents.Reference u 0) → u ≡ Some d
same_referred u d e = cc

content_there : (ws : List Word) (a : ℕ) (w : Word) → a % 4 ≡ 0 → slice_get ws (a / 4) ≡ Some w → content ws a ≡ Some (content_of w 0)
content_there ws a w even e = ap (λ n. content_in (slice_get ws (a / 4)) n) even ∙ ap (λ o. content_in o 0) e

module _ (defs : List Def) (k : Facts) (t : Ty) (source target others : List Word) (from : ℕ) (v : Value)
    (lies : Lies defs k source from t (room_for defs t) v) (to : AreOf (box_bytes defs t) (room_for defs t).references target)
    (writes : Writes target others 0 source from (room_for defs t).size) where
  filled_kind : AreOf (box_bytes defs t) (room_for defs t).references others
  filled_kind =
      kinds_stay.all (box_bytes defs t) (room_for defs t).references target others to writes.many writes.refer writes.referred
      (writes.ranged lies.whole.1 to.ranged)

  filled_stands : Stands defs k others 0 t v
  filled_stands =
      (values_move.stands defs k source target others from 0 t (room_for defs t) v lies (room_in defs t lies.laid target to) writes).0.stands

  -- it refers to what it did where it was
  filled_refers : (d : ℕ) → Has others (Refer (Some d)) → Has source (Refer (Some d))
  filled_refers d h =
      let j = has_where others (Refer (Some d)) h in
      let has = filled_kind.only j.0 (Some d) j.1 in
      let within = laid_within defs t (room_for defs t) lies.laid (4 * j.0) has in
      let there = refers defs k source from t (room_for defs t) v (4 * j.0) lies.laid lies.stands has in
      let found = word_found source (from + 4 * j.0) (Refer there.0) there.1 in
      let zero : 0 + 4 * j.0 ≡ 4 * j.0 = omega arith in
      let here : content others (4 * j.0) ≡ Some (contents.Reference (Some d) 0) =
      content_first others j.0 ∙ ap (λ o. content_in o 0) j.1 in
      let moved : content others (4 * j.0) ≡ content source (from + 4 * j.0) =
      ap (content others) (sym zero) ∙ writes.there (4 * j.0) (omega (arith, within)) in
      let was : content source (from + 4 * j.0) ≡ Some (contents.Reference there.0 0) =
      content_there source (from + 4 * j.0) (Refer there.0) found.0 found.1 in
      let same : there.0 ≡ Some d = same_referred there.0 d (sym here ∙ moved ∙ was) in
      word_has source (from + 4 * j.0) (Refer (Some d)) (there.1 ∙ ap (λ (o : Option ℕ). Found (Refer o)) same)

-- ---- moved from where it lies

module _ (m : typed.Module) (k : Facts) (i : ℕ) (x : World) (p : code.Process) (q : Process) (t : WaitsOn m k i x Awaited p q)
    (c : AnswerBox m k i x Awaited p q t) (answer : Value) where
  abbrev type : Ty
  type = p.frame.answer

  module _ (n : ℕ) (a : Operand) (move : Inst) (so : Process → Type 0) (moves : MovesWhere m.adts type n a (behind answer_place 0) so move) (source : List Word)
      (from : ℕ) (leads : Leads x q a source from) (v : Value) (lies : Lies m.adts k source from type (room_for m.adts type) v)
      (named : (j : ℕ) → Name (references v) j → 0 < code.process_names p j)
      (live : (d : ℕ) → Has source (Refer (Some d)) → there (at x.heap d) ≡ true)
      (types : slice_get (object_of m).types n ≡ Some (desc (box_bytes m.adts type) (room_for m.adts type).references)) (is_so : so q) (same : answer ≡ v)
    where
      pub moved_fills : Fills m k i x p q t c move answer
      moved_fills =
          let room = room_in m.adts type lies.laid c.inner c.own.kind in
          let done = moves k frames_limit (object_of m) x q v source c.inner from 0 leads
          (address_leads x q answer_place c.box c.inner c.address c.own.there).0 lies room types is_so in
          let kind = filled_kind m.adts k type source c.inner done.0 from v lies c.own.kind done.1 in
          let stand = filled_stands m.adts k type source c.inner done.0 from v lies c.own.kind done.1 in
          record {
            others = done.0;
            kind = kind;
            stands = subst (λ (u : Value). Stands m.adts k done.0 0 type u) (sym same) stand;
            live = λ d h. live d (filled_refers m.adts k type source c.inner done.0 from v lies c.own.kind done.1 d h);
            covered = boxes_cover m.adts type lies.laid k done.0 v (code.process_names p) named (kind, stand);
            obeys = done.2;
          }

-- ---- a big that is zero

module _ (ws : List Word) (kind_is : AreOf 8 [] ws) where
  no_reference : (d : ℕ) → Has ws (Refer (Some d)) → ⊥
  no_reference d h = let j = has_where ws (Refer (Some d)) h in kind_is.only j.0 (Some d) j.1

  has_number : (w : Word) → ((r : Option ℕ) → w ≡ Refer r → ⊥) → (z : ℤ) × (number_in w ≡ Found z)
  has_number (Plain z) none = (z, refl)
  has_number (Refer r) none = absurd (none r refl)
  has_number _ none = (pos 0, refl)

  -- a big is read in a record that is made for one
  big_there : (z : ℤ) × (number_at kind.Big ws (pos 0) ≡ Found z)
  big_there =
      let many = kind_is.many in
      let first = is_there ws 0 (omega (arith, many)) in
      let second = is_there ws 1 (omega (arith, many)) in
      let a = has_number first.0 (λ r e. kind_is.only 0 r (first.1 ∙ ap (λ (w : Word). Some w) e)) in
      let c = has_number second.0 (λ r e. kind_is.only 1 r (second.1 ∙ ap (λ (w : Word). Some w) e)) in (
        joined a.0 c.0,
        ap (λ (o : Access ℤ). o >>= λ high. nth_number ws 1 >>= λ low. Found (joined high low))
            (ap (λ (o : Option Word). or_wrong type_check o >>= number_in) first.1 ∙ a.1)
            ∙ ap (λ (o : Access ℤ). o >>= λ low. Found (joined a.0 low))
            (ap (λ (o : Option Word). or_wrong type_check o >>= number_in) second.1 ∙ c.1),
      )

zero_range : InRange kind.Big (pos 0)
zero_range = record { above = omega (arith, ints); below = omega (arith, ints) }

abbrev pub zero_big : Inst
zero_big = inst op.Movl (operand.Imm (pos 0)) middle.None (behind answer_place 0)

module _ (m : typed.Module) (k : Facts) (i : ℕ) (x : World) (p : code.Process) (q : Process) (t : WaitsOn m k i x Awaited p q)
    (c : AnswerBox m k i x Awaited p q t) (answer : Value) (is_big : p.frame.answer ≡ ty.Big) (same : answer ≡ Num (pos 0)) where
  big_kind : AreOf 8 [] c.inner
  big_kind = subst (λ (u : Ty). AreOf (box_bytes m.adts u) (room_for m.adts u).references c.inner) is_big c.own.kind

  pub zero_fills : Fills m k i x p q t c zero_big answer
  zero_fills =
      let old = big_there c.inner big_kind in
      let lead = (address_leads x q answer_place c.box c.inner c.address c.own.there).0 in
      let stored = numbers_work.moves frames_limit (object_of m) x q zero_big kind.Big (pos 0) c.inner 0 lead old.0 refl
      (operands_are_read.source_given x q kind.Big (pos 0)) old.1 in
      let changes = stored.0.changes (λ e. absurd cc) in
      let then_kind = kinds_stay.all 8 [] c.inner stored.0.others big_kind changes.many changes.refer changes.referred
      (stored.0.ranged zero_range big_kind.ranged) in
      record {
        others = stored.0.others;
        kind = subst (λ (u : Ty). AreOf (box_bytes m.adts u) (room_for m.adts u).references stored.0.others) (sym is_big) then_kind;
        stands = subst (λ (v : Value). Stands m.adts k stored.0.others 0 p.frame.answer v) (sym same)
            (subst (λ (u : Ty). Stands m.adts k stored.0.others 0 u (Num (pos 0))) (sym is_big)
            (a_number 0 kind.Big (pos 0) (stored.0.there zero_range) zero_range));
        live = λ d h. absurd (no_reference stored.0.others then_kind d h);
        covered = λ d h. absurd (no_reference stored.0.others then_kind d h);
        obeys = stored.1;
      }
