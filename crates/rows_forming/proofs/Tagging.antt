-- The number of a variant comes into the record, and the rows of the first operand.
use Rattle.value_code.specs.Code as written
use Rattle.process_ways.specs.Ways.{Way}
use Rattle.rows_forming.proofs.New.{new_alike, new_changes}
use Rattle.rows_forming.proofs.Lacking.{lacking_ready, lacking_does, after}
use Rattle.core_code.specs.Code.{Instr}
use Rattle.process_ways.proofs.On.{stepped}
use Rattle.value_follows.specs.Stands.{types_of, place_of, Awaited, Ready}
use Rattle.value_code.proofs.Having.{objects_have}
use Rattle.value_code.specs.Data.{OfRecord}
use Rattle.value_code.specs.Operands.{in_slot, in_box}
use Rattle.value_code.specs.Code.{Site, code_of, at_least, emptied}
use Rattle.std.proofs.Common.{inl, ◌++◌, Option, ◌≡◌, ℕ, ℤ, zero, suc, pos, ◌+◌, ◌/◌, ◌<◌, List, [], ◌∷◌, length, Some, None, refl, sym}
use Rattle.std.proofs.Common.{ap, subst, ◌∙◌, arith, inr}
use Rattle.std.specs.Prelude.{slice_get, slice_index_or}
use Rattle.std.specs.Int.{next_multiple_of}
use Rattle.process_model.specs.Process.{Went}
use Rattle.process_model.specs.Follows.{Only}
use Rattle.limbo_types.specs.Types as ty
use Rattle.limbo_types.specs.Types.{Ty}
use Rattle.limbo_layout.specs.Adts.{Has}
use Rattle.limbo_values.specs.declared.number.Kind.TheVariants as kind
use Rattle.limbo_values.specs.Numbers.{InRange}
use Rattle.limbo_typed.specs.Typed as typed
use Rattle.limbo_meaning.specs.Process.{Shared}
use Rattle.limbo_meaning.specs.Values.{Value, Num, zero_of, references, among}
use Rattle.system_model.specs.Limits.{frames_limit}
use Rattle.core_code.specs.Machine as code
use Rattle.core_code.specs.Slots as core
use Rattle.core_code.specs.Terms.{part_types}
use Rattle.core_code.proofs.Names.{zero_fitted}
use Rattle.core_typing.specs.Held as held
use Rattle.dis_isa.specs.declared.inst.Inst.{Inst}
use Rattle.dis_isa.specs.declared.inst.Operand.TheVariants as operand
use Rattle.dis_isa.specs.declared.inst.Middle.TheVariants as middle
use Rattle.dis_isa.specs.declared.op.Op.TheVariants as op
use Rattle.dis_meaning.specs.Words.{word_at, Word, Plain, Refer, Access, ◌>>=◌, number_in}
use Rattle.dis_meaning.specs.Process.{Process}
use Rattle.dis_memory.specs.Blocks.{World, next_serial}
use Rattle.value_words.specs.Contents.{AreInRange}
use Rattle.value_words.specs.Facts.{Facts}
use Rattle.value_words.specs.Stands as memory
use Rattle.value_words.specs.Stands.{a_number}
use Rattle.value_frames.specs.Forming.{begun}
use Rattle.value_frames.specs.Frames.{room_for, within, box_bytes, form_of, spare_place}
use Rattle.value_frames.specs.Types.{AreOf}
use Rattle.value_moves.specs.Changing.{Changes}
use Rattle.value_moves.specs.Operands.{inst, behind, Code, moved}
use Rattle.value_moves.specs.Spots.{Leads}
use Rattle.value_moves.specs.Writing.{Writes, Lies}
use Rattle.value_moves.proofs.Leading.{spots_lead}
use Rattle.value_stores.proofs.Parts.{parts_lie}
use Rattle.value_code.specs.Objects.{object_of, of_function, blank_site, size_at, type_number}
use Rattle.number_effects.specs.Giving.{with_word, StoresWord}
use Rattle.number_effects.specs.Stepping.{Reaches}
use Rattle.dis_memory.specs.Step.{obey}
use Rattle.limbo_meaning.specs.Places.{part_at}
use Rattle.value_words.proofs.Bytes.{word_found}
use Rattle.value_words.proofs.Rows.{below}
use Rattle.number_effects.proofs.Reading.{operands_are_read}
use Rattle.number_effects.proofs.Records.{words_move}
use Rattle.number_effects.proofs.Stepping.{steps_obey}
use Rattle.value_follows.specs.Sides.{sides, HoldTheSame}
use Rattle.value_follows.specs.Rows.{place, Base, RowGoes}
use Rattle.value_follows.proofs.RootedValues.{has_at, stands_laid}
use Rattle.value_follows.proofs.Slots.{number_there}
use Rattle.value_follows.proofs.Standing.{code_here}
use Rattle.value_follows.proofs.Several.{Next, moved_to}
use Rattle.core_typing.specs.Going.{IsTagged}
use Rattle.rows_forming.specs.Rows.{FirstPlacesGo, IsAptFirst, IsSmall, part_of}
use Rattle.rows_forming.proofs.Builds.{Builds, box_place, builds_hold, builds_way}
use Rattle.rows_forming.proofs.First.{found_so, starts}
use Rattle.rows_forming.proofs.Opening.{moved_some, nowhere_nothing, nothing_or}
use Rattle.rows_forming.proofs.Operands.{number_lies}
use Rattle.rows_forming.proofs.Placing.{instr, reaches_on, steps_silently, further}
use Rattle.rows_forming.proofs.Putting.{part_type, put_stands, put_kind, box_lies, has_where, world_on, changes_on, alike_on, builds_on}
use Rattle.rows_forming.proofs.SoFar.{begun_names}
use Rattle.rows_forming.proofs.Starting.{new_words, new_bare, builds_then, stored_there, goes_new, world_then, facts_then, process_then}
use Rattle.rows_forming.proofs.Ways.{way_from, tail_of}

some_long : {A : Type 0} (l : List A) → (l ≡ [] → ⊥) → 0 < length l
some_long [] ne = absurd (ne refl)
some_long (x ∷ l) ne = omega arith

-- the row's code, with an operand of a type
abbrev lone_code : Site → Ty → Option ℕ → (part into from : ℕ) → Ty → Code
lone_code c t variant part into from u =
    at_least c (written.begun c.scene (c.type_number (OfRecord t)) variant into
    ++ (moved c.scene.adts u (c.type_number (OfRecord u)) (in_slot c.scene u from) (in_box c.scene into (within c.scene.adts t (part ∷ [])))
    ++ emptied c.scene (form_of u) from))

-- ---- a tuple, or an adt without variants

none_first : (m : typed.Module) (b : Base m) (t : Ty) (part into from : ℕ) → IsSmall m t part → (part_of m t part ≡ ty.Nothing → ⊥)
    → (k : Facts) (i : ℕ) (x : World) (p : code.Process) (q : Process) (r : (sides m).ready k i x p q)
    → (here : slice_get p.frame.code p.frame.pc ≡ Some (instr m t None 0 part into from)) → IsAptFirst m r.0.stands.is.known t part into from
    → RowGoes m k i x p q
none_first m b t part into from small some k i x p q r here apt =
    let ready = r.0 in
    let number = ready.stands.is.number in
    let f = ready.stands.is.function in
    let found = found_so m t None part into from b i p here k x q ready apt in
    let in_code = code_here m k i x p q ready (instr m t None 0 part into from) here in
    let row = b.row_stands number f p.frame.pc (instr m t None 0 part into from) ready.stands.is.there in_code in
    let blank = blank_site m f.of.answer (of_function m f) p.frame.pc in
    let tail = tail_of m t None 0 part into from b i p here number f ready.stands.is.there in_code row ready.stands.is.known found.task blank in
    let long : size_at m f.of.answer (of_function m f) p.frame.pc (Some (instr m t None 0 part into from)) ≡ suc (length tail) = refl in
    let more = some_long tail (moved_some m.adts (part_of m t part) some _ _ _ _) in
    let way = way_from m t None 0 part into from b i p here number f ready.stands.is.there in_code row ready.stands.is.known found.task some
    (λ e. some (nowhere_nothing (part_of m t part) e)) small 1 refl refl refl (omega (arith, long)) in
    starts m t None part into from b i p here k x q ready way.0 found.clean found.few found.laid (omega (arith, long, more)) r.1
    (λ box u now v y s h e.
    way.1 box (new_words m.adts t) u now v y
    (subst (λ (z : Value). Builds m number f t into 1 box (new_words m.adts t) z ready.stands.is.known now i y p u) (sym found.value_so) s) h e tt)

-- ---- the number of a variant

writes_again : (target others : List Word) (to size : ℕ) → Changes target others to size → AreInRange others → Writes target others to others to size
writes_again target others to size c ranged = record {
  many = c.many;
  there = λ o l. refl;
  bytes = c.bytes;
  words = c.words;
  refer = c.refer;
  referred = c.referred;
  ranged = λ s t. ranged;
}

module _ (m : typed.Module) (b : Base m) (t : Ty) (v : ℕ) (tagged : IsTagged m.adts t (Some v)) (number : ℕ) (f : typed.Function) (into : ℕ)
    (known : held.Slots) (i : ℕ) (p : code.Process) (q : Process) (k : Facts) (w : Shared) (x : World) (far box : ℕ)
    (s : Builds m number f t into far box (new_words m.adts t) (zero_of m.adts t) known k i x p q) (hold : HoldTheSame m k i x p q)
    (worlds : (sides m).worlds k w x) where
  abbrev inner : List Word
  inner = new_words m.adts t

  abbrev zero_value : Value
  zero_value = zero_of m.adts t

  abbrev first_ty : Ty
  first_ty = slice_index_or (part_types m.adts t) 0 ty.Nothing

  is_first : (0 < length (part_types m.adts t)) × (first_ty ≡ ty.Int)
  is_first = part_type m.adts t 0 ty.Int ty.Nothing tagged.0

  zero_place : within m.adts t (0 ∷ []) ≡ 0
  zero_place =
      let e : next_multiple_of 0 4 + 0 ≡ 0 = omega arith in
      ap (λ (u : Ty). next_multiple_of 0 (room_for m.adts u).align + 0) is_first.1 ∙ e

  int_there : memory.Stands m.adts k inner 0 ty.Int (part_at (0 ∷ []) zero_value)
  int_there =
      let lies = parts_lie.there m.adts k inner 0 t (0 ∷ []) zero_value (is_first.0, tt)
      (box_lies m.adts t inner (stands_laid m.adts k inner 0 t zero_value s.is) s.kind k zero_value s.is) in
      let e : 0 + within m.adts t (0 ∷ []) ≡ 0 = let z = zero_place in omega (arith, z) in
      subst (λ (u : Ty). memory.Stands m.adts k inner 0 u (part_at (0 ∷ []) zero_value)) is_first.1
      (subst (λ (a : ℕ). memory.Stands m.adts k inner a first_ty (part_at (0 ∷ []) zero_value)) e lies.stands)

  abbrev pub tag_inst : Inst
  tag_inst = inst op.Movw (operand.Imm (pos v)) middle.None (behind (box_place m number f t into) 0)

  abbrev tag_leads : Leads x q (behind (box_place m number f t into) 0) inner 0
  tag_leads = (spots_lead.inner x q (box_place m number f t into) box inner 0 s.word s.there).0

  abbrev pub tag_words : List Word
  tag_words = with_word inner 0 (Plain (pos v))

  tag_stored : StoresWord (obey frames_limit (object_of m) x q tag_inst op.Movw) x q tag_leads.place inner 0 (Plain (pos v))
  tag_stored =
      let n = number_there m.adts k inner 0 ty.Int (part_at (0 ∷ []) zero_value) kind.Int refl int_there in
      let word = operands_are_read.int_is_plain inner 0 n.number n.found in
      words_move.word frames_limit (object_of m) x q tag_inst (Plain (pos v)) inner 0 tag_leads word.0 refl
      (operands_are_read.source_plain_given x q (pos v)) word.1

  ranged_so : (z : ℤ) → Plain (pos v) ≡ Plain z → InRange kind.Int z
  ranged_so z e = let same : pos v ≡ z = cc in subst (InRange kind.Int) same tagged.1

  tag_ranged : AreInRange tag_words
  tag_ranged = tag_stored.0.ranged ranged_so s.kind.ranged

  tag_lies : Lies m.adts k tag_words 0 first_ty (room_for m.adts first_ty) (Num (pos v))
  tag_lies =
      let many = tag_stored.0.changes.many in
      let long = (word_found tag_words 0 (Plain (pos v)) tag_stored.0.there).1 in
      subst (λ (u : Ty). Lies m.adts k tag_words 0 u (room_for m.adts u) (Num (pos v))) (sym is_first.1)
      (number_lies m.adts k tag_words 0 ty.Int (Num (pos v)) refl refl (below tag_words (0 / 4) (Plain (pos v)) long) tag_ranged
      (a_number 0 kind.Int (pos v) (ap (λ (a : Access Word). a >>= number_in) tag_stored.0.there) tagged.1))

  tag_writes : Writes inner tag_words (within m.adts t (0 ∷ [])) tag_words 0 (room_for m.adts first_ty).size
  tag_writes =
      subst (λ (a : ℕ). Writes inner tag_words a tag_words 0 (room_for m.adts first_ty).size) (sym zero_place)
      (subst (λ (u : Ty). Writes inner tag_words 0 tag_words 0 (room_for m.adts u).size) (sym is_first.1)
      (writes_again inner tag_words 0 4 tag_stored.0.changes tag_ranged))

  pub tag_kind : AreOf (box_bytes m.adts t) (room_for m.adts t).references tag_words
  tag_kind = put_kind m.adts k t inner zero_value s.kind s.is 0 is_first.0 tag_words tag_words 0 (Num (pos v)) tag_lies tag_writes

  pub tag_stands : memory.Stands m.adts k tag_words 0 t (begun m.adts t (Some v))
  tag_stands = put_stands m.adts k t inner zero_value s.kind s.is 0 is_first.0 tag_words tag_words 0 (Num (pos v)) tag_lies tag_writes

  -- it refers to nothing
  pub tag_bare : (n : ℕ) → Has tag_words (Refer (Some n)) → ⊥
  tag_bare n h =
      let j = has_where tag_words (Refer (Some n)) h in
      by_place j.0 j.1
    where
      by_place : (j : ℕ) → slice_get tag_words j ≡ Some (Refer (Some n)) → ⊥
      by_place zero e =
          let g = (word_found tag_words 0 (Plain (pos v)) tag_stored.0.there).1 in
          let z : Some (Refer (Some n)) ≡ Some (Plain (pos v)) = sym e ∙ g in
          cc
      by_place (suc j) e =
          new_bare m.adts t n (has_at inner (suc j) (Refer (Some n)) (sym (tag_stored.0.changes.words (suc j) (inr (omega arith))) ∙ e))

  pub tag_named : (n : ℕ) → 0 < among n (references (begun m.adts t (Some v))) → 0 < code.process_names p n
  tag_named n l = absurd (let z = begun_names m.adts t (Some v) n in omega (arith, l, z))

  pub tag_leads_to : (n : ℕ) → 0 < core.slot_names (core.slot p.frame.slots into) n → 0 < among n (references (begun m.adts t (Some v)))
  tag_leads_to n l = absurd (let a = s.leads n l in let z = zero_fitted n m.adts t in omega (arith, a, z))

  abbrev pub tag_world : World
  tag_world = world_on m b number f t into far box inner zero_value known i p q k w x s worlds tag_words (begun m.adts t (Some v)) tag_kind tag_stands
      (λ n h. absurd (tag_bare n h)) tag_named tag_leads_to

  abbrev pub tag_process : Process
  tag_process = moved_to q (suc q.frame.pc) q.frame.words

  pub tag_builds : Builds m number f t into (suc far) box tag_words (begun m.adts t (Some v)) known k i tag_world p tag_process
  tag_builds = builds_on m b number f t into far box inner zero_value known i p q k w x s worlds tag_words (begun m.adts t (Some v)) tag_kind tag_stands
      (λ n h. absurd (tag_bare n h)) tag_named tag_leads_to

  pub tag_step : Reaches (object_of m ∷ []) x q (object_of m) tag_inst → (sides m).code.step x q ≡ Went tag_world tag_process
  tag_step reaches =
      steps_obey.stores frames_limit (object_of m ∷ []) x q (object_of m) tag_inst x tag_leads.place tag_words _ reaches tag_stored.1
      ((spots_lead.inner x q (box_place m number f t into) box inner 0 s.word s.there).1 tag_words)

  pub tag_changes : (sides m).changes (Only i) k k x tag_world
  tag_changes = changes_on m b number f t into far box inner zero_value known i p q k w x s worlds tag_words (begun m.adts t (Some v)) tag_kind
      tag_stands (λ n h. absurd (tag_bare n h)) tag_named tag_leads_to

  pub tag_alike : (sides m).worlds k w tag_world
  tag_alike = alike_on m b number f t into far box inner zero_value known i p q k w x s worlds tag_words (begun m.adts t (Some v)) tag_kind
      tag_stands (λ n h. absurd (tag_bare n h)) tag_named tag_leads_to

  pub tag_goes : (n : ℕ) → Reaches (object_of m ∷ []) x q (object_of m) tag_inst → place m q < place m tag_process
      → ((now : Facts) (v' : Shared) (y : World) → Builds m number f t into (suc far) box tag_words (begun m.adts t (Some v)) known now i y p tag_process
      → HoldTheSame m now i y p tag_process → (sides m).worlds now v' y → Next m b i p n now v' y tag_process)
      → Next m b i p (suc n) k w x q
  tag_goes n reaches further_on does =
      let steps = tag_step reaches in
      let live = b.there_again x tag_world q tag_process steps worlds.0.closed (λ c h. hold.same.live c (hold.same.roots c h)) in
      steps_silently m b i p (suc n) k k w x tag_world q tag_process steps tag_changes tag_alike further_on
      (builds_way m number f t into b n (suc far) box tag_words (begun m.adts t (Some v)) known i p tag_process k tag_world tag_builds
      (builds_hold m number f t into b (suc far) box tag_words (begun m.adts t (Some v)) known i p tag_process k tag_world tag_builds w tag_alike live) does)

some_first : (m : typed.Module) (b : Base m) (t : Ty) (v part into from : ℕ) → IsTagged m.adts t (Some v) → IsSmall m t part
    → (part_of m t part ≡ ty.Nothing → ⊥) → (k : Facts) (i : ℕ) (x : World) (p : code.Process) (q : Process) (r : (sides m).ready k i x p q)
    → (here : slice_get p.frame.code p.frame.pc ≡ Some (instr m t (Some v) 0 part into from)) → IsAptFirst m r.0.stands.is.known t part into from
    → RowGoes m k i x p q
some_first m b t v part into from tagged small some k i x p q r here apt =
    let ready = r.0 in
    let number = ready.stands.is.number in
    let f = ready.stands.is.function in
    let found = found_so m t (Some v) part into from b i p here k x q ready apt in
    let it = instr m t (Some v) 0 part into from in
    let in_code = code_here m k i x p q ready it here in
    let row = b.row_stands number f p.frame.pc it ready.stands.is.there in_code in
    let blank = blank_site m f.of.answer (of_function m f) p.frame.pc in
    let tail = tail_of m t (Some v) 0 part into from b i p here number f ready.stands.is.there in_code row ready.stands.is.known found.task blank in
    let long : size_at m f.of.answer (of_function m f) p.frame.pc (Some it) ≡ suc (suc (length tail)) = refl in
    let more = some_long tail (moved_some m.adts (part_of m t part) some _ _ _ _) in
    let way = way_from m t (Some v) 0 part into from b i p here number f ready.stands.is.there in_code row ready.stands.is.known found.task some
    (λ e. some (nowhere_nothing (part_of m t part) e)) small 2 refl refl refl (omega (arith, long)) in
    starts m t (Some v) part into from b i p here k x q ready (suc way.0) found.clean found.few found.laid (omega (arith, long)) r.1
    (λ box u now z y s h e.
    let at = tag_builds m b t v tagged number f into ready.stands.is.known i p u now z y 1 box s h e in
    tag_goes m b t v tagged number f into ready.stands.is.known i p u now z y 1 box s h e way.0
    (reaches_on m t (Some v) 0 part into from b i p here number f ready.stands.is.there in_code row ready.stands.is.known found.task 1 box
    (new_words m.adts t) (zero_of m.adts t) u now z y s h e (tag_inst m b t v tagged number f into ready.stands.is.known i p u now z y 1 box s h e) refl)
    (further m b i p number f it ready.stands.is.there in_code refl 1 u (tag_process m b t v tagged number f into ready.stands.is.known i p u now z y 1 box s h e)
    (omega (arith, long, more)) s.pc at.pc)
    (λ then z' y' s' h' e'.
    way.1 box (tag_words m b t v tagged number f into ready.stands.is.known i p u now z y 1 box s h e)
    (tag_process m b t v tagged number f into ready.stands.is.known i p u now z y 1 box s h e) then z' y'
    (subst (λ (c : Value). Builds m number f t into 2 box (tag_words m b t v tagged number f into ready.stands.is.known i p u now z y 1 box s h e) c
    ready.stands.is.known then i y' p (tag_process m b t v tagged number f into ready.stands.is.known i p u now z y 1 box s h e)) (sym found.value_so) s')
    h' e' tt))

-- ---- an operand that has no value: the row's last instruction is the one in front of it

none_lacking : (m : typed.Module) (b : Base m) (t : Ty) (part into from : ℕ) → part_of m t part ≡ ty.Nothing
    → (k : Facts) (i : ℕ) (x : World) (p : code.Process) (q : Process) (r : (sides m).ready k i x p q)
    → (here : slice_get p.frame.code p.frame.pc ≡ Some (instr m t None 0 part into from)) → IsAptFirst m r.0.stands.is.known t part into from
    → RowGoes m k i x p q
none_lacking m b t part into from lacks k i x p q first_ready here apt = (
  0,
  (
    first_ready.1,
    λ now y w left hold worlds.
        let ready = first_ready.0 in
        let later = b.stands_later k now i x y [] Awaited p q ready.stands left hold in
        let same = later.1 in
        let it = instr m t None 0 part into from in
        let r : Ready m now i y p q = record {
          stands = later.0;
          pc = ready.pc
              ∙ ap (λ (n : ℕ). place_of m n ready.stands.is.function p.frame.pc) (sym same.number)
              ∙ ap (λ (f : typed.Function). place_of m later.0.is.number f p.frame.pc) (sym same.function);
          spare = ap (λ (f : typed.Function). word_at q.frame.words (pos (spare_place m.adts (types_of m f)))) same.function ∙ ready.spare;
          none_made = ready.none_made;
        } in
        let is = later.0.is in
        let apt_now = subst (λ (ks : held.Slots). IsAptFirst m ks t part into from) (sym same.known) apt in
        let found = found_so m t None part into from b i p here now y q r apt_now in
        let code_is = code_here m now i y p q r it here in
        let row = b.row_stands is.number is.function p.frame.pc it is.there code_is in
        let type = type_number m (OfRecord t) in
        let typed_so = objects_have.types m is.number is.function p.frame.pc it (OfRecord t) is.there code_is (inl refl) in
        let stored = stored_there m b now i w y p q r hold worlds it here t found.laid into found.few found.clean type typed_so in
        let step = goes_new m b now i w y p q r hold worlds it here t found.laid into found.few found.clean type typed_so refl in
        let built = builds_then m b now i w y p q r hold worlds it here t found.laid into found.few found.clean stored in
        let facts = facts_then m b now i w y p q r hold worlds it here t found.laid into found.few found.clean in
        let world = world_then m b now i w y p q r hold worlds it here t found.laid into found.few found.clean in
        let u = process_then m b now i w y p q r hold worlds it here t found.laid into found.few found.clean in
        let alike = new_alike m i now w y worlds q.frame.serial (new_words m.adts t) (new_bare m.adts t) in
        let live = b.there_again y world q u step worlds.0.closed (λ c h. hold.same.live c (hold.same.roots c h)) in
        let hold_then = builds_hold m is.number is.function t into b 1 (next_serial y) (new_words m.adts t) (zero_of m.adts t) is.known i p u facts world
        built w alike live in
        let s = subst (λ (z : Value). Builds m is.number is.function t into 1 (next_serial y) (new_words m.adts t) z is.known facts i world p u)
        (sym found.value_so) built in
        let size : size_at m is.function.of.answer (of_function m is.function) p.frame.pc (Some it) ≡ 1 =
        ap (λ (z : Ty). length (lone_code (blank_site m is.function.of.answer (of_function m is.function) p.frame.pc) t None part into from z)) lacks in
        let g = ap (λ (c : Option Instr). size_at m is.function.of.answer (of_function m is.function) p.frame.pc c) code_is in
        let e = r.pc in
        let ready_then = lacking_ready m t None 0 part into from b i p here is.number is.function is.there code_is row is.known found.task lacks 1
        (next_serial y) (new_words m.adts t) u facts w world s hold_then alike (suc q.frame.pc) (omega (arith, e, size, g)) in
        let after_now = after m t None 0 part into from b i p here is.number is.function is.there code_is row is.known found.task lacks 1 (next_serial y)
        (new_words m.adts t) u facts w world s hold_then alike in
        stepped (sides m) (place m) (λ l z r u. Way (sides m) (place m) 0 l i z r u) now facts i w y world p q u step
        (new_changes m i now w y worlds q.frame.serial (new_words m.adts t) (new_bare m.adts t)) w after_now
        (lacking_does m t None 0 part into from b i p here is.number is.function is.there code_is row is.known found.task lacks 1 (next_serial y)
        (new_words m.adts t) u facts w world s hold_then alike) alike
        (ready_then, b.holds_again facts i w world after_now u ready_then alike live),
  ),
)

some_lacking : (m : typed.Module) (b : Base m) (t : Ty) (v part into from : ℕ) → IsTagged m.adts t (Some v) → part_of m t part ≡ ty.Nothing
    → (k : Facts) (i : ℕ) (x : World) (p : code.Process) (q : Process) (r : (sides m).ready k i x p q)
    → (here : slice_get p.frame.code p.frame.pc ≡ Some (instr m t (Some v) 0 part into from)) → IsAptFirst m r.0.stands.is.known t part into from
    → RowGoes m k i x p q
some_lacking m b t v part into from tagged lacks k i x p q r here apt =
    let ready = r.0 in
    let number = ready.stands.is.number in
    let f = ready.stands.is.function in
    let known = ready.stands.is.known in
    let found = found_so m t (Some v) part into from b i p here k x q ready apt in
    let it = instr m t (Some v) 0 part into from in
    let in_code = code_here m k i x p q ready it here in
    let row = b.row_stands number f p.frame.pc it ready.stands.is.there in_code in
    let size : size_at m f.of.answer (of_function m f) p.frame.pc (Some it) ≡ 2 =
    ap (λ (z : Ty). length (lone_code (blank_site m f.of.answer (of_function m f) p.frame.pc) t (Some v) part into from z)) lacks in
    let g = ap (λ (c : Option Instr). size_at m f.of.answer (of_function m f) p.frame.pc c) in_code in
    starts m t (Some v) part into from b i p here k x q ready 0 found.clean found.few found.laid (omega (arith, size)) r.1
    (λ box u now z y s h e.
    let world = tag_world m b t v tagged number f into known i p u now z y 1 box s h e in
    let then = tag_process m b t v tagged number f into known i p u now z y 1 box s h e in
    let words = tag_words m b t v tagged number f into known i p u now z y 1 box s h e in
    let built = tag_builds m b t v tagged number f into known i p u now z y 1 box s h e in
    let alike = tag_alike m b t v tagged number f into known i p u now z y 1 box s h e in
    let step = tag_step m b t v tagged number f into known i p u now z y 1 box s h e
    (reaches_on m t (Some v) 0 part into from b i p here number f ready.stands.is.there in_code row known found.task 1 box
    (new_words m.adts t) (zero_of m.adts t) u now z y s h e (tag_inst m b t v tagged number f into known i p u now z y 1 box s h e) refl) in
    let live = b.there_again y world u then step e.0.closed (λ c a. h.same.live c (h.same.roots c a)) in
    let hold_then = builds_hold m number f t into b 2 box words (begun m.adts t (Some v)) known i p then now world built z alike live in
    let s' = subst (λ (c : Value). Builds m number f t into 2 box words c known now i world p then) (sym found.value_so) built in
    let pc = built.pc in
    let ready_then = lacking_ready m t (Some v) 0 part into from b i p here number f ready.stands.is.there in_code row known found.task lacks 2 box words
    then now z world s' hold_then alike (suc u.frame.pc) (omega (arith, pc, size, g)) in
    let after_now = after m t (Some v) 0 part into from b i p here number f ready.stands.is.there in_code row known found.task lacks 2 box words then now
    z world s' hold_then alike in
    stepped (sides m) (place m) (λ l z r u. Way (sides m) (place m) 0 l i z r u) now now i z y world p u then step
    (tag_changes m b t v tagged number f into known i p u now z y 1 box s h e) z after_now
    (lacking_does m t (Some v) 0 part into from b i p here number f ready.stands.is.there in_code row known found.task lacks 2 box words then now z world
    s' hold_then alike) alike
    (ready_then, b.holds_again now i z world after_now then ready_then alike live))

pub first_places_go : FirstPlacesGo
first_places_go m b t None part into from tagged small k i x p q r here apt = elim (nothing_or (part_of m t part)) [
  | inl lacks ↦ none_lacking m b t part into from lacks k i x p q r here apt
  | inr some ↦ none_first m b t part into from small some k i x p q r here apt
]
first_places_go m b t (Some v) part into from tagged small k i x p q r here apt = elim (nothing_or (part_of m t part)) [
  | inl lacks ↦ some_lacking m b t v part into from tagged lacks k i x p q r here apt
  | inr some ↦ some_first m b t v part into from tagged small some k i x p q r here apt
]
