-- A reference that comes into a slot which names nothing, and two processes that stand for one another then.
use Rattle.std.proofs.Common.{◌≡◌, ℕ, ℤ, Bool, if◌then◌else◌, zero, suc, pos, ◌+◌, ◌*◌, ◌/◌, ◌<◌, ◌≤◌, List, [], ◌∷◌, length, Option, Some, None, refl, sym, ap, ◌∙◌, subst, arith, inl, inr}
use Rattle.std.specs.Prelude.{slice_get}
use Rattle.heap_model.specs.Heap.{at}
use Rattle.limbo_types.specs.Types as ty
use Rattle.limbo_types.specs.Types.{Ty}
use Rattle.limbo_layout.specs.Adts.{Def, Has}
use Rattle.limbo_values.specs.declared.number.Kind.TheVariants as kind
use Rattle.limbo_typed.specs.Typed as typed
use Rattle.limbo_meaning.specs.Process.{Shared}
use Rattle.limbo_meaning.specs.Values.{Value, Num, Ref, Chars, Array, Parts, references, one, among}
use Rattle.system_model.specs.Limits.{frames_limit}
use Rattle.core_code.specs.Code.{Instr, Known}
use Rattle.core_code.specs.Machine as code
use Rattle.core_code.specs.Slots as core
use Rattle.core_code.specs.Slots.{Holds}
use Rattle.core_typing.specs.Held as held
use Rattle.core_typing.specs.Held.{Of}
use Rattle.core_typing.specs.Needs.{IsKnown, IsClean, NamesNothing}
use Rattle.core_typing.specs.Written.{type_known}
use Rattle.dis_isa.specs.declared.inst.Operand as isa
use Rattle.dis_isa.specs.declared.inst.Middle.TheVariants as middle
use Rattle.dis_isa.specs.declared.op.Op.TheVariants as op
use Rattle.dis_meaning.specs.Words.{Word, Refer, Found, ◌>>=◌, word_at, reference}
use Rattle.dis_meaning.specs.Process.{Process}
use Rattle.dis_memory.specs.Blocks.{World}
use Rattle.dis_memory.specs.Places.{source_reference}
use Rattle.value_words.specs.Contents.{AreInRange}
use Rattle.value_words.specs.Facts.{Facts, IsName}
use Rattle.value_words.specs.Forms as forms
use Rattle.value_words.proofs.Covered.{same_names}
use Rattle.value_words.specs.Stands.{Stands, a_number, a_text, a_name, an_array, no_words, a_tuple, an_adt}
use Rattle.value_frames.specs.Frames.{answer_place, spare_place, number_place, reference_place, frame_bytes, frame_references}
use Rattle.value_frames.specs.Types.{AreOf}
use Rattle.value_frames.specs.Standing.{SlotStands, a_value, nothing_there, NamesOnly}
use Rattle.value_frames.specs.Slots.{ElseAsWas}
use Rattle.value_frames.proofs.Slots.{slots_change, put_long}
use Rattle.value_frames.proofs.Replacing.{kinds_stay}
use Rattle.value_frames.proofs.Later.{frames_later}
use Rattle.value_moves.specs.Changing.{Changes}
use Rattle.value_moves.specs.Operands.{Code, inst, own}
use Rattle.value_moves.specs.Spots.{Leads}
use Rattle.value_moves.proofs.Changing.{low_or_high}
use Rattle.value_moves.proofs.Leading.{spots_lead}
use Rattle.value_code.specs.Data.{nil_word}
use Rattle.value_code.specs.Objects.{object_of, of_function, size_at, placed, blank_site}
use Rattle.value_code.specs.Code.{Site, code_of, let_go}
use Rattle.number_effects.specs.Giving.{with_word}
use Rattle.number_effects.proofs.Reading.{operands_are_read}
use Rattle.number_effects.proofs.Records.{words_move}
use Rattle.number_effects.proofs.Stepping.{steps_obey}
use Rattle.value_follows.specs.Stands.{Ready, GoesOn, place_of, types_of}
use Rattle.value_follows.specs.Sides.{sides, HoldTheSame, program}
use Rattle.value_follows.specs.Rows.{Base, site_of, KnownGoes, InstrGoes}
use Rattle.value_follows.proofs.Standing.{finds, instance_here, code_here, at_slots, at_words, ready_on}
use Rattle.value_follows.proofs.Slots.{uses}
use Rattle.value_follows.proofs.Single.{Once, single, both_go}
use Rattle.value_follows.proofs.Jumps.{row as row_at, first, next_place, behind_it}
use Rattle.value_follows.proofs.Putting.{at_rest, word_same}
use Rattle.value_follows.proofs.Numbers.{begins, numbers_go}

-- ---- the word that refers

module _ (m : typed.Module) (k : Facts) (i : ℕ) (x : World) (p : code.Process) (q : Process) (r : Ready m k i x p q) (s : ℕ) (l : s < length p.frame.slots) where
  abbrev types : List Ty
  types = types_of m r.stands.is.function

  abbrev to : ℕ
  to = reference_place m.adts types s

  module _ (others : List Word) (changes : Changes q.frame.words others to 4) (ranged : AreInRange others) where
    else_as_was : ElseAsWas q.frame.words others (number_place m.adts types s) 8
    else_as_was = record {
      each = λ w no. elim (low_or_high (4 * w) (number_place m.adts types s)) [
        | inl low ↦ changes.words w (inl (omega (arith, low)))
        | inr high ↦ elim (low_or_high (4 * w) (number_place m.adts types s + 8)) [
          | inl within ↦ absurd (no (high, within))
          | inr past ↦ changes.words w (inr (omega (arith, past)))
        ]
      ];
    }

    stays : (at : ℕ) → 4 * (at / 4) + 4 ≤ to → word_at others (pos at) ≡ word_at q.frame.words (pos at)
    stays at low = word_same q.frame.words others at (changes.words (at / 4) (inl low))

    kind_stays : AreOf (frame_bytes m.adts types (length p.frame.slots)) (frame_references m.adts types (length p.frame.slots)) others
    kind_stays =
        kinds_stay.all (frame_bytes m.adts types (length p.frame.slots)) (frame_references m.adts types (length p.frame.slots)) q.frame.words others
        r.stands.is.words.kind changes.many changes.refer changes.referred ranged

    -- what the slot stands for then is another value
    pub ready_referring : (t : Ty) (live : List ℕ) (v : Value)
        → SlotStands m.adts k x.heap q.frame.serial others (number_place m.adts types s) to (Of t live) (Holds v) []
        → (place : ℕ) → place ≡ place_of m r.stands.is.number r.stands.is.function (suc p.frame.pc)
        → GoesOn m r.stands.is.function (suc p.frame.pc) (held.put r.stands.is.known s (Of t live))
        → Ready m k i x (at_slots m k i x p q r (suc p.frame.pc) (core.put p.frame.slots s (Holds v))) (at_words m k i x p q r place others)
    ready_referring t live v stands place there goes =
        let are = r.stands.is.words in
        let owned = (frames_later m.adts k x.heap q.frame.serial [] types r.stands.is.known p.frame.variables p.frame.slots q.frame.words are).owned in
        let after = slots_change.slot m.adts k k x.heap x.heap q.frame.serial [] types r.stands.is.known p.frame.variables p.frame.slots
        q.frame.words others s (Of t live) (Holds v) [] are
        (record { facts = λ n f e. e; makers = λ n j e. e; forms = λ n o e. e }) l else_as_was kind_stays stands tt
        (λ u b ne h. (λ e. e, ((owned u b h).0, refl))) in
        ready_on m k i x p q r (suc p.frame.pc) place (held.put r.stands.is.known s (Of t live)) (core.put p.frame.slots s (Holds v)) others
        (put_long p.frame.slots s (Holds v)) after.after
        (λ u b h. elim (low_or_high u s) [
          | inl low ↦ r.stands.is.mine u b (subst (λ o. Has o b) (after.elsewhere u (λ e. omega (arith, e, low))) h)
          | inr high ↦ elim (low_or_high s u) [
            | inl more ↦ r.stands.is.mine u b (subst (λ o. Has o b) (after.elsewhere u (λ e. omega (arith, e, more))) h)
            | inr less ↦
                let same : u ≡ s = omega (arith, high, less) in
                absurd (subst (λ o. Has o b) (ap after.after.own same ∙ after.here) h)
          ]
        ])
        goes there
        (stays answer_place (omega arith))
        (stays (spare_place m.adts types) (omega arith))

-- ---- the word of the module's data that refers to nothing

module _ (defs : List Def) (k : Facts) (words : List Word) where
  nil_name : (r n : Option ℕ) → n ≡ None → IsName k None r n → r ≡ None
  nil_name None n e i = refl
  nil_name (Some b) None e i = absurd i
  nil_name (Some b) (Some n) e i = absurd cc

  nil_there : (at : ℕ) (t : Ty) (v : Value) → t ≡ ty.Nil → v ≡ Ref None → Stands defs k words at t v → word_at words (pos at) ≡ Found (Refer None)
  nil_there _ _ _ e f (a_number at kind.Byte z g i) = absurd cc
  nil_there _ _ _ e f (a_number at kind.Int z g i) = absurd cc
  nil_there _ _ _ e f (a_number at kind.Big z g i) = absurd cc
  nil_there _ _ _ e f (a_text at r s g i) = absurd cc
  nil_there _ _ _ e f (a_name at t r n i g h) =
      let same : n ≡ None = cc in
      g ∙ ap (λ (o : Option ℕ). Found (Refer o)) (nil_name r n same (subst (λ (u : Ty). IsName k (forms.form_of u) r n) e h))
  nil_there _ _ _ e f (an_array at t r p g i) = absurd cc
  nil_there _ _ _ e f (no_words at) = absurd cc
  nil_there _ _ _ e f (a_tuple at ts rs vs l all) = absurd cc
  nil_there _ _ _ e f (an_adt at n d rs vs g l all) = absurd cc

module _ (m : typed.Module) (b : Base m) (k : Facts) (i : ℕ) (w : Shared) (x : World) (p : code.Process) (q : Process) (ready : Ready m k i x p q) (hold : HoldTheSame m k i x p q) (worlds : (sides m).worlds k w x) (instr : Instr) (here : slice_get p.frame.code p.frame.pc ≡ Some instr) where
  pub nil_read : source_reference x q nil_word ≡ Found None
  nil_read =
      let instance = instance_here m b k i w x p q [] ready.stands.is hold worlds.0 in
      let constant = instance.2 (placed m 4 ty.Nil (Ref None)) (inr (inl refl)) in
      operands_are_read.source_referring x q nil_word instance.0 4 (spots_lead.of_module x q 0 instance.0 4 instance.1).0
      ∙ ap (λ a. a >>= reference) (nil_there m.adts k instance.0 4 ty.Nil (Ref None) refl refl constant.stands)

  -- A reference comes into a slot, where nothing is named in it, and it stands for another value.
  module _ (s : ℕ) (l : s < length p.frame.slots) (clean : IsClean (held.slot ready.stands.is.known s)) where
    abbrev at_reference : ℕ
    at_reference = reference_place m.adts (types_of m ready.stands.is.function) s

    abbrev leads_there : Leads x q (own at_reference) q.frame.words at_reference
    leads_there = (spots_lead.own x q at_reference).0

    pub reference_goes : (source : isa.Operand) (o : Option ℕ) → source_reference x q source ≡ Found o
        → size_at m ready.stands.is.function.of.answer (of_function m ready.stands.is.function) p.frame.pc (Some instr) ≡ 1
        → begins m b k i w x p q ready hold worlds instr here (inst op.Movp source middle.None (own at_reference))
        → (t : Ty) (live : List ℕ) (v : Value)
        → ((words : List Word) → word_at words (pos at_reference) ≡ Found (Refer o)
        → SlotStands m.adts k x.heap q.frame.serial words (number_place m.adts (types_of m ready.stands.is.function) s) at_reference (Of t live) (Holds v) [])
        → GoesOn m ready.stands.is.function (suc p.frame.pc) (held.put ready.stands.is.known s (Of t live))
        → (sides m).program.step w p ≡ code.goes_on w p (core.put p.frame.slots s (Holds v)) → Once m b i p q k w x
    reference_goes source o read size is t live v stands goes does =
        let move = inst op.Movp source middle.None (own at_reference) in
        let rest = (at_rest m k i x p q ready s l clean).0 in
        let stored = words_move.reference frames_limit (object_of m) x q move o q.frame.words at_reference leads_there rest.0 refl read rest.1 in
        let others = with_word q.frame.words at_reference (Refer o) in
        let next = next_place m b k i w x p q ready hold worlds instr here 1 size in
        both_go m b i p q k w x hold worlds (at_slots m k i x p q ready (suc p.frame.pc) (core.put p.frame.slots s (Holds v)))
        (at_words m k i x p q ready (suc q.frame.pc) others)
        (steps_obey.stores frames_limit (object_of m ∷ []) x q (object_of m) move x leads_there.place others _
        (first m b k i w x p q ready hold worlds instr here move is) stored.1 ((spots_lead.own x q at_reference).1 others))
        does
        (ready_referring m k i x p q ready s l others stored.0.changes (stored.0.ranged (λ z e. absurd cc) ready.stands.is.words.kind.ranged)
        t live v (stands others stored.0.there) (suc q.frame.pc) (omega (arith, next)) goes)

-- ---- values that are known and no numbers

one_named : (rs : List (Option ℕ)) (k n : ℕ) → slice_get rs k ≡ Some (Some n) → 0 < among n rs
one_named [] k n e = absurd cc
one_named (r ∷ rs) zero n e =
    let f : r ≡ Some n = cc in
    let g : one n r ≡ 1 = ap (one n) f ∙ ap (λ (b : Bool). if b then 1 else 0) (same_names n) in
    omega (arith, g)
one_named (r ∷ rs) (suc k) n e = let h = one_named rs k n e in omega (arith, h)

names_none : (v : Value) → NamesNothing v → NamesOnly [] v
names_none v none k n e = let a = one_named (references v) k n e in let z = none n in absurd (omega (arith, a, z))

nil_only : (r : Option ℕ) → NamesNothing (Ref r) → r ≡ None
nil_only None none = refl
nil_only (Some n) none = absurd (names_none (Ref (Some n)) none 0 n refl)

-- what such a value stands for where the slot refers to nothing
known_stands : (defs : List Def) (k : Facts) (x : World) (frame : ℕ) (words : List Word) (n r : ℕ) (v : Value) → ((z : ℤ) → v ≡ Num z → ⊥) → IsKnown v → NamesNothing v
    → word_at words (pos r) ≡ Found (Refer None) → SlotStands defs k x.heap frame words n r (Of (type_known v) []) (Holds v) []
known_stands defs k x frame words n r (Num z) other given none e = absurd (other z refl)
known_stands defs k x frame words n r (Ref o) other given none e =
    a_value words n r ty.Nil [] (Ref o)
    (subst (λ (o : Option ℕ). Stands defs k words r ty.Nil (Ref o)) (sym (nil_only o none)) (a_name r ty.Nil None None tt e tt)) (names_none (Ref o) none)
known_stands defs k x frame words n r (Chars s) other given none e = absurd cc
known_stands defs k x frame words n r (Array a) other given none e = absurd cc
known_stands defs k x frame words n r (Parts vs) other given none e =
    a_value words n r ty.Nothing [] (Parts vs) (given, (None, e, nothing_there)) (names_none (Parts vs) none)

module _ (m : typed.Module) (b : Base m) (v : Value) (into : ℕ) (other : (z : ℤ) → v ≡ Num z → ⊥)
    (row : (c : Site) → code_of c (Known v into) ≡ let_go c.scene into ∷ []) where
  others_go : InstrGoes m (Known v into)
  others_go k i x p q ready here =
      single m b i p q k x ready (λ now w y r hold worlds.
      let is = r.stands.is in
      let instr = Known v into in
      let found = finds m is.function p.frame.pc is.known instr r.stands.goes (code_here m now i y p q r instr here) in
      let there = uses m now i y [] p.frame q.frame is p.frame.pc instr (code_here m now i y p q r instr here) in
      reference_goes m b now i w y p q r hold worlds instr here into there found.2
      nil_word None (nil_read m b now i w y p q r hold worlds instr here)
      (ap (λ (l : Code). length l) (row (blank_site m is.function.of.answer (of_function m is.function) p.frame.pc)))
      (ap (λ (l : Code). slice_get l 0)
      (row (site_of m is.number is.function p.frame.pc (row_at m b now i w y p q r hold worlds instr here).at)))
      (type_known v) [] v
      (λ words e. known_stands m.adts now y q.frame.serial words (number_place m.adts (types_of m is.function) into)
      (reference_place m.adts (types_of m is.function) into) v other
      found.0 found.1 e)
      (behind_it m b now i w y p q r hold worlds instr here 0 (suc p.frame.pc) (held.put is.known into (Of (type_known v) [])) (omega arith) refl)
      (ap (code.next frames_limit (program m) w p) here))

pub known_goes : KnownGoes
known_goes m b (Num z) into = numbers_go m b z into
known_goes m b (Ref r) into = others_go m b (Ref r) into (λ z e. absurd cc) (λ c. refl)
known_goes m b (Chars s) into = others_go m b (Chars s) into (λ z e. absurd cc) (λ c. refl)
known_goes m b (Array a) into = others_go m b (Array a) into (λ z e. absurd cc) (λ c. refl)
known_goes m b (Parts vs) into = others_go m b (Parts vs) into (λ z e. absurd cc) (λ c. refl)
