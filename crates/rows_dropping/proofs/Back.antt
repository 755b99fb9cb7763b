-- The record to which the spare word refers comes to be that of a slot's value.
use Rattle.std.proofs.Common.{◌≡◌, ◌⊎◌, ℕ, suc, pos, ◌+◌, ◌*◌, ◌/◌, ◌<◌, ◌≤◌, List, [], ◌∷◌, length, Option, Some}
use Rattle.std.proofs.Common.{refl, sym, ap, ◌∙◌, subst, arith, inl, inr}
use Rattle.std.specs.Prelude.{slice_get}
use Rattle.process_model.specs.Process.{Went}
use Rattle.system_model.specs.Limits.{frames_limit}
use Rattle.limbo_types.specs.Types.{Ty}
use Rattle.limbo_layout.specs.Adts.{Has}
use Rattle.limbo_typed.specs.Typed as typed
use Rattle.limbo_meaning.specs.Process.{Shared}
use Rattle.limbo_meaning.specs.Values.{Value}
use Rattle.core_code.specs.Machine as code
use Rattle.core_code.specs.Slots.{Holds}
use Rattle.core_typing.specs.Held as held
use Rattle.core_typing.specs.Held.{Of}
use Rattle.dis_isa.specs.declared.inst.Inst.{Inst}
use Rattle.dis_isa.specs.declared.inst.Middle.TheVariants as middle
use Rattle.dis_isa.specs.declared.op.Op.TheVariants as op
use Rattle.dis_meaning.specs.Words.{Word, Refer, Access, Found, ◌>>=◌, word_at, reference}
use Rattle.dis_meaning.specs.Process.{Process}
use Rattle.dis_memory.specs.Blocks.{World}
use Rattle.dis_memory.specs.Places.{source_reference}
use Rattle.dis_memory.specs.Step.{obey}
use Rattle.value_words.specs.Facts.{Facts}
use Rattle.value_frames.specs.Frames.{Boxed, form_of, answer_place, spare_place, number_place, reference_place, frame_bytes, frame_references}
use Rattle.value_frames.specs.Types.{AreOf}
use Rattle.value_frames.specs.Standing.{SlotStands, a_value, ValueStands, NamesOnly}
use Rattle.value_frames.specs.Slots.{ElseAsWas, IsKept, OneSlotChanged}
use Rattle.value_frames.proofs.Slots.{slots_change}
use Rattle.value_frames.proofs.Replacing.{kinds_stay}
use Rattle.value_frames.proofs.Later.{frames_later}
use Rattle.value_moves.specs.Operands.{inst, own}
use Rattle.value_moves.specs.Spots.{Leads}
use Rattle.value_moves.proofs.Leading.{spots_lead}
use Rattle.value_moves.proofs.Changing.{low_or_high}
use Rattle.value_code.specs.Objects.{object_of}
use Rattle.number_effects.specs.Giving.{with_word, StoresWord}
use Rattle.number_effects.specs.Stepping.{Reaches}
use Rattle.number_effects.proofs.Reading.{operands_are_read}
use Rattle.number_effects.proofs.Records.{words_move}
use Rattle.number_effects.proofs.Stepping.{steps_obey}
use Rattle.value_follows.specs.Stands.{types_of, Awaited, FrameIs}
use Rattle.value_follows.specs.Sides.{sides}
use Rattle.value_follows.proofs.Putting.{word_same}
use Rattle.value_follows.proofs.Standing.{moved_on}
use Rattle.rows_dropping.proofs.Spare.{OnWay, Mine, Changed}
use Rattle.rows_dropping.proofs.Making.{telling, told_so, told_changed}
use Rattle.rows_dropping.proofs.Boxes.{Boxes, boxes_later}

module _ (m : typed.Module) (i : ℕ) (p : code.Process) (known : held.Slots) (busy : List ℕ) (far : ℕ) (k : Facts) (w : Shared) (x : World)
    (q : Process) (s : OnWay m i p known busy far k x q) (worlds : (sides m).worlds k w x) (t : Ty) (form : form_of t ≡ Boxed) (v : Value)
    (c : Mine m i p s.stands.is.words.own (spare_place m.adts (types_of m s.stands.is.function)) (λ k ws. Boxes m.adts t k ws v) k x q)
    (r : ℕ) (below : r < length p.frame.slots)
    (old : (o : Option ℕ) × (word_at q.frame.words (pos (reference_place m.adts (types_of m s.stands.is.function) r)) ≡ Found (Refer o)))
    (live : List ℕ) (names : NamesOnly live v) where
  abbrev is : FrameIs m k i x busy p.frame q.frame
  is = s.stands.is

  abbrev types : List Ty
  types = types_of m is.function

  abbrev spare_at : ℕ
  spare_at = spare_place m.adts types

  abbrev n_at : ℕ
  n_at = number_place m.adts types r

  abbrev r_at : ℕ
  r_at = reference_place m.adts types r

  abbrev pub back_inst : Inst
  back_inst = inst op.Movp (own spare_at) middle.None (own r_at)

  abbrev pub facts_back : Facts
  facts_back = telling m i k w x c.block c.inner worlds c.there c.unknown c.made (λ n. 0 < code.process_names p n) c.covered

  abbrev pub words_back : List Word
  words_back = with_word q.frame.words r_at (Refer (Some c.block))

  abbrev lead : Leads x q (own r_at) q.frame.words r_at
  lead = (spots_lead.own x q r_at).0

  spare_read : source_reference x q (own spare_at) ≡ Found (Some c.block)
  spare_read =
      operands_are_read.source_referring x q (own spare_at) q.frame.words spare_at (spots_lead.own x q spare_at).0
      ∙ ap (λ (a : Access Word). a >>= reference) c.word

  back_stores : StoresWord (obey frames_limit (object_of m) x q back_inst op.Movp) x q lead.place q.frame.words r_at (Refer (Some c.block))
  back_stores = words_move.reference frames_limit (object_of m) x q back_inst (Some c.block) q.frame.words r_at lead old.0 refl spare_read old.1

  abbrev pub process_back : Process
  process_back = moved_on m k i x busy Awaited p q s.stands (suc q.frame.pc) words_back q.made

  pub back_steps : Reaches (object_of m ∷ []) x q (object_of m) back_inst → (sides m).code.step x q ≡ Went x process_back
  back_steps reaches =
      steps_obey.stores frames_limit (object_of m ∷ []) x q (object_of m) back_inst x lead.place words_back _ reaches back_stores.1
      ((spots_lead.own x q r_at).1 words_back)

  pub back_change : Changed m i p is.words.own q.frame.serial c.block k facts_back x x
  back_change =
      told_changed m i k w x c.block c.inner worlds c.there c.unknown c.made (λ n. 0 < code.process_names p n) c.covered p is.words.own
      q.frame.serial c.apart c.formed

  pub back_told : Boxes m.adts t facts_back c.inner v
  back_told = boxes_later m.adts t k facts_back c.inner v back_change.grows c.so

  -- what lies in front of the slots is as it was
  pub back_stays : (at : ℕ) → 4 * (at / 4) + 4 ≤ r_at → word_at words_back (pos at) ≡ word_at q.frame.words (pos at)
  back_stays at low = word_same q.frame.words words_back at (back_stores.0.changes.words (at / 4) (inl low))

  pub back_spare : word_at words_back (pos spare_at) ≡ Found (Refer (Some c.block))
  back_spare = back_stays spare_at (omega arith) ∙ c.word

  pub back_answer : word_at words_back (pos answer_place) ≡ word_at q.frame.words (pos answer_place)
  back_answer = back_stays answer_place (omega arith)

  back_else : ElseAsWas q.frame.words words_back n_at 8
  back_else = record {
    each = λ u no. elim (low_or_high (4 * u) n_at) [
      | inl low ↦ back_stores.0.changes.words u (inl (omega (arith, low)))
      | inr high ↦ elim (low_or_high (4 * u) (n_at + 8)) [
        | inl within ↦ absurd (no (high, within))
        | inr past ↦ back_stores.0.changes.words u (inr (omega (arith, past)))
      ]
    ];
  }

  pub back_kind : AreOf (frame_bytes m.adts types (length p.frame.slots)) (frame_references m.adts types (length p.frame.slots)) words_back
  back_kind =
      kinds_stay.all (frame_bytes m.adts types (length p.frame.slots)) (frame_references m.adts types (length p.frame.slots)) q.frame.words words_back
      is.words.kind back_stores.0.changes.many back_stores.0.changes.refer back_stores.0.changes.referred
      (back_stores.0.ranged (λ z e. absurd cc) is.words.kind.ranged)

  slot_stands : SlotStands m.adts facts_back x.heap q.frame.serial words_back n_at r_at (Of t live) (Holds v) []
  slot_stands =
      a_value words_back n_at r_at t live v
      (subst (λ f. ValueStands m.adts facts_back words_back n_at r_at f t v) (sym form) (
        c.block,
        c.inner,
        back_stores.0.there,
        record {
          carries = told_so m i k w x c.block c.inner worlds c.there c.unknown c.made (λ n. 0 < code.process_names p n) c.covered;
          kind = c.so.0;
        },
        back_told.1,
      )) names

  own_kept : (u b : ℕ) → Has (is.words.own u) b → IsKept facts_back x.heap x.heap b
  own_kept u b h =
      let later = frames_later m.adts k x.heap q.frame.serial busy types is.known p.frame.variables p.frame.slots q.frame.words is.words in
      back_change.keeps b (later.owned u b h).0 (is.mine u b h) (λ e. back_change.apart u (subst (λ n. Has (is.words.own u) n) e h))

  pub back_slot : OneSlotChanged m.adts k facts_back x.heap x.heap q.frame.serial busy types is.known p.frame.variables p.frame.slots q.frame.words
      words_back is.words r (Of t live) (Holds v) []
  back_slot =
      slots_change.slot m.adts k facts_back x.heap x.heap q.frame.serial busy types is.known p.frame.variables p.frame.slots q.frame.words words_back r
      (Of t live) (Holds v) [] is.words back_change.grows below back_else back_kind slot_stands tt (λ u b ne h. (λ e. e, own_kept u b h))

  -- each block that a slot has then is one that it had
  pub back_own : (u b : ℕ) → Has (back_slot.after.own u) b → Has (is.words.own u) b
  back_own u b h = elim (low_or_high u r) [
    | inl low ↦ subst (λ o. Has o b) (back_slot.elsewhere u (λ e. omega (arith, e, low))) h
    | inr high ↦ elim (low_or_high r u) [
      | inl more ↦ subst (λ o. Has o b) (back_slot.elsewhere u (λ e. omega (arith, e, more))) h
      | inr less ↦
          let same : u ≡ r = omega (arith, high, less) in
          absurd (subst (λ o. Has o b) (ap back_slot.after.own same ∙ back_slot.here) h)
    ]
  ]

  -- all words but that one are as they were
  pub back_word : (u : ℕ) → (4 * u + 4 ≤ r_at) ⊎ (r_at + 4 ≤ 4 * u) → slice_get words_back u ≡ slice_get q.frame.words u
  back_word u o = back_stores.0.changes.words u o
