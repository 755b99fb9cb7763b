-- A number or a reference comes into a slot that names nothing, by one instruction that changes nothing else; or the instruction raises.
use Rattle.std.proofs.Common.{◌≡◌, ℕ, ℤ, suc, pos, ◌+◌, ◌*◌, ◌<◌, ◌≤◌, List, [], ◌∷◌, length, Option, Some, arith, inl, inr}
use Rattle.std.specs.Prelude.{slice_get}
use Rattle.limbo_types.specs.Types.{Ty}
use Rattle.limbo_values.specs.declared.number.Kind.{Kind}
use Rattle.limbo_values.specs.Numbers.{InRange}
use Rattle.limbo_typed.specs.Typed as typed
use Rattle.limbo_typed.specs.Fitting.{of_kind}
use Rattle.limbo_meaning.specs.Process.{Shared}
use Rattle.limbo_meaning.specs.Values.{Value, Num}
use Rattle.process_model.specs.Process.{Ends}
use Rattle.system_model.specs.Ending.{Broken}
use Rattle.system_model.specs.Limits.{frames_limit}
use Rattle.core_code.specs.Code.{Instr}
use Rattle.core_code.specs.Machine as code
use Rattle.core_code.specs.Slots as core
use Rattle.core_code.specs.Slots.{Holds}
use Rattle.core_typing.specs.Held as held
use Rattle.core_typing.specs.Held.{Of}
use Rattle.core_typing.specs.Needs.{IsClean}
use Rattle.dis_isa.specs.declared.inst.Inst.{Inst}
use Rattle.dis_meaning.specs.Numbers.{with_number_at}
use Rattle.dis_meaning.specs.Words.{Word, Refer, Found, Raises, word_at}
use Rattle.dis_meaning.specs.Process.{Process}
use Rattle.dis_memory.specs.Blocks.{World}
use Rattle.value_words.specs.Facts.{Facts}
use Rattle.value_frames.specs.Frames.{AsNumber, form_of, number_place, reference_place, frame_bytes, frame_references}
use Rattle.value_frames.specs.Types.{AreOf}
use Rattle.value_frames.specs.Standing.{NamesOnly, ValueStands, SlotStands, a_value}
use Rattle.value_frames.specs.Slots.{ElseAsWas}
use Rattle.value_frames.proofs.Replacing.{kinds_stay}
use Rattle.value_moves.specs.Changing.{bytes_in}
use Rattle.value_moves.specs.Operands.{own}
use Rattle.value_moves.proofs.Changing.{low_or_high, words_change}
use Rattle.value_moves.proofs.Leading.{spots_lead}
use Rattle.value_code.specs.Objects.{object_of, of_function, size_at}
use Rattle.number_effects.specs.Giving.{with_word}
use Rattle.number_effects.proofs.Giving.{results_go}
use Rattle.number_effects.proofs.Stepping.{steps_obey}
use Rattle.block_effects.specs.Stored.{Comes, After, NumberThere, ReferenceThere, AfterReference}
use Rattle.value_follows.specs.Stands.{types_of, GoesOn, Ready}
use Rattle.value_follows.specs.Sides.{sides, HoldTheSame}
use Rattle.value_follows.specs.Rows.{Base}
use Rattle.value_follows.proofs.Standing.{at_slots, at_words}
use Rattle.value_follows.proofs.Single.{Once, both_go, both_end}
use Rattle.value_follows.proofs.Jumps.{first, next_place}
use Rattle.value_follows.proofs.Numbers.{begins, leads, number_stored}
use Rattle.value_follows.proofs.Putting.{at_rest, old_word}
use Rattle.rows_moving.proofs.Putting.{ready_given}

module _ (m : typed.Module) (b : Base m) (k : Facts) (i : ℕ) (w : Shared) (x : World) (p : code.Process) (q : Process) (ready : Ready m k i x p q) (hold : HoldTheSame m k i x p q) (worlds : (sides m).worlds k w x) (instr : Instr) (here : slice_get p.frame.code p.frame.pc ≡ Some instr) where
  abbrev known : held.Slots
  known = ready.stands.is.known

  abbrev function : typed.Function
  function = ready.stands.is.function

  abbrev types : List Ty
  types = types_of m function

  -- both end alike
  pub raises : (inst : Inst) → begins m b k i w x p q ready hold worlds instr here inst → (text : List ℕ)
      → Comes frames_limit (object_of m) x q inst (Raises text) → (sides m).program.step w p ≡ Ends w (Broken text) → Once m b i p q k w x
  raises inst is text comes does =
      both_end m b i p q k w x worlds (Broken text)
      (steps_obey.raises frames_limit (object_of m ∷ []) x q (object_of m) inst text (first m b k i w x p q ready hold worlds instr here inst is) comes)
      does

  module _ (s : ℕ) (l : s < length p.frame.slots) (clean : IsClean (held.slot known s)) where
    abbrev n_at : ℕ
    n_at = number_place m.adts types s

    abbrev r_at : ℕ
    r_at = reference_place m.adts types s

    -- a number of a kind stands there now, or may be taken for one
    abbrev pub number_at_slot : (j : Kind) → form_of (of_kind j) ≡ AsNumber → NumberThere x q j (own n_at)
    number_at_slot j form =
        let old = (old_word m k i x p q ready s l clean).number j form in
        record { words = q.frame.words; byte = n_at; leads = leads m b k i w x p q ready hold worlds instr here s l clean; old = old.0; stands = old.1 }

    -- a word that refers does
    abbrev pub reference_at_slot : ReferenceThere x q (own r_at)
    reference_at_slot =
        let idle = (at_rest m k i x p q ready s l clean).0 in
        record { words = q.frame.words; byte = r_at; leads = (spots_lead.own x q r_at).0; old = idle.0; stands = idle.1 }

    module _ (size : size_at m function.of.answer (of_function m function) p.frame.pc (Some instr) ≡ 1) (inst : Inst)
        (is : begins m b k i w x p q ready hold worlds instr here inst) where
      pub number_given : (j : Kind) → form_of (of_kind j) ≡ AsNumber → (z : ℤ) → InRange j z → bytes_in j ≤ 4 → (live : List ℕ)
          → ((d : NumberThere x q j (own n_at)) (others : List Word) → with_number_at j d.words (pos d.byte) z ≡ Found others
          → Comes frames_limit (object_of m) x q inst (After x q d.leads.place others))
          → GoesOn m function (suc p.frame.pc) (held.put known s (Of (of_kind j) live))
          → (sides m).program.step w p ≡ code.goes_on w p (core.put p.frame.slots s (Holds (Num z))) → Once m b i p q k w x
      number_given j form z range few live comes goes does =
          let d = number_at_slot j form in
          let n = words_change.number j q.frame.words n_at d.old z d.stands in
          number_stored m b k i w x p q ready hold worlds instr here s l clean size inst is j form z range live goes does
          (n, comes d n.others n.found) few

      pub reference_given : (r : Option ℕ) → (t : Ty) (v : Value) (live : List ℕ)
          → ((d : ReferenceThere x q (own r_at)) → Comes frames_limit (object_of m) x q inst (AfterReference x q d r))
          → ((others : List Word) → word_at others (pos r_at) ≡ Found (Refer r) → ValueStands m.adts k others n_at r_at (form_of t) t v) → NamesOnly live v
          → GoesOn m function (suc p.frame.pc) (held.put known s (Of t live))
          → (sides m).program.step w p ≡ code.goes_on w p (core.put p.frame.slots s (Holds v)) → Once m b i p q k w x
      reference_given r t v live comes stands names goes does =
          let d = reference_at_slot in
          let stored = (results_go.reference x q (own r_at) q.frame.words r_at d.leads d.old r d.stands).0 in
          let changes = stored.changes in
          let others = with_word q.frame.words r_at (Refer r) in
          let next = next_place m b k i w x p q ready hold worlds instr here 1 size in
          let else_as_was : ElseAsWas q.frame.words others n_at 8 =
          record {
            each = λ u no. elim (low_or_high (4 * u) n_at) [
              | inl low ↦ changes.words u (inl (omega (arith, low)))
              | inr high ↦ elim (low_or_high (4 * u) (n_at + 8)) [
                | inl within ↦ absurd (no (high, within))
                | inr past ↦ changes.words u (inr (omega (arith, past)))
              ]
            ];
          } in
          let kind : AreOf (frame_bytes m.adts types (length p.frame.slots)) (frame_references m.adts types (length p.frame.slots)) others =
          kinds_stay.all (frame_bytes m.adts types (length p.frame.slots)) (frame_references m.adts types (length p.frame.slots)) q.frame.words others
          ready.stands.is.words.kind changes.many changes.refer changes.referred
          (stored.ranged (λ z e. absurd cc) ready.stands.is.words.kind.ranged) in
          let slot : SlotStands m.adts k x.heap q.frame.serial others n_at r_at (Of t live) (Holds v) [] =
          a_value others n_at r_at t live v (stands others stored.there) names in
          both_go m b i p q k w x hold worlds
          (at_slots m k i x p q ready (suc p.frame.pc) (core.put p.frame.slots s (Holds v)))
          (at_words m k i x p q ready (suc q.frame.pc) others)
          (steps_obey.stores frames_limit (object_of m ∷ []) x q (object_of m) inst x d.leads.place others _
          (first m b k i w x p q ready hold worlds instr here inst is) (comes d) ((spots_lead.own x q r_at).1 others))
          does
          (ready_given m k i x p q ready s l others else_as_was kind (Of t live) (Holds v) slot (suc q.frame.pc) (omega (arith, next)) goes)
