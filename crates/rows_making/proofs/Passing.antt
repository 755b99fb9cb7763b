-- The size of a value on its way in the frame's linkage, while a record is to be filled. (As `rows_boxes` has it of boxes.)
use Rattle.std.proofs.Common.{◌≡◌, ◌⊎◌, ℕ, suc, pos, ◌+◌, ◌*◌, ◌/◌, ◌≤◌, List, [], ◌∷◌, length, refl, subst, ◌∙◌, arith, inl, inr}
use Rattle.process_model.specs.Process.{Went}
use Rattle.limbo_types.specs.Types.{Ty}
use Rattle.limbo_layout.specs.Adts.{Has}
use Rattle.limbo_typed.specs.Typed as typed
use Rattle.limbo_meaning.specs.Process.{Shared}
use Rattle.system_model.specs.Limits.{frames_limit}
use Rattle.core_code.specs.Machine as code
use Rattle.dis_isa.specs.declared.inst.Inst.{Inst}
use Rattle.dis_meaning.specs.Words.{Word, word_at}
use Rattle.dis_meaning.specs.Process.{Process}
use Rattle.dis_memory.specs.Blocks.{World}
use Rattle.dis_memory.specs.Step.{obey}
use Rattle.value_words.specs.Forms.{Form}
use Rattle.value_words.specs.Facts.{Facts}
use Rattle.value_frames.specs.Frames.{answer_place, passing_place, linkage_bytes, spare_place, frame_bytes, frame_references}
use Rattle.value_frames.specs.Slots.{ElseAsWas}
use Rattle.value_frames.proofs.Replacing.{kinds_stay}
use Rattle.value_frames.proofs.Slots.{slots_change}
use Rattle.value_moves.specs.Changing.{Changes}
use Rattle.value_moves.specs.Operands.{own}
use Rattle.value_moves.specs.Spots.{Leads}
use Rattle.value_moves.proofs.Changing.{low_or_high}
use Rattle.value_moves.proofs.Leading.{spots_lead}
use Rattle.value_code.specs.Objects.{object_of}
use Rattle.value_words.specs.Contents.{AreInRange}
use Rattle.number_effects.specs.Giving.{after}
use Rattle.number_effects.specs.Stepping.{Reaches}
use Rattle.number_effects.proofs.Stepping.{steps_obey}
use Rattle.value_follows.specs.Stands.{types_of, Awaited}
use Rattle.value_follows.specs.Sides.{sides}
use Rattle.value_follows.specs.Rows.{Base}
use Rattle.value_follows.proofs.Standing.{stands_on}
use Rattle.value_follows.proofs.Putting.{word_same}
use Rattle.value_follows.proofs.Several.{moved_to}
use Rattle.rows_making.proofs.Making.{Making, box_place}

-- ---- an int comes there

module _ (m : typed.Module) (b : Base m) (number : ℕ) (f : typed.Function) (t : Ty) (of : Form) (into : ℕ) (j box : ℕ) (inner : List Word) (i : ℕ) (p : code.Process)
    (q : Process) (k : Facts) (w : Shared) (x : World) (s : Making m number f t of into j box inner k i x p q) where
  abbrev pub passing_leads : Leads x q (own passing_place) q.frame.words passing_place
  passing_leads = (spots_lead.own x q passing_place).0

  -- other words there
  module _ (inst : Inst) (words : List Word) (changes : Changes q.frame.words words passing_place 4) (ranged : AreInRange words)
      (obeys : obey frames_limit (object_of m) x q inst inst.op ≡ after x q passing_leads.place words) where
    pub passed_goes : Reaches (object_of m ∷ []) x q (object_of m) inst
        → (sides m).code.step x q ≡ Went x (moved_to q (suc q.frame.pc) words)
    passed_goes reaches =
        steps_obey.stores frames_limit (object_of m ∷ []) x q (object_of m) inst x passing_leads.place words _ reaches obeys
        ((spots_lead.own x q passing_place).1 words)

    -- what doesn't lie there is as it was
    pub passed_stays : (at : ℕ) → (4 * (at / 4) + 4 ≤ passing_place) ⊎ (passing_place + 4 ≤ 4 * (at / 4))
        → word_at words (pos at) ≡ word_at q.frame.words (pos at)
    passed_stays at h = word_same q.frame.words words at (changes.words (at / 4) h)

    else_as_was : ElseAsWas q.frame.words words 0 linkage_bytes
    else_as_was = record {
      each = λ u no. elim (low_or_high (4 * u) linkage_bytes) [
        | inl low ↦ absurd (no (omega arith, low))
        | inr high ↦ changes.words u (inr (omega (arith, high)))
      ];
    }

    pub making_passed : Making m number f t of into (suc j) box inner k i x p (moved_to q (suc q.frame.pc) words)
    making_passed =
        let is = s.stands.is in
        let are = is.words in
        let types = types_of m is.function in
        let kind = kinds_stay.all (frame_bytes m.adts types (length p.frame.slots)) (frame_references m.adts types (length p.frame.slots))
        q.frame.words words are.kind changes.many changes.refer changes.referred ranged in
        let after = slots_change.linkage m.adts k x.heap q.frame.serial (into ∷ []) types is.known p.frame.variables p.frame.slots q.frame.words
        words are else_as_was kind in
        let on = stands_on m k i x (into ∷ []) Awaited p q s.stands (into ∷ []) p.frame.pc (suc q.frame.pc) is.known p.frame.variables p.frame.slots
        words q.made refl after.0 (λ r c h. is.mine r c (subst (λ (o : ℕ → List ℕ). Has (o r) c) after.1 h)) s.stands.goes
        (passed_stays answer_place (inl (omega arith))) in
        record {
          stands = record { number = on.stands.number; is = on.stands.is; goes = on.stands.goes; waits = on.stands.waits };
          number_is = on.number ∙ s.number_is;
          function_is = on.function ∙ s.function_is;
          pc = (let e = s.pc in omega (arith, e));
          spare = passed_stays (spare_place m.adts (types_of m f)) (inr (omega arith)) ∙ s.spare;
          none_made = s.none_made;
          word = passed_stays (box_place m number f t of into) (inr (omega arith)) ∙ s.word;
          there = s.there;
          none = s.none;
          made = s.made;
          formed = s.formed;
          kind = s.kind;
          bare = s.bare;
          apart = λ r h. s.apart r (subst (λ (o : ℕ → List ℕ). Has (o r) box) (on.own ∙ after.1) h);
          unnamed = s.unnamed;
        }
