-- A frame that waits for an answer, once it is in its slot.
use Rattle.std.proofs.Common.{◌≡◌, ℕ, ◌+◌, ◌*◌, ◌/◌, ◌≤◌, List, [], ◌∷◌, length, refl, sym, ◌∙◌, subst, arith, inl, inr}
use Rattle.heap_model.proofs.Growing.{grows_same}
use Rattle.limbo_types.specs.Types.{Ty}
use Rattle.limbo_typed.specs.Typed as typed
use Rattle.core_code.specs.Machine as code
use Rattle.dis_meaning.specs.Words.{Word}
use Rattle.dis_meaning.specs.Process.{Frame, with_words}
use Rattle.dis_memory.specs.Blocks.{World}
use Rattle.value_words.specs.Contents.{AreInRange}
use Rattle.value_words.specs.Facts.{Facts}
use Rattle.value_frames.specs.Types.{AreOf}
use Rattle.value_frames.specs.Frames.{form_of, spare_place, number_place, frame_bytes, frame_references}
use Rattle.value_frames.specs.Standing.{WordsAre}
use Rattle.value_frames.specs.Slots.{ElseAsWas}
use Rattle.value_frames.specs.Later.{AreMadeBy}
use Rattle.value_frames.proofs.Slots.{slots_change}
use Rattle.value_frames.proofs.Replacing.{kinds_stay}
use Rattle.value_frames.proofs.Later.{frames_later}
use Rattle.value_moves.specs.Changing.{Changes}
use Rattle.value_moves.proofs.Changing.{low_or_high}
use Rattle.value_follows.specs.Stands.{types_of, Answer, Awaited, AnswerGoes, Waits}
use Rattle.value_follows.proofs.Putting.{word_same}

-- Other words come into the slot of a frame that waits (as rows_ending has it within its proof).
module _ (m : typed.Module) (k : Facts) (i : ℕ) (x : World) (t : Ty) (g : code.Frame) (f : Frame) (callee : Frame)
    (w : Waits m k i x Awaited g f t callee) where
  abbrev types : List Ty
  types = types_of m w.is.function

  abbrev n_at : ℕ
  n_at = number_place m.adts types g.into

  module _ (others : List Word) (to size : ℕ) (from : n_at ≤ to) (past : to + size ≤ n_at + 8) (changes : Changes f.words others to size)
      (ranged : AreInRange others) where
    else_as_was : ElseAsWas f.words others n_at 8
    else_as_was = record {
      each = λ w no. elim (low_or_high (4 * w) n_at) [
        | inl low ↦ changes.words w (inl (omega (arith, low, from)))
        | inr high ↦ elim (low_or_high (4 * w) (n_at + 8)) [
          | inl within ↦ absurd (no (high, within))
          | inr over ↦ changes.words w (inr (omega (arith, over, past)))
        ]
      ];
    }

    kind_stays : AreOf (frame_bytes m.adts types (length g.slots)) (frame_references m.adts types (length g.slots)) others
    kind_stays =
        kinds_stay.all (frame_bytes m.adts types (length g.slots)) (frame_references m.adts types (length g.slots)) f.words others
        w.is.words.kind changes.many changes.refer changes.referred ranged

    words_then : (after : WordsAre m.adts k x.heap f.serial (g.into ∷ []) types w.is.known g.variables g.slots others) × (after.own ≡ w.is.words.own)
    words_then =
        let are = w.is.words in
        let owned = (frames_later m.adts k x.heap f.serial (g.into ∷ []) types w.is.known g.variables g.slots f.words are).owned in
        slots_change.within m.adts k k x.heap x.heap f.serial (g.into ∷ []) types w.is.known g.variables g.slots f.words others g.into are (inl refl)
        (grows_same k) else_as_was kind_stays (λ u b h. ((owned u b h).0, refl))

    pub waits_then : (a : Answer) → AnswerGoes m k i x a (form_of t) t (with_words f others) types g.into callee w.is.words.own
        → Waits m k i x a g (with_words f others) t callee
    waits_then a answer =
        let now = words_then in
        record {
          is = record {
            number = w.is.number;
            function = w.is.function;
            there = w.is.there;
            code = w.is.code;
            answer = w.is.answer;
            many = w.is.many;
            instance = w.is.instance;
            formed = w.is.formed;
            known = w.is.known;
            words = now.0;
            mine = subst (λ (own : ℕ → List ℕ). AreMadeBy k i own) (sym now.1) w.is.mine;
            fresh = w.is.fresh;
          };
          goes = w.goes;
          pc = w.pc;
          spare = word_same f.words others (spare_place m.adts types) (changes.words (spare_place m.adts types / 4) (inl (omega (arith, from))))
              ∙ w.spare;
          answer = subst (λ (own : ℕ → List ℕ). AnswerGoes m k i x a (form_of t) t (with_words f others) types g.into callee own) (sym now.1) answer;
          older = w.older;
          unnamed = w.unnamed;
        }
