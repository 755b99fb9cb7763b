-- A value that comes into the words of a slot which names nothing, and two processes that stand for one another then.
use Rattle.std.proofs.Common.{◌≡◌, ℕ, Bool, true, false, suc, pos, ◌+◌, ◌*◌, ◌/◌, ◌%◌, ◌==◌, ◌<◌, ◌≤◌, List, [], length, refl, ap, ◌∙◌, subst, arith, inl, inr}
use Rattle.std.proofs.Common.{if◌then◌else◌}
use Rattle.std.specs.Prelude.{slice_get}
use Rattle.limbo_types.specs.Types.{Ty}
use Rattle.limbo_layout.specs.Adts.{Has}
use Rattle.limbo_typed.specs.Typed as typed
use Rattle.core_code.specs.Machine as code
use Rattle.core_code.specs.Slots as core
use Rattle.core_typing.specs.Held as held
use Rattle.core_typing.specs.Held.{Held}
use Rattle.dis_meaning.specs.Words.{Word, Found, Wrong, ◌>>=◌, word_at, or_wrong, type_check}
use Rattle.dis_meaning.specs.Process.{Process}
use Rattle.dis_memory.specs.Blocks.{World}
use Rattle.value_words.specs.Facts.{Facts}
use Rattle.value_frames.specs.Frames.{answer_place, spare_place, number_place, reference_place, frame_bytes, frame_references}
use Rattle.value_frames.specs.Types.{AreOf}
use Rattle.value_frames.specs.Standing.{SlotStands}
use Rattle.value_frames.specs.Slots.{ElseAsWas}
use Rattle.value_frames.proofs.Slots.{slots_change, put_long}
use Rattle.value_frames.proofs.Later.{frames_later}
use Rattle.value_moves.proofs.Changing.{low_or_high}
use Rattle.value_follows.specs.Stands.{types_of, GoesOn, place_of, Ready}
use Rattle.value_follows.proofs.Standing.{at_slots, at_words, ready_on}

pub word_same : (words others : List Word) (at : ℕ) → slice_get others (at / 4) ≡ slice_get words (at / 4)
    → word_at others (pos at) ≡ word_at words (pos at)
word_same words others at e = go (at % 4 == 0)
  where
    go : (b : Bool) → ((if b then Found (at / 4) else Wrong type_check) >>= λ k. or_wrong type_check (slice_get others k))
        ≡ ((if b then Found (at / 4) else Wrong type_check) >>= λ k. or_wrong type_check (slice_get words k))
    go true = ap (or_wrong type_check) e
    go false = refl

module _ (m : typed.Module) (k : Facts) (i : ℕ) (x : World) (p : code.Process) (q : Process) (r : Ready m k i x p q) (s : ℕ) (l : s < length p.frame.slots) where
  abbrev types : List Ty
  types = types_of m r.stands.is.function

  abbrev n_at : ℕ
  n_at = number_place m.adts types s

  module _ (others : List Word) (else_as_was : ElseAsWas q.frame.words others n_at 8)
      (kind : AreOf (frame_bytes m.adts types (length p.frame.slots)) (frame_references m.adts types (length p.frame.slots)) others) where
    -- what lies in front is as it was
    stays : (at : ℕ) → 4 * (at / 4) + 4 ≤ n_at → word_at others (pos at) ≡ word_at q.frame.words (pos at)
    stays at low = word_same q.frame.words others at (else_as_was.each (at / 4) (λ h. let a = h.0 in absurd (omega (arith, a, low))))

    pub ready_given : (h : Held) (v : core.Slot)
        → SlotStands m.adts k x.heap q.frame.serial others n_at (reference_place m.adts types s) h v []
        → (to : ℕ) → to ≡ place_of m r.stands.is.number r.stands.is.function (suc p.frame.pc)
        → GoesOn m r.stands.is.function (suc p.frame.pc) (held.put r.stands.is.known s h)
        → Ready m k i x (at_slots m k i x p q r (suc p.frame.pc) (core.put p.frame.slots s v)) (at_words m k i x p q r to others)
    ready_given h v stands to there goes =
        let are = r.stands.is.words in
        let owned = (frames_later m.adts k x.heap q.frame.serial [] types r.stands.is.known p.frame.variables p.frame.slots q.frame.words are).owned in
        let after = slots_change.slot m.adts k k x.heap x.heap q.frame.serial [] types r.stands.is.known p.frame.variables p.frame.slots
        q.frame.words others s h v [] are
        (record { facts = λ n f e. e; makers = λ n j e. e; forms = λ n o e. e }) l else_as_was kind stands tt
        (λ u b ne h. (λ e. e, ((owned u b h).0, refl))) in
        ready_on m k i x p q r (suc p.frame.pc) to (held.put r.stands.is.known s h) (core.put p.frame.slots s v) others
        (put_long p.frame.slots s v) after.after
        (λ u b h. elim (low_or_high u s) [
          | inl low ↦ r.stands.is.mine u b (subst (λ o. Has o b) (after.elsewhere u (λ e. omega (arith, e, low))) h)
          | inr high ↦ elim (low_or_high s u) [
            | inl more ↦ r.stands.is.mine u b (subst (λ o. Has o b) (after.elsewhere u (λ e. omega (arith, e, more))) h)
            | inr less ↦
                let same : u ≡ s = omega (arith, high, less) in
                absurd (subst (λ o. Has o b) (ap after.after.own same ∙ after.here) h)
          ]
        ])
        goes there
        (stays answer_place (omega arith))
        (stays (spare_place m.adts types) (omega arith))
