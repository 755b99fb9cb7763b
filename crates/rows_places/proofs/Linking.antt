-- Plain words of the linkage that are stored on the way through a row: the two are ready as they were, at the row's begin.
use Rattle.std.proofs.Common.{◌≡◌, ℕ, ℤ, true, pos, ◌*◌, ◌/◌, ◌%◌, ◌<◌, List, [], length, Option, refl, sym, ap, ◌∙◌, subst, arith, inl, inr}
use Rattle.limbo_types.specs.Types.{Ty}
use Rattle.limbo_layout.specs.Adts.{Has}
use Rattle.limbo_values.specs.declared.number.Kind.TheVariants.{Int}
use Rattle.limbo_values.specs.Numbers.{InRange}
use Rattle.limbo_typed.specs.Typed as typed
use Rattle.core_code.specs.Machine as code
use Rattle.dis_meaning.specs.Counts.{in_words}
use Rattle.dis_meaning.specs.Words.{Word, Plain, Refer, Address, Found, word_at, fits}
use Rattle.dis_meaning.specs.Process.{Process}
use Rattle.dis_memory.specs.Blocks.{World}
use Rattle.value_words.specs.Facts.{Facts}
use Rattle.value_frames.specs.Frames.{linkage_bytes, answer_place, spare_place, frame_bytes, frame_references}
use Rattle.value_frames.specs.Slots.{ElseAsWas}
use Rattle.value_frames.specs.Types.{AreOf}
use Rattle.value_frames.proofs.Slots.{slots_change}
use Rattle.value_frames.proofs.Replacing.{kinds_stay}
use Rattle.value_moves.specs.Changing.{Changes}
use Rattle.value_moves.proofs.Changing.{low_or_high, words_change}
use Rattle.number_effects.specs.Giving.{with_word}
use Rattle.value_follows.specs.Stands.{Ready, Awaited, types_of, place_of}
use Rattle.value_follows.proofs.Standing.{stands_on}
use Rattle.value_follows.proofs.Several.{moved_to, names_as}
use Rattle.value_follows.proofs.Putting.{word_same}
use Rattle.rows_places.proofs.Arrays.{LinkageWord}

pub fits_plain : (old new : Word) → ((r : Option ℕ) → old ≡ Refer r → ⊥) → ((r : Option ℕ) → new ≡ Refer r → ⊥) → fits old new ≡ true
fits_plain (Refer r) new a b = absurd (a r refl)
fits_plain (Plain y) (Plain z) a b = refl
fits_plain (Plain y) (Address place to) a b = refl
fits_plain (Plain y) (Refer r) a b = absurd (b r refl)
fits_plain (Address place to) (Plain z) a b = refl
fits_plain (Address place to) (Address other at) a b = refl
fits_plain (Address place to) (Refer r) a b = absurd (b r refl)

module _ (m : typed.Module) (k : Facts) (i : ℕ) (x : World) (p : code.Process) (q : Process) (ready : Ready m k i x p q) (at : ℕ) (whole : at % 4 ≡ 0)
    (low : at < linkage_bytes) (not_answer : answer_place < at) (old : LinkageWord m k i x p q ready at) (new : Word)
    (no_refer : (r : Option ℕ) → new ≡ Refer r → ⊥) (range : (z : ℤ) → new ≡ Plain z → InRange Int z) where
  abbrev others : List Word
  others = with_word q.frame.words at new

  abbrev types : List Ty
  types = types_of m ready.stands.is.function

  abbrev slots_many : ℕ
  slots_many = length p.frame.slots

  pub record Linked : Type 0 where
    -- it is there, and nothing else has changed
    pub word : word_at others (pos at) ≡ Found new
    pub changes : Changes q.frame.words others at 4
    pub still : Ready m k i x p (moved_to q q.frame.pc others)
    pub function : still.stands.is.function ≡ ready.stands.is.function
    pub known : still.stands.is.known ≡ ready.stands.is.known
    -- the process refers to what it referred to
    pub names : (n : ℕ) → in_words n others ≡ in_words n q.frame.words

  pub linked : Linked
  linked =
      let stored = words_change.word q.frame.words at old.old new old.found (fits_plain old.old new old.no_refer no_refer) in
      let changes = stored.2 in
      let else_as_was : ElseAsWas q.frame.words others 0 linkage_bytes =
      record {
        each = λ w no. elim (low_or_high (4 * w) linkage_bytes) [
          | inl below ↦ absurd (no (omega arith, below))
          | inr past ↦ changes.words w (inr (omega (arith, whole, low, past)))
        ];
      } in
      let kind : AreOf (frame_bytes m.adts types slots_many) (frame_references m.adts types slots_many) others =
      kinds_stay.set (frame_bytes m.adts types slots_many) (frame_references m.adts types slots_many) q.frame.words (at / 4) old.old new
      ready.stands.is.words.kind old.there (inr (λ d. old.no_refer d.0 d.1, λ d. no_refer d.0 d.1, range)) in
      let after = slots_change.linkage m.adts k x.heap q.frame.serial [] types ready.stands.is.known p.frame.variables p.frame.slots q.frame.words others
      ready.stands.is.words else_as_was kind in
      let on = stands_on m k i x [] Awaited p q ready.stands [] p.frame.pc q.frame.pc ready.stands.is.known p.frame.variables p.frame.slots others q.made
      refl after.0 (λ s b h. ready.stands.is.mine s b (subst (λ (o : ℕ → List ℕ). Has (o s) b) after.1 h)) ready.stands.goes
      (word_same q.frame.words others answer_place (changes.words (answer_place / 4) (inl (omega (arith, whole, not_answer))))) in
      let spare = word_same q.frame.words others (spare_place m.adts types)
      (changes.words (spare_place m.adts types / 4) (inr (omega (arith, whole, low)))) in
      let still = on.stands in
      record {
        word = stored.1;
        changes = changes;
        still = record {
          stands = record { number = still.number; is = still.is; goes = still.goes; waits = still.waits };
          pc = ready.pc ∙ sym (ap (λ n. place_of m n still.is.function p.frame.pc) on.number
              ∙ ap (λ f. place_of m ready.stands.is.number f p.frame.pc) on.function);
          spare = ap (λ f. word_at others (pos (spare_place m.adts (types_of m f)))) on.function ∙ spare ∙ ready.spare;
          none_made = ready.none_made;
        };
        function = on.function;
        known = on.known;
        names = λ n. names_as n q.frame.words (at / 4) old.old new old.there old.no_refer no_refer;
      }
