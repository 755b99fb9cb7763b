-- Elements of an array, as words of a place.
use Rattle.std.proofs.Common.{◌≡◌, ℕ, ℤ, pos, ◌+◌, ◌*◌, ◌/◌, Bool, List, Result, Ok, Err, OnErr, if◌then◌else◌, refl, sym, ap, ◌∙◌}
use Rattle.dis_meaning.specs.Words.{InBlock, Word, Access, Found, Wrong, Raises, ◌>>=◌}
use Rattle.dis_meaning.specs.Process.{Process}
use Rattle.dis_meaning.specs.Places.{Far}
use Rattle.dis_memory.specs.Blocks.{World}
use Rattle.dis_memory.specs.Copies.{moved, put, taken}
use Rattle.dis_memory.specs.Kinds.{Elements}
use Rattle.dis_memory.specs.Places.{memory, with_data}
use Rattle.dis_memory.specs.Process.{Does, next}
use Rattle.ref_heap.specs.Store.{outside}
use Rattle.dis_places.specs.declared.fault.Halt.{Halt}
use Rattle.dis_places.specs.declared.memory.Memory as code_memory
use Rattle.dis_places.specs.declared.process.Process as code_process
use Rattle.dis_places.specs.View.{view_world}
use Rattle.dis_blocks.specs.Making.{Untouched}
use Rattle.dis_copies.specs.Spans.{put_at}
use Rattle.dis_moves.specs.Moves.{moved_to}
use Rattle.dis_slices.specs.Overs.{bytes_over, words_over, IsArray}

module _ (x : World) (p : Process) (n : ℕ) where
  abbrev pub stored : List Word → Access Does
  stored words = with_data x n words >>= λ y. Found (next (memory y p))

  step : (a : Access World) → (a >>= (λ y. Found (memory y p)) >>= λ m. Found (next m)) ≡ (a >>= λ y. Found (next (memory y p)))
  step (Found y) = refl
  step (Wrong k) = refl
  step (Raises text) = refl

  as_stored : (a : Access (List Word)) → (a >>= (λ words. with_data x n words >>= λ y. Found (memory y p)) >>= λ m. Found (next m)) ≡ (a >>= stored)
  as_stored (Found ws) = step (with_data x n ws)
  as_stored (Wrong k) = refl
  as_stored (Raises text) = refl

module _ (x : World) (p : Process) (s t : Elements) (at : ℕ) (there : IsArray x t) where
  pub words_put : (at' : ℤ) (from count to : ℕ) (vs : List Word) → from ≡ s.start * (s.element.size / 4) → count ≡ s.long * (s.element.size / 4) →
      to ≡ (t.start + at) * (t.element.size / 4) → taken s.words from count ≡ Found vs →
      words_over x p s t at ≡ (put_at x p (Far (InBlock t.array) at') to vs >>= λ m. Found (next m))
  words_put at' from count to vs e f g h =
      ap (λ j. taken s.words j (s.long * (s.element.size / 4)) >>= put t.words ((t.start + at) * (t.element.size / 4)) >>= stored x p t.array) (sym e)
      ∙ ap (λ j. taken s.words from j >>= put t.words ((t.start + at) * (t.element.size / 4)) >>= stored x p t.array) (sym f)
      ∙ ap (λ j. taken s.words from count >>= put t.words j >>= stored x p t.array) (sym g)
      ∙ ap (λ a. a >>= put t.words to >>= stored x p t.array) h
      ∙ sym (as_stored x p t.array (put t.words to vs))
      ∙ sym (ap (λ a. a >>= (λ words. put words to vs >>= λ words. with_data x t.array words >>= λ y. Found (memory y p)) >>= λ m. Found (next m)) there)

  pub bytes_put : (from count to : ℕ) → from ≡ s.start * s.element.size → count ≡ s.long * s.element.size → to ≡ (t.start + at) * t.element.size →
      bytes_over x p s t at ≡ moved_to x p s.words from count (Far (InBlock t.array) (pos to))
  bytes_put from count to e f g =
      ap (λ j. moved s.words j t.words ((t.start + at) * t.element.size) (s.long * s.element.size) >>= stored x p t.array) (sym e)
      ∙ ap (λ j. moved s.words from t.words ((t.start + at) * t.element.size) j >>= stored x p t.array) (sym f)
      ∙ ap (λ j. moved s.words from t.words j count >>= stored x p t.array) (sym g)
      ∙ sym (as_stored x p t.array (moved s.words from t.words to count))
      ∙ sym (ap
      (λ a. a >>= λ target. moved s.words from target to count >>= (λ words. with_data x t.array words >>= λ y. Found (memory y p)) >>= λ m. Found (next m))
      there)

-- What is copied, by whether elements refer to anything.
abbrev pub copied_by : World → Process → (s t : Elements) → (at : ℕ) → Bool → Access Does
copied_by x p s t at b =
    (if b
    then taken s.words (s.start * (s.element.size / 4)) (s.long * (s.element.size / 4)) >>= put t.words ((t.start + at) * (t.element.size / 4))
    else moved s.words (s.start * s.element.size) t.words ((t.start + at) * t.element.size) (s.long * s.element.size))
    >>= stored x p t.array

-- Where nothing has changed, memory is as it was.
pub same_untouched : (m m' : code_memory.Memory) (p p' : code_process.Process) (r : Result (Unit {0}) Halt) → OnErr r ((m' ≡ m) × (p' ≡ p)) → OnErr r (Untouched m p m' p')
same_untouched m m' p p' (Ok u) e = tt
same_untouched m m' p p' (Err h) e = record {
  world = ap view_world e.0;
  held = λ n. ap (λ (m : code_memory.Memory). outside m.heap n) e.0;
  tables = ap (λ (m : code_memory.Memory). m.tables) e.0;
  process = e.1;
}
