-- Worlds that stand alike do so where a record of a process's own, which stands for nothing, has other words.
use Rattle.std.proofs.Common.{◌≡◌, ℕ, zero, suc, ◌<◌, true, List, [], ◌∷◌, length, Option, Some, refl, sym, ap, subst, ◌∙◌, arith}
use Rattle.std.specs.Prelude.{slice_set}
use Rattle.process_model.specs.Follows.{Only}
use Rattle.heap_model.specs.Heap.{Heap, at, there}
use Rattle.heap_model.specs.Facts.{Carrier, IsFree, Free, Inner}
use Rattle.heap_model.specs.Worlds.{Sets}
use Rattle.heap_model.proofs.Heap.{within, there_of, there_is}
use Rattle.heap_model.proofs.Changes.{set_free, there_on}
use Rattle.heap_model.proofs.Growing.{grows_same}
use Rattle.heap_model.proofs.Alike.{is_inner}
use Rattle.limbo_layout.specs.Adts.{Has}
use Rattle.limbo_typed.specs.Typed as typed
use Rattle.limbo_meaning.specs.Process.{Shared}
use Rattle.dis_meaning.specs.Words.{Word, Refer}
use Rattle.dis_memory.specs.Blocks.{Record, World, with_changed}
use Rattle.value_words.specs.Facts.{Facts}
use Rattle.value_frames.proofs.Slots.{put_long}
use Rattle.value_follows.proofs.Open.{open_there}
use Rattle.value_follows.specs.Sides.{sides, contents}
use Rattle.rows_forming.proofs.Telling.{refers_among}

changed_here : {A : Type 0} (h : Heap A) (n : ℕ) (a : A) → n < length h → at (slice_set h n (Some a)) n ≡ Some a
changed_here [] n a l = absurd (omega (arith, l))
changed_here (o ∷ h) zero a l = refl
changed_here (o ∷ h) (suc n) a l = changed_here h n a (omega (arith, l))

changed_apart : {A : Type 0} (h : Heap A) (n q : ℕ) (o : Option A) → (q ≡ n → ⊥) → at (slice_set h n o) q ≡ at h q
changed_apart [] n q o ne = refl
changed_apart (p ∷ h) zero zero o ne = absurd (ne refl)
changed_apart (p ∷ h) zero (suc q) o ne = refl
changed_apart (p ∷ h) (suc n) zero o ne = refl
changed_apart (p ∷ h) (suc n) (suc q) o ne = changed_apart h n q o (λ e. ne (ap suc e))

pub set_there : {A : Type 0} (h : Heap A) (n : ℕ) (old a : A) → at h n ≡ Some old → Sets h (slice_set h n (Some a)) n (Some a)
set_there h n old a e = record {
  here = changed_here h n a (within h n (there_of (at h n) old e));
  apart = λ q ne. changed_apart h n q (Some a) ne;
}

module _ (m : typed.Module) (i : ℕ) (k : Facts) (w : Shared) (x : World) (worlds : (sides m).worlds k w x) (box : ℕ) (old words : List Word)
    (there_now : at x.heap box ≡ Some (Record old)) (free_box : Free k box) (mine : k.maker box ≡ Some i)
    (led : (n : ℕ) → Has words (Refer (Some n)) → (there (at x.heap n) ≡ true) × (Inner k n → ⊥)) where
  abbrev pub written_world : World
  written_world = with_changed x box (Record words)

  pub written_sets : Sets x.heap written_world.heap box (Some (Record words))
  written_sets = set_there x.heap box (Record old) (Record words) there_now

  pub written_alike : (sides m).worlds k w written_world
  written_alike =
      let long = put_long x.heap box (Some (Record words)) in
      let below = within x.heap box (there_of (at x.heap box) (Record old) there_now) in (
        set_free (contents m) k w.heap x.heap written_world.heap box (Record words) worlds.0
            (open_there (contents m) k w.heap x.heap worlds.0 box (Record old) free_box there_now)
            (omega (arith, long)) (omega (arith, long, below)) written_sets
            (λ q u. (led q (refers_among words q u)).0)
            (λ q f u. absurd ((led q (refers_among words q u)).1 (is_inner _ f))),
        worlds.1,
      )

  pub written_changes : (sides m).changes (Only i) k k x written_world
  written_changes = (
    record {
      grows = grows_same k;
      there = λ q b e.
          there_is (at written_world.heap q)
          (there_on x.heap written_world.heap box (Record words) written_sets q (there_of (at x.heap q) b e));
      free = λ q j free e no. (refl, written_sets.apart q (λ same. no (same_maker q j same e)));
      carriers = λ q b e. written_sets.apart q (λ same. not_free b (ap k.fact (sym same) ∙ e));
    },
    omega arith,
  )
    where
      same_maker : (q j : ℕ) → q ≡ box → k.maker q ≡ Some j → j ≡ i
      same_maker q j same e = let z : Some j ≡ Some i = sym e ∙ (ap k.maker same ∙ mine) in cc

      not_free : (b : _) → k.fact box ≡ Some (Carrier b) → ⊥
      not_free b e = subst IsFree e free_box
