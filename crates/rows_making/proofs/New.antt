-- Worlds that stand alike do so where a process gets a new record, which is to be of a form, and where such a record is filled and comes to
-- stand for a new value of the heap.
use Rattle.std.proofs.Common.{◌≡◌, ℕ, true, List, [], ◌∷◌, ◌++◌, length, Some, None, refl, sym, ap, ◌∙◌, subst, arith}
use Rattle.process_model.specs.Follows.{Only}
use Rattle.heap_model.specs.Heap.{at, there}
use Rattle.heap_model.specs.Facts.{Carrier, Named, Learns, IsFree, Is, Free, Inner}
use Rattle.heap_model.specs.Worlds.{Sets}
use Rattle.heap_model.proofs.Heap.{there_of, there_is}
use Rattle.heap_model.proofs.Changes.{set_free, there_on}
use Rattle.heap_model.proofs.Growing.{learns_grows, name_it}
use Rattle.heap_model.proofs.Building.{with_maker, maker_is, form_is, maker_grows, maker_world, with_name, name_learns}
use Rattle.heap_model.proofs.Made.{last_sets, last_length}
use Rattle.limbo_layout.specs.Adts.{Has}
use Rattle.limbo_typed.specs.Typed as typed
use Rattle.limbo_meaning.specs.Memory.{HeapValue}
use Rattle.limbo_meaning.specs.Process.{Shared}
use Rattle.dis_meaning.specs.Words.{Word, Refer}
use Rattle.dis_memory.specs.Blocks.{Record, World, with_block, next_serial}
use Rattle.value_words.specs.Forms.{Form}
use Rattle.value_words.specs.Facts.{Facts, Grows}
use Rattle.value_frames.specs.Slots.{IsKept}
use Rattle.value_follows.specs.Stands.{ReferNowhere}
use Rattle.value_follows.specs.Sides.{sides, contents}
use Rattle.rows_boxes.proofs.Blocks.{refers_among, written_world, written_sets, written_alike}

none_or : {A : Type 0} (a : A) → None ≡ Some a → ⊥
none_or a e = cc

module _ (m : typed.Module) (i : ℕ) (k : Facts) (w : Shared) (x : World) (worlds : (sides m).worlds k w x) where
  -- ---- a new record of the process, which is to be of a form

  module _ (of : Form) (words : List Word) (bare : ReferNowhere words) where
    abbrev pub new_world : World
    new_world = with_block x (Record words)

    abbrev pub new_facts : Facts
    new_facts = with_maker k (next_serial x) i (Some of)

    unmade_fact : k.fact (next_serial x) ≡ None
    unmade_fact = (worlds.0.unmade (next_serial x) (omega arith)).fact

    pub new_fact : new_facts.fact (next_serial x) ≡ None
    new_fact = unmade_fact

    pub new_maker : new_facts.maker (next_serial x) ≡ Some i
    new_maker = maker_is k (next_serial x) i (Some of)

    pub new_form : new_facts.form (next_serial x) ≡ Some of
    new_form = form_is k (next_serial x) i (Some of)

    pub new_there : at new_world.heap (next_serial x) ≡ Some (Record words)
    new_there = (last_sets x.heap (Record words)).here

    pub new_grows : Grows k new_facts
    new_grows = maker_grows k (next_serial x) i (Some of) (worlds.0.unmade (next_serial x) (omega arith))

    -- a block that some process made is another
    pub new_apart : (q j : ℕ) → k.maker q ≡ Some j → q ≡ next_serial x → ⊥
    new_apart q j e same =
        none_or j (sym (worlds.0.unmade (next_serial x) (omega arith)).maker ∙ (ap k.maker (sym same) ∙ e))

    pub new_keeps : (q j : ℕ) → Free k q → k.maker q ≡ Some j → IsKept new_facts x.heap new_world.heap q
    new_keeps q j free e = (free, (last_sets x.heap (Record words)).apart q (new_apart q j e))

    pub new_alike : (sides m).worlds new_facts w new_world
    new_alike =
        let long = last_length x.heap (Record words) in
        let unmade = worlds.0.unmade (next_serial x) (omega arith) in (
          maker_world (contents m) k (next_serial x) i (Some of) w.heap new_world.heap unmade (omega (arith, long))
              (set_free (contents m) k w.heap x.heap new_world.heap (next_serial x) (Record words) worlds.0
              unmade.fact (omega (arith, long)) (omega (arith, long)) (last_sets x.heap (Record words))
              (λ q u. absurd (bare q (refers_among words q u)))
              (λ q f u. absurd (bare q (refers_among words q u)))),
          worlds.1,
        )

    pub new_changes : (sides m).changes (Only i) k new_facts x new_world
    new_changes = (
      record {
        grows = new_grows;
        there = λ q b e.
            there_is (at new_world.heap q)
            (there_on x.heap new_world.heap (next_serial x) (Record words) (last_sets x.heap (Record words)) q (there_of (at x.heap q) b e));
        free = λ q j free e no. (refl, (last_sets x.heap (Record words)).apart q (new_apart q j e));
        carriers = λ q b e. (last_sets x.heap (Record words)).apart q
            (λ same. none_or (Carrier b) (sym unmade_fact ∙ (ap k.fact (sym same) ∙ e)));
      },
      omega arith,
    )

  -- ---- a record that stands for nothing yet has its words, and stands for a new value of the heap then

  module _ (box : ℕ) (old words : List Word) (there_now : at x.heap box ≡ Some (Record old)) (none : k.fact box ≡ None) (mine : k.maker box ≡ Some i)
      (led : (n : ℕ) → Has words (Refer (Some n)) → (there (at x.heap n) ≡ true) × (Inner k n → ⊥)) where
    abbrev pub filled_world : World
    filled_world = written_world m i k w x worlds box old words there_now none mine led

    filled_sets : Sets x.heap filled_world.heap box (Some (Record words))
    filled_sets = written_sets m i k w x worlds box old words there_now none mine led

    abbrev pub fresh : (q : ℕ) → Is k (length w.heap) q → ⊥
    fresh q e = worlds.0.unnamed (length w.heap) q (omega arith) e

    abbrev pub named_facts : Facts
    named_facts = with_name k box (length w.heap) fresh

    learns : Learns k named_facts box (Named (length w.heap))
    learns = name_learns k box (length w.heap) fresh none

    pub named : named_facts.fact box ≡ Some (Named (length w.heap))
    named = learns.now

    pub named_form : (of : Form) → k.form box ≡ Some of → named_facts.form box ≡ Some of
    named_form of e = learns.forms box ∙ e

    pub named_grows : Grows k named_facts
    named_grows = learns_grows k named_facts box (Named (length w.heap)) learns

    -- the other's world then
    abbrev pub more_values : HeapValue → Shared
    more_values v = record { heap = w.heap ++ Some v ∷ []; outside = w.outside }

    pub named_alike : (v : HeapValue) → (contents m).stands named_facts box v (Record words) → (sides m).worlds named_facts (more_values v) filled_world
    named_alike v stands = (
      name_it (contents m) k named_facts w.heap (w.heap ++ Some v ∷ []) filled_world.heap (length w.heap) box v (Record words)
          (written_alike m i k w x worlds box old words there_now none mine led).0 learns filled_sets.here stands (omega arith)
          (omega (arith, last_length w.heap v)) (last_sets w.heap v),
      worlds.1,
    )

    -- other blocks of the process that stand for nothing are as they were
    pub named_keeps : (q : ℕ) → (q ≡ box → ⊥) → Free k q → IsKept named_facts x.heap filled_world.heap q
    named_keeps q ne free = (subst IsFree (sym (learns.apart q ne)) free, filled_sets.apart q ne)

    pub named_changes : (sides m).changes (Only i) k named_facts x filled_world
    named_changes = (
      record {
        grows = named_grows;
        there = λ q b e.
            there_is (at filled_world.heap q)
            (there_on x.heap filled_world.heap box (Record words) filled_sets q (there_of (at x.heap q) b e));
        free = λ q j free e no. (
          learns.apart q (λ same. no (same_maker q j same e)),
          filled_sets.apart q (λ same. no (same_maker q j same e)),
        );
        carriers = λ q b e. filled_sets.apart q (λ same. none_or (Carrier b) (sym none ∙ (ap k.fact (sym same) ∙ e)));
      },
      omega arith,
    )
      where
        same_maker : (q j : ℕ) → q ≡ box → k.maker q ≡ Some j → j ≡ i
        same_maker q j same e = let z : Some j ≡ Some i = sym e ∙ (ap k.maker same ∙ mine) in cc
