-- A process makes a block: what is known then, and that the worlds stand alike.
use Rattle.std.proofs.Common.{◌≡◌, ℕ, ◌<◌, true, List, [], ◌∷◌, ◌++◌, length, Option, Some, None, sym, ap, ◌∙◌, subst, arith}
use Rattle.process_model.specs.Follows.{Only}
use Rattle.heap_model.specs.Heap.{at, there}
use Rattle.heap_model.specs.Facts.{Fact, Named, Chars, Carrier, IsUnmade, Learns, IsFree, Is, Free, Inner}
use Rattle.heap_model.specs.Worlds.{Sets, WorldsAlike}
use Rattle.heap_model.proofs.Heap.{there_is, there_of}
use Rattle.heap_model.proofs.Alike.{is_inner}
use Rattle.heap_model.proofs.Changes.{set_free, there_on}
use Rattle.heap_model.proofs.Growing.{grows_on, learns_grows, tell, name_it}
use Rattle.heap_model.proofs.Building.{with_maker, form_is, maker_grows, maker_world, with_fact, fact_learns, with_name, name_learns}
use Rattle.heap_model.proofs.Made.{last_sets, last_length}
use Rattle.limbo_typed.specs.Typed as typed
use Rattle.limbo_meaning.specs.Memory.{HeapValue}
use Rattle.limbo_meaning.specs.Process.{Shared}
use Rattle.dis_memory.specs.Blocks.{Block, Text, World, with_block, next_serial}
use Rattle.dis_memory.specs.Naming.{inside}
use Rattle.value_words.specs.Forms.{Form}
use Rattle.value_words.specs.Facts.{Facts, Grows}
use Rattle.value_frames.specs.Slots.{IsKept}
use Rattle.value_follows.specs.Sides.{sides, contents}

module _ (m : typed.Module) where
  -- Process i made this block, and more is known then: its own free blocks are as they were, and nothing else of the heap changed.
  pub record IsMade (k now : Facts) (i : ℕ) (x : World) (new : Block) : Type 0 where
    pub changes : (sides m).changes (Only i) k now x (with_block x new)
    pub keeps : (b : ℕ) → Free k b → k.maker b ≡ Some i → IsKept now x.heap (with_block x new).heap b

  module _ (k : Facts) (i : ℕ) (w : Shared) (x : World) (worlds : (sides m).worlds k w x) (new : Block) (form : Option Form)
      (names : (q : ℕ) → 0 < inside new q → (there (at x.heap q) ≡ true) × (Inner k q → ⊥)) where
    abbrev n : ℕ
    n = next_serial x

    abbrev y : World
    y = with_block x new

    -- it is known who made it
    abbrev pub begun : Facts
    begun = with_maker k n i form

    unmade : IsUnmade k n
    unmade = worlds.0.unmade n (omega arith)

    sets : Sets x.heap y.heap n (Some new)
    sets = last_sets x.heap new

    longer : n < length y.heap
    longer = omega (arith, last_length x.heap new)

    alike : WorldsAlike (contents m) begun w.heap y.heap
    alike =
        maker_world (contents m) k n i form w.heap y.heap unmade longer
        (set_free (contents m) k w.heap x.heap y.heap n new worlds.0 unmade.fact (omega (arith, last_length x.heap new)) longer sets
        (λ q p. (names q p).0) (λ q f p. absurd ((names q p).1 (is_inner _ f))))

    other : (q j : ℕ) → k.maker q ≡ Some j → q ≡ n → ⊥
    other q j e f = let z : None ≡ Some j = sym unmade.maker ∙ (ap k.maker (sym f) ∙ e) in cc

    -- once a fact of it is known, too
    is_made : (now : Facts) (f : Fact Block) → Learns begun now n f → IsMade k now i x new
    is_made now f learns = record {
      changes = (
        record {
          grows = grows_on k begun now (maker_grows k n i form unmade) (learns_grows begun now n f learns);
          there = λ q d e. there_is (at y.heap q) (there_on x.heap y.heap n new sets q (there_of (at x.heap q) d e));
          free = λ q j e made ne. (learns.apart q (other q j made), sets.apart q (other q j made));
          carriers = λ q held e.
              sets.apart q (λ z. absurd (let y : None ≡ Some (Carrier held) = sym unmade.fact ∙ (ap k.fact (sym z) ∙ e) in cc));
        },
        omega arith,
      );
      keeps = λ b free made. (subst IsFree (sym (learns.apart b (other b i made))) free, sets.apart b (other b i made));
    }

    -- ---- it stands for a new value of the heap

    abbrev named : ℕ
    named = length w.heap

    fresh : (q : ℕ) → Is begun named q → ⊥
    fresh q e = worlds.0.unnamed named q (omega arith) e

    pub record ValueMade (v : HeapValue) : Type 0 where
      pub now : Facts
      pub known : now.fact n ≡ Some (Named named)
      pub formed : now.form n ≡ form
      pub made : IsMade k now i x new
      pub after : (sides m).worlds now (record { heap = w.heap ++ Some v ∷ []; outside = w.outside }) y

    pub value_made : (v : HeapValue)
        → ((now : Facts) → Grows k now → now.fact n ≡ Some (Named named) → now.form n ≡ form → (contents m).stands now n v new) → ValueMade v
    value_made v stands =
        let now = with_name begun n named fresh in
        let learns = name_learns begun n named fresh unmade.fact in
        let grows = grows_on k begun now (maker_grows k n i form unmade) (learns_grows begun now n (Named named) learns) in
        let formed : now.form n ≡ form = learns.forms n ∙ form_is k n i form in
        record {
          now = now;
          known = learns.now;
          formed = formed;
          made = is_made now (Named named) learns;
          after = (
            name_it (contents m) begun now w.heap (w.heap ++ Some v ∷ []) y.heap named n v new alike learns sets.here
                (stands now grows learns.now formed) (omega arith) (omega (arith, last_length w.heap v)) (last_sets w.heap v),
            worlds.1,
          );
        }

  -- ---- it is a string

  pub record TextMade (k : Facts) (i : ℕ) (w : Shared) (x : World) (s : List ℕ) : Type 0 where
    pub now : Facts
    pub known : now.fact (next_serial x) ≡ Some (Chars s)
    pub made : IsMade k now i x (Text s)
    pub after : (sides m).worlds now w (with_block x (Text s))

  same_text : (s t : List ℕ) → ◌≡◌ {A = Fact Block} (Chars s) (Chars t) → s ≡ t
  same_text s t e = cc

  pub text_made : (k : Facts) (i : ℕ) (w : Shared) (x : World) → (sides m).worlds k w x → (s : List ℕ) → TextMade k i w x s
  text_made k i w x worlds s =
      let n = next_serial x in
      let names : (q : ℕ) → 0 < inside (Text s) q → (there (at x.heap q) ≡ true) × (Inner k q → ⊥) = λ q p. absurd (omega (arith, p)) in
      let made = with_maker k n i None in
      let now = with_fact made n (Chars s) (λ m e. cc) in
      let learns = fact_learns made n (Chars s) (λ m e. cc) (unmade k i w x worlds (Text s) None names).fact in
      record {
        now = now;
        known = learns.now;
        made = is_made k i w x worlds (Text s) None names now (Chars s) learns;
        after = (
          tell (contents m) made now w.heap (with_block x (Text s)).heap n (Chars s) (alike k i w x worlds (Text s) None names) learns
              (longer k i w x worlds (Text s) None names) (λ m e. cc) (λ e. cc)
              (λ t d e f. same_some d (Text s) (sym f ∙ (sets k i w x worlds (Text s) None names).here) ∙ ap (λ (t : List ℕ). Text t) (same_text s t e))
              (λ a st l d e f. absurd cc) (λ h d e f. absurd cc),
          worlds.1,
        );
      }
    where
      same_some : (a b : Block) → Some a ≡ Some b → a ≡ b
      same_some a b e = cc
