-- A process makes a block that carries what it has for good: what is known then, and that the worlds stand alike.
use Rattle.std.proofs.Common.{◌≡◌, ℕ, ◌<◌, true, length, Some, None, sym, ap, ◌∙◌, subst, arith}
use Rattle.process_model.specs.Follows.{Only}
use Rattle.heap_model.specs.Heap.{at, there}
use Rattle.heap_model.specs.Facts.{Fact, Named, Carrier, IsUnmade, Learns, IsFree, Free, Inner}
use Rattle.heap_model.specs.Worlds.{Sets, WorldsAlike}
use Rattle.heap_model.proofs.Heap.{there_is, there_of}
use Rattle.heap_model.proofs.Changes.{set_free, there_on}
use Rattle.heap_model.proofs.Alike.{is_inner}
use Rattle.heap_model.proofs.Growing.{grows_on, learns_grows, tell}
use Rattle.heap_model.proofs.Building.{with_maker, maker_grows, maker_world, with_fact, fact_learns}
use Rattle.heap_model.proofs.Made.{last_sets, last_length}
use Rattle.limbo_typed.specs.Typed as typed
use Rattle.limbo_meaning.specs.Process.{Shared}
use Rattle.dis_memory.specs.Blocks.{Block, World, with_block, next_serial}
use Rattle.dis_memory.specs.Naming.{inside}
use Rattle.value_words.specs.Facts.{Facts, Grows}
use Rattle.value_frames.specs.Slots.{IsKept}
use Rattle.value_follows.specs.Sides.{sides, contents}

module _ (m : typed.Module) (k : Facts) (i : ℕ) (w : Shared) (x : World) (worlds : (sides m).worlds k w x) (new : Block)
    (names : (q : ℕ) → 0 < inside new q → (there (at x.heap q) ≡ true) × (Inner k q → ⊥)) where
  abbrev n : ℕ
  n = next_serial x

  abbrev y : World
  y = with_block x new

  -- it is known who made it
  abbrev begun : Facts
  begun = with_maker k n i None

  unmade : IsUnmade k n
  unmade = worlds.0.unmade n (omega arith)

  sets : Sets x.heap y.heap n (Some new)
  sets = last_sets x.heap new

  longer : n < length y.heap
  longer = omega (arith, last_length x.heap new)

  alike : WorldsAlike (contents m) begun w.heap y.heap
  alike =
      maker_world (contents m) k n i None w.heap y.heap unmade longer
      (set_free (contents m) k w.heap x.heap y.heap n new worlds.0 unmade.fact (omega (arith, last_length x.heap new)) longer sets
      (λ q p. (names q p).0) (λ q f p. absurd ((names q p).1 (is_inner _ f))))

  other : (q j : ℕ) → k.maker q ≡ Some j → q ≡ n → ⊥
  other q j e f = let z : None ≡ Some j = sym unmade.maker ∙ (ap k.maker (sym f) ∙ e) in cc

  -- Process i made this block, which carries what it has: its own free blocks are as they were, and nothing else of the heap changed.
  pub record CarrierMade : Type 0 where
    pub now : Facts
    pub known : now.fact n ≡ Some (Carrier new)
    pub grows : Grows k now
    pub changes : (sides m).changes (Only i) k now x y
    pub keeps : (b : ℕ) → Free k b → k.maker b ≡ Some i → IsKept now x.heap y.heap b
    pub after : (sides m).worlds now w y

  not_named : (a : ℕ) → ◌≡◌ {A = Fact Block} (Carrier new) (Named a) → ⊥
  not_named a e = cc

  same_some : (a b : Block) → Some a ≡ Some b → a ≡ b
  same_some a b e = cc

  same_carrier : (d : Block) → ◌≡◌ {A = Fact Block} (Carrier new) (Carrier d) → new ≡ d
  same_carrier d e = cc

  pub carrier_made : CarrierMade
  carrier_made =
      let now = with_fact begun n (Carrier new) not_named in
      let learns : Learns begun now n (Carrier new) = fact_learns begun n (Carrier new) not_named unmade.fact in
      let grows = grows_on k begun now (maker_grows k n i None unmade) (learns_grows begun now n (Carrier new) learns) in
      record {
        now = now;
        known = learns.now;
        grows = grows;
        changes = (
          record {
            grows = grows;
            there = λ q d e. there_is (at y.heap q) (there_on x.heap y.heap n new sets q (there_of (at x.heap q) d e));
            free = λ q j e made ne. (learns.apart q (other q j made), sets.apart q (other q j made));
            carriers = λ q held e.
                sets.apart q (λ z. absurd (let y : None ≡ Some (Carrier held) = sym unmade.fact ∙ (ap k.fact (sym z) ∙ e) in cc));
          },
          omega arith,
        );
        keeps = λ b free made. (subst IsFree (sym (learns.apart b (other b i made))) free, sets.apart b (other b i made));
        after = (
          tell (contents m) begun now w.heap y.heap n (Carrier new) alike learns longer not_named (λ e. cc)
              (λ t d e f. absurd cc) (λ a st l d e f. absurd cc)
              (λ h d e f. (
                same_some d new (sym f ∙ sets.here) ∙ same_carrier h e,
                λ q u.
                    (names q (subst (λ (c : Block). 0 < inside c q) (sym (same_carrier h e)) u)).1,
              )),
          worlds.1,
        );
      }
