-- A process makes a block that stands for part of an array.
use Rattle.std.proofs.Common.{◌≡◌, ℕ, zero, suc, ◌<◌, true, [], ◌∷◌, length, Some, None, sym, ap, ◌∙◌, subst, arith}
use Rattle.std.specs.Prelude.{slice_get}
use Rattle.heap_model.specs.Heap.{at, there}
use Rattle.heap_model.specs.Facts.{Fact, Named, Part, Carrier, IsUnmade, Learns, IsFree, IsInner, Is, Inner}
use Rattle.heap_model.specs.Worlds.{Sets, WorldsAlike}
use Rattle.heap_model.proofs.Heap.{there_is, there_of}
use Rattle.heap_model.proofs.Alike.{is_inner}
use Rattle.heap_model.proofs.Changes.{set_free, there_on}
use Rattle.heap_model.proofs.Growing.{grows_on, learns_grows, tell}
use Rattle.heap_model.proofs.Building.{with_maker, maker_grows, maker_world, with_fact, fact_learns}
use Rattle.heap_model.proofs.Made.{last_sets, last_length}
use Rattle.limbo_typed.specs.Typed as typed
use Rattle.limbo_meaning.specs.Process.{Shared}
use Rattle.dis_meaning.specs.Words.{Refer}
use Rattle.dis_memory.specs.Blocks as block
use Rattle.dis_memory.specs.Blocks.{Block, World, with_block, next_serial}
use Rattle.dis_memory.specs.Naming.{inside}
use Rattle.value_words.specs.Facts.{Facts}
use Rattle.value_heaps.proofs.Words.{named_where}
use Rattle.value_follows.specs.Sides.{sides, contents}
use Rattle.rows_lists.proofs.New.{IsMade}

module _ (m : typed.Module) (k : Facts) (i : ℕ) (w : Shared) (x : World) (worlds : (sides m).worlds k w x) (name start long array : ℕ)
    (named : Is k name array) (live : there (at x.heap array) ≡ true) where
  abbrev new : Block
  new = block.Part array start long

  abbrev n : ℕ
  n = next_serial x

  abbrev y : World
  y = with_block x new

  abbrev begun : Facts
  begun = with_maker k n i None

  abbrev known : Fact Block
  known = Part name start long

  unmade : IsUnmade k n
  unmade = worlds.0.unmade n (omega arith)

  sets : Sets x.heap y.heap n (Some new)
  sets = last_sets x.heap new

  longer : n < length y.heap
  longer = omega (arith, last_length x.heap new)

  outer : (q : ℕ) → 0 < inside new q → (there (at x.heap q) ≡ true) × (Inner k q → ⊥)
  outer q h = go (named_where (Refer (Some array) ∷ []) q h)
    where
      go : (u : ℕ) × (slice_get (Refer (Some array) ∷ []) u ≡ Some (Refer (Some q))) → (there (at x.heap q) ≡ true) × (Inner k q → ⊥)
      go (zero, e) =
          let same : array ≡ q = cc in
          (subst (λ (o : ℕ). there (at x.heap o) ≡ true) same live, λ z. subst IsInner (subst (λ (o : ℕ). k.fact o ≡ Some (Named name)) same named) z)
      go (suc u, e) = absurd cc

  alike : WorldsAlike (contents m) begun w.heap y.heap
  alike =
      maker_world (contents m) k n i None w.heap y.heap unmade longer
      (set_free (contents m) k w.heap x.heap y.heap n new worlds.0 unmade.fact (omega (arith, last_length x.heap new)) longer sets
      (λ q p. (outer q p).0) (λ q f p. absurd ((outer q p).1 (is_inner _ f))))

  other : (q j : ℕ) → k.maker q ≡ Some j → q ≡ n → ⊥
  other q j e f = let z : None ≡ Some j = sym unmade.maker ∙ (ap k.maker (sym f) ∙ e) in cc

  is_made : (now : Facts) (f : Fact Block) → Learns begun now n f → IsMade m k now i x new
  is_made now f learns = record {
    changes = (
      record {
        grows = grows_on k begun now (maker_grows k n i None unmade) (learns_grows begun now n f learns);
        there = λ q d e. there_is (at y.heap q) (there_on x.heap y.heap n new sets q (there_of (at x.heap q) d e));
        free = λ q j e made ne. (learns.apart q (other q j made), sets.apart q (other q j made));
        carriers = λ q held e.
            sets.apart q (λ z. absurd (let y : None ≡ Some (Carrier held) = sym unmade.fact ∙ (ap k.fact (sym z) ∙ e) in cc));
      },
      omega arith,
    );
    keeps = λ b free made. (subst IsFree (sym (learns.apart b (other b i made))) free, sets.apart b (other b i made));
  }

  pub record PartMade : Type 0 where
    pub now : Facts
    pub is_known : now.fact (next_serial x) ≡ Some (Part name start long)
    pub made : IsMade m k now i x (block.Part array start long)
    pub after : (sides m).worlds now w (with_block x (block.Part array start long))

  same_block : (d e : Block) → Some d ≡ Some e → d ≡ e
  same_block d e f = cc

  pub part_made : PartMade
  part_made =
      let now = with_fact begun n known (λ o e. cc) in
      let learns = fact_learns begun n known (λ o e. cc) unmade.fact in
      let grows = grows_on k begun begun (maker_grows k n i None unmade) (record { facts = λ n f e. e; makers = λ n j e. e; forms = λ n o e. e }) in
      record {
        now = now;
        is_known = learns.now;
        made = is_made now known learns;
        after = (
          tell (contents m) begun now w.heap y.heap n known alike learns longer (λ o e. cc) (λ e. cc) (λ t d e f. absurd cc)
              (λ a s l d e f.
              let a_is : name ≡ a = cc in
              let s_is : start ≡ s = cc in
              let l_is : long ≡ l = cc in (
                array,
                same_block d new (sym f ∙ sets.here) ∙ ap (λ (o : ℕ). block.Part array o long) s_is ∙ ap (λ (o : ℕ). block.Part array s o) l_is,
                subst (λ (o : ℕ). Is begun o array) a_is (grows.facts array (Named name) named),
              ))
              (λ h d e f. absurd cc),
          worlds.1,
        );
      }
