-- Worlds that stand alike do so where it is known of a record, which stood for nothing, that it carries its words for good.
use Rattle.std.proofs.Common.{◌≡◌, ℕ, ◌<◌, List, Some, None, refl, sym, ap, subst, ◌∙◌, arith}
use Rattle.process_model.specs.Follows.{Only}
use Rattle.heap_model.specs.Heap.{at}
use Rattle.heap_model.specs.Facts.{Fact, Carrier, IsFree, Free, Inner, Named}
use Rattle.heap_model.proofs.Heap.{within, there_of}
use Rattle.heap_model.proofs.Growing.{tell, learns_grows}
use Rattle.heap_model.proofs.Building.{with_fact, fact_learns}
use Rattle.limbo_layout.specs.Adts.{Has}
use Rattle.limbo_typed.specs.Typed as typed
use Rattle.limbo_meaning.specs.Process.{Shared}
use Rattle.dis_meaning.specs.Words.{Word, Refer}
use Rattle.dis_memory.specs.Blocks.{Block, Record, World}
use Rattle.dis_memory.specs.Naming.{inside}
use Rattle.value_words.specs.Facts.{Facts, Grows}
use Rattle.value_heaps.proofs.Words.{named_where}
use Rattle.value_frames.specs.Slots.{IsKept}
use Rattle.value_follows.specs.Sides.{sides, contents}
use Rattle.value_follows.proofs.RootedValues.{has_at}

-- what a record's words refer to
pub refers_among : (words : List Word) (q : ℕ) → 0 < inside (Record words) q → Has words (Refer (Some q))
refers_among words q h = let w = named_where words q h in has_at words w.0 (Refer (Some q)) w.1

module _ (m : typed.Module) (i : ℕ) (k : Facts) (w : Shared) (x : World) (worlds : (sides m).worlds k w x) (box : ℕ) (words : List Word)
    (there_now : at x.heap box ≡ Some (Record words)) (undecided : k.fact box ≡ None) (mine : k.maker box ≡ Some i)
    (outer : (n : ℕ) → Has words (Refer (Some n)) → Inner k n → ⊥) where
  pub not_named : (n : ℕ) → ◌≡◌ {A = Fact Block} (Carrier (Record words)) (Named n) → ⊥
  not_named n e = cc

  abbrev pub told_facts : Facts
  told_facts = with_fact k box (Carrier (Record words)) not_named

  pub told : told_facts.fact box ≡ Some (Carrier (Record words))
  told = (fact_learns k box (Carrier (Record words)) not_named undecided).now

  pub told_grows : Grows k told_facts
  told_grows = learns_grows k told_facts box (Carrier (Record words)) (fact_learns k box (Carrier (Record words)) not_named undecided)

  same_block : (d : Block) → ◌≡◌ {A = Fact Block} (Carrier (Record words)) (Carrier d) → d ≡ Record words
  same_block d e = cc

  pub told_alike : (sides m).worlds told_facts w x
  told_alike =
      let below = within x.heap box (there_of (at x.heap box) (Record words) there_now) in (
        tell (contents m) k told_facts w.heap x.heap box (Carrier (Record words)) worlds.0
            (fact_learns k box (Carrier (Record words)) not_named undecided) below not_named (λ e. cc)
            (λ t b e. absurd cc) (λ n s l b e. absurd cc)
            (λ d b e here. (
              (let z : Some b ≡ Some (Record words) = sym here ∙ there_now in
                  let y : b ≡ Record words = cc in
                  y ∙ sym (same_block d e)),
              λ q u. outer q (refers_among words q (subst (λ (c : Block). 0 < inside c q) (same_block d e) u)),
            )),
        worlds.1,
      )

  -- other blocks that stand for nothing do so still
  pub told_keeps : (q : ℕ) → (q ≡ box → ⊥) → Free k q → IsKept told_facts x.heap x.heap q
  told_keeps q ne free =
      (subst IsFree (sym ((fact_learns k box (Carrier (Record words)) not_named undecided).apart q ne)) free, refl)

  pub told_changes : (sides m).changes (Only i) k told_facts x x
  told_changes = (
    record {
      grows = told_grows;
      there = λ q b e. (b, e);
      free = λ q j f e no. (
        (fact_learns k box (Carrier (Record words)) not_named undecided).apart q (λ same. no (same_maker q j same e)),
        refl,
      );
      carriers = λ q b e. refl;
    },
    omega arith,
  )
    where
      same_maker : (q j : ℕ) → q ≡ box → k.maker q ≡ Some j → j ≡ i
      same_maker q j same e = let z : Some j ≡ Some i = sym e ∙ (ap k.maker same ∙ mine) in cc
