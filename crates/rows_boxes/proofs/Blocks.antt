-- Worlds that stand alike do so where a process gets a new record, where one that stands for nothing has other words, and where it is known
-- to carry its words for good.
use Rattle.std.proofs.Common.{◌≡◌, ℕ, zero, suc, ◌<◌, true, List, [], ◌∷◌, length, Option, Some, None, refl, sym, ap, subst, ◌∙◌, arith}
use Rattle.std.specs.Prelude.{slice_set}
use Rattle.process_model.specs.Follows.{Only}
use Rattle.heap_model.specs.Heap.{Heap, at, there}
use Rattle.heap_model.specs.Facts.{Fact, Carrier, IsFree, Free, Inner, Named}
use Rattle.heap_model.specs.Worlds.{Sets}
use Rattle.heap_model.proofs.Heap.{within, there_of, there_is}
use Rattle.heap_model.proofs.Changes.{set_free, there_on}
use Rattle.heap_model.proofs.Growing.{tell, learns_grows, grows_same}
use Rattle.heap_model.proofs.Building.{with_maker, maker_is, form_is, maker_grows, maker_world, with_fact, fact_learns}
use Rattle.heap_model.proofs.Made.{last_sets, last_length}
use Rattle.heap_model.proofs.Alike.{is_inner}
use Rattle.limbo_layout.specs.Adts.{Has}
use Rattle.limbo_typed.specs.Typed as typed
use Rattle.limbo_meaning.specs.Process.{Shared}
use Rattle.dis_meaning.specs.Words.{Word, Refer}
use Rattle.dis_memory.specs.Blocks.{Block, Record, World, with_block, with_changed, next_serial}
use Rattle.dis_memory.specs.Naming.{inside}
use Rattle.value_words.specs.Forms.{OwnedBy}
use Rattle.value_words.specs.Facts.{Facts, Grows}
use Rattle.value_heaps.proofs.Words.{named_where}
use Rattle.value_frames.specs.Slots.{IsKept}
use Rattle.value_frames.proofs.Slots.{put_long}
use Rattle.value_follows.specs.Stands.{ReferNowhere}
use Rattle.value_follows.specs.Sides.{sides, contents}
use Rattle.value_follows.proofs.RootedValues.{has_at}

-- ---- heaps

changed_here : {A : Type 0} (h : Heap A) (n : ℕ) (a : A) → n < length h → at (slice_set h n (Some a)) n ≡ Some a
changed_here [] n a l = absurd (omega (arith, l))
changed_here (o ∷ h) zero a l = refl
changed_here (o ∷ h) (suc n) a l = changed_here h n a (omega (arith, l))

changed_apart : {A : Type 0} (h : Heap A) (n q : ℕ) (o : Option A) → (q ≡ n → ⊥) → at (slice_set h n o) q ≡ at h q
changed_apart [] n q o ne = refl
changed_apart (p ∷ h) zero zero o ne = absurd (ne refl)
changed_apart (p ∷ h) zero (suc q) o ne = refl
changed_apart (p ∷ h) (suc n) zero o ne = refl
changed_apart (p ∷ h) (suc n) (suc q) o ne = changed_apart h n q o (λ e. ne (ap suc e))

pub set_there : {A : Type 0} (h : Heap A) (n : ℕ) (old a : A) → at h n ≡ Some old → Sets h (slice_set h n (Some a)) n (Some a)
set_there h n old a e = record {
  here = changed_here h n a (within h n (there_of (at h n) old e));
  apart = λ q ne. changed_apart h n q (Some a) ne;
}

-- what a record's words refer to
pub refers_among : (words : List Word) (q : ℕ) → 0 < inside (Record words) q → Has words (Refer (Some q))
refers_among words q h = let w = named_where words q h in has_at words w.0 (Refer (Some q)) w.1

none_or : {A : Type 0} (a : A) → None ≡ Some a → ⊥
none_or a e = cc

module _ (m : typed.Module) (i : ℕ) (k : Facts) (w : Shared) (x : World) (worlds : (sides m).worlds k w x) where
  -- ---- a new record of the process, for the frame of a serial

  module _ (serial : ℕ) (words : List Word) (bare : ReferNowhere words) where
    abbrev pub new_world : World
    new_world = with_block x (Record words)

    abbrev pub new_facts : Facts
    new_facts = with_maker k (next_serial x) i (Some (OwnedBy serial))

    unmade_fact : k.fact (next_serial x) ≡ None
    unmade_fact = (worlds.0.unmade (next_serial x) (omega arith)).fact

    pub new_fact : new_facts.fact (next_serial x) ≡ None
    new_fact = unmade_fact

    pub new_maker : new_facts.maker (next_serial x) ≡ Some i
    new_maker = maker_is k (next_serial x) i (Some (OwnedBy serial))

    pub new_form : new_facts.form (next_serial x) ≡ Some (OwnedBy serial)
    new_form = form_is k (next_serial x) i (Some (OwnedBy serial))

    pub new_there : at new_world.heap (next_serial x) ≡ Some (Record words)
    new_there = (last_sets x.heap (Record words)).here

    pub new_grows : Grows k new_facts
    new_grows = maker_grows k (next_serial x) i (Some (OwnedBy serial)) (worlds.0.unmade (next_serial x) (omega arith))

    -- a block that some process made is another
    pub new_apart : (q j : ℕ) → k.maker q ≡ Some j → q ≡ next_serial x → ⊥
    new_apart q j e same =
        none_or j (sym (worlds.0.unmade (next_serial x) (omega arith)).maker ∙ (ap k.maker (sym same) ∙ e))

    pub new_keeps : (q j : ℕ) → Free k q → k.maker q ≡ Some j → IsKept new_facts x.heap new_world.heap q
    new_keeps q j free e = (free, (last_sets x.heap (Record words)).apart q (new_apart q j e))

    pub new_alike : (sides m).worlds new_facts w new_world
    new_alike =
        let long = last_length x.heap (Record words) in
        let unmade = worlds.0.unmade (next_serial x) (omega arith) in (
          maker_world (contents m) k (next_serial x) i (Some (OwnedBy serial)) w.heap new_world.heap unmade (omega (arith, long))
              (set_free (contents m) k w.heap x.heap new_world.heap (next_serial x) (Record words) worlds.0
              unmade.fact (omega (arith, long)) (omega (arith, long)) (last_sets x.heap (Record words))
              (λ q u. absurd (bare q (refers_among words q u)))
              (λ q f u. absurd (bare q (refers_among words q u)))),
          worlds.1,
        )

    pub new_changes : (sides m).changes (Only i) k new_facts x new_world
    new_changes = (
      record {
        grows = new_grows;
        there = λ q b e.
            there_is (at new_world.heap q)
            (there_on x.heap new_world.heap (next_serial x) (Record words) (last_sets x.heap (Record words)) q (there_of (at x.heap q) b e));
        free = λ q j free e no. (refl, (last_sets x.heap (Record words)).apart q (new_apart q j e));
        carriers = λ q b e. (last_sets x.heap (Record words)).apart q
            (λ same. none_or (Carrier b) (sym unmade_fact ∙ (ap k.fact (sym same) ∙ e)));
      },
      omega arith,
    )

  -- ---- a record of the process's own, which stands for nothing, has other words

  module _ (box : ℕ) (old words : List Word) (there_now : at x.heap box ≡ Some (Record old)) (none : k.fact box ≡ None) (mine : k.maker box ≡ Some i)
      (led : (n : ℕ) → Has words (Refer (Some n)) → (there (at x.heap n) ≡ true) × (Inner k n → ⊥)) where
    abbrev pub written_world : World
    written_world = with_changed x box (Record words)

    pub written_sets : Sets x.heap written_world.heap box (Some (Record words))
    written_sets = set_there x.heap box (Record old) (Record words) there_now

    written_length : length written_world.heap ≡ length x.heap
    written_length = put_long x.heap box (Some (Record words))

    box_below : box < length x.heap
    box_below = within x.heap box (there_of (at x.heap box) (Record old) there_now)

    pub written_alike : (sides m).worlds k w written_world
    written_alike =
        let long = written_length in
        let below = box_below in (
          set_free (contents m) k w.heap x.heap written_world.heap box (Record words) worlds.0 none
              (omega (arith, long)) (omega (arith, long, below)) written_sets
              (λ q u. (led q (refers_among words q u)).0)
              (λ q f u. absurd ((led q (refers_among words q u)).1 (is_inner _ f))),
          worlds.1,
        )

    pub written_changes : (sides m).changes (Only i) k k x written_world
    written_changes = (
      record {
        grows = grows_same k;
        there = λ q b e.
            there_is (at written_world.heap q)
            (there_on x.heap written_world.heap box (Record words) written_sets q (there_of (at x.heap q) b e));
        free = λ q j free e no. (refl, written_sets.apart q (λ same. no (same_maker q j same e)));
        carriers = λ q b e. written_sets.apart q (λ same. none_or (Carrier b) (sym none ∙ (ap k.fact (sym same) ∙ e)));
      },
      omega arith,
    )
      where
        same_maker : (q j : ℕ) → q ≡ box → k.maker q ≡ Some j → j ≡ i
        same_maker q j same e = let z : Some j ≡ Some i = sym e ∙ (ap k.maker same ∙ mine) in cc

    -- ---- and from then on carries them for good

    pub not_named : (n : ℕ) → ◌≡◌ {A = Fact Block} (Carrier (Record words)) (Named n) → ⊥
    not_named n e = cc

    abbrev pub told_facts : Facts
    told_facts = with_fact k box (Carrier (Record words)) not_named

    pub told : told_facts.fact box ≡ Some (Carrier (Record words))
    told = (fact_learns k box (Carrier (Record words)) not_named none).now

    pub told_grows : Grows k told_facts
    told_grows = learns_grows k told_facts box (Carrier (Record words)) (fact_learns k box (Carrier (Record words)) not_named none)

    same_block : (d : Block) → ◌≡◌ {A = Fact Block} (Carrier (Record words)) (Carrier d) → d ≡ Record words
    same_block d e = cc

    pub told_alike : (sides m).worlds told_facts w written_world
    told_alike =
        let long = written_length in
        let below = box_below in (
          tell (contents m) k told_facts w.heap written_world.heap box (Carrier (Record words)) written_alike.0
              (fact_learns k box (Carrier (Record words)) not_named none) (omega (arith, long, below)) not_named (λ e. cc)
              (λ t b e. absurd cc) (λ n s l b e. absurd cc)
              (λ d b e here. (
                (let z : Some b ≡ Some (Record words) = sym here ∙ written_sets.here in
                    let y : b ≡ Record words = cc in
                    y ∙ sym (same_block d e)),
                λ q u. (led q (refers_among words q (subst (λ (c : Block). 0 < inside c q) (same_block d e) u))).1,
              )),
          worlds.1,
        )

    -- other blocks of the process that stand for nothing are as they were
    pub told_keeps : (q : ℕ) → (q ≡ box → ⊥) → Free k q → IsKept told_facts x.heap written_world.heap q
    told_keeps q ne free = (
      subst IsFree (sym ((fact_learns k box (Carrier (Record words)) not_named none).apart q ne)) free,
      written_sets.apart q ne,
    )

    pub told_changes : (sides m).changes (Only i) k told_facts x written_world
    told_changes =
        let before = written_changes.0 in (
          record {
            grows = told_grows;
            there = before.there;
            free = λ q j free e no. (
              (fact_learns k box (Carrier (Record words)) not_named none).apart q (λ same. no (same_maker q j same e)),
              (before.free q j free e no).1,
            );
            carriers = before.carriers;
          },
          omega arith,
        )
      where
        same_maker : (q j : ℕ) → q ≡ box → k.maker q ≡ Some j → j ≡ i
        same_maker q j same e = let z : Some j ≡ Some i = sym e ∙ (ap k.maker same ∙ mine) in cc
