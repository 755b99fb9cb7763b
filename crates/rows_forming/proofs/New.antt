-- Worlds that stand alike do so where a process gets a new record.
use Rattle.std.proofs.Common.{◌≡◌, ℕ, List, Some, None, refl, sym, ap, ◌∙◌, arith}
use Rattle.process_model.specs.Follows.{Only}
use Rattle.heap_model.specs.Heap.{at}
use Rattle.heap_model.specs.Facts.{Carrier, Free}
use Rattle.heap_model.proofs.Heap.{there_of, there_is}
use Rattle.heap_model.proofs.Changes.{set_free, there_on}
use Rattle.heap_model.proofs.Building.{with_maker, maker_is, form_is, maker_grows, maker_world}
use Rattle.heap_model.proofs.Made.{last_sets, last_length}
use Rattle.limbo_typed.specs.Typed as typed
use Rattle.limbo_meaning.specs.Process.{Shared}
use Rattle.dis_meaning.specs.Words.{Word}
use Rattle.dis_memory.specs.Blocks.{Record, World, with_block, next_serial}
use Rattle.value_words.specs.Forms.{OwnedBy}
use Rattle.value_words.specs.Facts.{Facts, Grows}
use Rattle.value_frames.specs.Slots.{IsKept}
use Rattle.value_follows.specs.Stands.{ReferNowhere}
use Rattle.value_follows.specs.Sides.{sides, contents}
use Rattle.rows_forming.proofs.Telling.{refers_among}

none_or : {A : Type 0} (a : A) → None ≡ Some a → ⊥
none_or a e = cc

module _ (m : typed.Module) (i : ℕ) (k : Facts) (w : Shared) (x : World) (worlds : (sides m).worlds k w x) where
  -- ---- a new record of the process, for the frame of a serial

  module _ (serial : ℕ) (words : List Word) (bare : ReferNowhere words) where
    abbrev pub new_world : World
    new_world = with_block x (Record words)

    abbrev pub new_facts : Facts
    new_facts = with_maker k (next_serial x) i (Some (OwnedBy serial))

    unmade_fact : k.fact (next_serial x) ≡ None
    unmade_fact = (worlds.0.unmade (next_serial x) (omega arith)).fact

    pub new_fact : new_facts.fact (next_serial x) ≡ None
    new_fact = unmade_fact

    pub new_maker : new_facts.maker (next_serial x) ≡ Some i
    new_maker = maker_is k (next_serial x) i (Some (OwnedBy serial))

    pub new_form : new_facts.form (next_serial x) ≡ Some (OwnedBy serial)
    new_form = form_is k (next_serial x) i (Some (OwnedBy serial))

    pub new_there : at new_world.heap (next_serial x) ≡ Some (Record words)
    new_there = (last_sets x.heap (Record words)).here

    pub new_grows : Grows k new_facts
    new_grows = maker_grows k (next_serial x) i (Some (OwnedBy serial)) (worlds.0.unmade (next_serial x) (omega arith))

    -- a block that some process made is another
    pub new_apart : (q j : ℕ) → k.maker q ≡ Some j → q ≡ next_serial x → ⊥
    new_apart q j e same =
        none_or j (sym (worlds.0.unmade (next_serial x) (omega arith)).maker ∙ (ap k.maker (sym same) ∙ e))

    pub new_keeps : (q j : ℕ) → Free k q → k.maker q ≡ Some j → IsKept new_facts x.heap new_world.heap q
    new_keeps q j free e = (free, (last_sets x.heap (Record words)).apart q (new_apart q j e))

    pub new_alike : (sides m).worlds new_facts w new_world
    new_alike =
        let long = last_length x.heap (Record words) in
        let unmade = worlds.0.unmade (next_serial x) (omega arith) in (
          maker_world (contents m) k (next_serial x) i (Some (OwnedBy serial)) w.heap new_world.heap unmade (omega (arith, long))
              (set_free (contents m) k w.heap x.heap new_world.heap (next_serial x) (Record words) worlds.0
              unmade.fact (omega (arith, long)) (omega (arith, long)) (last_sets x.heap (Record words))
              (λ q u. absurd (bare q (refers_among words q u)))
              (λ q f u. absurd (bare q (refers_among words q u)))),
          worlds.1,
        )

    pub new_changes : (sides m).changes (Only i) k new_facts x new_world
    new_changes = (
      record {
        grows = new_grows;
        there = λ q b e.
            there_is (at new_world.heap q)
            (there_on x.heap new_world.heap (next_serial x) (Record words) (last_sets x.heap (Record words)) q (there_of (at x.heap q) b e));
        free = λ q j free e no. (refl, (last_sets x.heap (Record words)).apart q (new_apart q j e));
        carriers = λ q b e. (last_sets x.heap (Record words)).apart q
            (λ same. none_or (Carrier b) (sym unmade_fact ∙ (ap k.fact (sym same) ∙ e)));
      },
      omega arith,
    )
