-- What two processes hold stays so where a record that is held comes to refer to what the machine's process refers to, and where that process
-- refers no more to what a way leads to.
use Rattle.std.proofs.Common.{◌≡◌, ◌≢◌, ◌⊎◌, ℕ, true, false, ◌<◌, List, Some, sym, ap, ◌∙◌, subst, inl, inr}
use Rattle.std.specs.Prelude.{eqb}
use Rattle.std.proofs.lemmas.Bool.Decides.{eqb_tells}
use Rattle.heap_model.specs.Heap.{at, there, in_one}
use Rattle.heap_model.specs.Facts.{Inner}
use Rattle.heap_model.specs.Alike.{Chain, word, next}
use Rattle.heap_model.specs.Worlds.{blocks}
use Rattle.heap_model.proofs.Heap.{there_of}
use Rattle.limbo_typed.specs.Typed as typed
use Rattle.core_code.specs.Machine as code
use Rattle.dis_meaning.specs.Words.{Word}
use Rattle.dis_meaning.specs.Counts.{in_words}
use Rattle.dis_meaning.specs.Process.{Process}
use Rattle.dis_memory.specs.Blocks.{Block, Record, World, with_changed}
use Rattle.dis_memory.specs.Naming as machine
use Rattle.dis_memory.specs.Naming.{inside}
use Rattle.value_words.specs.Facts.{Facts}
use Rattle.value_follows.specs.Sides.{contents, HoldTheSame}
use Rattle.rows_dropping.proofs.Spare.{set_there}

module _ (m : typed.Module) (i : ℕ) (p : code.Process) (a c : Process) where
  used : (x : World) (r b : ℕ) (d : Block) → at x.heap b ≡ Some d → 0 < inside d r → 0 < in_one inside (at x.heap b) r
  used x r b d e u = subst (λ o. 0 < in_one inside o r) (sym e) u

  uses_so : (x : World) (r b : ℕ) (d : Block) → at x.heap b ≡ Some d → 0 < in_one inside (at x.heap b) r → 0 < inside d r
  uses_so x r b d e u = subst (λ o. 0 < in_one inside o r) e u

  -- ---- a record that is held refers to others

  module _ (k : Facts) (x : World) (d : ℕ) (ws others : List Word) (found : at x.heap d ≡ Some (Record ws))
      (more : (r : ℕ) → 0 < in_words r ws → (0 < in_words r others) ⊎ (0 < machine.names a r))
      (known : (r : ℕ) → 0 < in_words r others → (0 < in_words r ws) ⊎ (0 < machine.names a r))
      (to : (r : ℕ) → 0 < machine.names a r → 0 < machine.names c r) (back : (r : ℕ) → 0 < machine.names c r → 0 < machine.names a r) where
    abbrev y : World
    y = with_changed x d (Record others)

    pub hold_stored : HoldTheSame m k i x p a → HoldTheSame m k i y p c
    hold_stored h = record {
      same = record {
        own = h.same.own;
        roots = λ r u. h.same.roots r (back r u);
        live = λ r u. live r (h.same.live r u);
        way = λ r u. way r (h.same.way r u);
        within = λ q r u f v. within q r u f v (eqb_tells q d);
        covers = h.same.covers;
        to = h.same.to;
      };
      mine = h.mine;
    }
      where
        is_now : at y.heap d ≡ Some (Record others)
        is_now = (set_there x.heap d (Record others) (Record ws) found).here

        apart : (r : ℕ) → r ≢ d → at y.heap r ≡ at x.heap r
        apart = (set_there x.heap d (Record others) (Record ws) found).apart

        live : (r : ℕ) → there (at x.heap r) ≡ true → there (at y.heap r) ≡ true
        live r l = elim (eqb_tells r d) [
          | inl e ↦ subst (λ z. there (at y.heap z) ≡ true) (sym e.1) (there_of (at y.heap d) (Record others) is_now)
          | inr e ↦ ap there (apart r e.1) ∙ l
        ]

        within : (q r : ℕ) → 0 < h.same.own q → Inner k q → 0 < in_one inside (at y.heap q) r
            → (eqb q d ≡ true) × (q ≡ d) ⊎ (eqb q d ≡ false) × (q ≢ d) → 0 < h.same.own r
        within q r u f v (inl e) =
            elim (known r (uses_so y r q (Record others) (subst (λ z. at y.heap z ≡ Some (Record others)) (sym e.1) is_now) v)) [
              | inl z ↦ h.same.within q r u f (used x r q (Record ws) (subst (λ z. at x.heap z ≡ Some (Record ws)) (sym e.1) found) z)
              | inr z ↦ h.same.roots r z
            ]
        within q r u f v (inr e) = h.same.within q r u f (subst (λ z. 0 < in_one inside z r) (apart q e.1) v)

        onward : (o r : ℕ) → Inner k o → there (at x.heap o) ≡ true → 0 < in_one inside (at x.heap o) r
            → (eqb o d ≡ true) × (o ≡ d) ⊎ (eqb o d ≡ false) × (o ≢ d) → Chain k (blocks (contents m) y.heap) (machine.names c) o
            → Chain k (blocks (contents m) y.heap) (machine.names c) r
        onward o r f l v (inl e) on =
            elim (more r (uses_so x r o (Record ws) (subst (λ z. at x.heap z ≡ Some (Record ws)) (sym e.1) found) v)) [
              | inl z ↦
                  next on f (live o l) (used y r o (Record others) (subst (λ z. at y.heap z ≡ Some (Record others)) (sym e.1) is_now) z)
              | inr z ↦ word (to r z)
            ]
        onward o r f l v (inr e) on = next on f (live o l) (subst (λ z. 0 < in_one inside z r) (sym (apart o e.1)) v)

        way : (r : ℕ) → Chain k (blocks (contents m) x.heap) (machine.names a) r → Chain k (blocks (contents m) y.heap) (machine.names c) r
        way r (word u) = word (to r u)
        way r (next {a = o} u f l v) = onward o r f l v (eqb_tells o d) (way o u)

  -- ---- the process refers to less

  module _ (k : Facts) (x : World)
      (fewer : (r : ℕ) → 0 < machine.names a r → Chain k (blocks (contents m) x.heap) (machine.names c) r)
      (more : (r : ℕ) → 0 < machine.names c r → 0 < machine.names a r) where
    pub hold_less : HoldTheSame m k i x p a → HoldTheSame m k i x p c
    hold_less h = record {
      same = record {
        own = h.same.own;
        roots = λ r u. h.same.roots r (more r u);
        live = h.same.live;
        way = λ r u. way r (h.same.way r u);
        within = h.same.within;
        covers = h.same.covers;
        to = h.same.to;
      };
      mine = h.mine;
    }
      where
        way : (r : ℕ) → Chain k (blocks (contents m) x.heap) (machine.names a) r → Chain k (blocks (contents m) x.heap) (machine.names c) r
        way r (word u) = fewer r u
        way r (next {a = o} u f l v) = next (way o u) f l v
