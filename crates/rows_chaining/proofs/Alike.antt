-- Two processes of the machine, of which the one refers to what the other refers to, or to what a block does that stands for nothing and to
-- which that one refers: what the one holds the other does.
use Rattle.std.proofs.Common.{◌≡◌, ◌⊎◌, ℕ, ◌<◌, Some, sym, subst, inl, inr}
use Rattle.heap_model.specs.Heap.{at, in_one}
use Rattle.heap_model.specs.Facts.{Inner}
use Rattle.heap_model.specs.Alike.{Chain, word, next}
use Rattle.heap_model.specs.Worlds.{blocks}
use Rattle.limbo_typed.specs.Typed as typed
use Rattle.core_code.specs.Machine as code
use Rattle.dis_meaning.specs.Process.{Process}
use Rattle.dis_memory.specs.Blocks.{Block, World}
use Rattle.dis_memory.specs.Naming as machine
use Rattle.dis_memory.specs.Naming.{inside}
use Rattle.value_words.specs.Facts.{Facts}
use Rattle.value_follows.specs.Sides.{contents, HoldTheSame}

module _ (m : typed.Module) (k : Facts) (i : ℕ) (x : World) (p : code.Process) (a c : Process) (b : ℕ) (d : Block) (free : Inner k b)
    (found : at x.heap b ≡ Some d) (fewer : (n : ℕ) → 0 < machine.names a n → 0 < machine.names c n)
    (more : (n : ℕ) → 0 < machine.names c n → (0 < machine.names a n) ⊎ (0 < inside d n)) (first : 0 < machine.names a b) where
  used : (n : ℕ) → 0 < inside d n → 0 < in_one inside (at x.heap b) n
  used n u = subst (λ o. 0 < in_one inside o n) (sym found) u

  -- the one of which less is said
  pub holds_more : HoldTheSame m k i x p a → HoldTheSame m k i x p c
  holds_more h = record {
    same = record {
      own = h.same.own;
      roots = λ n u. elim (more n u) [
        | inl y ↦ h.same.roots n y
        | inr y ↦ h.same.within b n (h.same.roots b first) free (used n y)
      ];
      live = h.same.live;
      way = λ n u. way n (h.same.way n u);
      within = h.same.within;
      covers = h.same.covers;
      to = h.same.to;
    };
    mine = h.mine;
  }
    where
      way : (n : ℕ) → Chain k (blocks (contents m) x.heap) (machine.names a) n → Chain k (blocks (contents m) x.heap) (machine.names c) n
      way n (word u) = word (fewer n u)
      way n (next {a = o} u f l v) = next (way o u) f l v

  pub holds_fewer : HoldTheSame m k i x p c → HoldTheSame m k i x p a
  holds_fewer h = record {
    same = record {
      own = h.same.own;
      roots = λ n u. h.same.roots n (fewer n u);
      live = h.same.live;
      way = λ n u. way n (h.same.way n u);
      within = h.same.within;
      covers = h.same.covers;
      to = h.same.to;
    };
    mine = h.mine;
  }
    where
      way : (n : ℕ) → Chain k (blocks (contents m) x.heap) (machine.names c) n → Chain k (blocks (contents m) x.heap) (machine.names a) n
      way n (word u) = elim (more n u) [
        | inl y ↦ word y
        | inr y ↦ next (word first) free (h.same.live b (h.same.roots b (fewer b first))) (used n y)
      ]
      way n (next {a = o} u f l v) = next (way o u) f l v
