-- Words stay accounted for behind a step of other processes and a cut: a block that stands for nothing is as it was, since it is there, and
-- a carrier never changes.
use Rattle.std.proofs.Common.{◌≡◌, ℕ, ◌<◌, true, List, [], ◌∷◌, inl, inr, Some, sym, ap, subst, ◌∙◌, arith}
use Rattle.heap_model.specs.Kept.{IsClosed}
use Rattle.heap_model.specs.Heap.{Heap, at, there, in_one, graph}
use Rattle.heap_model.specs.Facts.{Carrier, IsFree, IsInner, Free, Inner}
use Rattle.heap_model.specs.Contents.{Contents}
use Rattle.heap_model.specs.Worlds.{Leaves}
use Rattle.heap_model.proofs.Heap.{there_is}
use Rattle.heap_model.proofs.Alike.{Known, is_named, is_text, is_part, is_free, is_carrier, known, is_inner}
use Rattle.heap_model.proofs.Settle.{covers_more, covers_grows}
use Rattle.dis_meaning.specs.Words.{Word}
use Rattle.dis_meaning.specs.Counts.{in_words}
use Rattle.dis_memory.specs.Blocks.{Block, words_in}
use Rattle.dis_memory.specs.Naming.{inside}
use Rattle.value_words.specs.Facts.{Facts}
use Rattle.value_words.specs.Forms.{Form}
use Rattle.value_roots.specs.Accounts.{Accounted, a_number, an_address, to_nothing, to_value, to_inner, AllAccounted, none, more}
use Rattle.value_roots.specs.Laws.{LeftAccounted}
use Rattle.value_roots.proofs.Words.{refers_it}

-- each carrier is what it is known to be
abbrev CarriersAre : Facts → Heap Block → Type 0
CarriersAre k x = (b : ℕ) (d block : Block) → k.fact b ≡ Some (Carrier d) → at x b ≡ Some block → block ≡ d

module _ (k k' : Facts) (i : ℕ) (x x' : Heap Block) (names names' : ℕ → ℕ) (leaves : Leaves i k k' x x') (carriers : CarriersAre k x)
    (carriers' : CarriersAre k' x') (closed : IsClosed (graph inside x')) (named : (m : ℕ) → 0 < names m → 0 < names' m) where
  -- an inner block of the process that is still there is as it was, and what it was
  record IsLeft (b : ℕ) (block : Block) : Type 0 where
    place : at x' b ≡ Some block
    inner : Inner k' b
    mine : Free k' b → k'.maker b ≡ Some i

  left_block : (b : ℕ) (block : Block) → Inner k b → at x b ≡ Some block → (Free k b → k.maker b ≡ Some i) → there (at x' b) ≡ true
      → IsLeft b block
  left_block b block inner e mine live = go (known k b)
    where
      go : Known k b → IsLeft b block
      go (is_named m f) = absurd (subst IsInner f inner)
      go (is_text t f) = absurd (subst IsInner f inner)
      go (is_part m s l f) = absurd (subst IsInner f inner)
      go (is_free f) = elim (leaves.free b f (mine f)) [
        | inl s ↦ record {
          place = s.1 ∙ e;
          inner = is_inner (k'.fact b) (subst IsFree (sym s.0) f);
          mine = λ g. leaves.grows.makers b i (mine f);
        }
        | inr s ↦ absurd (let z = sym (ap there s.1) ∙ live in cc)
      ]
      go (is_carrier d f) =
          let f' = leaves.grows.facts b (Carrier d) f in
          let now = there_is (at x' b) live in
          record {
            place = now.1 ∙ ap Some (carriers' b d now.0 f' now.1 ∙ sym (carriers b d block f e));
            inner = subst IsInner (sym f') tt;
            mine = λ g. absurd (subst IsFree f' g);
          }

  mutual
    one_left : (w : Word) → Accounted k i x names w → ((q : ℕ) → 0 < in_words q (w ∷ []) → there (at x' q) ≡ true)
        → Accounted k' i x' names' w
    one_left _ (a_number z) live = a_number z
    one_left _ (an_address p a) live = an_address p a
    one_left _ to_nothing live = to_nothing
    one_left _ (to_value b c) live = to_value b (covers_more k' _ _ b named (covers_grows k k' _ b leaves.grows c))
    one_left _ (to_inner b block inner e mine all) live =
        let here = live b (let r = refers_it b in omega arith) in
        let s = left_block b block inner e mine here in
        to_inner b block s.inner s.place s.mine
        (all_left (words_in block) all (λ q u. closed.closed b q here (subst (λ o. 0 < in_one inside o q) (sym s.place) u)))

    all_left : (ws : List Word) → AllAccounted k i x names ws → ((q : ℕ) → 0 < in_words q ws → there (at x' q) ≡ true)
        → AllAccounted k' i x' names' ws
    all_left _ none live = none
    all_left _ (more w ws a each) live =
        more w ws (one_left w a (λ q u. live q (omega (arith, u)))) (all_left ws each (λ q u. live q (omega (arith, u))))

pub left_accounted : {V : Type 0} (c : Contents V Block Form) → LeftAccounted c
left_accounted c same k k' i w w' x x' names names' words alike alike' leaves live named each =
    all_left k k' i x x' names names' leaves (λ b d block f e. (alike.carriers b d block f e).0)
    (λ b d block f e. (alike'.carriers b d block f e).0)
    (subst (λ words. IsClosed (graph words x')) same alike'.closed) named words each live
