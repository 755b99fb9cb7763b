-- Words of a block that are written one change behind the other.
use Rattle.std.proofs.Common.{◌≡◌, ℕ, zero, suc, List, [], ◌∷◌, Option, Some, None, refl, sym, ap, ◌∙◌}
use Rattle.std.specs.Prelude.{slice_set}
use Rattle.heap_model.specs.Heap.{Heap, at}
use Rattle.dis_meaning.specs.Words.{Word, Found, ◌>>=◌, dead_address, or_wrong}
use Rattle.dis_memory.specs.Blocks.{Block, Record, Text, Array, Part, Cell, Channel, Instance, Sys, World, block, reached, with_words, with_changed, with_heap}
use Rattle.dis_memory.specs.Places.{data_at, with_data}

set_here : {A : Type 0} (h : Heap A) (n : ℕ) (o : Option A) (b : A) → at h n ≡ Some b → at (slice_set h n o) n ≡ o
set_here [] n o b e = absurd cc
set_here (p ∷ ps) zero o b e = refl
set_here (p ∷ ps) (suc n) o b e = set_here ps n o b e

set_again : {A : Type 0} (h : List A) (n : ℕ) (a b : A) → slice_set (slice_set h n a) n b ≡ slice_set h n b
set_again [] n a b = refl
set_again (p ∷ ps) zero a b = refl
set_again (p ∷ ps) (suc n) a b = ap (λ qs. p ∷ qs) (set_again ps n a b)

set_same : {A : Type 0} (h : Heap A) (n : ℕ) (b : A) → at h n ≡ Some b → slice_set h n (Some b) ≡ h
set_same [] n b e = absurd cc
set_same (p ∷ ps) zero b e = ap (λ o. o ∷ ps) (sym e)
set_same (p ∷ ps) (suc n) b e = ap (λ qs. p ∷ qs) (set_same ps n b e)

reached_again : (b : Block) (ws old : List Word) → reached b ≡ Found old → reached (with_words ws b) ≡ Found ws
reached_again (Record words) ws old e = refl
reached_again (Text chars) ws old e = absurd cc
reached_again (Array element long words) ws old e = refl
reached_again (Part array start long) ws old e = absurd cc
reached_again (Cell element rest) ws old e = absurd cc
reached_again (Channel element) ws old e = absurd cc
reached_again (Instance object words) ws old e = refl
reached_again (Sys names) ws old e = absurd cc

words_again : (b : Block) (ws us : List Word) → with_words us (with_words ws b) ≡ with_words us b
words_again (Record words) ws us = refl
words_again (Text chars) ws us = refl
words_again (Array element long words) ws us = refl
words_again (Part array start long) ws us = refl
words_again (Cell element rest) ws us = refl
words_again (Channel element) ws us = refl
words_again (Instance object words) ws us = refl
words_again (Sys names) ws us = refl

words_same : (b : Block) (ws : List Word) → reached b ≡ Found ws → with_words ws b ≡ b
words_same (Record words) ws e = let same : words ≡ ws = cc in ap Record (sym same)
words_same (Text chars) ws e = absurd cc
words_same (Array element long words) ws e = let same : words ≡ ws = cc in ap (Array element long) (sym same)
words_same (Part array start long) ws e = absurd cc
words_same (Cell element rest) ws e = absurd cc
words_same (Channel element) ws e = absurd cc
words_same (Instance object words) ws e = let same : words ≡ ws = cc in ap (Instance object) (sym same)
words_same (Sys names) ws e = absurd cc

-- A block that operands reach.
record Reached (x : World) (n : ℕ) (old : List Word) : Type 0 where
  block : Block
  there : at x.heap n ≡ Some block
  words : reached block ≡ Found old

is_reached : (x : World) (n : ℕ) (old : List Word) → data_at x n ≡ Found old → Reached x n old
is_reached x n old e = go (at x.heap n) refl e
  where
    go : (o : Option Block) → at x.heap n ≡ o → (or_wrong dead_address o >>= reached) ≡ Found old → Reached x n old
    go None is e = absurd cc
    go (Some b) is e = record { block = b; there = is; words = e }

data_put : (x : World) (n : ℕ) (ws old : List Word) (r : Reached x n old) → with_data x n ws ≡ Found (with_changed x n (with_words ws r.block))
data_put x n ws old r = ap (λ o. or_wrong dead_address o >>= λ b. Found (with_changed x n (with_words ws b))) r.there

-- Other words of a block, and what comes of changing them again.
pub record Other (x : World) (n : ℕ) (ws : List Word) : Type 0 where
  pub world : World
  pub put : with_data x n ws ≡ Found world
  pub words : data_at world n ≡ Found ws
  pub back : (us : List Word) → with_data world n us ≡ with_data x n us

pub other : (x : World) (n : ℕ) (ws old : List Word) → data_at x n ≡ Found old → Other x n ws
other x n ws old e =
    let r = is_reached x n old e in
    let y = with_changed x n (with_words ws r.block) in
    let here : block y n ≡ Found (with_words ws r.block) = ap (or_wrong dead_address) (set_here x.heap n (Some (with_words ws r.block)) r.block r.there) in record {
      world = y;
      put = data_put x n ws old r;
      words = ap (λ a. a >>= reached) here ∙ reached_again r.block ws old r.words;
      back = λ us.
          ap (λ a. a >>= λ b. Found (with_changed y n (with_words us b))) here
          ∙ ap (λ b. Found (with_changed y n b)) (words_again r.block ws us)
          ∙ ap (λ h. Found (with_heap x h)) (set_again x.heap n (Some (with_words ws r.block)) (Some (with_words us r.block)))
          ∙ sym (data_put x n us old r);
    }

-- The words that a block has change nothing.
pub data_same : (x : World) (n : ℕ) (ws : List Word) → data_at x n ≡ Found ws → with_data x n ws ≡ Found x
data_same x n ws e =
    let r = is_reached x n ws e in
    data_put x n ws ws r
    ∙ ap (λ b. Found (with_changed x n b)) (words_same r.block ws r.words)
    ∙ ap (λ h. Found (with_heap x h)) (set_same x.heap n r.block r.there)
