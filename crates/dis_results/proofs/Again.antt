-- Words that stand where others were stored before.
use Rattle.std.proofs.Common.{◌≡◌, ℕ, zero, suc, Bool, true, false, List, [], ◌∷◌, ◌++◌, map, Option, Some, None, refl, sym, ap, ◌∙◌, subst, rules, if◌then◌else◌}
use Rattle.std.specs.Prelude.{slice_set, nat_eq}
use Rattle.heap_model.specs.Heap.{Heap, at}
use Rattle.dis_meaning.specs.Words.{InBlock, InFrame, Word, Access, Found, Wrong, Raises, ◌>>=◌, dead_address, or_wrong}
use Rattle.dis_meaning.specs.Process.{Frame, Process, with_frames, with_words as with_other}
use Rattle.dis_meaning.specs.Places.{Spot, Own, Data, Far, words_in, all_frames, change, with_frame_words}
use Rattle.dis_memory.specs.Blocks.{Block, Record, Text, Array, Part, Cell, Channel, Instance, Sys, World, block, reached, with_words, with_changed}
use Rattle.dis_memory.specs.Places.{Memory, memory, data_at, with_data, words_at, with_words_at}
use Rattle.dis_stores.specs.Storing.{rested, settled}

-- ---- frames

words_changed : (s : ℕ) (ws old : List Word) (fs : List Frame) → words_in s fs ≡ Found old → words_in s (map (change s ws) fs) ≡ Found ws
words_changed s ws old [] e = absurd cc
words_changed s ws old (f ∷ fs) e = go (nat_eq f.serial s) refl e (words_changed s ws old fs)
  where
    go : (b : Bool) → nat_eq f.serial s ≡ b → (if b then Found f.words else words_in s fs) ≡ Found old →
        (words_in s fs ≡ Found old → words_in s (map (change s ws) fs) ≡ Found ws) → words_in s (map (change s ws) (f ∷ fs)) ≡ Found ws
    go true is e more =
        ap (λ b. words_in s ((if b then with_other f ws else f) ∷ map (change s ws) fs)) is
        ∙ ap (λ b. if b then Found ws else words_in s (map (change s ws) fs)) is
    go false is e more =
        ap (λ b. words_in s ((if b then with_other f ws else f) ∷ map (change s ws) fs)) is
        ∙ ap (λ b. if b then Found f.words else words_in s (map (change s ws) fs)) is ∙ more e

change_again : (s : ℕ) (ws us : List Word) (f : Frame) → change s us (change s ws f) ≡ change s us f
change_again s ws us f = go (nat_eq f.serial s) refl
  where
    go : (b : Bool) → nat_eq f.serial s ≡ b → change s us (change s ws f) ≡ change s us f
    go true is = search rules
    go false is = search rules

changes_again : (s : ℕ) (ws us : List Word) (fs : List Frame) → map (change s us) (map (change s ws) fs) ≡ map (change s us) fs
changes_again s ws us [] = refl
changes_again s ws us (f ∷ fs) = ap (λ g. g ∷ map (change s us) (map (change s ws) fs)) (change_again s ws us f) ∙ ap (λ gs. change s us f ∷ gs) (changes_again s ws us fs)

mapped_both : {A B : Type 0} (f : A → B) (xs ys : List A) → map f xs ++ map f ys ≡ map f (xs ++ ys)
mapped_both f [] ys = refl
mapped_both f (x ∷ xs) ys = ap (λ zs. f x ∷ zs) (mapped_both f xs ys)

frame_written : (p : Process) (s : ℕ) (ws old : List Word) → words_in s (all_frames p) ≡ Found old → words_in s (all_frames (with_frame_words p s ws)) ≡ Found ws
frame_written p s ws old e =
    ap (λ fs. words_in s (change s ws p.frame ∷ fs)) (mapped_both (change s ws) p.below p.made) ∙ words_changed s ws old (all_frames p) e

frame_rewritten : (p : Process) (s : ℕ) (ws us : List Word) → with_frame_words (with_frame_words p s ws) s us ≡ with_frame_words p s us
frame_rewritten p s ws us =
    ap (λ f. with_frames p f (map (change s us) (map (change s ws) p.below)) (map (change s us) (map (change s ws) p.made))) (change_again s ws us p.frame)
    ∙ ap (λ fs. with_frames p (change s us p.frame) fs (map (change s us) (map (change s ws) p.made))) (changes_again s ws us p.below)
    ∙ ap (λ fs. with_frames p (change s us p.frame) (map (change s us) p.below) fs) (changes_again s ws us p.made)

-- ---- blocks

set_here : {A : Type 0} (h : Heap A) (n : ℕ) (o : Option A) (b : A) → at h n ≡ Some b → at (slice_set h n o) n ≡ o
set_here [] n o b e = absurd cc
set_here (p ∷ ps) zero o b e = refl
set_here (p ∷ ps) (suc n) o b e = set_here ps n o b e

set_again : {A : Type 0} (h : List A) (n : ℕ) (a b : A) → slice_set (slice_set h n a) n b ≡ slice_set h n b
set_again [] n a b = refl
set_again (p ∷ ps) zero a b = refl
set_again (p ∷ ps) (suc n) a b = ap (λ qs. p ∷ qs) (set_again ps n a b)

reached_again : (b : Block) (ws old : List Word) → reached b ≡ Found old → reached (with_words ws b) ≡ Found ws
reached_again (Record words) ws old e = refl
reached_again (Text chars) ws old e = absurd cc
reached_again (Array element long words) ws old e = refl
reached_again (Part array start long) ws old e = absurd cc
reached_again (Cell element rest) ws old e = absurd cc
reached_again (Channel element) ws old e = absurd cc
reached_again (Instance object words) ws old e = refl
reached_again (Sys names) ws old e = absurd cc

words_again : (b : Block) (ws us : List Word) → with_words us (with_words ws b) ≡ with_words us b
words_again (Record words) ws us = refl
words_again (Text chars) ws us = refl
words_again (Array element long words) ws us = refl
words_again (Part array start long) ws us = refl
words_again (Cell element rest) ws us = refl
words_again (Channel element) ws us = refl
words_again (Instance object words) ws us = refl
words_again (Sys names) ws us = refl

-- A block that operands reach, with other words.
record Reached (x : World) (n : ℕ) (old : List Word) : Type 0 where
  block : Block
  there : at x.heap n ≡ Some block
  words : reached block ≡ Found old

is_reached : (x : World) (n : ℕ) (old : List Word) → data_at x n ≡ Found old → Reached x n old
is_reached x n old e = go (at x.heap n) refl e
  where
    go : (o : Option Block) → at x.heap n ≡ o → (or_wrong dead_address o >>= reached) ≡ Found old → Reached x n old
    go None is e = absurd cc
    go (Some b) is e = record { block = b; there = is; words = e }

data_put : (x : World) (n : ℕ) (ws old : List Word) (r : Reached x n old) → with_data x n ws ≡ Found (with_changed x n (with_words ws r.block))
data_put x n ws old r = ap (λ o. or_wrong dead_address o >>= λ b. Found (with_changed x n (with_words ws b))) r.there

changed_here : (x : World) (n : ℕ) (ws old : List Word) (r : Reached x n old) →
    block (with_changed x n (with_words ws r.block)) n ≡ Found (with_words ws r.block)
changed_here x n ws old r = ap (or_wrong dead_address) (set_here x.heap n (Some (with_words ws r.block)) r.block r.there)

data_written : (x : World) (n : ℕ) (ws old : List Word) (r : Reached x n old) → data_at (with_changed x n (with_words ws r.block)) n ≡ Found ws
data_written x n ws old r = ap (λ a. a >>= reached) (changed_here x n ws old r) ∙ reached_again r.block ws old r.words

data_rewritten : (x : World) (n : ℕ) (ws us old : List Word) (r : Reached x n old) → with_data (with_changed x n (with_words ws r.block)) n us ≡ with_data x n us
data_rewritten x n ws us old r =
    let y = with_changed x n (with_words ws r.block) in
    ap (λ a. a >>= λ b. Found (with_changed y n (with_words us b))) (changed_here x n ws old r)
    ∙ ap (λ b. Found (with_changed y n b)) (words_again r.block ws us)
    ∙ ap (λ h. Found (record { heap = h; outside = x.outside })) (set_again x.heap n (Some (with_words ws r.block)) (Some (with_words us r.block)))
    ∙ sym (data_put x n us old r)

-- ---- a place of memory

-- Memory where other words were stored in a place.
pub record Again (x : World) (p : Process) (s : Spot) (ws : List Word) (m : Memory) : Type 0 where
  pub words : words_at m.world m.process s ≡ Found ws
  pub back : (us : List Word) → rested (with_words_at m.world m.process s us) ≡ rested (with_words_at x p s us)

pub again : (x : World) (p : Process) (s : Spot) (ws old : List Word) (m : Memory) → words_at x p s ≡ Found old → rested (with_words_at x p s ws) ≡ Found m → Again x p s ws m
again x p s ws old m among e = go s among e
  where
    same : (s : Spot) (n : Memory) → Again x p s ws n → Found n ≡ Found m → Again x p s ws m
    same s n a e = let is : n ≡ m = cc in subst (Again x p s ws) is a

    go : (s : Spot) → words_at x p s ≡ Found old → rested (with_words_at x p s ws) ≡ Found m → Again x p s ws m
    go (Own at) among e = same (Own at) _ (record { words = refl; back = λ us. refl }) e
    go (Data at) among e =
        let n = p.frame.instance in let r = is_reached x n old among in
        same (Data at) (memory (with_changed x n (with_words ws r.block)) (settled p))
        (record {
          words = data_written x n ws old r;
          back = λ us. ap (λ a. rested (a >>= λ y. Found (memory y (settled p)))) (data_rewritten x n ws us old r) ∙ put_back (with_data x n us);
        })
        (sym (ap (λ a. rested (a >>= λ y. Found (memory y p))) (data_put x n ws old r)) ∙ e)
      where
        put_back : (a : Access World) → rested (a >>= λ y. Found (memory y (settled p))) ≡ rested (a >>= λ y. Found (memory y p))
        put_back (Found y) = refl
        put_back (Wrong k) = refl
        put_back (Raises text) = refl
    go (Far (InFrame n) at) among e =
        same (Far (InFrame n) at) _ (record { words = frame_written p n ws old among; back = λ us. ap (λ q. Found (memory x q)) (frame_rewritten p n ws us) }) e
    go (Far (InBlock n) at) among e =
        let r = is_reached x n old among in
        same (Far (InBlock n) at) (memory (with_changed x n (with_words ws r.block)) (settled p))
        (record {
          words = data_written x n ws old r;
          back = λ us. ap (λ a. rested (a >>= λ y. Found (memory y (settled p)))) (data_rewritten x n ws us old r) ∙ put_back (with_data x n us);
        })
        (sym (ap (λ a. rested (a >>= λ y. Found (memory y p))) (data_put x n ws old r)) ∙ e)
      where
        put_back : (a : Access World) → rested (a >>= λ y. Found (memory y (settled p))) ≡ rested (a >>= λ y. Found (memory y p))
        put_back (Found y) = refl
        put_back (Wrong k) = refl
        put_back (Raises text) = refl

-- A process that printed has its words where it has them after that.
pub words_settled : (x : World) (p : Process) (s : Spot) → words_at x p s ≡ words_at x (settled p) s
words_settled x p (Own at) = refl
words_settled x p (Data at) = refl
words_settled x p (Far (InFrame n) at) = refl
words_settled x p (Far (InBlock n) at) = refl

pub put_settled : (x : World) (p : Process) (s : Spot) (ws : List Word) → rested (with_words_at x p s ws) ≡ rested (with_words_at x (settled p) s ws)
put_settled x p (Own at) ws = refl
put_settled x p (Data at) ws = go (with_data x p.frame.instance ws)
  where
    go : (a : Access World) → rested (a >>= λ y. Found (memory y p)) ≡ rested (a >>= λ y. Found (memory y (settled p)))
    go (Found y) = refl
    go (Wrong k) = refl
    go (Raises text) = refl
put_settled x p (Far (InFrame n) at) ws = refl
put_settled x p (Far (InBlock n) at) ws = go (with_data x n ws)
  where
    go : (a : Access World) → rested (a >>= λ y. Found (memory y p)) ≡ rested (a >>= λ y. Found (memory y (settled p)))
    go (Found y) = refl
    go (Wrong k) = refl
    go (Raises text) = refl

-- Where words are found, others can be stored.
pub put_found : (x : World) (p : Process) (s : Spot) (ws old : List Word) → words_at x p s ≡ Found old → (m : Memory) × (rested (with_words_at x p s ws) ≡ Found m)
put_found x p (Own at) ws old e = (_, refl)
put_found x p (Data at) ws old e =
    let r = is_reached x p.frame.instance old e in
    (_, ap (λ a. rested (a >>= λ y. Found (memory y p))) (data_put x p.frame.instance ws old r))
put_found x p (Far (InFrame n) at) ws old e = (_, refl)
put_found x p (Far (InBlock n) at) ws old e =
    let r = is_reached x n old e in
    (_, ap (λ a. rested (a >>= λ y. Found (memory y p))) (data_put x n ws old r))
