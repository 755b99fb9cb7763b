-- What instructions do to the heap: it grows.
use Rattle.std.proofs.Common.{◌≡◌, ◌≢◌, ℕ, zero, suc, ℤ, ◌≤◌, List, [], ◌∷◌, ◌++◌, length, Option, None, Some, refl, sym, ap, ◌∙◌, arith}
use Rattle.std.specs.Prelude.{slice_set}
use Rattle.limbo_values.specs.declared.number.Kind.{Kind}
use Rattle.heap_model.specs.Heap.{Heap, at}
use Rattle.heap_model.proofs.Heap.{at_more}
use Rattle.dis_meaning.specs.Words.{InBlock, InFrame, Word, Access, Found, Wrong, Raises, ◌>>=◌, dead_address, or_wrong, stored}
use Rattle.dis_meaning.specs.Numbers.{with_number_at}
use Rattle.dis_meaning.specs.Places.{Spot, Own, Data, Far, place_in}
use Rattle.dis_meaning.specs.Process.{Process}
use Rattle.dis_memory.specs.Blocks as blocks
use Rattle.dis_memory.specs.Blocks.{Block, World, block, with_block, with_changed}
use Rattle.dis_memory.specs.Places.{Memory, words_at, with_data, with_words_at, store, store_number}
use Rattle.dis_memory.specs.Laws.{Grown}

-- ---- heaps

set_long : {A : Type 0} (h : Heap A) (n : ℕ) (o : Option A) → length (slice_set h n o) ≡ length h
set_long [] n o = refl
set_long (p ∷ os) zero o = refl
set_long (p ∷ os) (suc n) o = ap suc (set_long os n o)

pub set_apart : {A : Type 0} (h : Heap A) (n : ℕ) (o : Option A) (k : ℕ) → k ≢ n → at (slice_set h n o) k ≡ at h k
set_apart [] n o k ne = refl
set_apart (p ∷ os) zero o zero ne = absurd (ne refl)
set_apart (p ∷ os) zero o (suc k) ne = refl
set_apart (p ∷ os) (suc n) o zero ne = refl
set_apart (p ∷ os) (suc n) o (suc k) ne = set_apart os n o k (λ e. ne (ap suc e))

-- A place that had a block has one still.
set_there : {A : Type 0} (h : Heap A) (n : ℕ) (a : A) (k : ℕ) (b : A) → at h k ≡ Some b → (c : A) × (at (slice_set h n (Some a)) k ≡ Some c)
set_there [] n a k b e = absurd cc
set_there (p ∷ os) zero a zero b e = (a, refl)
set_there (p ∷ os) zero a (suc k) b e = (b, e)
set_there (p ∷ os) (suc n) a zero b e = (b, e)
set_there (p ∷ os) (suc n) a (suc k) b e = set_there os n a k b e

longer : {A : Type 0} (g : Heap A) (o : Option A) → length g ≤ length (g ++ o ∷ [])
longer [] o = omega arith
longer (p ∷ os) o = omega (arith, longer os o)

pub more_there : {A : Type 0} (h : Heap A) (o : Option A) (n : ℕ) (b : A) → at h n ≡ Some b → at (h ++ o ∷ []) n ≡ Some b
more_there [] o n b e = absurd cc
more_there (p ∷ os) o zero b e = e
more_there (p ∷ os) o (suc n) b e = more_there os o n b e

-- ---- worlds

pub grown_same : (x : World) → Grown x x
grown_same x = record { longer = omega arith; there = λ n b e. (b, e); empty = λ n l e. e }

pub grown_on : (x y z : World) → Grown x y → Grown y z → Grown x z
grown_on x y z a b = record {
  longer = omega (arith, a.longer, b.longer);
  there = λ n c e. b.there n (a.there n c e).0 (a.there n c e).1;
  empty = λ n l e. b.empty n (omega (arith, a.longer, l)) (a.empty n l e);
}

pub grown_block : (x : World) (b : Block) → Grown x (with_block x b)
grown_block x b = record {
  longer = longer x.heap (Some b);
  there = λ n c e. (c, more_there x.heap (Some b) n c e);
  empty = λ n l e. at_more x.heap (Some b) n (λ same. omega (arith, same, l)) ∙ e;
}

not_there : (h : Heap Block) (n k : ℕ) (u : Block) → at h n ≡ Some u → at h k ≡ None → k ≢ n
not_there h n k u e f same = let z : None ≡ Some u = sym f ∙ (ap (at h) same ∙ e) in absurd cc

grown_changed : (x : World) (n : ℕ) (u b : Block) → at x.heap n ≡ Some u → Grown x (with_changed x n b)
grown_changed x n u b e = record {
  longer = let z = set_long x.heap n (Some b) in omega arith;
  there = λ k c f. set_there x.heap n b k c f;
  empty = λ k l f. set_apart x.heap n (Some b) k (not_there x.heap n k u e f) ∙ f;
}

-- ---- what is found

-- What comes of two accesses comes of the first, and then of the second.
pub record Both {S T : Type 0} (a : Access S) (f : S → Access T) (t : T) : Type 0 where
  pub first : S
  pub is : a ≡ Found first
  pub then : f first ≡ Found t

pub both : {S T : Type 0} (a : Access S) (f : S → Access T) (t : T) → a >>= f ≡ Found t → Both a f t
both (Found s) f t e = record { first = s; is = refl; then = e }
both (Wrong n) f t e = absurd cc
both (Raises text) f t e = absurd cc

pub found_same : {T : Type 0} (s t : T) → Found s ≡ Found t → s ≡ t
found_same s t e = cc

grown_to : (x : World) (y z : World) → y ≡ z → Grown x y → Grown x z
grown_to x y z e g = rw (sym e) g

pub block_there : (x : World) (n : ℕ) (b : Block) → block x n ≡ Found b → at x.heap n ≡ Some b
block_there x n b e = go (at x.heap n) refl e
  where
    go : (o : Option Block) → at x.heap n ≡ o → or_wrong dead_address o ≡ Found b → at x.heap n ≡ Some b
    go None f h = absurd cc
    go (Some c) f h = f ∙ ap Some (found_same c b h)

pub grown_data : (x y : World) (n : ℕ) (words : List Word) → with_data x n words ≡ Found y → Grown x y
grown_data x y n words e =
    let h = both (block x n) (λ b. Found (with_changed x n (blocks.with_words words b))) y e in
    grown_to x (with_changed x n (blocks.with_words words h.first)) y (found_same _ _ h.then)
    (grown_changed x n h.first (blocks.with_words words h.first) (block_there x n h.first h.is))

pub grown_words : (x : World) (p : Process) (s : Spot) (words : List Word) (m : Memory) → with_words_at x p s words ≡ Found m → Grown x m.world
grown_words x p (Own n) words m e = let f : x ≡ m.world = ap Memory.world (found_same _ _ e) in grown_to x x m.world f (grown_same x)
grown_words x p (Data n) words m e =
    let h = both (with_data x p.frame.instance words) _ m e in
    grown_to x h.first m.world (ap Memory.world (found_same _ _ h.then)) (grown_data x h.first p.frame.instance words h.is)
grown_words x p (Far (InFrame s) n) words m e = let f : x ≡ m.world = ap Memory.world (found_same _ _ e) in grown_to x x m.world f (grown_same x)
grown_words x p (Far (InBlock k) n) words m e =
    let h = both (with_data x k words) _ m e in
    grown_to x h.first m.world (ap Memory.world (found_same _ _ h.then)) (grown_data x h.first k words h.is)

pub grown_put : (x : World) (p : Process) (s : Spot) (a : Access (List Word)) (m : Memory) → a >>= with_words_at x p s ≡ Found m → Grown x m.world
grown_put x p s a m e = let h = both a (with_words_at x p s) m e in grown_words x p s h.first m h.then

pub grown_store : (x : World) (p : Process) (s : Spot) (w : Word) (m : Memory) → store x p s w ≡ Found m → Grown x m.world
grown_store x p s w m e =
    let h = both (words_at x p s) (λ words. stored words (place_in s) w >>= with_words_at x p s) m e in
    grown_put x p s (stored h.first (place_in s) w) m h.then

pub grown_number : (kind : Kind) (x : World) (p : Process) (s : Spot) (z : ℤ) (m : Memory) → store_number kind x p s z ≡ Found m → Grown x m.world
grown_number kind x p s z m e =
    let h = both (words_at x p s) (λ words. with_number_at kind words (place_in s) z >>= with_words_at x p s) m e in
    grown_put x p s (with_number_at kind h.first (place_in s) z) m h.then

pub grown_new : (x : World) (b : Block) (p : Process) (s : Spot) (w : Word) (m : Memory) → store (with_block x b) p s w ≡ Found m → Grown x m.world
grown_new x b p s w m e = grown_on x (with_block x b) m.world (grown_block x b) (grown_store (with_block x b) p s w m e)
