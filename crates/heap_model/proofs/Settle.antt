-- After both trims the heaps stand alike, and the same went from both. What holders refer to adds up, and one's steps leave the
-- others'.
use Rattle.std.proofs.Common.{◌≡◌, ℕ, zero, suc, ◌+◌, ◌<◌, Bool, true, false, Option, Some, None, refl, sym, subst, ◌∙◌, arith, ◌⊎◌, inl, inr}
use Rattle.heap_model.specs.Kept.{Graph, times, IsKept, only}
use Rattle.heap_model.specs.Facts.{Fact, Named, Chars, Part, Bare, Carrier, Facts, Grows, IsFree, IsInner, Is, Free, Inner, Refers, itself, slice, Covers, refers, chars}
use Rattle.heap_model.specs.Alike.{SameHeaps, SameRoots, Chain, word, next, Holds, LeavesAlone, SameGone, Settles}
use Rattle.heap_model.proofs.Kept.{used_kept, reached_kept, times_some}
use Rattle.heap_model.proofs.Alike.{stay_alike, chain_reached, is_inner}

is_or : (b : Bool) → (b ≡ true) ⊎ (b ≡ false)
is_or true = inl refl
is_or false = inr refl

pub covers_more : {B F : Type 0} (k : Facts B F) (some other : ℕ → Type 0) (q : ℕ) → ((m : ℕ) → some m → other m) → Covers k some q → Covers k other q
covers_more k some other q f (refers m n r) = refers m (f m n) r
covers_more k some other q f (chars t e) = chars t e

more_true : (b : Bool) (n : ℕ) → b ≡ true → 0 < n → 0 < times b n
more_true true n e p = p
more_true false n e p = absurd cc

module _ {B F : Type 0} (k : Facts B F) (g h : Graph) (names words : ℕ → ℕ) (heaps : SameHeaps k g h) (roots : SameRoots k h names words) (sources blocks : ℕ → Bool) (gs : IsKept g names sources) (hs : IsKept h words blocks) where
  same : (m n : ℕ) → Is k m n → sources m ≡ blocks n
  same = stay_alike k g h names words heaps roots sources blocks gs hs

  uses_on : (q r : ℕ) → blocks q ≡ true → 0 < h.uses q r → 0 < (only h blocks).uses q r
  uses_on q r e u = more_true (blocks q) _ e u

  heaps_after : SameHeaps k (only g sources) (only h blocks)
  heaps_after = record {
    there = λ m e. let t = heaps.there m (gs.alive m e) in (t.0, t.1, sym (same m t.0 t.1) ∙ e);
    here = λ m n e l. same m n e ∙ l;
    to = λ m n m' e l u.
        let v = times_some (sources m) _ u in
        let t = heaps.to m n m' e (gs.alive m l) v.1 in
        (t.0, uses_on n t.0 (sym (same m n e) ∙ l) t.1, t.2);
    from = λ m n q e l u.
        let v = times_some (blocks n) _ u in
        covers_more k _ _ q (λ m' x. more_true (sources m) _ (same m n e ∙ l) x) (heaps.from m n q e (hs.alive n l) v.1);
    parts = λ q m s l f e. let t = heaps.parts q m s l f (hs.alive q e) in (t.0, t.1, uses_on q t.0 e t.2);
    parts_only = λ q m s l r f e u. heaps.parts_only q m s l r f (hs.alive q e) (times_some (blocks q) _ u).1;
    strings = λ q r t f e u. heaps.strings q r t f (hs.alive q e) (times_some (blocks q) _ u).1;
    carriers = λ q r ws f e u i. heaps.carriers q r ws f (hs.alive q e) (times_some (blocks q) _ u).1 i;
    frees = λ q r f f' e u. heaps.frees q r f f' (hs.alive q e) (times_some (blocks q) _ u).1;
    closed = record { closed = λ a b e u. let v = times_some (blocks a) _ u in used_kept h words blocks hs a b (heaps.closed.closed a b (hs.alive a e) v.1) e v.1 };
  }

  module _ (n w : ℕ → ℕ) (some : SameRoots k h n w) (sub : (q : ℕ) → 0 < w q → 0 < words q) where
    chain_own : (q : ℕ) → Chain k h w q → 0 < some.own q
    chain_own q (word p) = some.roots q p
    chain_own q (next {a = a} c f l u) = some.within a q (chain_own a c) f u

    chain_sub : (q : ℕ) → Chain k h w q → Chain k h words q
    chain_sub q (word p) = word (sub q p)
    chain_sub q (next {a = a} c f l u) = next (chain_sub a c) f l u

    own_stays : (q : ℕ) → 0 < some.own q → blocks q ≡ true
    own_stays q o = reached_kept h words blocks hs heaps.closed (λ a u. roots.live a (roots.roots a u)) q (chain_reached k h words q (chain_sub q (some.way q o)))

    chain_after : (q : ℕ) → Chain k h w q → Chain k (only h blocks) w q
    chain_after q (word p) = word p
    chain_after q (next {a = a} c f l u) = let s = own_stays a (chain_own a c) in next (chain_after a c) f s (uses_on a q s u)

    -- what one holds, or all, is as it was
    pub roots_after : SameRoots k (only h blocks) n w
    roots_after = record {
      own = some.own;
      roots = some.roots;
      live = own_stays;
      way = λ q o. chain_after q (some.way q o);
      within = λ q r o f u. some.within q r o f (times_some (blocks q) _ u).1;
      covers = some.covers;
      to = some.to;
    }

  pub holds_after : (who : ℕ → Type 0) (n w : ℕ → ℕ) → Holds k who h n w → ((q : ℕ) → 0 < w q → 0 < words q) → Holds k who (only h blocks) n w
  unfolding roots_after
  holds_after who n w some sub = record { same = roots_after n w some.same sub; mine = some.mine }

  gone_after : SameGone k g h sources blocks
  gone_after = record {
    to = λ m w. let t = heaps.there m w.0 in (t.0, t.1, (t.2, sym (same m t.0 t.1) ∙ w.1));
    from = λ m n e w. (heaps.here m n e w.0, same m n e ∙ w.1);
  }

  -- the theorem
  pub settles : Settles k g h names words sources blocks
  settles = record { heaps = heaps_after; roots = roots_after names words roots (λ q p. p); gone = gone_after }

-- nothing is held
unfoldable pub holds_none : {B F : Type 0} (k : Facts B F) (h : Graph) → SameRoots k h (λ n. 0) (λ n. 0)
holds_none k h = record {
  own = λ q. 0;
  roots = λ q p. p;
  live = λ q p. absurd (omega arith);
  way = λ q p. word p;
  within = λ q r o f u. o;
  covers = λ q o. absurd (omega arith);
  to = λ m p. absurd (omega arith);
}

either : (a b : ℕ) → 0 < a + b → (0 < a) ⊎ (0 < b)
either zero b p = inr (omega arith)
either (suc a) b p = inl (omega arith)

chain_more : {B F : Type 0} (k : Facts B F) (h : Graph) (w w' : ℕ → ℕ) → ((q : ℕ) → 0 < w q → 0 < w' q) → (q : ℕ) → Chain k h w q → Chain k h w' q
chain_more k h w w' f q (word p) = word (f q p)
chain_more k h w w' f q (next {a = a} c e l u) = next (chain_more k h w w' f a c) e l u

free_or_more : {B F : Type 0} (k : Facts B F) (some other : ℕ → Type 0) (q : ℕ) → ((m : ℕ) → some m → other m) → Inner k q ⊎ Covers k some q → Inner k q ⊎ Covers k other q
free_or_more k some other q f (inl x) = inl x
free_or_more k some other q f (inr c) = inr (covers_more k some other q f c)

-- what two hold, together
pub holds_both : {B F : Type 0} (k : Facts B F) (h : Graph) (n1 w1 n2 w2 : ℕ → ℕ) → SameRoots k h n1 w1 → SameRoots k h n2 w2 → SameRoots k h (λ n. n1 n + n2 n) (λ n. w1 n + w2 n)
holds_both k h n1 w1 n2 w2 a b = record {
  own = λ q. a.own q + b.own q;
  roots = λ q p. elim (either (w1 q) (w2 q) p) [ inl x ↦ let y = a.roots q x in omega arith | inr x ↦ let y = b.roots q x in omega arith ];
  live = λ q p. elim (either (a.own q) (b.own q) p) [ inl x ↦ a.live q x | inr x ↦ b.live q x ];
  way = λ q p. elim (either (a.own q) (b.own q) p) [
    | inl x ↦ chain_more k h w1 _ (λ q p. omega arith) q (a.way q x)
    | inr x ↦ chain_more k h w2 _ (λ q p. omega arith) q (b.way q x)
  ];
  within = λ q r p f u. elim (either (a.own q) (b.own q) p) [ inl x ↦ let y = a.within q r x f u in omega arith | inr x ↦ let y = b.within q r x f u in omega arith ];
  covers = λ q p. elim (either (a.own q) (b.own q) p) [
    | inl x ↦ free_or_more k _ _ q (λ m p. omega arith) (a.covers q x)
    | inr x ↦ free_or_more k _ _ q (λ m p. omega arith) (b.covers q x)
  ];
  to = λ m p. elim (either (n1 m) (n2 m) p) [
    | inl x ↦ let t = a.to m x in (t.0, omega (arith, t.1), t.2)
    | inr x ↦ let t = b.to m x in (t.0, omega (arith, t.1), t.2)
  ];
}

-- what the same processes hold, together
pub holds_pair : {B F : Type 0} (k : Facts B F) (who : ℕ → Type 0) (h : Graph) (n1 w1 n2 w2 : ℕ → ℕ) → Holds k who h n1 w1 → Holds k who h n2 w2 → Holds k who h (λ n. n1 n + n2 n) (λ n. w1 n + w2 n)
unfolding holds_both
holds_pair k who h n1 w1 n2 w2 a b = record {
  same = holds_both k h n1 w1 n2 w2 a.same b.same;
  mine = λ q p f. elim (either (a.same.own q) (b.same.own q) p) [ inl x ↦ a.mine q x f | inr x ↦ b.mine q x f ];
}

pub refers_grows : {B F : Type 0} (k k' : Facts B F) (m q : ℕ) → Grows k k' → Refers k m q → Refers k' m q
refers_grows k k' m q g (itself e) = itself (g.facts q (Named m) e)
refers_grows k k' m q g (slice s l e) = slice s l (g.facts q (Part m s l) e)

pub covers_grows : {B F : Type 0} (k k' : Facts B F) (named : ℕ → Type 0) (q : ℕ) → Grows k k' → Covers k named q → Covers k' named q
covers_grows k k' named q g (refers m n r) = refers m n (refers_grows k k' m q g r)
covers_grows k k' named q g (chars t e) = chars t (g.facts q (Chars t) e)

-- a step of process i leaves what other processes hold
pub holds_on : {B F : Type 0} (these who : ℕ → Type 0) (k k' : Facts B F) (h h' : Graph) (names words : ℕ → ℕ) → ((j : ℕ) → who j → these j → ⊥) → LeavesAlone these k k' h h' → Holds k who h names words → Holds k' who h' names words
holds_on {B = B} these who k k' h h' names words ne leaves holds =
    let s = holds.same in
    record {
      same = record {
        own = s.own;
        roots = s.roots;
        live = λ q o. leaves.live q (s.live q o);
        way = λ q o. way q (s.way q o);
        within = λ q r o f u. within q r o f u;
        covers = λ q o. covers q o (s.covers q o);
        to = λ m p. let t = s.to m p in (t.0, t.1, refers_grows k k' m t.0 leaves.grows t.2);
      };
      mine = λ q o f. let m = holds.mine q o (was_free q o f) in (m.0, m.1, leaves.grows.makers q m.0 m.2);
    }
  where
    left : (q : ℕ) → 0 < holds.same.own q → Free k q → Free k' q × ((r : ℕ) → h'.uses q r ≡ h.uses q r)
    left q o f = let m = holds.mine q o f in leaves.free q m.0 f m.2 (ne m.0 m.1)

    inner_on : (q : ℕ) → 0 < holds.same.own q → Inner k q → Inner k' q × ((r : ℕ) → h'.uses q r ≡ h.uses q r)
    inner_on q o i = go (k.fact q) refl
      where
        by_free : Free k q → Inner k' q × ((r : ℕ) → h'.uses q r ≡ h.uses q r)
        by_free f = let t = left q o f in (is_inner _ t.0, t.1)

        go : (x : Option (Fact B)) → k.fact q ≡ x → Inner k' q × ((r : ℕ) → h'.uses q r ≡ h.uses q r)
        go None e = by_free (subst IsFree (sym e) tt)
        go (Some Bare) e = by_free (subst IsFree (sym e) tt)
        go (Some (Carrier ws)) e = (subst IsInner (sym (leaves.grows.facts q (Carrier ws) e)) tt, leaves.carriers q ws e)
        go (Some (Named m)) e = absurd (subst IsInner e i)
        go (Some (Chars t)) e = absurd (subst IsInner e i)
        go (Some (Part m s l)) e = absurd (subst IsInner e i)

    own_of : (q : ℕ) → Chain k h words q → 0 < holds.same.own q
    own_of q (word w) = holds.same.roots q w
    own_of q (next {a = a} c f l u) = holds.same.within a q (own_of a c) f u

    way : (q : ℕ) → Chain k h words q → Chain k' h' words q
    way q (word w) = word w
    way q (next {a = a} c f l u) = let t = inner_on a (own_of a c) f in next (way a c) t.0 (leaves.live a l) (subst (λ x. 0 < x) (sym (t.1 q)) u)

    was_inner : (q : ℕ) → 0 < holds.same.own q → Inner k' q → Inner k q
    was_inner q o f = elim (holds.same.covers q o) [
      | inl x ↦ x
      | inr (refers m n (itself e)) ↦ absurd (subst IsInner (leaves.grows.facts q (Named m) e) f)
      | inr (refers m n (slice st l e)) ↦ absurd (subst IsInner (leaves.grows.facts q (Part m st l) e) f)
      | inr (chars t e) ↦ absurd (subst IsInner (leaves.grows.facts q (Chars t) e) f)
    ]

    was_free : (q : ℕ) → 0 < holds.same.own q → Free k' q → Free k q
    was_free q o f = go (k.fact q) refl
      where
        go : (x : Option (Fact B)) → k.fact q ≡ x → Free k q
        go None e = subst IsFree (sym e) tt
        go (Some h) e = let g = leaves.grows.facts q h e in subst IsFree (sym e) (subst IsFree g f)

    within : (q r : ℕ) → 0 < holds.same.own q → Inner k' q → 0 < h'.uses q r → 0 < holds.same.own r
    within q r o f u = let x = was_inner q o f in holds.same.within q r o x (subst (λ n. 0 < n) ((inner_on q o x).1 r) u)

    covers : (q : ℕ) → 0 < holds.same.own q → Inner k q ⊎ Covers k (λ m. 0 < names m) q → Inner k' q ⊎ Covers k' (λ m. 0 < names m) q
    covers q o (inl f) = inl (inner_on q o f).0
    covers q o (inr c) = inr (covers_grows k k' _ q leaves.grows c)
