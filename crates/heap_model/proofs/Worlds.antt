-- Worlds that stand alike are heaps that do, and stand alike after both cuts.
use Rattle.std.proofs.Common.{◌≡◌, ℕ, ◌<◌, ◌≤◌, Bool, true, false, cond, Option, Some, None, refl, sym, ap, subst, ◌∙◌, arith}
use Rattle.process_model.specs.Renaming.{Has}
use Rattle.heap_model.specs.Kept.{IsClosed}
use Rattle.heap_model.specs.Heap.{Heap, at, in_one, stays, gone}
use Rattle.heap_model.specs.Facts.{Facts, Is, Covers}
use Rattle.heap_model.specs.Alike.{SameHeaps, SameRoots, Holds, Settles}
use Rattle.heap_model.specs.Contents.{Contents}
use Rattle.heap_model.specs.Worlds.{values, blocks, WorldsAlike}
use Rattle.heap_model.proofs.Heap.{there_is, there_of, part, stays_is, stays_at, stays_length, graph_after, gone_has, has_gone}
use Rattle.heap_model.proofs.Alike.{stay_alike}
use Rattle.heap_model.proofs.Settle.{settles, holds_after}

module _ {V B F : Type 0} (c : Contents V B F) where
  pub same_heaps : (k : Facts B F) (w : Heap V) (x : Heap B) → WorldsAlike c k w x → SameHeaps k (values c w) (blocks c x)
  same_heaps k w x s = record {
    there = λ m e. let v = there_is (at w m) e in let t = s.there m v.0 v.1 in (t.0, t.2, there_of (at x t.0) t.1 t.3);
    here = λ m n e l. let b = there_is (at x n) l in let v = s.here m n b.0 e b.1 in there_of (at w m) v.0 v.1;
    to = λ m n m' e l u.
        let v = there_is (at w m) l in
        let t = s.there m v.0 v.1 in
        let same : t.0 ≡ n = k.once m t.0 n t.2 e in
        let y : 0 < c.inside v.0 m' = subst (λ o. 0 < in_one c.inside o m') v.1 u in
        let r = c.to k t.0 v.0 t.1 m' t.4 y in
        (r.0, subst (λ o. 0 < in_one c.words o r.0) (sym (sym (ap (at x) same) ∙ t.3)) r.1, r.2);
    from = λ m n q e l u.
        let b = there_is (at x n) l in
        let v = s.here m n b.0 e b.1 in
        let t = s.there m v.0 v.1 in
        let same : t.0 ≡ n = k.once m t.0 n t.2 e in
        let is : at x n ≡ Some t.1 = sym (ap (at x) same) ∙ t.3 in
        let y : 0 < c.words t.1 q = subst (λ o. 0 < in_one c.words o q) is u in
        subst (λ o. Covers k (λ m'. 0 < in_one c.inside o m') q) (sym v.1) (c.from k t.0 v.0 t.1 q t.4 y);
    parts = λ q m st l f e.
        let b = there_is (at x q) e in
        let p = s.parts q m st l b.0 f b.1 in
        (p.0, p.2, subst (λ o. 0 < in_one c.words o p.0) (sym (b.1 ∙ ap Some p.1)) (c.part_names st l p.0));
    parts_only = λ q m st l r f e u.
        let b = there_is (at x q) e in
        let p = s.parts q m st l b.0 f b.1 in
        let y : 0 < c.words (c.part st l p.0) r = subst (λ o. 0 < in_one c.words o r) (b.1 ∙ ap Some p.1) u in
        subst (λ r. Is k m r) (c.part_only st l p.0 r y) p.2;
    strings = λ q r t f e u.
        let b = there_is (at x q) e in
        let y : 0 < c.words (c.text t) r = subst (λ o. 0 < in_one c.words o r) (b.1 ∙ ap Some (s.texts q t b.0 f b.1)) u in
        let z = c.text_names t r in
        omega arith;
    carriers = λ q r d f e u i.
        let b = there_is (at x q) e in
        let p = s.carriers q d b.0 f b.1 in
        p.1 r (subst (λ z. 0 < c.words z r) p.0 (subst (λ o. 0 < in_one c.words o r) b.1 u)) i;
    frees = λ q r f f' e u.
        let b = there_is (at x q) e in
        s.frees q r b.0 f f' b.1 (subst (λ o. 0 < in_one c.words o r) b.1 u);
    closed = s.closed;
  }

-- what is there after a cut
still : {A : Type 0} (o : Option A) (b : Bool) (v : A) → cond {A = Option A} b o None ≡ Some v → (b ≡ true) × (o ≡ Some v)
still o true v e = (refl, e)
still o false v e = absurd cc

stays_there : {A : Type 0} (o : Option A) (b : Bool) (v : A) → b ≡ true → o ≡ Some v → cond {A = Option A} b o None ≡ Some v
stays_there o true v b e = e
stays_there o false v b e = absurd cc

module _ {V B F : Type 0} (c : Contents V B F) (k : Facts B F) (w : Heap V) (x : Heap B) (names words : ℕ → ℕ) (alike : WorldsAlike c k w x) (roots : SameRoots k (blocks c x) names words) where
  abbrev sources : ℕ → Bool
  sources = part c.inside names w

  abbrev left : ℕ → Bool
  left = part c.words words x

  all : Settles k (values c w) (blocks c x) names words sources left
  all = settles k (values c w) (blocks c x) names words (same_heaps c k w x alike) roots sources left (stays_is c.inside names w) (stays_is c.words words x)

  same : (m n : ℕ) → Is k m n → sources m ≡ left n
  same = stay_alike k (values c w) (blocks c x) names words (same_heaps c k w x alike) roots sources left (stays_is c.inside names w) (stays_is c.words words x)

  value_was : (m : ℕ) (v : V) → at (stays c.inside names w) m ≡ Some v → (sources m ≡ true) × (at w m ≡ Some v)
  value_was m v e = still (at w m) (sources m) v (sym (stays_at c.inside names w m) ∙ e)

  block_was : (n : ℕ) (b : B) → at (stays c.words words x) n ≡ Some b → (left n ≡ true) × (at x n ≡ Some b)
  block_was n b e = still (at x n) (left n) b (sym (stays_at c.words words x n) ∙ e)

  value_is : (m : ℕ) (v : V) → sources m ≡ true → at w m ≡ Some v → at (stays c.inside names w) m ≡ Some v
  value_is m v s e = stays_at c.inside names w m ∙ stays_there (at w m) (sources m) v s e

  block_is : (n : ℕ) (b : B) → left n ≡ true → at x n ≡ Some b → at (stays c.words words x) n ≡ Some b
  block_is n b s e = stays_at c.words words x n ∙ stays_there (at x n) (left n) b s e

  -- the worlds stand alike when both are cut
  pub world_after : WorldsAlike c k (stays c.inside names w) (stays c.words words x)
  world_after = record {
    unmade = λ n l. alike.unmade n (subst (λ z. z ≤ n) (stays_length c.words words x) l);
    unnamed = λ m n l e. alike.unnamed m n (subst (λ z. z ≤ m) (stays_length c.inside names w) l) e;
    there = λ m v e.
        let s = value_was m v e in
        let t = alike.there m v s.1 in
        (t.0, t.1, t.2, block_is t.0 t.1 (sym (same m t.0 t.2) ∙ s.0) t.3, t.4);
    here = λ m n b e f.
        let s = block_was n b f in
        let v = alike.here m n b e s.1 in
        (v.0, value_is m v.0 (same m n e ∙ s.0) v.1);
    texts = λ n t b f e. alike.texts n t b f (block_was n b e).1;
    parts = λ n m s l b f e. alike.parts n m s l b f (block_was n b e).1;
    carriers = λ n d b f e. alike.carriers n d b f (block_was n b e).1;
    frees = λ n q b f f' e u. alike.frees n q b f f' (block_was n b e).1 u;
    bares = λ n b f e. alike.bares n b f (block_was n b e).1;
    closed = subst (λ h. IsClosed h) (sym (graph_after c.words words x)) all.heaps.closed;
  }

  -- what some hold, or all, is as it was
  pub world_holds : (who : ℕ → Type 0) (n v : ℕ → ℕ) → Holds k who (blocks c x) n v → ((q : ℕ) → 0 < v q → 0 < words q) → Holds k who (blocks c (stays c.words words x)) n v
  world_holds who n v held sub =
      subst (λ h. Holds k who h n v) (sym (graph_after c.words words x))
      (holds_after k (values c w) (blocks c x) names words (same_heaps c k w x alike) roots sources left (stays_is c.inside names w) (stays_is c.words words x) who n v held sub)

  pub released_to : (m : ℕ) → Has (gone c.inside names w) m → (n : ℕ) × Is k m n × Has (gone c.words words x) n
  released_to m h =
      let g = gone_has c.inside names w m h in
      let t = all.gone.to m g in
      (t.0, t.1, has_gone c.words words x t.0 t.2.0 t.2.1)

  pub released_from : (m n : ℕ) → Is k m n → Has (gone c.words words x) n → Has (gone c.inside names w) m
  released_from m n e h =
      let g = gone_has c.words words x n h in
      let t = all.gone.from m n e g in
      has_gone c.inside names w m t.0 t.1
