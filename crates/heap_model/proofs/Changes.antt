-- What a step may change before the cut, one lemma for each kind of change, from facts of the places that it changes alone.
use Rattle.std.proofs.Common.{◌≡◌, ◌≢◌, ℕ, ◌<◌, ◌≤◌, true, length, Option, Some, None, sym, ap, subst, ◌∙◌, arith, ◌⊎◌, inl, inr}
use Rattle.std.proofs.lemmas.Bool.Decides.{eqb_tells}
use Rattle.heap_model.specs.Kept.{IsClosed}
use Rattle.heap_model.specs.Heap.{Heap, at, there, in_one}
use Rattle.heap_model.specs.Facts.{Named, Chars, Part, Bare, Carrier, Facts, IsFree, Is, Free}
use Rattle.heap_model.specs.Contents.{Contents}
use Rattle.heap_model.specs.Worlds.{Sets, blocks, WorldsAlike}
use Rattle.heap_model.proofs.Alike.{same_name}

-- the place that is set, or another
pub cases : {A : Type 0} (old new : Heap A) (k : ℕ) (v : Option A) → Sets old new k v → (q : ℕ) (x : A) → at new q ≡ Some x → ((q ≡ k) × (v ≡ Some x)) ⊎ ((q ≢ k) × (at old q ≡ Some x))
cases old new k v s q x e = elim (eqb_tells q k) [
  | inl y ↦ inl (y.1, sym s.here ∙ (sym (ap (at new) y.1) ∙ e))
  | inr y ↦ inr (y.1, sym (s.apart q y.1) ∙ e)
]

pub some_is : {A : Type 0} (a b : A) → Some a ≡ Some b → a ≡ b
some_is a b e = cc

-- where nothing goes, what was there is there
pub there_on : {A : Type 0} (old new : Heap A) (k : ℕ) (v : A) → Sets old new k (Some v) → (q : ℕ) → there (at old q) ≡ true → there (at new q) ≡ true
there_on old new k v s q l = elim (eqb_tells q k) [
  | inl y ↦ ap there (ap (at new) y.1 ∙ s.here)
  | inr y ↦ ap there (s.apart q y.1) ∙ l
]

module _ {V B F : Type 0} (c : Contents V B F) where
  -- a block is set whose words name what is there
  closed_on : (x x' : Heap B) (n : ℕ) (b : B) → Sets x x' n (Some b) → ((q : ℕ) → 0 < c.words b q → there (at x q) ≡ true) → IsClosed (blocks c x) → IsClosed (blocks c x')
  closed_on x x' n b s live cl = record {
    closed = λ a q l u.
        there_on x x' n b s q (elim (eqb_tells a n) [
          | inl y ↦ live q (subst (λ o. 0 < in_one c.words o q) (ap (at x') y.1 ∙ s.here) u)
          | inr y ↦ cl.closed a q (sym (ap there (s.apart a y.1)) ∙ l) (subst (λ o. 0 < in_one c.words o q) (s.apart a y.1) u)
        ]);
  }

  pub not_free : (k : Facts B F) (n m : ℕ) → Is k m n → Free k n → ⊥
  not_free k n m e f = subst IsFree e f

  -- a heap value and its block get another content
  pub set_value : (k : Facts B F) (w w' : Heap V) (x x' : Heap B) (m n : ℕ) (v' : V) (b' : B)
      → WorldsAlike c k w x → Is k m n → c.stands k n v' b'
      → length w' ≡ length w → length x' ≡ length x → Sets w w' m (Some v') → Sets x x' n (Some b')
      → ((q : ℕ) → 0 < c.words b' q → there (at x q) ≡ true)
      → WorldsAlike c k w' x'
  set_value k w w' x x' m n v' b' s is new wm xm sw sx live = record {
    unmade = λ q l. s.unmade q (omega (arith, xm));
    unnamed = λ q r l e. s.unnamed q r (omega (arith, wm)) e;
    there = λ q v e. elim (cases w w' m _ sw q v e) [
      | inl y ↦ (n, b', subst (λ q. Is k q n) (sym y.0) is, sx.here, subst (λ v. c.stands k n v b') (some_is v' v y.1) new)
      | inr y ↦
          let t = s.there q v y.1 in
          (t.0, t.1, t.2, sx.apart t.0 (λ e. y.0 (same_name k q m t.0 t.2 (subst (λ z. Is k m z) (sym e) is))) ∙ t.3, t.4)
    ];
    here = λ q r d e f. elim (eqb_tells q m) [
      | inl y ↦ (v', ap (at w') y.1 ∙ sw.here)
      | inr y ↦
          let ne : r ≢ n = λ z. y.1 (same_name k q m r e (subst (λ z. Is k m z) (sym z) is)) in
          let t = s.here q r d e (sym (sx.apart r ne) ∙ f) in (t.0, sw.apart q y.1 ∙ t.1)
    ];
    texts = λ q t d f e. elim (cases x x' n _ sx q d e) [
      | inl y ↦ absurd (let z : k.fact n ≡ Some (Chars t) = sym (ap k.fact y.0) ∙ f in cc)
      | inr y ↦ s.texts q t d f y.1
    ];
    parts = λ q m' st l d f e. elim (cases x x' n _ sx q d e) [
      | inl y ↦ absurd (let z : k.fact n ≡ Some (Part m' st l) = sym (ap k.fact y.0) ∙ f in cc)
      | inr y ↦ s.parts q m' st l d f y.1
    ];
    carriers = λ q held d f e. elim (cases x x' n _ sx q d e) [
      | inl y ↦ absurd (let z : k.fact n ≡ Some (Carrier held) = sym (ap k.fact y.0) ∙ f in cc)
      | inr y ↦ s.carriers q held d f y.1
    ];
    frees = λ q r d f f' e u. elim (cases x x' n _ sx q d e) [
      | inl y ↦ absurd (not_free k n m is (subst (λ z. Free k z) y.0 f))
      | inr y ↦ s.frees q r d f f' y.1 u
    ];
    bares = λ q d f e. elim (cases x x' n _ sx q d e) [
      | inl y ↦ let z : k.fact n ≡ Some Bare = sym (ap k.fact y.0) ∙ f in let u : Some (Named m) ≡ Some Bare = sym is ∙ z in cc
      | inr y ↦ s.bares q d f y.1
    ];
    closed = closed_on x x' n b' sx live s.closed;
  }

  -- a block of which it is open what it stands for gets other words, or a new one comes
  pub set_free : (k : Facts B F) (w : Heap V) (x x' : Heap B) (n : ℕ) (b' : B)
      → WorldsAlike c k w x → k.fact n ≡ None
      → length x ≤ length x' → n < length x' → Sets x x' n (Some b')
      → ((q : ℕ) → 0 < c.words b' q → there (at x q) ≡ true)
      → ((q : ℕ) → Free k q → 0 < c.words b' q → n < q)
      → WorldsAlike c k w x'
  set_free k w x x' n b' s none xm nm sx live order = record {
    unmade = λ q l. s.unmade q (omega arith);
    unnamed = s.unnamed;
    there = λ q v e. let t = s.there q v e in (t.0, t.1, t.2, sx.apart t.0 (λ z. not_free k n q (subst (λ z. Is k q z) z t.2) free) ∙ t.3, t.4);
    here = λ q r d e f. s.here q r d e (sym (sx.apart r (λ z. not_free k n q (subst (λ z. Is k q z) z e) free)) ∙ f);
    texts = λ q t d f e. elim (cases x x' n _ sx q d e) [
      | inl y ↦ absurd (subst IsFree (sym (ap k.fact y.0) ∙ f) free)
      | inr y ↦ s.texts q t d f y.1
    ];
    parts = λ q m' st l d f e. elim (cases x x' n _ sx q d e) [
      | inl y ↦ absurd (subst IsFree (sym (ap k.fact y.0) ∙ f) free)
      | inr y ↦ s.parts q m' st l d f y.1
    ];
    carriers = λ q held d f e. elim (cases x x' n _ sx q d e) [
      | inl y ↦ absurd (subst IsFree (sym (ap k.fact y.0) ∙ f) free)
      | inr y ↦ s.carriers q held d f y.1
    ];
    frees = λ q r d f f' e u. elim (cases x x' n _ sx q d e) [
      | inl y ↦ let t = order r f' (subst (λ (z : B). 0 < c.words z r) (sym (some_is b' d y.1)) u) in omega (arith, y.0)
      | inr y ↦ s.frees q r d f f' y.1 u
    ];
    bares = λ q d f e. elim (cases x x' n _ sx q d e) [
      | inl y ↦ let z : None ≡ Some Bare = sym none ∙ (sym (ap k.fact y.0) ∙ f) in cc
      | inr y ↦ s.bares q d f y.1
    ];
    closed = closed_on x x' n b' sx live s.closed;
  }
    where
      free : Free k n
      free = subst IsFree (sym none) tt
