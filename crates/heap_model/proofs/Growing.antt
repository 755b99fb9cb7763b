-- What is known grows: a block comes to stand for a heap value, for a string, for a part of an array, or, when it goes, for nothing.
use Rattle.std.proofs.Common.{◌≡◌, ◌≢◌, ℕ, ◌<◌, ◌≤◌, Bool, true, false, List, length, Option, Some, None, refl, sym, ap, subst, ◌∙◌, arith, ◌⊎◌, inl, inr}
use Rattle.std.proofs.lemmas.Bool.Decides.{eqb_tells}
use Rattle.heap_model.specs.Kept.{Graph}
use Rattle.heap_model.specs.Heap.{Heap, at}
use Rattle.heap_model.specs.Facts.{Fact, Named, Chars, Part, Bare, Carrier, Facts, IsUnmade, Grows, Learns, IsFree, IsInner, Is, Free, Inner, Covers}
use Rattle.heap_model.specs.Alike.{Chain, word, next, Holds}
use Rattle.heap_model.specs.Contents.{Contents}
use Rattle.heap_model.specs.Worlds.{Sets, WorldsAlike, Leaves}
use Rattle.heap_model.proofs.Heap.{within, there_of}
use Rattle.heap_model.proofs.Settle.{refers_grows, covers_grows}
use Rattle.heap_model.proofs.Changes.{cases, some_is}

pub grows_same : {B F : Type 0} (k : Facts B F) → Grows k k
grows_same k = record { facts = λ n f e. e; makers = λ n i e. e; forms = λ n o e. e }

pub grows_on : {B F : Type 0} (a b c : Facts B F) → Grows a b → Grows b c → Grows a c
grows_on a b c g h = record {
  facts = λ q f e. h.facts q f (g.facts q f e);
  makers = λ q i e. h.makers q i (g.makers q i e);
  forms = λ q o e. h.forms q o (g.forms q o e);
}

-- a process is left its own free blocks where nothing happens, and by stages
pub leaves_same : {B F : Type 0} (j : ℕ) (k : Facts B F) (x : Heap B) → Leaves j k k x x
leaves_same j k x = record { grows = grows_same k; free = λ q f m. inl (refl, refl) }

pub leaves_on : {B F : Type 0} (j : ℕ) (a b c : Facts B F) (x y z : Heap B) → Leaves j a b x y → Leaves j b c y z → Leaves j a c x z
leaves_on j a b c x y z l m = record {
  grows = grows_on a b c l.grows m.grows;
  free = λ q f h. elim (l.free q f h) [
    | inl s ↦ elim (m.free q (subst IsFree (sym s.0) f) (l.grows.makers q j h)) [
      | inl t ↦ inl (t.0 ∙ s.0, t.1 ∙ s.1)
      | inr t ↦ inr t
    ]
    | inr s ↦ elim (m.free q s.0 (l.grows.makers q j h)) [
      | inl t ↦ inr (subst IsFree (sym t.0) s.0, t.1 ∙ s.1)
      | inr t ↦ inr t
    ]
  ];
}

pub learns_grows : {B F : Type 0} (k k' : Facts B F) (n : ℕ) (f : Fact B) → Learns k k' n f → Grows k k'
learns_grows k k' n f l = record {
  facts = λ q h e. l.apart q (λ z. absurd (let y : None ≡ Some h = sym l.before ∙ (sym (ap k.fact z) ∙ e) in cc)) ∙ e;
  makers = λ q i e. l.makers q ∙ e;
  forms = λ q o e. l.forms q ∙ e;
}

learned_free : {B F : Type 0} (k k' : Facts B F) (n : ℕ) (f : Fact B) → Learns k k' n f → (q : ℕ) → Free k' q → Free k q
learned_free k k' n f l q h = elim (eqb_tells q n) [
  | inl y ↦ subst IsFree (sym (ap k.fact y.1 ∙ l.before)) tt
  | inr y ↦ subst IsFree (l.apart q y.1) h
]

learned_inner : {B F : Type 0} (k k' : Facts B F) (n : ℕ) (f : Fact B) → Learns k k' n f → (q : ℕ) → Inner k' q → Inner k q
learned_inner k k' n f l q h = elim (eqb_tells q n) [
  | inl y ↦ subst IsInner (sym (ap k.fact y.1 ∙ l.before)) tt
  | inr y ↦ subst IsInner (l.apart q y.1) h
]

-- what k' knows is of block n, or was known
learned : {B F : Type 0} (k k' : Facts B F) (n : ℕ) (f : Fact B) → Learns k k' n f → (q : ℕ) (h : Fact B) → k'.fact q ≡ Some h → ((q ≡ n) × (f ≡ h)) ⊎ ((q ≢ n) × (k.fact q ≡ Some h))
learned k k' n f l q h e = elim (eqb_tells q n) [
  | inl y ↦ inl (y.1, some_is f h (sym l.now ∙ (sym (ap k'.fact y.1) ∙ e)))
  | inr y ↦ inr (y.1, sym (l.apart q y.1) ∙ e)
]

unmade_on : {B F : Type 0} (k k' : Facts B F) (n : ℕ) (f : Fact B) → Learns k k' n f → (q : ℕ) → q ≢ n → IsUnmade k q → IsUnmade k' q
unmade_on k k' n f l q d u = record { fact = l.apart q d ∙ u.fact; maker = l.makers q ∙ u.maker; form = l.forms q ∙ u.form }

module _ {V B F : Type 0} (c : Contents V B F) where
  -- a block that is made comes to stand for a new heap value
  pub name_it : (k k' : Facts B F) (w w' : Heap V) (x : Heap B) (m n : ℕ) (v : V) (b : B)
      → WorldsAlike c k w x → Learns k k' n (Named m) → at x n ≡ Some b → c.stands k' n v b
      → length w ≤ m → m < length w' → Sets w w' m (Some v)
      → WorldsAlike c k' w' x
  name_it k k' w w' x m n v b s l here is le lt sw =
      let g = learns_grows k k' n (Named m) l in
      record {
        unmade = λ q z. unmade_on k k' n (Named m) l q (λ e. absurd (let y = within x n (there_of (at x n) b here) in omega (arith, e))) (s.unmade q z);
        unnamed = λ q r z e. elim (learned k k' n (Named m) l r (Named q) e) [
          | inl y ↦ let d : m ≡ q = name_is m q y.1 in omega arith
          | inr y ↦ s.unnamed q r (omega arith) y.1
        ];
        there = λ q u e. elim (cases w w' m _ sw q u e) [
          | inl y ↦ (n, b, subst (λ q. Is k' q n) (sym y.0) l.now, here, subst (λ u. c.stands k' n u b) (some_is v u y.1) is)
          | inr y ↦ let t = s.there q u y.1 in (t.0, t.1, g.facts t.0 (Named q) t.2, t.3, c.grows k k' t.0 u t.1 g t.4)
        ];
        here = λ q r d e f. elim (learned k k' n (Named m) l r (Named q) e) [
          | inl y ↦ (v, ap (at w') (sym (name_is m q y.1)) ∙ sw.here)
          | inr y ↦
              let t = s.here q r d y.1 f in
              let z = within w q (there_of (at w q) t.0 t.1) in
              (t.0, sw.apart q (λ e. absurd (omega (arith, e))) ∙ t.1)
        ];
        texts = λ q t d f e. elim (learned k k' n (Named m) l q (Chars t) f) [ inl y ↦ absurd (let z = y.1 in cc) | inr y ↦ s.texts q t d y.1 e ];
        parts = λ q m' st len d f e. elim (learned k k' n (Named m) l q (Part m' st len) f) [
          | inl y ↦ absurd (let z = y.1 in cc)
          | inr y ↦ let t = s.parts q m' st len d y.1 e in (t.0, t.1, g.facts t.0 (Named m') t.2)
        ];
        carriers = λ q held d f e. elim (learned k k' n (Named m) l q (Carrier held) f) [
          | inl y ↦ absurd (let z = y.1 in cc)
          | inr y ↦ let t = s.carriers q held d y.1 e in (t.0, λ r u i. t.1 r u (learned_inner k k' n (Named m) l r i))
        ];
        frees = λ q r d f f' e u. s.frees q r d (learned_free k k' n (Named m) l q f) (learned_free k k' n (Named m) l r f') e u;
        bares = λ q d f e. elim (learned k k' n (Named m) l q Bare f) [ inl y ↦ let z = y.1 in cc | inr y ↦ s.bares q d y.1 e ];
        closed = s.closed;
      }
    where
      name_is : (a b : ℕ) → ◌≡◌ {A = Fact B} (Named a) (Named b) → a ≡ b
      name_is a b e = cc

  -- a block that is made turns out to be a string, a part of an array, or a carrier
  pub tell : (k k' : Facts B F) (w : Heap V) (x : Heap B) (n : ℕ) (f : Fact B)
      → WorldsAlike c k w x → Learns k k' n f → n < length x
      → ((m : ℕ) → f ≡ Named m → ⊥) → (f ≡ Bare → ⊥)
      → ((t : List ℕ) (b : B) → f ≡ Chars t → at x n ≡ Some b → b ≡ c.text t)
      → ((m s l : ℕ) (b : B) → f ≡ Part m s l → at x n ≡ Some b → (q : ℕ) × (b ≡ c.part s l q) × Is k m q)
      → ((d b : B) → f ≡ Carrier d → at x n ≡ Some b → (b ≡ d) × ((q : ℕ) → 0 < c.words d q → Inner k q → ⊥))
      → WorldsAlike c k' w x
  tell k k' w x n f s l lt not_named not_bare texts parts carriers =
      let g = learns_grows k k' n f l in
      record {
        unmade = λ q z. unmade_on k k' n f l q (λ e. absurd (omega (arith, e))) (s.unmade q z);
        unnamed = λ q r z e. s.unnamed q r z (was q r e);
        there = λ q u e. let t = s.there q u e in (t.0, t.1, g.facts t.0 (Named q) t.2, t.3, c.grows k k' t.0 u t.1 g t.4);
        here = λ q r d e f. s.here q r d (was q r e) f;
        texts = λ q t d h e. elim (learned k k' n f l q (Chars t) h) [ inl y ↦ texts t d y.1 (sym (ap (at x) y.0) ∙ e) | inr y ↦ s.texts q t d y.1 e ];
        parts = λ q m' st len d h e. elim (learned k k' n f l q (Part m' st len) h) [
          | inl y ↦ let t = parts m' st len d y.1 (sym (ap (at x) y.0) ∙ e) in (t.0, t.1, g.facts t.0 (Named m') t.2)
          | inr y ↦ let t = s.parts q m' st len d y.1 e in (t.0, t.1, g.facts t.0 (Named m') t.2)
        ];
        carriers = λ q held d h e. elim (learned k k' n f l q (Carrier held) h) [
          | inl y ↦ let t = carriers held d y.1 (sym (ap (at x) y.0) ∙ e) in (t.0, λ r u i. t.1 r u (learned_inner k k' n f l r i))
          | inr y ↦ let t = s.carriers q held d y.1 e in (t.0, λ r u i. t.1 r u (learned_inner k k' n f l r i))
        ];
        frees = λ q r d h h' e u. s.frees q r d (learned_free k k' n f l q h) (learned_free k k' n f l r h') e u;
        bares = λ q d h e. elim (learned k k' n f l q Bare h) [ inl y ↦ not_bare y.1 | inr y ↦ s.bares q d y.1 e ];
        closed = s.closed;
      }
    where
      was : (m q : ℕ) → Is k' m q → Is k m q
      was m q e = elim (learned k k' n f l q (Named m) e) [ inl y ↦ absurd (not_named m y.1) | inr y ↦ y.1 ]

-- Of these blocks it is decided that they stand for nothing, where nothing was known.
abbrev pub decided : {B : Type 0} → Bool → Option (Fact B) → Option (Fact B)
decided b (Some f) = Some f
decided true None = Some Bare
decided false None = None

module _ {B F : Type 0} (k : Facts B F) (part : ℕ → Bool) where
  pub decided_named : (b : Bool) (o : Option (Fact B)) (m : ℕ) → decided b o ≡ Some (Named m) → o ≡ Some (Named m)
  decided_named b (Some f) m e = e
  decided_named true None m e = absurd cc
  decided_named false None m e = absurd cc

  decided_on : (b : Bool) (o : Option (Fact B)) (f : Fact B) → o ≡ Some f → decided b o ≡ Some f
  decided_on b (Some h) f e = e
  decided_on b None f e = absurd cc

  decided_free : (b : Bool) (o : Option (Fact B)) → IsFree (decided b o) → IsFree o
  decided_free b (Some f) h = h
  decided_free b None h = tt

  pub free_decided : (b : Bool) (o : Option (Fact B)) → IsFree o → IsFree (decided b o)
  free_decided b (Some f) h = h
  free_decided true None h = tt
  free_decided false None h = tt

  decided_text : (b : Bool) (o : Option (Fact B)) (t : List ℕ) → decided b o ≡ Some (Chars t) → o ≡ Some (Chars t)
  decided_text b (Some f) m e = e
  decided_text true None m e = absurd cc
  decided_text false None m e = absurd cc

  decided_part : (b : Bool) (o : Option (Fact B)) (m s l : ℕ) → decided b o ≡ Some (Part m s l) → o ≡ Some (Part m s l)
  decided_part b (Some f) m s l e = e
  decided_part true None m s l e = absurd cc
  decided_part false None m s l e = absurd cc

  decided_carrier : (b : Bool) (o : Option (Fact B)) (d : B) → decided b o ≡ Some (Carrier d) → o ≡ Some (Carrier d)
  decided_carrier b (Some f) ws e = e
  decided_carrier true None ws e = absurd cc
  decided_carrier false None ws e = absurd cc

  decided_bare : (b : Bool) (o : Option (Fact B)) → decided b o ≡ Some Bare → (b ≡ true) ⊎ (o ≡ Some Bare)
  decided_bare b (Some f) e = inr e
  decided_bare true None e = inl refl
  decided_bare false None e = absurd cc

  decided_inner : (b : Bool) (o : Option (Fact B)) → IsInner (decided b o) → IsInner o
  decided_inner b (Some f) h = h
  decided_inner b None h = tt

  inner_decided : (b : Bool) (o : Option (Fact B)) → IsInner o → IsInner (decided b o)
  inner_decided b (Some f) h = h
  inner_decided true None h = tt
  inner_decided false None h = tt

  decided_none : (b : Bool) (o : Option (Fact B)) → b ≡ true → decided b o ≡ None → ⊥
  decided_none b (Some f) p e = cc
  decided_none true None p e = cc
  decided_none false None p e = cc

  not_decided : (b : Bool) (o : Option (Fact B)) → b ≡ false → o ≡ None → decided b o ≡ None
  not_decided b (Some f) p e = absurd cc
  not_decided true None p e = absurd cc
  not_decided false None p e = refl

  abbrev pub deciding : Facts B F
  deciding = record {
    fact = λ q. decided (part q) (k.fact q);
    maker = k.maker;
    form = k.form;
    once = λ m n n' e f. k.once m n n' (decided_named (part n) (k.fact n) m e) (decided_named (part n') (k.fact n') m f);
  }

  pub deciding_grows : Grows k deciding
  deciding_grows = record { facts = λ q f e. decided_on (part q) (k.fact q) f e; makers = λ q i e. e; forms = λ q o e. e }

  pub deciding_is : (m n : ℕ) → Is deciding m n → Is k m n
  deciding_is m n e = decided_named (part n) (k.fact n) m e

  pub deciding_none : (n : ℕ) → part n ≡ true → deciding.fact n ≡ None → ⊥
  deciding_none n p e = decided_none (part n) (k.fact n) p e

  chain_deciding : (h : Graph) (words : ℕ → ℕ) (q : ℕ) → Chain k h words q → Chain deciding h words q
  chain_deciding h words q (word p) = word p
  chain_deciding h words q (next {a = a} c f l u) = next (chain_deciding h words a c) (inner_decided (part a) (k.fact a) f) l u

  covers_deciding : (q : ℕ) (named : ℕ → Type 0) → Inner k q ⊎ Covers k named q → Inner deciding q ⊎ Covers deciding named q
  covers_deciding q named (inl f) = inl (inner_decided (part q) (k.fact q) f)
  covers_deciding q named (inr c) = inr (covers_grows k deciding named q deciding_grows c)

  pub deciding_holds : (who : ℕ → Type 0) (h : Graph) (names words : ℕ → ℕ) → Holds k who h names words → Holds deciding who h names words
  deciding_holds who h names words held = let s = held.same in record {
    same = record {
      own = s.own;
      roots = s.roots;
      live = s.live;
      way = λ q o. chain_deciding h words q (s.way q o);
      within = λ q r o f u. s.within q r o (decided_inner (part q) (k.fact q) f) u;
      covers = λ q o. covers_deciding q _ (s.covers q o);
      to = λ m p. let t = s.to m p in (t.0, t.1, refers_grows k deciding m t.0 deciding_grows t.2);
    };
    mine = λ q o f. held.mine q o (decided_free (part q) (k.fact q) f);
  }

module _ {V B F : Type 0} (c : Contents V B F) (k : Facts B F) (part : ℕ → Bool) where
  -- where what it is decided of isn't there
  pub deciding_world : (w : Heap V) (x : Heap B) → ((n : ℕ) → length x ≤ n → part n ≡ false)
      → ((n : ℕ) (b : B) → part n ≡ true → at x n ≡ Some b → ⊥) → WorldsAlike c k w x → WorldsAlike c (deciding k part) w x
  deciding_world w x none went s = record {
    unmade = λ q z. let u = s.unmade q z in record { fact = not_decided k part (part q) (k.fact q) (none q z) u.fact; maker = u.maker; form = u.form };
    unnamed = λ q r z e. s.unnamed q r z (deciding_is k part q r e);
    there = λ q u e. let t = s.there q u e in (t.0, t.1, (deciding_grows k part).facts t.0 (Named q) t.2, t.3, c.grows k (deciding k part) t.0 u t.1 (deciding_grows k part) t.4);
    here = λ q r d e f. s.here q r d (deciding_is k part q r e) f;
    texts = λ q t d h e. s.texts q t d (decided_text k part (part q) (k.fact q) t h) e;
    parts = λ q m' st len d h e. let t = s.parts q m' st len d (decided_part k part (part q) (k.fact q) m' st len h) e in (t.0, t.1, (deciding_grows k part).facts t.0 (Named m') t.2);
    carriers = λ q held d h e. let t = s.carriers q held d (decided_carrier k part (part q) (k.fact q) held h) e in (t.0, λ r u i. t.1 r u (decided_inner k part (part r) (k.fact r) i));
    frees = λ q r d h h' e u. s.frees q r d (decided_free k part (part q) (k.fact q) h) (decided_free k part (part r) (k.fact r) h') e u;
    bares = λ q d h e. elim (decided_bare k part (part q) (k.fact q) h) [ inl y ↦ went q d y e | inr y ↦ s.bares q d y e ];
    closed = s.closed;
  }
