-- New blocks that stand for no heap value and are known at once: a string, a part of an array, which is flat, and a carrier.
use Rattle.std.proofs.Common.{◌≡◌, ◌≢◌, ℕ, ◌<◌, true, List, [], ◌∷◌, ◌++◌, length, Option, Some, None, refl, sym, ap, subst, ◌∙◌, arith, ◌+◌, zero, suc, ◌⊎◌, inl, inr, length-append}
use Rattle.heap_model.specs.Heap.{Heap, at, there, in_one}
use Rattle.heap_model.specs.Facts.{Fact, Named, Chars, Part, Bare, Carrier, Facts, IsUnmade, Learns, IsFree, IsInner, Is, Inner, Refers, itself, slice, Covers}
use Rattle.heap_model.specs.Alike.{Holds, word, next}
use Rattle.heap_model.specs.Contents.{Contents}
use Rattle.heap_model.specs.Worlds.{Sets, blocks, WorldsAlike, Changes}
use Rattle.heap_model.proofs.Heap.{there_is, there_of, at_last, at_more}
use Rattle.heap_model.proofs.Alike.{is_inner, covers_not_inner}
use Rattle.heap_model.proofs.Changes.{set_free, there_on}
use Rattle.heap_model.proofs.Growing.{grows_on, learns_grows, tell}
use Rattle.heap_model.proofs.Building.{with_maker, maker_grows, maker_world, with_fact, fact_learns}

-- a heap with one block more
abbrev pub with_last : {A : Type 0} → Heap A → A → Heap A
with_last h a = h ++ Some a ∷ []

pub last_sets : {A : Type 0} (h : Heap A) (a : A) → Sets h (with_last h a) (length h) (Some a)
last_sets h a = record { here = at_last h (Some a) (length h) refl; apart = λ q ne. at_more h (Some a) q ne }

pub last_length : {A : Type 0} (h : Heap A) (a : A) → length (with_last h a) ≡ suc (length h)
last_length h a = let e = length-append h (Some a ∷ []) in omega arith

module _ {V B F : Type 0} (c : Contents V B F) where
  -- the worlds after a block is made that is known at once
  pub record IsMade (i : ℕ) (k : Facts B F) (w : Heap V) (x : Heap B) (f : Fact B) (b : B) : Type 0 where
    pub now : Facts B F
    pub known : now.fact (length x) ≡ Some f
    pub world : WorldsAlike c now w (with_last x b)
    pub changes : Changes (λ n. n ≡ i) k now x (with_last x b)

  pub made : (i : ℕ) (k : Facts B F) (w : Heap V) (x : Heap B) (f : Fact B) (b : B) → WorldsAlike c k w x
      → ((m : ℕ) → f ≡ Named m → ⊥) → (f ≡ Bare → ⊥)
      → ((t : List ℕ) → f ≡ Chars t → b ≡ c.text t)
      → ((m s l : ℕ) → f ≡ Part m s l → (q : ℕ) × (b ≡ c.part s l q) × Is k m q)
      → ((d : B) → f ≡ Carrier d → b ≡ d)
      → ((q : ℕ) → 0 < c.words b q → (there (at x q) ≡ true) × (Inner k q → ⊥))
      → IsMade i k w x f b
  made i k w x f b s not_named not_bare text part carrier words = record {
    now = now;
    known = learns.now;
    world = tell c k1 now w (with_last x b) n f
        (maker_world c k n i None w (with_last x b) u more
        (set_free c k w x (with_last x b) n b s u.fact (omega (arith, last_length x b)) more sets (λ q p. (words q p).0) (λ q e p. absurd ((words q p).1 (is_inner _ e)))))
        learns more not_named not_bare
        (λ t d e there_now. sym (is d there_now) ∙ text t e)
        (λ m st l d e there_now. let t = part m st l e in (t.0, sym (is d there_now) ∙ t.1, t.2))
        (λ held d e there_now. (sym (is d there_now) ∙ carrier held e, λ q p. (words q (subst (λ z. 0 < c.words z q) (sym (carrier held e)) p)).1));
    changes = record {
      grows = grows_on k k1 now (maker_grows k n i None u) (learns_grows k1 now n f learns);
      there = λ q d e. there_is (at (with_last x b) q) (there_on x (with_last x b) n b sets q (there_of (at x q) d e));
      free = λ q j e m ne. let d = other q j m in (learns.apart q d, sets.apart q d);
      carriers = λ q held e. sets.apart q (λ z. absurd (let y : None ≡ Some (Carrier held) = sym u.fact ∙ (ap k.fact (sym z) ∙ e) in cc));
    };
  }
    where
      n : ℕ
      n = length x

      more : n < length (with_last x b)
      more = omega (arith, last_length x b)

      u : IsUnmade k n
      u = s.unmade n (omega arith)

      k1 : Facts B F
      k1 = with_maker k n i None

      now : Facts B F
      now = with_fact k1 n f not_named

      learns : Learns k1 now n f
      learns = fact_learns k1 n f not_named u.fact

      sets : Sets x (with_last x b) n (Some b)
      sets = last_sets x b

      is : (d : B) → at (with_last x b) n ≡ Some d → b ≡ d
      is d e = let z : Some b ≡ Some d = sym sets.here ∙ e in cc

      other : (q j : ℕ) → k.maker q ≡ Some j → q ≢ n
      other q j m z = let y : None ≡ Some j = sym u.maker ∙ (ap k.maker (sym z) ∙ m) in cc

  -- a string
  pub text_made : (i : ℕ) (k : Facts B F) (w : Heap V) (x : Heap B) (t : List ℕ) → WorldsAlike c k w x → IsMade i k w x (Chars t) (c.text t)
  text_made i k w x t s = made i k w x (Chars t) (c.text t) s
      (λ m e. cc) (λ e. cc) (λ u e. ap c.text (same u e)) (λ m st l e. absurd cc) (λ d e. absurd cc) (λ q p. absurd (let z = c.text_names t q in omega arith))
    where
      same : (u : List ℕ) → ◌≡◌ {A = Fact B} (Chars t) (Chars u) → t ≡ u
      same u e = cc

  -- the array itself, of a whole array or of a part of it
  pub record Base (k : Facts B F) (x : Heap B) (name : ℕ) : Type 0 where
    pub block : ℕ
    pub is : Is k name block
    pub live : there (at x block) ≡ true

  pub base : (k : Facts B F) (w : Heap V) (x : Heap B) (name q : ℕ) → WorldsAlike c k w x → Refers k name q → there (at x q) ≡ true → Base k x name
  base k w x name q s (itself e) live = record { block = q; is = e; live = live }
  base k w x name q s (slice st l f) live =
      let b = there_is (at x q) live in
      let p = s.parts q name st l b.0 f b.1 in
      record { block = p.0; is = p.2; live = s.closed.closed q p.0 live (subst (λ (o : Option B). 0 < in_one c.words o p.0) (sym (b.1 ∙ ap Some p.1)) (c.part_names st l p.0)) }

  -- a part of an array, from this place of it on
  pub part_made : (i : ℕ) (k : Facts B F) (w : Heap V) (x : Heap B) (name start length : ℕ) → WorldsAlike c k w x → (b : Base k x name)
      → IsMade i k w x (Part name start length) (c.part start length b.block)
  part_made i k w x name start length s b = made i k w x (Part name start length) (c.part start length b.block) s
      (λ m e. cc) (λ e. cc) (λ t e. absurd cc)
      (λ m st l z. (b.block, same m st l z, subst (λ m. Is k m b.block) (named m st l z) b.is))
      (λ d z. absurd cc)
      (λ q p. let z : b.block ≡ q = c.part_only start length b.block q p in (subst (λ q. there (at x q) ≡ true) z b.live, λ f. subst IsInner (ap k.fact (sym z) ∙ b.is) f))
    where
      same : (m st l : ℕ) → ◌≡◌ {A = Fact B} (Part name start length) (Part m st l) → c.part start length b.block ≡ c.part st l b.block
      same m st l z = let u : start ≡ st = cc in let v : length ≡ l = cc in λ j. c.part (u j) (v j) b.block

      named : (m st l : ℕ) → ◌≡◌ {A = Fact B} (Part name start length) (Part m st l) → name ≡ m
      named m st l z = cc

  -- a carrier: a block that never changes, and holds what its words refer to
  pub carrier_made : (i : ℕ) (k : Facts B F) (w : Heap V) (x : Heap B) (d : B) → WorldsAlike c k w x
      → ((q : ℕ) → 0 < c.words d q → (there (at x q) ≡ true) × (Inner k q → ⊥))
      → IsMade i k w x (Carrier d) d
  carrier_made i k w x d s words = made i k w x (Carrier d) d s (λ m e. cc) (λ e. cc) (λ t e. absurd cc) (λ m st l e. absurd cc) (λ h e. same h e) words
    where
      same : (h : B) → ◌≡◌ {A = Fact B} (Carrier d) (Carrier h) → d ≡ h
      same h e = cc

  -- words that name what is there, each for names of the source and each of these by a word
  pub words_hold : (k : Facts B F) (who : ℕ → Type 0) (x : Heap B) (names words : ℕ → ℕ)
      → ((q : ℕ) → 0 < words q → there (at x q) ≡ true)
      → ((q : ℕ) → 0 < words q → Covers k (λ m. 0 < names m) q)
      → ((m : ℕ) → 0 < names m → (q : ℕ) × (0 < words q) × Refers k m q)
      → Holds k who (blocks c x) names words
  words_hold k who x names words live covers to = record {
    same = record {
      own = words;
      roots = λ q p. p;
      live = live;
      way = λ q p. word p;
      within = λ q r o f u. absurd (covers_not_inner k _ q f (covers q o));
      covers = λ q o. inr (covers q o);
      to = to;
    };
    mine = λ q o f. absurd (covers_not_inner k _ q (is_inner _ f) (covers q o));
  }

  -- who has a reference to a carrier holds what its words refer to, whoever made it
  pub carrier_holds : (k : Facts B F) (who : ℕ → Type 0) (w : Heap V) (x : Heap B) (n : ℕ) (d : B) (names words : ℕ → ℕ) → WorldsAlike c k w x → k.fact n ≡ Some (Carrier d) → there (at x n) ≡ true
      → ((q : ℕ) → 0 < words q → n ≡ q) → 0 < words n
      → ((q : ℕ) → 0 < c.words d q → Covers k (λ m. 0 < names m) q)
      → ((m : ℕ) → 0 < names m → (q : ℕ) × (0 < c.words d q) × Refers k m q)
      → Holds k who (blocks c x) names words
  carrier_holds k who w x n d names words s fact live is mine covers to = record {
    same = record {
      own = λ q. words q + c.words d q;
      roots = λ q p. omega arith;
      live = λ q p. elim (either (words q) (c.words d q) p) [
        | inl y ↦ subst (λ q. there (at x q) ≡ true) (is q y) live
        | inr y ↦ s.closed.closed n q live (subst (λ z. 0 < z) (sym (uses q)) y)
      ];
      way = λ q p. elim (either (words q) (c.words d q) p) [
        | inl y ↦ word y
        | inr y ↦ next (word mine) (subst IsInner (sym fact) tt) live (subst (λ z. 0 < z) (sym (uses q)) y)
      ];
      within = λ q r p f u. elim (either (words q) (c.words d q) p) [
        | inl y ↦ let z : 0 < c.words d r = subst (λ z. 0 < z) (uses r) (subst (λ q. 0 < in_one c.words (at x q) r) (sym (is q y)) u) in omega arith
        | inr y ↦ absurd (covers_not_inner k _ q f (covers q y))
      ];
      covers = λ q p. elim (either (words q) (c.words d q) p) [
        | inl y ↦ inl (subst (λ q. Inner k q) (is q y) (subst IsInner (sym fact) tt))
        | inr y ↦ inr (covers q y)
      ];
      to = λ m p. let t = to m p in (t.0, (let y = t.1 in omega arith), t.2);
    };
    mine = λ q p f. elim (either (words q) (c.words d q) p) [
      | inl y ↦ absurd (subst IsFree (ap k.fact (sym (is q y)) ∙ fact) f)
      | inr y ↦ absurd (covers_not_inner k _ q (is_inner _ f) (covers q y))
    ];
  }
    where
      uses : (r : ℕ) → in_one c.words (at x n) r ≡ c.words d r
      uses r =
          let b = there_is (at x n) live in
          ap (λ o. in_one c.words o r) b.1 ∙ ap (λ z. c.words z r) (s.carriers n d b.0 fact b.1).0

      either : (a b : ℕ) → 0 < a + b → (0 < a) ⊎ (0 < b)
      either zero b p = inr (omega arith)
      either (suc a) b p = inl (omega arith)
