-- Two heaps are what the law of many processes asks.
use Rattle.std.proofs.Common.{◌≡◌, ℕ, ◌<◌, ◌≤◌, Bool, true, false, cond, length, Option, Some, None, refl, sym, ap, ◌∙◌, subst, arith, ◌⊎◌, inl, inr}
use Rattle.process_model.specs.Renaming.{Link}
use Rattle.process_model.specs.Follows.{Everyone, Among, Heaps, Cuts}
use Rattle.heap_model.specs.Kept.{Graph}
use Rattle.heap_model.specs.Heap.{Heap, at, there, went, in_one, stays}
use Rattle.heap_model.specs.Facts.{Fact, Named, Facts, IsFree, Grows, Is}
use Rattle.heap_model.specs.Alike.{Holds, SameRoots, LeavesAlone}
use Rattle.heap_model.specs.Contents.{Contents}
use Rattle.heap_model.specs.Worlds.{blocks, WorldsAlike, Changes, Leaves}
use Rattle.heap_model.specs.Joined.{World, heap_map, Parts, sides}
use Rattle.heap_model.proofs.Heap.{bool_or, there_is, there_of, within, part, stays_at, stays_length, stays_twice, went_is, is_went, gone_has, none_gone}
use Rattle.heap_model.proofs.Settle.{holds_none, holds_pair, holds_on}
use Rattle.heap_model.proofs.Worlds.{world_after, world_holds, released_to, released_from}
use Rattle.heap_model.proofs.Growing.{grows_same, grows_on, decided, deciding, deciding_grows, deciding_is, deciding_none, deciding_world, deciding_holds}

same_name : {B : Type 0} (m m' : ℕ) → ◌≡◌ {A = Option (Fact B)} (Some (Named m)) (Some (Named m')) → m ≡ m'
same_name m m' e = cc

-- what is known stays what it is
was_named : {B F : Type 0} (a b : Facts B F) (m n : ℕ) → Grows a b → (a.fact n ≡ None → ⊥) → Is b m n → Is a m n
was_named {B = B} a b m n g k e = go (a.fact n) refl
  where
    go : (o : Option (Fact B)) → a.fact n ≡ o → a.fact n ≡ Some (Named m)
    go None f = absurd (k f)
    go (Some h) f =
        let u : b.fact n ≡ Some h = g.facts n h f in
        f ∙ (sym u ∙ e)

was_known : {B F : Type 0} (a b : Facts B F) (n : ℕ) → Grows a b → (a.fact n ≡ None → ⊥) → b.fact n ≡ None → ⊥
was_known {B = B} a b n g k e = go (a.fact n) refl
  where
    go : (o : Option (Fact B)) → a.fact n ≡ o → ⊥
    go None f = k f
    go (Some h) f = let u : b.fact n ≡ Some h = g.facts n h f in absurd cc

pub heap_link : {B F D U : Type 0} (value : Facts B F → D → U → Type 0) → ((a b : Facts B F) (x : D) (y : U) → Grows a b → value a x y → value b x y) → Link (heap_map value)
heap_link value on = record {
  same = grows_same;
  on = grows_on;
  name_on = λ a b x y g e. g.facts y (Named x) e;
  value_on = on;
  known_on = λ a b y g h. was_known a b y g h;
  name_back = λ a b x y g h e. was_named a b x y g h e;
  one = λ k x y y' e f. k.once x y y' e f;
  other = λ k x x' y e f. same_name x x' (sym e ∙ f);
}

-- a change leaves the others alone
changes_alone : {V B F : Type 0} (c : Contents V B F) (these : ℕ → Type 0) (k k' : Facts B F) (x x' : Heap B) → Changes these k k' x x' → LeavesAlone these k k' (blocks c x) (blocks c x')
changes_alone c these k k' x x' h = record {
  grows = h.grows;
  live = λ q e. let b = there_is (at x q) e in let d = h.there q b.0 b.1 in there_of (at x' q) d.0 d.1;
  free = λ q j f m ne. let t = h.free q j f m ne in (subst IsFree (sym t.0) f, λ r. ap (λ o. in_one c.words o r) t.1);
  carriers = λ q d e r. ap (λ o. in_one c.words o r) (h.carriers q d e);
}

kept_or_gone : {B : Type 0} (o : Option B) (f : Option (Fact B)) (b : Bool) → IsFree f → ((decided (went (there o) b) f ≡ f) × (cond {A = Option B} b o None ≡ o)) ⊎ (IsFree (decided (went (there o) b) f) × (cond {A = Option B} b o None ≡ None))
kept_or_gone o (Some h) true e = inl (refl, refl)
kept_or_gone (Some c) None true e = inl (refl, refl)
kept_or_gone None None true e = inl (refl, refl)
kept_or_gone o (Some h) false e = inr (e, refl)
kept_or_gone (Some c) None false e = inr (tt, refl)
kept_or_gone None None false e = inr (tt, refl)

module _ {V B F : Type 0} (c : Contents V B F) (k : Facts B F) (x : Heap B) (words : ℕ → ℕ) where
  -- the blocks that go
  abbrev pub goes : ℕ → Bool
  goes n = went (there (at x n)) (part c.words words x n)

  -- a cut leaves each process its own free blocks, while it holds them
  cut_leaves : (j : ℕ) → Leaves j k (deciding k goes) x (stays c.words words x)
  cut_leaves j = record {
    grows = deciding_grows k goes;
    free = λ q f m. elim (kept_or_gone (at x q) (k.fact q) (part c.words words x q) f) [
      | inl y ↦ inl (y.0, stays_at c.words words x q ∙ y.1)
      | inr y ↦ inr (y.0, stays_at c.words words x q ∙ y.1)
    ];
  }

  late : (n : ℕ) → length (stays c.words words x) ≤ n → goes n ≡ false
  late n l = elim (bool_or (goes n)) [
    | inl e ↦
        let t = went_is (there (at x n)) _ e in
        let z = within x n t.0 in
        let y = stays_length c.words words x in
        absurd (omega arith)
    | inr e ↦ e
  ]

  gone_there : (n : ℕ) (b : B) → goes n ≡ true → at (stays c.words words x) n ≡ Some b → ⊥
  gone_there n b e f =
      let t = went_is (there (at x n)) _ e in
      let z : None ≡ Some b = sym (ap (λ h. cond {A = Option B} h (at x n) None) t.1) ∙ (sym (stays_at c.words words x n) ∙ f) in cc

module _ {V B F : Type 0} (c : Contents V B F) (k : Facts B F) (w : Heap V) (x : Heap B) (names words : ℕ → ℕ) (alike : WorldsAlike c k w x) (roots : SameRoots k (blocks c x) names words) where
  cut_world : WorldsAlike c (deciding k (goes c k x words)) (stays c.inside names w) (stays c.words words x)
  cut_world = deciding_world c k (goes c k x words) _ _ (late c k x words) (gone_there c k x words) (world_after c k w x names words alike roots)

  cut_holds : (who : ℕ → Type 0) (f g : ℕ → ℕ) → ((m : ℕ) → 0 < g m → 0 < words m) → Holds k who (blocks c x) f g → Holds (deciding k (goes c k x words)) who (blocks c (stays c.words words x)) f g
  cut_holds who f g less h = deciding_holds k (goes c k x words) _ _ f g (world_holds c k w x names words alike roots who f g h less)

nothing_held : {B F : Type 0} (k : Facts B F) (who : ℕ → Type 0) (h : Graph) → Holds k who h (λ n. 0) (λ n. 0)
unfolding holds_none
nothing_held k who h = record { same = holds_none k h; mine = λ q p f. absurd (omega arith) }

module _ {V B F O N P Q D U M A H : Type 0} (a : Parts V B F O N P Q D U M A H) (value_on : (k now : Facts B F) (x : D) (y : U) → Grows k now → a.value k x y → a.value now x y) (later : (o : N) → a.later o o) where
  cuts : (k : Facts B F) (w : World V O) (x : World B N) (named referred : ℕ → ℕ) → WorldsAlike a.contents k w.heap x.heap → a.outsides w.outside x.outside → Holds k (Among Everyone) (blocks a.contents x.heap) named referred → Cuts (sides a) k w x named referred
  cuts k w x named referred s same h =
      let part = goes a.contents k x.heap referred in
      record {
        now = deciding k part;
        grown = deciding_grows k part;
        worlds = (cut_world a.contents k w.heap x.heap named referred s h.same, same);
        released = record {
          to = λ n e. let t = released_to a.contents k w.heap x.heap named referred s h.same n e in (t.0, (deciding_grows k part).facts t.0 (Named n) t.1, t.2);
          from = λ n m e f. released_from a.contents k w.heap x.heap named referred s h.same n m (deciding_is k part n m e) f;
          known = λ m f e. let g = gone_has a.contents.words referred x.heap m f in deciding_none k part m (is_went _ _ g.0 g.1) e;
        };
        left = λ j. (cut_leaves a.contents k x.heap referred j, later x.outside);
        held = λ these f g less holds. cut_holds a.contents k w.heap x.heap named referred s h.same (Among these) f g less holds;
      }

  pub heaps : Heaps (sides a)
  heaps = record {
    link = heap_link a.value value_on;
    grown = λ these k now x x' h. h.0.grows;
    left = λ these k now x x' j h ne. (record { grows = h.0.grows; free = λ q f m. inl (h.0.free q j f m ne) }, h.1);
    held_none = λ k these x. nothing_held k (Among these) (blocks a.contents x.heap);
    held_both = λ k these x f g f' g' h h'. holds_pair k (Among these) (blocks a.contents x.heap) f g f' g' h h';
    held_wide = λ k these more x f g h b. record { same = b.same; mine = λ q p f. let t = b.mine q p f in (t.0, h t.0 t.1, t.2) };
    held_on = λ these others k now x x' f g h ne held. holds_on (Among these) (Among others) k now (blocks a.contents x.heap) (blocks a.contents x'.heap) f g ne (changes_alone a.contents (Among these) k now x.heap x'.heap h.0) held;
    cuts = λ k w x named referred e h. cuts k w x named referred e.0 e.1 h;
    still = λ k w x named e. record {
      kept = ap (λ h. record { heap = h; outside = w.outside }) (stays_twice a.contents.inside named w.heap);
      none = none_gone a.contents.inside named (stays a.contents.inside named w.heap) (stays_twice a.contents.inside named w.heap);
    };
  }
