-- Which arrays a tree fills, and what keeps them apart: where it isn't begun, and in another memory.
use Rattle.std.proofs.Common.{◌≡◌, ℕ, ◌<◌, ◌≤◌, true, List, [], ◌∷◌, ◌++◌, length, Option, Some, ◌⊎◌, inl, inr}
use Rattle.std.proofs.Common.{refl, sym, subst, arith, eq-eqb}
use Rattle.std.specs.Prelude.{nat_eq}
use Rattle.limbo_meaning.specs.Values.{references_in}
use Rattle.limbo_meaning.specs.Memory.{Memory}
use Rattle.limbo_meaning.specs.Trees.{Term, Evaluated, Awaiting, Missing, Node, Lazy, Deciding, Update, Change, Put, Linking}
use Rattle.limbo_meaning.specs.Trees.{Fill, Filling, Turning, Repeating, Terms, NoTerms, MoreTerms, Items, NoItems, MoreItems}
use Rattle.limbo_meaning.specs.Origins.{Name, InMemory, term_references, terms_references, items_references}
use Rattle.limbo_meaning.specs.Owning.{IsFresh}
use Rattle.limbo_meaning.proofs.Names.{left, right}
use Rattle.limbo_filling.specs.Filling.{AreFresh, IsValue, Fills, SomeFills, FirstFills, IsApart}
use Rattle.limbo_filling.specs.Filling.{FillsApart, AllFillApart, FirstFillsApart}

named_first : (k : ℕ) (rs : List (Option ℕ)) → Name (Some k ∷ rs) k
named_first k rs = let e : nat_eq k k ≡ true = eq-eqb k k refl in rw e (omega arith)

-- ---- what isn't begun fills nothing

mutual
  pub fresh_fills : (t : Term) (n : ℕ) → IsFresh t → Fills t n → ⊥
  fresh_fills (Evaluated v) n f x = x
  fresh_fills Awaiting n f x = x
  fresh_fills Missing n f x = x
  fresh_fills (Node t o ts) n f x = all_fresh_fill ts n f x
  fresh_fills (Lazy c l r) n f x = fresh_fills l n (λ k h. f k (left (term_references l) (term_references r) k h)) x
  fresh_fills (Deciding r) n f x = fresh_fills r n f x
  fresh_fills (Update o g t w ts us) n f x = all_fresh_fill ts n (λ k h. f k (left (terms_references ts) (terms_references us) k h)) x
  fresh_fills (Change o g p ts) n f x = all_fresh_fill ts n (λ k h. f k (right (references_in p.operands) (terms_references ts) k h)) x
  fresh_fills (Put ps v) n f x = x
  fresh_fills (Linking t vs r) n f x = x
  fresh_fills (Fill t l is rest) n f x =
      fresh_fills l n (λ k h. f k (left (term_references l) (items_references is ++ terms_references rest) k h)) x
  fresh_fills (Filling t p is ns rest) n f x = f p.array (named_first p.array (items_references is ++ terms_references rest))
  fresh_fills (Turning t p ns e) n f x = f p.array (named_first p.array (term_references e))
  fresh_fills (Repeating t p i ns e now) n f x = f p.array (named_first p.array (term_references e ++ term_references now))

  pub all_fresh_fill : (ts : Terms) (n : ℕ) → AreFresh ts → SomeFills ts n → ⊥
  all_fresh_fill NoTerms n f x = x
  all_fresh_fill (MoreTerms t ts) n f (inl x) = fresh_fills t n (λ k h. f k (left (term_references t) (terms_references ts) k h)) x
  all_fresh_fill (MoreTerms t ts) n f (inr x) = all_fresh_fill ts n (λ k h. f k (right (term_references t) (terms_references ts) k h)) x

module _ (m : Memory) where
  mutual
    pub fresh_apart : (t : Term) → IsFresh t → FillsApart m t
    fresh_apart (Evaluated v) f = tt
    fresh_apart Awaiting f = tt
    fresh_apart Missing f = tt
    fresh_apart (Node t o ts) f = all_fresh_apart ts f
    fresh_apart (Lazy c l r) f = (
      fresh_apart l (λ k h. f k (left (term_references l) (term_references r) k h)),
      λ k h. f k (right (term_references l) (term_references r) k h),
    )
    fresh_apart (Deciding r) f = fresh_apart r f
    fresh_apart (Update o g t w ts us) f = (
      all_fresh_apart ts (λ k h. f k (left (terms_references ts) (terms_references us) k h)),
      λ k h. f k (right (terms_references ts) (terms_references us) k h),
    )
    fresh_apart (Change o g p ts) f = all_fresh_apart ts (λ k h. f k (right (references_in p.operands) (terms_references ts) k h))
    fresh_apart (Put ps v) f = tt
    fresh_apart (Linking t vs r) f = tt
    fresh_apart (Fill t l is rest) f =
        let more = items_references is ++ terms_references rest in (
          fresh_apart l (λ k h. f k (left (term_references l) more k h)),
          (λ k h. f k (right (term_references l) more k (left (items_references is) (terms_references rest) k h))),
          (λ k h. f k (right (term_references l) more k (right (items_references is) (terms_references rest) k h))),
        )
    fresh_apart (Filling t p is ns rest) f = absurd (f p.array (named_first p.array (items_references is ++ terms_references rest)))
    fresh_apart (Turning t p ns e) f = absurd (f p.array (named_first p.array (term_references e)))
    fresh_apart (Repeating t p i ns e now) f = absurd (f p.array (named_first p.array (term_references e ++ term_references now)))

    pub all_fresh_apart : (ts : Terms) → AreFresh ts → AllFillApart m ts
    all_fresh_apart NoTerms f = tt
    all_fresh_apart (MoreTerms t ts) f =
        let behind : AreFresh ts = λ k h. f k (right (term_references t) (terms_references ts) k h) in
        inr (
          fresh_apart t (λ k h. f k (left (term_references t) (terms_references ts) k h)),
          all_fresh_apart ts behind,
          λ n x. all_fresh_fill ts n behind x,
        )

-- ---- a value fills nothing

pub value_fills : (t : Term) (n : ℕ) → IsValue t → Fills t n → ⊥
value_fills t n is x = subst (λ t. Fills t n → ⊥) (sym is.1) (λ y. y) x

-- ---- what is filled is taken, and the memory doesn't name it

abbrev pub OutOf : Memory → ℕ → Type 0
OutOf m n = (n < length m.heap) × (InMemory m n → ⊥)

module _ (m : Memory) where
  out_of : (words : List (Option ℕ)) (a n : ℕ) → IsApart m words a → n ≡ a → OutOf m n
  out_of words a n g e = subst (OutOf m) (sym e) (g.taken, g.unnamed)

  mutual
    pub are_apart : (t : Term) (n : ℕ) → FillsApart m t → Fills t n → OutOf m n
    are_apart (Evaluated v) n g x = absurd x
    are_apart Awaiting n g x = absurd x
    are_apart Missing n g x = absurd x
    are_apart (Node t o ts) n g x = all_are_apart ts n g x
    are_apart (Lazy c l r) n g x = are_apart l n g.0 x
    are_apart (Deciding r) n g x = are_apart r n g x
    are_apart (Update o h t w ts us) n g x = all_are_apart ts n g.0 x
    are_apart (Change o h p ts) n g x = all_are_apart ts n g x
    are_apart (Put ps v) n g x = absurd x
    are_apart (Linking t vs r) n g x = absurd x
    are_apart (Fill t l is rest) n g x = are_apart l n g.0 x
    are_apart (Filling t p is ns rest) n g x = first_is_apart p.array is n g.0 x
    are_apart (Turning t p ns e) n g x = out_of [] p.array n g.0 x
    are_apart (Repeating t p i ns e now) n g (inl x) = out_of (term_references now) p.array n g.0 x
    are_apart (Repeating t p i ns e now) n g (inr x) = are_apart now n g.1 x

    all_are_apart : (ts : Terms) (n : ℕ) → AllFillApart m ts → SomeFills ts n → OutOf m n
    all_are_apart NoTerms n g x = absurd x
    all_are_apart (MoreTerms t ts) n (inl g) (inl x) = absurd (value_fills t n g.0 x)
    all_are_apart (MoreTerms t ts) n (inl g) (inr x) = all_are_apart ts n g.1 x
    all_are_apart (MoreTerms t ts) n (inr g) (inl x) = are_apart t n g.0 x
    all_are_apart (MoreTerms t ts) n (inr g) (inr x) = all_are_apart ts n g.1 x

    first_is_apart : (a : ℕ) (is : Items) (n : ℕ) → FirstFillsApart m a is → (n ≡ a) ⊎ FirstFills is n → OutOf m n
    first_is_apart a NoItems n g (inl x) = out_of [] a n g x
    first_is_apart a NoItems n g (inr x) = absurd x
    first_is_apart a (MoreItems i t is) n g (inl x) = out_of (term_references t) a n g.0 x
    first_is_apart a (MoreItems i t is) n g (inr x) = are_apart t n g.1 x

-- ---- another memory

module _ (m m' : Memory) (longer : length m.heap ≤ length m'.heap) where
  -- it names none of these that the first doesn't name
  abbrev pub NamesNoneOf : (ℕ → Type 0) → Type 0
  NamesNoneOf P = (n : ℕ) → P n → InMemory m' n → InMemory m n

  one_elsewhere : (words : List (Option ℕ)) (a : ℕ) → (InMemory m' a → InMemory m a) → IsApart m words a → IsApart m' words a
  one_elsewhere words a f g = record {
    taken = let z = g.taken in omega arith;
    unnamed = λ h. g.unnamed (f h);
    elsewhere = g.elsewhere;
  }

  mutual
    pub apart_elsewhere : (t : Term) → NamesNoneOf (Fills t) → FillsApart m t → FillsApart m' t
    apart_elsewhere (Evaluated v) f g = tt
    apart_elsewhere Awaiting f g = tt
    apart_elsewhere Missing f g = tt
    apart_elsewhere (Node t o ts) f g = all_apart_elsewhere ts f g
    apart_elsewhere (Lazy c l r) f g = (apart_elsewhere l f g.0, g.1)
    apart_elsewhere (Deciding r) f g = apart_elsewhere r f g
    apart_elsewhere (Update o h t w ts us) f g = (all_apart_elsewhere ts f g.0, g.1)
    apart_elsewhere (Change o h p ts) f g = all_apart_elsewhere ts f g
    apart_elsewhere (Put ps v) f g = tt
    apart_elsewhere (Linking t vs r) f g = tt
    apart_elsewhere (Fill t l is rest) f g = (apart_elsewhere l f g.0, g.1, g.2)
    apart_elsewhere (Filling t p is ns rest) f g = (first_apart_elsewhere p.array is f g.0, g.1)
    apart_elsewhere (Turning t p ns e) f g = (one_elsewhere [] p.array (f p.array refl) g.0, g.1)
    apart_elsewhere (Repeating t p i ns e now) f g = (
      one_elsewhere (term_references now) p.array (f p.array (inl refl)) g.0,
      apart_elsewhere now (λ n x. f n (inr x)) g.1,
      g.2,
    )

    pub all_apart_elsewhere : (ts : Terms) → NamesNoneOf (SomeFills ts) → AllFillApart m ts → AllFillApart m' ts
    all_apart_elsewhere NoTerms f g = tt
    all_apart_elsewhere (MoreTerms t ts) f (inl g) = inl (g.0, all_apart_elsewhere ts (λ n x. f n (inr x)) g.1)
    all_apart_elsewhere (MoreTerms t ts) f (inr g) = inr (
      apart_elsewhere t (λ n x. f n (inl x)) g.0,
      all_apart_elsewhere ts (λ n x. f n (inr x)) g.1,
      g.2,
    )

    first_apart_elsewhere : (a : ℕ) (is : Items) → NamesNoneOf (λ n. (n ≡ a) ⊎ FirstFills is n) → FirstFillsApart m a is
        → FirstFillsApart m' a is
    first_apart_elsewhere a NoItems f g = one_elsewhere [] a (f a (inl refl)) g
    first_apart_elsewhere a (MoreItems i t is) f g = (
      one_elsewhere (term_references t) a (f a (inl refl)) g.0,
      apart_elsewhere t (λ n x. f n (inr x)) g.1,
      g.2,
    )
