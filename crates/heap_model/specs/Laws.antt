-- What holds of every heap, and of every two that stand alike.
use Rattle.std.specs.Prelude.{ℕ, ◌≡◌, ◌<◌, Bool, true, false, List, [], ◌∷◌, Some}
use Rattle.process_model.specs.Process.{Branch, Went, Rules}
use Rattle.process_model.specs.Alone.{Quiets}
use Rattle.process_model.specs.Renaming.{Has}
use Rattle.process_model.specs.Follows.{Heaps}
use Rattle.heap_model.specs.Kept.{Held, Reached, IsClosed}
use Rattle.heap_model.specs.Heap.{Heap, at, there, graph, stays, gone}
use Rattle.heap_model.specs.Facts.{Facts, Grows}
use Rattle.heap_model.specs.Quiet.{IsQuiet}
use Rattle.heap_model.specs.Joined.{World, heap_naming, Parts, sides}

-- All above this number, each above the one before it.
abbrev pub Above : ℕ → List ℕ → Type 0
Above n [] = Unit {0}
Above n (m ∷ ms) = (n < m) × Above m ms

abbrev pub Rises : List ℕ → Type 0
Rises [] = Unit {0}
Rises (n ∷ ns) = Above n ns

module _ {A : Type 0} (inside : A → ℕ → ℕ) (roots : ℕ → ℕ) (h : Heap A) where
  -- Each of these is there, and named by a root or by one of these.
  abbrev pub KeepsItself : (ℕ → Bool) → Type 0
  KeepsItself part = (n : ℕ) → part n ≡ true → (there (at h n) ≡ true) × Held (graph inside h) roots (λ a. part a ≡ true) n

  abbrev pub staying : ℕ → Bool
  staying n = there (at (stays inside roots h) n)

  -- What stays is the greatest part that keeps itself, is as it was, and has nothing more to lose.
  pub record StaysGreatest : Type 0 where
    pub keeps_itself : KeepsItself staying
    pub greatest : (part : ℕ → Bool) → KeepsItself part → (n : ℕ) → part n ≡ true → staying n ≡ true
    pub as_it_was : (n : ℕ) (a : A) → at (stays inside roots h) n ≡ Some a → at h n ≡ Some a
    pub no_more : stays inside roots (stays inside roots h) ≡ stays inside roots h

  -- What goes is all that was there and doesn't stay, each told once, in rising order.
  pub record GoneExactly : Type 0 where
    pub only : (n : ℕ) → Has (gone inside roots h) n → (there (at h n) ≡ true) × (staying n ≡ false)
    pub all : (n : ℕ) → there (at h n) ≡ true → staying n ≡ false → Has (gone inside roots h) n
    pub rises : Rises (gone inside roots h)

  -- Where references lead from lower ranks to higher ones, so that there are no rings, only what is reached from a root stays; and
  -- what is reached stays, rings or not, where no reference names what isn't there.
  pub record StaysReached : Type 0 where
    pub reached : (rank : ℕ → ℕ) → ((a b : ℕ) → there (at h a) ≡ true → 0 < (graph inside h).uses a b → rank a < rank b) →
        (n : ℕ) → staying n ≡ true → Reached (graph inside h) roots n
    pub stays : IsClosed (graph inside h) → ((n : ℕ) → 0 < roots n → there (at h n) ≡ true) →
        (n : ℕ) → Reached (graph inside h) roots n → staying n ≡ true

pub record WhatStays (A : Type 0) : Type 0 where
  pub greatest : (inside : A → ℕ → ℕ) (roots : ℕ → ℕ) (h : Heap A) → StaysGreatest inside roots h
  pub gone : (inside : A → ℕ → ℕ) (roots : ℕ → ℕ) (h : Heap A) → GoneExactly inside roots h
  pub reached : (inside : A → ℕ → ℕ) (roots : ℕ → ℕ) (h : Heap A) → StaysReached inside roots h

-- Two languages whose values pass by facts that stay true, and where the outside of the machine may stay as it is, have two heaps as
-- the law of many processes asks.
abbrev pub HeapsJoin : {V B F O N P Q D U M A H : Type 0} → Parts V B F O N P Q D U M A H → Type 0
HeapsJoin {B = B} {F = F} {N = N} {D = D} {U = U} a =
    ((k now : Facts B F) (x : D) (y : U) → Grows k now → a.value k x y → a.value now x y) → ((o : N) → a.later o o) → Heaps (sides a)

-- A step that lets nothing go by what it changes is quiet, whatever the others name.
abbrev pub QuietSteps : (V O P D M A H : Type 0) → Type 0
QuietSteps V O P D M A H =
    (rules : Rules (World V O) P D M A H) (inside : V → ℕ → ℕ) (names : P → ℕ → ℕ) (table : List (Branch D) → ℕ → ℕ)
    (w w' : World V O) (p p' : P) → rules.step w p ≡ Went w' p' → IsQuiet inside names w.heap p w'.heap p' →
    Quiets rules (heap_naming inside names table) 1 w p w' p'
