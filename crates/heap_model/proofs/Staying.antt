-- The laws.
use Rattle.std.proofs.Common.{◌≡◌, ℕ, suc, ◌≤◌, Bool, true, false, List, [], ◌∷◌, ◌++◌, arith}
use Rattle.heap_model.specs.Heap.{Heap, there, went, listed, lost_from, stays, graph}
use Rattle.heap_model.specs.Joined.{Parts}
use Rattle.heap_model.specs.Laws.{Above, Rises, StaysGreatest, GoneExactly, StaysReached, WhatStays, HeapsJoin, QuietSteps}
use Rattle.heap_model.proofs.Heap.{part, stays_is, stays_part, stays_twice, gone_has, has_gone}
use Rattle.heap_model.proofs.Kept.{kept_reached, reached_kept}
use Rattle.heap_model.proofs.Joined.{heaps}
use Rattle.heap_model.proofs.Quiet.{quiet_heap}

-- a list of places from a number on
abbrev From : ℕ → List ℕ → Type 0
From n [] = Unit {0}
From n (m ∷ ms) = (n ≤ m) × Above m ms

from_later : (n m : ℕ) (ms : List ℕ) → n ≤ m → From m ms → From n ms
from_later n m [] l h = tt
from_later n m (k ∷ ms) l h = (let z = h.0 in omega arith, h.1)

rises_from : (n : ℕ) (ms : List ℕ) → From n ms → Rises ms
rises_from n [] h = tt
rises_from n (m ∷ ms) h = h.1

above_from : (n : ℕ) (ms : List ℕ) → From (suc n) ms → Above n ms
above_from n [] h = tt
above_from n (m ∷ ms) h = (let z = h.0 in omega arith, h.1)

lost_rises : {A : Type 0} (n : ℕ) (os ps : Heap A) → From n (lost_from n os ps)
lost_rises n [] ps = tt
lost_rises n (o ∷ os) [] = tt
lost_rises n (o ∷ os) (p ∷ ps) = go (went (there o) (there p)) (lost_rises (suc n) os ps)
  where
    go : (b : Bool) → From (suc n) (lost_from (suc n) os ps) → From n (listed b n ++ lost_from (suc n) os ps)
    go true h = (omega arith, above_from n _ h)
    go false h = from_later n (suc n) _ (omega arith) h

module _ {A : Type 0} (inside : A → ℕ → ℕ) (roots : ℕ → ℕ) (h : Heap A) where
  greatest : StaysGreatest inside roots h
  greatest = let is = stays_is inside roots h in record {
    keeps_itself = λ n e. (is.alive n e, is.held n e);
    greatest = λ part k n e. is.greatest (λ n. part n ≡ true) k n e;
    as_it_was = stays_part inside roots h;
    no_more = stays_twice inside roots h;
  }

  exactly : GoneExactly inside roots h
  exactly = record { only = gone_has inside roots h; all = has_gone inside roots h; rises = rises_from 0 _ (lost_rises 0 h (stays inside roots h)) }

  reached : StaysReached inside roots h
  reached = let is = stays_is inside roots h in record {
    reached = λ rank rises n e. kept_reached (graph inside h) roots (part inside roots h) is rank rises n e;
    stays = λ c live n r. reached_kept (graph inside h) roots (part inside roots h) is c live n r;
  }

pub what_stays : (A : Type 0) → WhatStays A
what_stays A = record { greatest = greatest; gone = exactly; reached = reached }

pub heaps_join : {V B F O N P Q D U M A H : Type 0} (a : Parts V B F O N P Q D U M A H) → HeapsJoin a
heaps_join a on later = heaps a on later

pub quiet_steps : (V O P D M A H : Type 0) → QuietSteps V O P D M A H
quiet_steps V O P D M A H rules inside names table w w' p p' e q = quiet_heap rules inside names table w w' p p' e q
