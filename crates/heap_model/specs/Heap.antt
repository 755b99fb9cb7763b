-- A heap as a list of places. The name of a value is the number of its place; each place is used once, and is empty when its value
-- has gone. A source's heap of values and a machine's heap of blocks are both such lists.
use Rattle.std.specs.Prelude.{ℕ, zero, suc, ◌+◌, Bool, true, false, List, [], ◌∷◌, ◌++◌, length, Option, Some, None, eqb}
use Rattle.heap_model.specs.Kept.{Graph}

abbrev pub Heap : Type 0 → Type 0
Heap A = List (Option A)

-- What is at a place.
abbrev pub at : {A : Type 0} → Heap A → ℕ → Option A
at [] n = None
at (o ∷ os) zero = o
at (o ∷ os) (suc n) = at os n

abbrev pub there : {A : Type 0} → Option A → Bool
there None = false
there (Some a) = true

-- One of them was there and is there no more.
abbrev pub went : Bool → Bool → Bool
went true false = true
went _ _ = false

abbrev pub listed : Bool → ℕ → List ℕ
listed true n = n ∷ []
listed false n = []

-- The places whose values are in the first heap and not in the second, rising, where the first place has this number.
abbrev pub lost_from : {A : Type 0} → ℕ → Heap A → Heap A → List ℕ
lost_from n (o ∷ os) (p ∷ ps) = listed (went (there o) (there p)) n ++ lost_from (suc n) os ps
lost_from n _ _ = []

module _ {A : Type 0} (inside : A → ℕ → ℕ) where
  -- How often a place names n, where `inside` says it of values.
  abbrev pub in_one : Option A → ℕ → ℕ
  in_one None n = 0
  in_one (Some a) n = inside a n

  -- How often all of them do.
  abbrev pub in_all : Heap A → ℕ → ℕ
  in_all [] n = 0
  in_all (o ∷ os) n = in_one o n + in_all os n

  -- A heap by its references.
  abbrev pub graph : Heap A → Graph
  graph h = record { live = λ n. there (at h n); uses = λ a. in_one (at h a) }

  abbrev pub if_named : ℕ → Option A → Option A
  if_named zero o = None
  if_named (suc n) o = o

  -- Those whose count isn't 0, where the first has this name.
  abbrev pub named_of : (ℕ → ℕ) → ℕ → Heap A → Heap A
  named_of count from [] = []
  named_of count from (o ∷ os) = if_named (count from) o ∷ named_of count (suc from) os

  -- Those that are named, by so many roots or from within, are left.
  abbrev pub round : (ℕ → ℕ) → Heap A → Heap A
  round roots h = named_of (λ n. roots n + in_all h n) 0 h

  -- How many values are there.
  abbrev pub number : Heap A → ℕ
  number [] = 0
  number (None ∷ os) = number os
  number (Some a ∷ os) = suc (number os)

  -- Rounds until nothing goes, at most so many.
  abbrev pub rounds : (ℕ → ℕ) → ℕ → Heap A → Heap A
  rounds roots zero h = h
  rounds roots (suc f) h = let t = round roots h in elim (eqb (number t) (number h)) [ true ↦ h | false ↦ rounds roots f t ]

  -- What stays of a heap whose values are named so often from outside: again and again what nobody names goes. It is the greatest
  -- part each of whose values is named from outside or by the part.
  abbrev pub stays : (ℕ → ℕ) → Heap A → Heap A
  stays roots h = rounds roots (length h) h

  -- The names of those that go.
  abbrev pub gone : (ℕ → ℕ) → Heap A → List ℕ
  gone roots h = lost_from 0 h (stays roots h)
