-- Numbers that need one another, and the orders in which each stands behind all that it needs.
use Rattle.std.specs.Prelude.{◌≡◌, ℕ, ◌<◌, List, length, Some, slice_get}

-- Something stands at place i of a list.
abbrev pub StandsAt : {A : Type 0} → List A → ℕ → A → Type 0
StandsAt xs i x = slice_get xs i ≡ Some x

-- Number n needs m: m stands in the row of n.
pub record Needs (rows : List (List ℕ)) (n m : ℕ) : Type 0 where
  pub row : List ℕ
  pub own : StandsAt rows n row
  pub place : ℕ
  pub there : StandsAt row place m

-- the same through further numbers
pub data NeedsWithin (rows : List (List ℕ)) : ℕ → ℕ → Type 0 where
  at_once : (n m : ℕ) → Needs rows n m → NeedsWithin rows n m
  further : (n m k : ℕ) → Needs rows n m → NeedsWithin rows m k → NeedsWithin rows n k

-- What is needed is there.
abbrev pub NeedsOnly : List (List ℕ) → Type 0
NeedsOnly rows = (n m : ℕ) → Needs rows n m → m < length rows

-- Whatever stands in the list stands at one place.
abbrev pub IsOnce : List ℕ → Type 0
IsOnce xs = (i j n : ℕ) → StandsAt xs i n → StandsAt xs j n → i ≡ j

-- Each number that stands in the list stands behind all that it needs.
abbrev pub IsBehind : List (List ℕ) → List ℕ → Type 0
IsBehind rows xs = (i n m : ℕ) → StandsAt xs i n → Needs rows n m → (j : ℕ) × (j < i) × StandsAt xs j m

-- An order: each number stands in it exactly once, nothing else does, and each stands behind all that it needs.
pub record IsOrder (rows : List (List ℕ)) (order : List ℕ) : Type 0 where
  pub each : (n : ℕ) → n < length rows → (i : ℕ) × StandsAt order i n
  pub only : (i n : ℕ) → StandsAt order i n → n < length rows
  pub once : IsOnce order
  pub behind : IsBehind rows order
