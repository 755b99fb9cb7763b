-- What is known while an order is looked for.
use Rattle.std.specs.Prelude.{◌≡◌, ℕ, ◌+◌, ◌*◌, ◌<◌, ◌⊎◌, Bool, true, List, [], ◌∷◌, length, if◌then◌else◌}
use Rattle.limbo_order.specs.Order.{StandsAt, Needs, IsOnce, IsBehind}

-- The path leads from a number to one that it needs, and so on; what was entered is done, or stands on the path.
pub record IsSearch (rows : List (List ℕ)) (entered done : List Bool) (cursors order path : List ℕ) : Type 0 where
  pub entered_length : length entered ≡ length rows
  pub done_length : length done ≡ length rows
  pub cursors_length : length cursors ≡ length rows
  -- the order so far
  pub listed : (n : ℕ) → StandsAt done n true → (i : ℕ) × StandsAt order i n
  pub marked : (i n : ℕ) → StandsAt order i n → StandsAt done n true
  pub once : IsOnce order
  pub behind : IsBehind rows order
  -- what stands in a row before its cursor is done
  pub passed : (n k m cursor : ℕ) (row : List ℕ) → StandsAt cursors n cursor → k < cursor
      → StandsAt rows n row → StandsAt row k m → StandsAt done m true
  -- the path
  pub way : (i n m : ℕ) → StandsAt path i n → StandsAt path (i + 1) m → Needs rows n m
  pub alone : IsOnce path
  pub within : (i n : ℕ) → StandsAt path i n → n < length rows
  pub waiting : (i n : ℕ) → StandsAt path i n → StandsAt done n true → ⊥
  pub begun : (i n : ℕ) → StandsAt path i n → StandsAt entered n true
  pub on_path : (n : ℕ) → StandsAt entered n true → StandsAt done n true ⊎ ((i : ℕ) × StandsAt path i n)

abbrev pub unmarked : List Bool → ℕ
unmarked [] = 0
unmarked (b ∷ bs) = (if b then 0 else 1) + unmarked bs

-- what is left to do: each number is entered once and left once
abbrev pub left : List Bool → List ℕ → ℕ
left entered path = 2 * unmarked entered + length path
