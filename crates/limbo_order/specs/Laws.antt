-- What holds of orders.
use Rattle.std.specs.Prelude.{ℕ, ◌<◌, List}
use Rattle.limbo_order.specs.Order.{StandsAt, NeedsWithin, IsOrder}

-- In an order each number stands behind all that it needs, through however many others.
abbrev pub AllBefore : Type 0
AllBefore =
    (rows : List (List ℕ)) (order : List ℕ) → IsOrder rows order →
    (n m i : ℕ) → NeedsWithin rows n m → StandsAt order i n → (j : ℕ) × (j < i) × StandsAt order j m

-- Where there is an order, no number needs itself.
abbrev pub NoneNeedsItself : Type 0
NoneNeedsItself = (rows : List (List ℕ)) (order : List ℕ) → IsOrder rows order → (n : ℕ) → NeedsWithin rows n n → ⊥
