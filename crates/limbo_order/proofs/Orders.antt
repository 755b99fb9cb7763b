-- In an order each number stands behind all that it needs, so none needs itself.
use Rattle.std.proofs.Common.{◌≡◌, ℕ, ◌<◌, List, length, arith}
use Rattle.std.proofs.lemmas.Option.{slice_get_within}
use Rattle.limbo_order.specs.Order.{StandsAt, NeedsWithin, at_once, further, IsOrder}

pub before : (rows : List (List ℕ)) (order : List ℕ) → IsOrder rows order → (n m : ℕ) → NeedsWithin rows n m → (i : ℕ) → StandsAt order i n → (j : ℕ) × (j < i) × StandsAt order j m
before rows order o _ _ (at_once n m w) i h = o.behind i n m h w
before rows order o _ _ (further n m k w v) i h =
    let j = o.behind i n m h w in
    let g = before rows order o m k v j.0 j.2 in
    (g.0, let a = g.1 in let b = j.1 in omega arith, g.2)

-- what needs something has a row
pub has_row : (rows : List (List ℕ)) (n m : ℕ) → NeedsWithin rows n m → n < length rows
has_row rows _ _ (at_once n m w) = slice_get_within rows n w.row w.own
has_row rows _ _ (further n m k w v) = slice_get_within rows n w.row w.own

pub not_itself : (rows : List (List ℕ)) (order : List ℕ) → IsOrder rows order → (n : ℕ) → NeedsWithin rows n n → ⊥
not_itself rows order o n w =
    let i = o.each n (has_row rows n n w) in
    let j = before rows order o n n w i.0 i.1 in
    let e : i.0 ≡ j.0 = o.once i.0 j.0 n i.1 j.2 in
    let l = j.1 in
    omega arith
