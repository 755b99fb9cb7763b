use Rattle.std.proofs.Common.{◌≡◌, ◌+◌, ◌++◌, take, map}
use Rattle.value_tables.proofs.store.put_zero.Given as goal

-- The places so far are there, and nothing else has changed.
abbrev pub invariant-loop-place : goal.invariant-loop-place
invariant-loop-place l =
    (l.store.items ≡ l.fn.store.items) × (l.store.place ≡ l.fn.store.place)
    × (l.store.references.items ≡ l.fn.store.references.items ++ map (λ o. l.fn.store.place + o) (take l.place-index l.places))
