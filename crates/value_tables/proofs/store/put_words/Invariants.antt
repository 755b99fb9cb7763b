use Rattle.std.proofs.Common.{◌≡◌, ◌+◌, ◌*◌, take, map}
use Rattle.limbo_typed.specs.Typed.{Module}
use Rattle.value_code.specs.Data.{Word}
use Rattle.value_tables.specs.Growing.{GrowsBy}
use Rattle.value_tables.proofs.store.put_words.Given as goal

-- The numbers so far are there, each in 8 bytes.
abbrev pub invariant-loop-number : goal.invariant-loop-number
invariant-loop-number l =
    (l.store.place ≡ l.fn.store.place + 8 * l.number-index)
    × ((m : Module) → GrowsBy m l.fn.store l.store (map (λ z. Word z) (take l.number-index l.numbers)))
