-- Two runs side by side, of a middle code and of its source: how many steps of the one pass without a step of the other.
use Rattle.std.specs.Prelude.{ℕ, zero, suc, ◌+◌, ◌*◌, ◌≡◌, ◌<◌, nat_eq, if◌then◌else◌, List, [], ◌∷◌}
use Rattle.process_model.specs.Source.{Turn}
use Rattle.process_model.specs.Law.{Paced}

-- In a turn the source made so many steps, and the middle code so many: that many more without one of the source, or the count begins
-- anew.
abbrev pub outrun : (steps more : ℕ) → ℕ → ℕ
outrun zero more z = z + more
outrun (suc n) more z = 0

-- How many steps of the middle code each process has made since its last turn with a step of the source, after one turn more, which is
-- u of the source and t of the middle code.
abbrev pub ahead : (ℕ → ℕ) → (u t : Turn) → ℕ → ℕ
ahead z u t j = if nat_eq u.pid j then outrun u.steps t.steps (z j) else z j

-- The source keeps up: turn by turn the same process is on, and never has one of the middle code made as many steps as the bound
-- without one of the source.
abbrev pub KeepsUp : ℕ → (ℕ → ℕ) → (us ts : List Turn) → Type 0
KeepsUp bound z [] [] = Unit {0}
KeepsUp bound z (u ∷ us) (t ∷ ts) = (u.pid ≡ t.pid) × ((j : ℕ) → ahead z u t j < bound) × KeepsUp bound (ahead z u t) us ts
KeepsUp bound z _ _ = ⊥

-- Where the middle code has a step in each so many turns, and a source keeps up with it, the source has one in each so many turns as
-- the product allows.
abbrev pub PacesMultiply : Type 0
PacesMultiply =
    (bound slow : ℕ) (us ts : List Turn) →
    KeepsUp bound (λ j. 0) us ts → Paced slow (λ j. 0) ts → Paced (bound * slow) (λ j. 0) us
