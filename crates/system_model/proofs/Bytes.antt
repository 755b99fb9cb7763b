-- Requests of examples.
use Rattle.std.proofs.Common.{ℕ, List, [], ◌∷◌}
use Rattle.system_model.specs.Prints.{Request}

-- a request of one byte, at an offset
abbrev pub byte_at : ℕ → ℕ → Request
byte_at offset b = record { link = 1; frame = 24 ∷ 0 ∷ 0 ∷ 0 ∷ 118 ∷ 0 ∷ 0 ∷ 2 ∷ 0 ∷ 0 ∷ 0 ∷ offset ∷ 0 ∷ 0 ∷ 0 ∷ 0 ∷ 0 ∷ 0 ∷ 0 ∷ 1 ∷ 0 ∷ 0 ∷ 0 ∷ b ∷ [] }
