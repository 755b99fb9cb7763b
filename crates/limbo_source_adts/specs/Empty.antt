-- Rows that are empty.
use Rattle.std.specs.Prelude.{ℕ, List, [], replicate}

abbrev pub none_each : ℕ → List (List ℕ)
none_each n = replicate n []
