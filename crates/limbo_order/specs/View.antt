-- The rows of the code.
use Rattle.std.specs.Global.{Global}
use Rattle.std.specs.Prelude.{Vec, ℕ, List, [], ◌∷◌}

abbrev pub rows : List (Vec ℕ Global) → List (List ℕ)
rows [] = []
rows (v ∷ vs) = v.items ∷ rows vs
