-- How a list of texts grows.
use Rattle.std.specs.Prelude.{◌≡◌, ℕ, List, ◌++◌}
use Rattle.limbo_types.specs.Types.{FnTy}
use Rattle.limbo_layout.specs.Adts.{Def}
use Rattle.declared_signs.specs.Declared.{AreTexts}

-- the texts of functions of these types were put behind the others
pub record Adds (defs : List Def) (modules : List (List ℕ)) (fs : List FnTy) (old new : List (List ℕ)) : Type 0 where
  pub more : List (List ℕ)
  pub are : AreTexts defs modules fs more
  pub grown : new ≡ old ++ more
