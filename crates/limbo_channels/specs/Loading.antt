-- What is loaded (Limbo Language Reference, expressions).
use Rattle.std.specs.Prelude.{ℕ}
use Rattle.limbo_types.specs.Types.{Chars, Module}
use Rattle.limbo_typed.specs.Typed.{Expr, Of, Load}
use Rattle.limbo_standing.specs.Standing.{Settles}

-- `load M path`, of the module type of this number: the path stands where a string is asked for.
pub data Loads (interface : ℕ) : (path : Expr) → Expr → Type 0 where
  loads : (path p : Expr) → Settles Chars path p → Loads interface path (Of (Module interface) (Load interface p))
