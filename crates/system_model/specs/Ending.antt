-- How a process ends.
use Rattle.std.specs.Prelude.{ℕ, List}

-- It returned from its first function, or broke with this text. In a machine it may come to an instruction of its code that is
-- wrong, which has this place, and is wrong for the reason of this number; no program ends so.
pub data Ending : Type 0 where
  Ended : Ending
  Broken : (text : List ℕ) → Ending
  Faulted : (number pc : ℕ) → Ending
