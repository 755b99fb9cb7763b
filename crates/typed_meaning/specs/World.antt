-- What the processes of a program share: the outside, and the variables of the modules.
use Rattle.std.specs.Prelude.{ℕ, List, [], slice_index_or, slice_set}
use Rattle.system_model.specs.Values.{Value, zero_value}
use Rattle.system_model.specs.World as outside

-- Each instance of a module has its variables, by their numbers.
pub record World : Type 0 where
  pub outside : outside.World
  pub instances : List (List Value)

abbrev pub with_outside : World → outside.World → World
with_outside w o = record { outside = o; instances = w.instances }

-- the variables of an instance, and one of them
abbrev pub instance_of : World → ℕ → List Value
instance_of w i = slice_index_or w.instances i []

abbrev pub global_of : World → ℕ → ℕ → Value
global_of w i n = slice_index_or (instance_of w i) n zero_value

-- It has this value from now on.
abbrev pub with_global : World → ℕ → ℕ → Value → World
with_global w i n v = record { outside = w.outside; instances = slice_set w.instances i (slice_set (instance_of w i) n v) }
