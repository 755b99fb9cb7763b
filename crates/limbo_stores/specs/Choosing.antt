-- The same as functions, as far as they need not ask what a type reaches; that each says what the definition says is proved of it.
use Rattle.std.specs.Prelude.{ℕ, Bool, true, false, ◌==◌, ◌||◌, Option, None, Some}
use Rattle.limbo_types.specs.Types.{Ty, Adt}
use Rattle.limbo_typed.specs.Typed.{Place, At, PlaceNode, Field, Character}
use Rattle.limbo_stores.specs.declared.outcome.Store.{Store}
use Rattle.limbo_stores.specs.declared.outcome.Store.TheVariants.{Allowed, Opaque, Cyclic}

abbrev pub is_number : Option ℕ → ℕ → Bool
is_number (Some m) n = m == n
is_number None n = false

abbrev pub is_of_fd : Option ℕ → Ty → Bool
is_of_fd fd (Adt n) = is_number fd n
is_of_fd fd _ = false

abbrev mutual
  pub lies_in_fd : Option ℕ → Place → Bool
  lies_in_fd fd (At t n) = is_of_fd fd t || stands_in_fd fd n

  pub stands_in_fd : Option ℕ → PlaceNode → Bool
  stands_in_fd fd (Field whole part) = lies_in_fd fd whole
  stands_in_fd fd (Character text index) = lies_in_fd fd text
  stands_in_fd fd _ = false

-- what is told of two stores together
abbrev pub with_cyclic : Store → Store
with_cyclic Opaque = Opaque
with_cyclic _ = Cyclic

abbrev pub worse : Store → Store → Store
worse Allowed s = s
worse Opaque s = Opaque
worse Cyclic s = with_cyclic s

abbrev pub closing : Bool → Store
closing true = Cyclic
closing false = Allowed
