-- What the code counts and tests of a type.
use Rattle.std.specs.Prelude.{ℕ, ◌≡◌, ◌+◌, ◌<◌, Bool, true, false, Option, None, Some}
use Rattle.limbo_types.specs.Types.{Ty, Nothing}

-- What is left of so many when some are taken away, if there are as many.
abbrev pub Leaves : (have taken : ℕ) → Option ℕ → Type 0
Leaves have taken (Some left) = left + taken ≡ have
Leaves have taken None = have < taken

abbrev pub is_some_type : Ty → Bool
is_some_type Nothing = false
is_some_type _ = true
