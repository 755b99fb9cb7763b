-- The texts of the exceptions that statements raise (Limbo Language Reference, exceptions; the texts are this profile's).
use Rattle.std.specs.Prelude.{ℕ, List, codes, Result, Ok, Err}
use Rattle.limbo_values.specs.declared.raised.Raised.{Raised}
use Rattle.limbo_values.specs.Operators as operators

-- What is read, written or computed, or the text of the exception that is raised instead.
abbrev pub Raising : Type 0 → Type 0
Raising A = Result A (List ℕ)

abbrev pub dereference_of_nil : List ℕ
dereference_of_nil = codes "dereference of nil"

abbrev pub array_bounds : List ℕ
array_bounds = codes "array bounds error"

abbrev pub negative_size : List ℕ
negative_size = codes "negative array size"

abbrev pub too_large : List ℕ
too_large = codes "array too large"

abbrev pub too_long : List ℕ
too_long = codes "string too long"

abbrev pub stack_overflow : List ℕ
stack_overflow = codes "stack overflow"

-- What an operation of numbers and strings gives, or the text of what it raises.
abbrev pub with_text : {A : Type 0} → Result A Raised → Raising A
with_text (Ok x) = Ok x
with_text (Err r) = Err (operators.text_of r)
