-- Values (Limbo Language Reference, expressions).
use Rattle.std.specs.Prelude.{ℤ, pos}
use Rattle.std.specs.Int.{int_wrap, w32}

-- What a variable holds and an expression gives. So far a number.
pub data Value : Type 0 where
  Num : ℤ → Value

-- An int of any number: what is left of it in 32 bits, signed.
abbrev pub int_of : ℤ → Value
int_of z = Num (int_wrap w32 z)

-- The value of a variable before the first that is written to it, and what a function without an answer gives.
abbrev pub zero_value : Value
zero_value = Num (pos 0)
