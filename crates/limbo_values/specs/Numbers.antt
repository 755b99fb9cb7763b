-- Numbers of the three kinds (Limbo Language Reference, basic types).
use Rattle.std.specs.Prelude.{ℕ, ◌^◌, ℤ, pos, negsuc, ◌≤ℤ◌, unsigned_abs}
use Rattle.std.specs.Int.{int_rem_euclid, int_wrap, w32, w64}
use Rattle.limbo_values.specs.declared.number.Kind.{Kind}
use Rattle.limbo_values.specs.declared.number.Kind.TheVariants.{Byte, Int, Big}
use Rattle.limbo_values.specs.declared.number.Number.{Number}
use Rattle.limbo_values.specs.declared.number.Number.TheVariants as n

-- How many bits a number has.
abbrev pub width : Kind → ℕ
width Byte = 8
width Int = 32
width Big = 64

-- A byte is unsigned, an int and a big are signed.
abbrev pub least : Kind → ℤ
least Byte = pos 0
least Int = negsuc 2147483647
least Big = negsuc 9223372036854775807

abbrev pub greatest : Kind → ℤ
greatest Byte = pos 255
greatest Int = pos 2147483647
greatest Big = pos 9223372036854775807

pub record InRange (kind : Kind) (z : ℤ) : Type 0 where
  pub above : least kind ≤ℤ z
  pub below : z ≤ℤ greatest kind

-- What is left of a number in the bits of a kind: the number in the kind's range that differs from it by a multiple of
-- 2 ^ width.
abbrev pub wrapped : Kind → ℤ → ℤ
wrapped Byte z = int_rem_euclid z (pos (2 ^ 8))
wrapped Int z = int_wrap w32 z
wrapped Big z = int_wrap w64 z

-- The bits of a number, as a number from 0 to 2 ^ width - 1: two's complement.
abbrev pub bits_of : Kind → ℤ → ℕ
bits_of kind z = unsigned_abs (int_rem_euclid z (pos (2 ^ width kind)))

-- A number of the code: its kind, what it is as an integer, and the number of a kind that an integer in range is.
abbrev pub kind_of : Number → Kind
kind_of (n.Byte a) = Byte
kind_of (n.Int a) = Int
kind_of (n.Big a) = Big

abbrev pub value_of : Number → ℤ
value_of (n.Byte a) = pos a
value_of (n.Int a) = a
value_of (n.Big a) = a

abbrev pub number_of : Kind → ℤ → Number
number_of Byte z = n.Byte (unsigned_abs z)
number_of Int z = n.Int z
number_of Big z = n.Big z
