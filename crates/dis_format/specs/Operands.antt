-- Numbers in an object file (dis(6), "Operands"): one, two or four bytes, as the top two bits of the first one say.
use Rattle.std.specs.Prelude.{ℕ, ◌+◌, ◌-◌, ◌*◌, ◌^◌, Bool, true, false, ℤ, pos, negsuc, List, nat_lt, if◌then◌else◌}
use Rattle.byteorder.specs.Endian.{big_bytes}

-- The three forms of an operand.
pub data Form : Type 0 where
  one_byte : Form
  two_bytes : Form
  four_bytes : Form

abbrev pub width : Form → ℕ
width one_byte = 1
width two_bytes = 2
width four_bytes = 4

-- How many bits of the bytes are the number, in two's complement.
abbrev pub bits : Form → ℕ
bits one_byte = 7
bits two_bytes = 14
bits four_bytes = 30

-- What the top bits of the bytes are worth.
abbrev pub mark : Form → ℕ
mark one_byte = 0
mark two_bytes = 2 ^ 15
mark four_bytes = 3 * 2 ^ 30

-- A number is within so many bits of two's complement where this is below half of what they count to.
abbrev pub magnitude : ℤ → ℕ
magnitude (pos n) = n
magnitude (negsuc n) = n

abbrev pub fits_form : Form → ℤ → Bool
fits_form form n = nat_lt (magnitude n) (2 ^ (bits form - 1))

-- So many bits of a number in two's complement, and the number that they are.
abbrev pub low_bits : ℕ → ℤ → ℕ
low_bits count (pos n) = n
low_bits count (negsuc n) = 2 ^ count - 1 - n

abbrev pub signed : ℕ → ℕ → ℤ
signed count low = if nat_lt low (2 ^ (count - 1)) then pos low else negsuc (2 ^ count - 1 - low)

-- The bytes of a number in a form, the high part first.
abbrev pub form_bytes : Form → ℤ → List ℕ
form_bytes form n = big_bytes (width form) (mark form + low_bits (bits form) n)

-- The shortest form of a number.
abbrev pub shortest : ℤ → Form
shortest n = if fits_form one_byte n then one_byte else (if fits_form two_bytes n then two_bytes else four_bytes)

-- What a field's number may be: any number; a count, size, pc, type number or offset, which isn't below 0; the
-- number of a middle operand; the offset of a middle operand.
pub data Range : Type 0 where
  any : Range
  from_zero : Range
  short_number : Range
  short_offset : Range

abbrev pub within : Range → ℤ → Bool
within any n = true
within from_zero (pos n) = true
within from_zero (negsuc n) = false
within short_number n = nat_lt (magnitude n) 32768
within short_offset (pos n) = nat_lt n 65536
within short_offset (negsuc n) = false
