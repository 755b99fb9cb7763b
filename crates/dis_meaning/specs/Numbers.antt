-- Numbers as they lie in words (Dis Virtual Machine Specification, "Data representations"), and the operations on them, one line for each.
use Rattle.std.specs.Prelude.{ℕ, suc, ℤ, pos, ◌+ℤ◌, ◌*ℤ◌, ◌/◌, ◌%◌, ◌^◌, unsigned_abs, List, Option, Some, None}
use Rattle.std.specs.Prelude.{slice_get, slice_index, slice_set}
use Rattle.std.specs.Int.{w32, cast_signed, cast_unsigned, to_be_bytes, from_be_bytes, int_div_euclid}
use Rattle.dis_isa.specs.declared.op.Op.{Op}
use Rattle.dis_isa.specs.declared.op.Op.TheVariants as op
use Rattle.limbo_values.specs.declared.number.Kind.{Kind}
use Rattle.limbo_values.specs.declared.number.Kind.TheVariants.{Byte, Int, Big}
use Rattle.limbo_values.specs.declared.operator.Operator.{Operator}
use Rattle.limbo_values.specs.declared.operator.Operator.TheVariants.{Add, Subtract, Multiply, Divide, Remainder, And, Xor, Or}
use Rattle.limbo_values.specs.declared.operator.Shift.{Shift}
use Rattle.limbo_values.specs.declared.operator.Shift.TheVariants.{Left, Right}
use Rattle.limbo_values.specs.declared.operator.Comparison.{Comparison}
use Rattle.limbo_values.specs.declared.operator.Comparison.TheVariants.{Equal, Unequal, Less, AtMost, Greater, AtLeast}
use Rattle.limbo_values.specs.Numbers.{wrapped}
use Rattle.dis_meaning.specs.Words.{Word, Plain, Access, Found, ◌>>=◌, type_check, or_wrong, at_least_zero, word_number}
use Rattle.dis_meaning.specs.Words.{word_at, number_in, replaced, stored}

-- The four bytes of a plain word, the most significant first.
abbrev pub bytes_of : ℤ → List ℕ
bytes_of z = to_be_bytes w32 (cast_unsigned w32 z)

-- A plain word with one of its bytes replaced.
abbrev pub with_byte : ℤ → (k byte : ℕ) → ℤ
with_byte z k byte = cast_signed w32 (from_be_bytes w32 (slice_set (bytes_of z) k byte))

-- A big stands in two plain words, the high part first: of the low one the bits count, without a sign.
abbrev pub joined : (high low : ℤ) → ℤ
joined high low = high *ℤ pos (2 ^ 32) +ℤ pos (cast_unsigned w32 low)

abbrev pub high_part : ℤ → ℤ
high_part z = int_div_euclid z (pos (2 ^ 32))

abbrev pub low_part : ℤ → ℤ
low_part z = wrapped Int z

-- The number in the word of this number.
abbrev pub nth_number : List Word → ℕ → Access ℤ
nth_number words k = or_wrong type_check (slice_get words k) >>= number_in

-- The number of a kind that lies at a byte: an int in the word there, a big in that and the next, a byte in any byte of a word.
abbrev pub number_at : Kind → List Word → (at : ℤ) → Access ℤ
number_at Byte words at = at_least_zero at >>= λ n. nth_number words (n / 4) >>= λ z. Found (pos (slice_index (bytes_of z) (n % 4)))
number_at Int words at = word_at words at >>= number_in
number_at Big words at =
    word_number at >>= λ k. nth_number words k >>= λ high. nth_number words (suc k) >>= λ low. Found (joined high low)

-- Words with that number replaced. A byte leaves the others of its word as they were read.
abbrev pub with_number_at : Kind → List Word → (at : ℤ) → ℤ → Access (List Word)
with_number_at Byte words at z =
    at_least_zero at >>= λ n.
    nth_number words (n / 4) >>= λ old.
    replaced words (n / 4) (Plain (with_byte old (n % 4) (unsigned_abs z)))
with_number_at Int words at z = stored words at (Plain z)
with_number_at Big words at z =
    word_number at >>= λ k.
    replaced words k (Plain (high_part z)) >>= λ after.
    replaced after (suc k) (Plain (low_part z))

-- An immediate is an int: as a byte it is what is left of it.
abbrev pub immediate_as : Kind → ℤ → ℤ
immediate_as Byte n = wrapped Byte n
immediate_as _ n = n

-- What an operation on numbers does: it combines two numbers of a kind, shifts one by an int, converts one to another kind, moves one,
-- or goes on elsewhere where a comparison of two holds.
pub data Row : Type 0 where
  Calculates : Kind → Operator → Row
  Shifts : Kind → Shift → Row
  Converts : (from to : Kind) → Row
  Moves : Kind → Row
  Branches : Kind → Comparison → Row

-- The operations on numbers. `movw` is none of them: it moves a plain word whatever stands in it.
abbrev pub number_row : Op → Option Row
number_row op.Addb = Some (Calculates Byte Add)
number_row op.Addw = Some (Calculates Int Add)
number_row op.Addl = Some (Calculates Big Add)
number_row op.Subb = Some (Calculates Byte Subtract)
number_row op.Subw = Some (Calculates Int Subtract)
number_row op.Subl = Some (Calculates Big Subtract)
number_row op.Mulb = Some (Calculates Byte Multiply)
number_row op.Mulw = Some (Calculates Int Multiply)
number_row op.Mull = Some (Calculates Big Multiply)
number_row op.Divb = Some (Calculates Byte Divide)
number_row op.Divw = Some (Calculates Int Divide)
number_row op.Divl = Some (Calculates Big Divide)
number_row op.Modb = Some (Calculates Byte Remainder)
number_row op.Modw = Some (Calculates Int Remainder)
number_row op.Modl = Some (Calculates Big Remainder)
number_row op.Andb = Some (Calculates Byte And)
number_row op.Andw = Some (Calculates Int And)
number_row op.Andl = Some (Calculates Big And)
number_row op.Orb = Some (Calculates Byte Or)
number_row op.Orw = Some (Calculates Int Or)
number_row op.Orl = Some (Calculates Big Or)
number_row op.Xorb = Some (Calculates Byte Xor)
number_row op.Xorw = Some (Calculates Int Xor)
number_row op.Xorl = Some (Calculates Big Xor)
number_row op.Shlb = Some (Shifts Byte Left)
number_row op.Shlw = Some (Shifts Int Left)
number_row op.Shll = Some (Shifts Big Left)
number_row op.Shrb = Some (Shifts Byte Right)
number_row op.Shrw = Some (Shifts Int Right)
number_row op.Shrl = Some (Shifts Big Right)
number_row op.Cvtbw = Some (Converts Byte Int)
number_row op.Cvtwb = Some (Converts Int Byte)
number_row op.Cvtlw = Some (Converts Big Int)
number_row op.Cvtwl = Some (Converts Int Big)
number_row op.Movb = Some (Moves Byte)
number_row op.Movl = Some (Moves Big)
number_row op.Beqb = Some (Branches Byte Equal)
number_row op.Beqw = Some (Branches Int Equal)
number_row op.Beql = Some (Branches Big Equal)
number_row op.Bneb = Some (Branches Byte Unequal)
number_row op.Bnew = Some (Branches Int Unequal)
number_row op.Bnel = Some (Branches Big Unequal)
number_row op.Bltb = Some (Branches Byte Less)
number_row op.Bltw = Some (Branches Int Less)
number_row op.Bltl = Some (Branches Big Less)
number_row op.Bleb = Some (Branches Byte AtMost)
number_row op.Blew = Some (Branches Int AtMost)
number_row op.Blel = Some (Branches Big AtMost)
number_row op.Bgtb = Some (Branches Byte Greater)
number_row op.Bgtw = Some (Branches Int Greater)
number_row op.Bgtl = Some (Branches Big Greater)
number_row op.Bgeb = Some (Branches Byte AtLeast)
number_row op.Bgew = Some (Branches Int AtLeast)
number_row op.Bgel = Some (Branches Big AtLeast)
number_row _ = None
