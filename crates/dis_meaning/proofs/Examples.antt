-- Numbers in words, and operations on them, worked out.
use Rattle.std.proofs.Common.{◌≡◌, ℕ, pos, negsuc, List, [], ◌∷◌, None, refl}
use Rattle.std.specs.Int.{int_wrap}
use Rattle.std.specs.Prelude.{codes}
use Rattle.system_model.specs.Ending.{Broken, Faulted}
use Rattle.system_model.specs.World.{opening_world}
use Rattle.process_model.specs.Process.{Went, Ends}
use Rattle.dis_isa.specs.declared.inst.Middle.{Middle}
use Rattle.dis_isa.specs.declared.inst.Middle.TheVariants as middle
use Rattle.dis_isa.specs.declared.inst.Operand.{Operand}
use Rattle.dis_isa.specs.declared.inst.Operand.TheVariants as operand
use Rattle.dis_isa.specs.declared.op.Op.{Op}
use Rattle.dis_isa.specs.declared.op.Op.TheVariants as op
use Rattle.dis_file.specs.declared.object.Object.{Object}
use Rattle.limbo_values.specs.declared.number.Kind.TheVariants.{Byte, Big}
use Rattle.dis_meaning.specs.Words.{InFrame, Word, Plain, Refer, Address, Found, Wrong}
use Rattle.dis_meaning.specs.World.{World}
use Rattle.dis_meaning.specs.Process.{Process, Does, or_fault}
use Rattle.dis_meaning.specs.Numbers.{bytes_of, joined, high_part, low_part, number_at, with_number_at}
use Rattle.dis_meaning.specs.Step.{obey}

-- ---- numbers in words

bytes : bytes_of (pos 16909060) ≡ 1 ∷ 2 ∷ 3 ∷ 4 ∷ []
bytes = refl

bytes_of_minus_one : bytes_of (negsuc 0) ≡ 255 ∷ 255 ∷ 255 ∷ 255 ∷ []
bytes_of_minus_one = refl

third : number_at Byte (Plain (pos 0) ∷ Plain (pos 16909060) ∷ []) (pos 6) ≡ Found (pos 3)
third = refl

-- The other bytes of the word stay.
in_the_middle : with_number_at Byte (Plain (pos 16909060) ∷ []) (pos 2) (pos 255) ≡ Found (Plain (pos 16973572) ∷ [])
in_the_middle = refl

top_byte : with_number_at Byte (Plain (pos 0) ∷ []) (pos 0) (pos 128) ≡ Found (Plain (negsuc 2147483647) ∷ [])
top_byte = refl

over_address : with_number_at Byte (Address (InFrame 0) (pos 8) ∷ []) (pos 3) (pos 7) ≡ Found (Plain (pos 7) ∷ [])
over_address = refl

no_byte : number_at Byte (Refer None ∷ []) (pos 1) ≡ Wrong 110
no_byte = refl

below : number_at Byte (Plain (pos 0) ∷ []) (negsuc 0) ≡ Wrong 110
below = refl

big : number_at Big (Plain (pos 256) ∷ Plain (pos 0) ∷ []) (pos 0) ≡ Found (pos 1099511627776)
big = refl

low_bits : number_at Big (Plain (pos 0) ∷ Plain (negsuc 0) ∷ []) (pos 0) ≡ Found (pos 4294967295)
low_bits = refl

minus_one : with_number_at Big (Plain (pos 0) ∷ Plain (pos 0) ∷ Plain (pos 5) ∷ []) (pos 0) (negsuc 0) ≡ Found (Plain (negsuc 0) ∷ Plain (negsuc 0) ∷ Plain (pos 5) ∷ [])
unfolding int_wrap
minus_one = refl

least_again : joined (high_part (negsuc 9223372036854775807)) (low_part (negsuc 9223372036854775807)) ≡ negsuc 9223372036854775807
unfolding int_wrap
least_again = refl

half : number_at Big (Plain (pos 0) ∷ []) (pos 0) ≡ Wrong 110
half = refl

-- ---- instructions, where the running frame is eight words and one reference

abbrev none : Object
none = record {
  flags = 0;
  stack = 0;
  data_size = 0;
  entry_pc = 0;
  entry_type = 0;
  insts = [];
  types = [];
  items = [];
  «module» = [];
  links = [];
  imports = [];
  catches = [];
}

abbrev world : World
world = record { blocks = []; frames = 1; outside = opening_world }

abbrev running : (pc : ℕ) → List Word → Process
running pc words = record {
  number = 1;
  frame = record { serial = 0; instance = 0; pc = pc; words = words };
  below = [];
  made = [];
  printing = None;
}

abbrev does : List Word → Op → Operand → Middle → Operand → Does
does words o src mid dst = or_fault world (running 0 words) (obey 10 none world (running 0 words) (record { op = o; src = src; middle = mid; dst = dst }) o)

abbrev goes : List Word → Does
goes words = Went world (running 1 words)

-- The least int divided by -1 is itself, and the middle that is absent is the destination.
divw : does (Plain (negsuc 2147483647) ∷ []) op.Divw (operand.Imm (negsuc 0)) middle.None (operand.Fp (pos 0)) ≡ goes (Plain (negsuc 2147483647) ∷ [])
unfolding int_wrap
divw = refl

shlw : does (Plain (pos 1) ∷ []) op.Shlw (operand.Imm (pos 33)) middle.None (operand.Fp (pos 0)) ≡ goes (Plain (pos 2) ∷ [])
unfolding int_wrap
shlw = refl

-- byte 255 + byte 1 is 0, in the second byte of a word.
addb : does (Plain (pos 33489667) ∷ []) op.Addb (operand.Imm (pos 257)) middle.None (operand.Fp (pos 1)) ≡ goes (Plain (pos 16777987) ∷ [])
unfolding int_wrap
addb = refl

shll : does (Plain (pos 0) ∷ Plain (pos 1) ∷ []) op.Shll (operand.Imm (pos 40)) middle.None (operand.Fp (pos 0)) ≡ goes (Plain (pos 256) ∷ Plain (pos 0) ∷ [])
unfolding int_wrap
shll = refl

cvtwb : does (Plain (pos 300) ∷ Plain (negsuc 0) ∷ []) op.Cvtwb (operand.Fp (pos 0)) middle.None (operand.Fp (pos 7)) ≡ goes (Plain (pos 300) ∷ Plain (negsuc 211) ∷ [])
unfolding int_wrap
cvtwb = refl

movl : does (Plain (pos 1) ∷ Plain (pos 2) ∷ Plain (pos 3) ∷ []) op.Movl (operand.Fp (pos 0)) middle.None (operand.Fp (pos 4)) ≡ goes (Plain (pos 1) ∷ Plain (pos 1) ∷ Plain (pos 2) ∷ [])
unfolding int_wrap
movl = refl

by_zero : does (Plain (pos 1) ∷ Plain (pos 0) ∷ []) op.Modw (operand.Fp (pos 4)) middle.None (operand.Fp (pos 0)) ≡ Ends world (Broken (codes "zero divide"))
unfolding int_wrap
by_zero = refl

-- A destination that is wrong comes before it.
no_place : does (Plain (pos 1) ∷ Refer None ∷ []) op.Divw (operand.Imm (pos 0)) (middle.Fp (pos 0)) (operand.Fp (pos 4)) ≡ Ends world (Faulted 110 0)
unfolding int_wrap
no_place = refl

-- A branch has no middle of its own.
no_middle : does (Plain (pos 1) ∷ []) op.Beqw (operand.Imm (pos 1)) middle.None (operand.Imm (pos 0)) ≡ Ends world (Faulted 110 0)
no_middle = refl
