-- The words that operands name (Dis Virtual Machine Specification, "Operand formats").
use Rattle.std.specs.Prelude.{ℕ, ℤ, ◌+ℤ◌, ◌/◌, List, Option, slice_get}
use Rattle.dis_isa.specs.declared.inst.Middle.{Middle}
use Rattle.dis_isa.specs.declared.inst.Middle.TheVariants as middle
use Rattle.dis_isa.specs.declared.inst.Operand.{Operand}
use Rattle.dis_isa.specs.declared.inst.Operand.TheVariants as operand
use Rattle.limbo_values.specs.declared.number.Kind.{Kind}
use Rattle.dis_meaning.specs.Words.{Place, InBlock, InFrame, Word, Plain, Refer, Address, Access, Found, Wrong, ◌>>=◌, type_check}
use Rattle.dis_meaning.specs.Words.{or_wrong, at_least_zero, word_at, stored, plain, reference}
use Rattle.dis_meaning.specs.Numbers.{number_at, with_number_at, immediate_as}
use Rattle.dis_meaning.specs.Process.{Process, with_words, with_frames}
use Rattle.dis_meaning.specs.Places.{Spot, Own, Data, Far, words_in, all_frames, place_in, with_frame_words}
use Rattle.dis_memory.specs.Blocks as blocks
use Rattle.dis_memory.specs.Blocks.{World, block, with_changed, reached}
use Rattle.dis_memory.specs.Raising.{not_nil}

-- What a world and a process are after something was stored.
pub record Memory : Type 0 where
  pub world : World
  pub process : Process

abbrev pub memory : World → Process → Memory
memory x p = record { world = x; process = p }

-- The words that operands reach in a block.
abbrev pub data_at : World → ℕ → Access (List Word)
data_at x n = block x n >>= reached

abbrev pub words_of : World → Process → Place → Access (List Word)
words_of x p (InFrame s) = words_in s (all_frames p)
words_of x p (InBlock n) = data_at x n

-- The words among which the byte is.
abbrev pub words_at : World → Process → Spot → Access (List Word)
words_at x p (Own at) = Found p.frame.words
words_at x p (Data at) = data_at x p.frame.instance
words_at x p (Far place at) = words_of x p place

-- The word that stands there.
abbrev pub read : World → Process → Spot → Access Word
read x p s = words_at x p s >>= λ words. word_at words (place_in s)

-- The word in which the byte lies.
abbrev pub around : World → Process → Spot → Access Word
around x p s = words_at x p s >>= λ words. at_least_zero (place_in s) >>= λ n. or_wrong type_check (slice_get words (n / 4))

-- The block of this serial has these words.
abbrev pub with_data : World → ℕ → List Word → Access World
with_data x n words = block x n >>= λ b. Found (with_changed x n (blocks.with_words words b))

-- Memory with these words in that place.
abbrev pub with_words_at : World → Process → Spot → List Word → Access Memory
with_words_at x p (Own at) words = Found (memory x (with_frames p (with_words p.frame words) p.below p.made))
with_words_at x p (Data at) words = with_data x p.frame.instance words >>= λ y. Found (memory y p)
with_words_at x p (Far (InFrame s) at) words = Found (memory x (with_frame_words p s words))
with_words_at x p (Far (InBlock n) at) words = with_data x n words >>= λ y. Found (memory y p)

-- A word is stored, where one of its kind stands.
abbrev pub store : World → Process → Spot → Word → Access Memory
store x p s new = words_at x p s >>= λ words. stored words (place_in s) new >>= with_words_at x p s

-- The byte so far behind the one whose address stands in a word, or behind the first of a block that it refers to. Nothing is behind nil.
abbrev pub behind : Word → ℤ → Access Spot
behind (Address place at) outer = Found (Far place (at +ℤ outer))
behind (Refer r) outer = not_nil r >>= λ n. Found (Far (InBlock n) outer)
behind (Plain n) outer = Wrong type_check

-- The byte that a source or destination names. An immediate names none.
abbrev pub spot : World → Process → Operand → Access Spot
spot x p (operand.Fp at) = Found (Own at)
spot x p (operand.Mp at) = Found (Data at)
spot x p (operand.IndFp inner outer) = read x p (Own inner) >>= λ w. behind w outer
spot x p (operand.IndMp inner outer) = read x p (Data inner) >>= λ w. behind w outer
spot x p _ = Wrong type_check

-- The byte that a middle names.
abbrev pub middle_spot : Middle → Access Spot
middle_spot (middle.Fp at) = Found (Own at)
middle_spot (middle.Mp at) = Found (Data at)
middle_spot _ = Wrong type_check

-- ---- numbers

-- The number of a kind that lies there.
abbrev pub read_number : Kind → World → Process → Spot → Access ℤ
read_number kind x p s = words_at x p s >>= λ words. number_at kind words (place_in s)

-- A number of a kind is stored there, over one of its kind.
abbrev pub store_number : Kind → World → Process → Spot → ℤ → Access Memory
store_number kind x p s z = words_at x p s >>= λ words. with_number_at kind words (place_in s) z >>= with_words_at x p s

-- The number of a source, as one of a kind.
abbrev pub source_of : Kind → World → Process → Operand → Access ℤ
source_of kind x p (operand.Imm n) = Found (immediate_as kind n)
source_of kind x p o = spot x p o >>= read_number kind x p

-- The plain word of a source: an immediate is the number itself.
abbrev pub source_plain : World → Process → Operand → Access Word
source_plain x p (operand.Imm n) = Found (Plain n)
source_plain x p o = spot x p o >>= λ s. read x p s >>= plain

-- The number of a middle that is there.
abbrev pub given_of : Kind → World → Process → Middle → Access ℤ
given_of kind x p (middle.Imm n) = Found (immediate_as kind n)
given_of kind x p m = middle_spot m >>= read_number kind x p

-- The number of an operation's middle: where there is none, the destination's.
abbrev pub middle_of : Kind → World → Process → Middle → Operand → Access ℤ
middle_of kind x p middle.None dst = source_of kind x p dst
middle_of kind x p m dst = given_of kind x p m

-- ---- references

-- The word of a source, and of a middle.
abbrev pub source_word : World → Process → Operand → Access Word
source_word x p (operand.Imm n) = Found (Plain n)
source_word x p o = spot x p o >>= read x p

abbrev pub middle_word : World → Process → Middle → Access Word
middle_word x p (middle.Imm n) = Found (Plain n)
middle_word x p m = middle_spot m >>= read x p

-- The block, or nothing, that a source refers to, a middle, and a place.
abbrev pub source_reference : World → Process → Operand → Access (Option ℕ)
source_reference x p o = source_word x p o >>= reference

abbrev pub middle_reference : World → Process → Middle → Access (Option ℕ)
middle_reference x p m = middle_word x p m >>= reference

abbrev pub reference_at : World → Process → Spot → Access (Option ℕ)
reference_at x p s = read x p s >>= reference
