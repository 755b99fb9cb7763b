-- The words that operands name (Dis Virtual Machine Specification, "Operand formats").
use Rattle.std.specs.Prelude.{ℕ, ℤ, ◌+ℤ◌, ◌/◌, List, [], ◌∷◌, ◌++◌, map, Some, nat_eq, slice_get, if◌then◌else◌}
use Rattle.dis_isa.specs.declared.inst.Middle.{Middle}
use Rattle.dis_isa.specs.declared.inst.Middle.TheVariants as middle
use Rattle.dis_isa.specs.declared.inst.Operand.{Operand}
use Rattle.dis_isa.specs.declared.inst.Operand.TheVariants as operand
use Rattle.limbo_values.specs.declared.number.Kind.{Kind}
use Rattle.dis_meaning.specs.Words.{Place, InBlock, InFrame, Word, Plain, Refer, Address, Access, Found, Wrong}
use Rattle.dis_meaning.specs.Words.{◌>>=◌, type_check, dead_address, or_wrong, at_least_zero, word_at, stored, plain}
use Rattle.dis_meaning.specs.Numbers.{number_at, with_number_at, immediate_as}
use Rattle.dis_meaning.specs.World.{Content, Text, Instance, Sys, World, block, with_content}
use Rattle.dis_meaning.specs.Process.{Frame, Process, with_words, with_frames}

-- A byte of memory: of the running frame, of its module's data, or of the place that an address names.
pub data Spot : Type 0 where
  Own : ℤ → Spot
  Data : ℤ → Spot
  Far : Place → ℤ → Spot

-- The words of the frame of this serial, among these.
abbrev pub words_in : ℕ → List Frame → Access (List Word)
words_in s [] = Wrong dead_address
words_in s (f ∷ fs) = if nat_eq f.serial s then Found f.words else words_in s fs

-- All frames of a process. The address of another process's frame is as that of one that isn't there.
abbrev pub all_frames : Process → List Frame
all_frames p = p.frame ∷ p.below ++ p.made

-- The words that operands reach in a block: the data of an instance.
abbrev pub data_of : Content → Access (List Word)
data_of (Instance object words) = Found words
data_of (Text chars) = Wrong type_check
data_of (Sys names) = Wrong type_check

abbrev pub data_at : World → ℕ → Access (List Word)
data_at x n = block x n >>= data_of

abbrev pub words_of : World → Process → Place → Access (List Word)
words_of x p (InFrame s) = words_in s (all_frames p)
words_of x p (InBlock n) = data_at x n

-- The words among which the byte is, and its place there.
abbrev pub words_at : World → Process → Spot → Access (List Word)
words_at x p (Own at) = Found p.frame.words
words_at x p (Data at) = data_at x p.frame.instance
words_at x p (Far place at) = words_of x p place

abbrev pub place_in : Spot → ℤ
place_in (Own at) = at
place_in (Data at) = at
place_in (Far place at) = at

-- The word that stands there.
abbrev pub read : World → Process → Spot → Access Word
read x p s = words_at x p s >>= λ words. word_at words (place_in s)

-- The word in which the byte lies.
abbrev pub around : World → Process → Spot → Access Word
around x p s = words_at x p s >>= λ words. at_least_zero (place_in s) >>= λ n. or_wrong type_check (slice_get words (n / 4))

-- Its address.
abbrev pub address : Process → Spot → Word
address p (Own at) = Address (InFrame p.frame.serial) at
address p (Data at) = Address (InBlock p.frame.instance) at
address p (Far place at) = Address place at

-- What a world and a process are after a word was stored.
pub record Memory : Type 0 where
  pub world : World
  pub process : Process

-- The frame of this serial has these words.
abbrev pub change : ℕ → List Word → Frame → Frame
change s words f = if nat_eq f.serial s then with_words f words else f

abbrev pub with_frame_words : Process → ℕ → List Word → Process
with_frame_words p s words = with_frames p (change s words p.frame) (map (change s words) p.below) (map (change s words) p.made)

-- The instance of this serial has these data.
abbrev pub renewed : List Word → Content → Content
renewed words (Instance object old) = Instance object words
renewed words c = c

abbrev pub with_data : World → ℕ → List Word → Access World
with_data x n words = block x n >>= λ c. Found (with_content x n (renewed words c))

-- Memory with these words in that place.
abbrev pub with_words_at : World → Process → Spot → List Word → Access Memory
with_words_at x p (Own at) words = Found (record { world = x; process = with_frames p (with_words p.frame words) p.below p.made })
with_words_at x p (Data at) words = with_data x p.frame.instance words >>= λ y. Found (record { world = y; process = p })
with_words_at x p (Far (InFrame s) at) words = Found (record { world = x; process = with_frame_words p s words })
with_words_at x p (Far (InBlock n) at) words = with_data x n words >>= λ y. Found (record { world = y; process = p })

-- A word is stored, where one of its kind stands.
abbrev pub store : World → Process → Spot → Word → Access Memory
store x p s new = words_at x p s >>= λ words. stored words (place_in s) new >>= with_words_at x p s

-- The byte so far behind the one whose address stands in a word, or behind the first of a block that it refers to.
abbrev pub behind : Word → ℤ → Access Spot
behind (Address place at) outer = Found (Far place (at +ℤ outer))
behind (Refer (Some n)) outer = Found (Far (InBlock n) outer)
behind _ outer = Wrong type_check

-- The byte that a source or destination names. An immediate names none.
abbrev pub spot : World → Process → Operand → Access Spot
spot x p (operand.Fp at) = Found (Own at)
spot x p (operand.Mp at) = Found (Data at)
spot x p (operand.IndFp inner outer) = read x p (Own inner) >>= λ w. behind w outer
spot x p (operand.IndMp inner outer) = read x p (Data inner) >>= λ w. behind w outer
spot x p _ = Wrong type_check

-- The number of a kind that lies there.
abbrev pub read_number : Kind → World → Process → Spot → Access ℤ
read_number kind x p s = words_at x p s >>= λ words. number_at kind words (place_in s)

-- A number of a kind is stored there, over one of its kind.
abbrev pub store_number : Kind → World → Process → Spot → ℤ → Access Memory
store_number kind x p s z = words_at x p s >>= λ words. with_number_at kind words (place_in s) z >>= with_words_at x p s

-- The number of a source, as one of a kind.
abbrev pub source_of : Kind → World → Process → Operand → Access ℤ
source_of kind x p (operand.Imm n) = Found (immediate_as kind n)
source_of kind x p o = spot x p o >>= read_number kind x p

-- The plain word of a source: an immediate is the number itself.
abbrev pub source_plain : World → Process → Operand → Access Word
source_plain x p (operand.Imm n) = Found (Plain n)
source_plain x p o = spot x p o >>= λ s. read x p s >>= plain

-- The word of a source.
abbrev pub source_word : World → Process → Operand → Access Word
source_word x p o = spot x p o >>= read x p

-- The number of a middle that is there.
abbrev pub given_of : Kind → World → Process → Middle → Access ℤ
given_of kind x p (middle.Imm n) = Found (immediate_as kind n)
given_of kind x p (middle.Fp at) = read_number kind x p (Own at)
given_of kind x p (middle.Mp at) = read_number kind x p (Data at)
given_of kind x p middle.None = Wrong type_check

-- The number of an operation's middle: where there is none, the destination's.
abbrev pub middle_of : Kind → World → Process → Middle → Operand → Access ℤ
middle_of kind x p middle.None dst = source_of kind x p dst
middle_of kind x p m dst = given_of kind x p m
