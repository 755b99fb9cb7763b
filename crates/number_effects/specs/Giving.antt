-- Where results go, if the destination leads to words.
use Rattle.std.specs.Prelude.{ℕ, pos, ◌≡◌, ◌≢◌, ◌/◌, ℤ, List, Option, Some, slice_set}
use Rattle.heap_model.specs.Heap.{at}
use Rattle.limbo_values.specs.declared.number.Kind.{Kind}
use Rattle.limbo_values.specs.declared.number.Kind.TheVariants.{Int}
use Rattle.limbo_values.specs.Numbers.{InRange}
use Rattle.dis_isa.specs.declared.inst.Operand.{Operand}
use Rattle.dis_meaning.specs.Words.{Word, Plain, Refer, Access, Found, Raises, ◌>>=◌, word_at, plain}
use Rattle.dis_meaning.specs.Numbers.{number_at}
use Rattle.dis_meaning.specs.Process.{Process}
use Rattle.dis_meaning.specs.Places.{Spot}
use Rattle.dis_memory.specs.Blocks.{Block, World, with_block, next_serial}
use Rattle.dis_memory.specs.Places.{with_words_at}
use Rattle.dis_memory.specs.Process.{Does, next}
use Rattle.dis_memory.specs.Results.{gives_number, gives_number_at, gives_plain_at, gives_reference, gives_reference_at}
use Rattle.dis_memory.specs.Results.{gives_block, gives_block_at}
use Rattle.value_words.specs.Contents.{AreInRange}
use Rattle.value_moves.specs.Spots.{Leads}
use Rattle.value_moves.specs.Changing.{Changes, NumberStored}

-- These words are in that place, and the process goes on with the next instruction.
abbrev pub after : World → Process → Spot → List Word → Access Does
after x p place others = with_words_at x p place others >>= λ m. Found (next m)

-- Words with the one at a byte replaced.
abbrev pub with_word : List Word → (to : ℕ) → Word → List Word
with_word target to new = slice_set target (to / 4) new

-- A word was stored: it is there, and nothing else has changed.
pub record WordStored (target : List Word) (to : ℕ) (new : Word) : Type 0 where
  pub there : word_at (with_word target to new) (pos to) ≡ Found new
  pub changes : Changes target (with_word target to new) to 4
  pub ranged : ((z : ℤ) → new ≡ Plain z → InRange Int z) → AreInRange target → AreInRange (with_word target to new)

-- What is done is that a number is stored at a place, or a word, and that the next instruction comes.
abbrev pub StoresNumber : Access Does → World → Process → Spot → Kind → List Word → (to : ℕ) → ℤ → Type 0
StoresNumber did x p place kind target to z = (n : NumberStored kind target to z) × (did ≡ after x p place n.others)

abbrev pub StoresWord : Access Does → World → Process → Spot → List Word → (to : ℕ) → Word → Type 0
StoresWord did x p place target to new = WordStored target to new × (did ≡ after x p place (with_word target to new))

-- An operand leads to the same place once a block was added behind the others.
abbrev pub LeadsStill : (x : World) (b : Block) (p : Process) (o : Operand) (words : List Word) (n : ℕ) → Leads x p o words n → Type 0
LeadsStill x b p o words n l = (k : Leads (with_block x b) p o words n) × (k.place ≡ l.place)

pub record ResultsGo : Type 0 where
  -- to the place to which the destination leads
  pub number_place : (x : World) (p : Process) (o : Operand) (target : List Word) (to : ℕ) (d : Leads x p o target to) (kind : Kind)
      (result : Access ℤ) → gives_number x p kind o result ≡ gives_number_at x p kind d.place result
  pub reference_place : (x : World) (p : Process) (o : Operand) (target : List Word) (to : ℕ) (d : Leads x p o target to)
      (result : Access (Option ℕ)) → gives_reference x p o result ≡ gives_reference_at x p d.place result
  pub block_place : (x : World) (p : Process) (o : Operand) (target : List Word) (to : ℕ) (d : Leads x p o target to)
      (result : Access Block) → gives_block x p o result ≡ gives_block_at x p d.place result
  -- a number, over one of its kind
  pub number : (x : World) (p : Process) (o : Operand) (target : List Word) (to : ℕ) (d : Leads x p o target to) (kind : Kind) (old z : ℤ) →
      number_at kind target (pos to) ≡ Found old → StoresNumber (gives_number x p kind o (Found z)) x p d.place kind target to z
  pub number_raised : (x : World) (p : Process) (o : Operand) (target : List Word) (to : ℕ) (d : Leads x p o target to) (kind : Kind)
      (old : ℤ) (text : List ℕ) → number_at kind target (pos to) ≡ Found old → gives_number x p kind o (Raises text) ≡ Raises text
  -- a plain word, over a plain one
  pub word : (x : World) (p : Process) (o : Operand) (target : List Word) (to : ℕ) (d : Leads x p o target to) (old new : Word) →
      word_at target (pos to) >>= plain ≡ Found old → plain new ≡ Found new →
      StoresWord (gives_plain_at x p d.place (Found new)) x p d.place target to new
  pub word_raised : (x : World) (p : Process) (o : Operand) (target : List Word) (to : ℕ) (d : Leads x p o target to) (old : Word)
      (text : List ℕ) → word_at target (pos to) >>= plain ≡ Found old → gives_plain_at x p d.place (Raises text) ≡ Raises text
  -- a reference, over a reference
  pub reference : (x : World) (p : Process) (o : Operand) (target : List Word) (to : ℕ) (d : Leads x p o target to) (old new : Option ℕ) →
      word_at target (pos to) ≡ Found (Refer old) → StoresWord (gives_reference x p o (Found new)) x p d.place target to (Refer new)
  pub reference_raised : (x : World) (p : Process) (o : Operand) (target : List Word) (to : ℕ) (d : Leads x p o target to) (old : Option ℕ)
      (text : List ℕ) → word_at target (pos to) ≡ Found (Refer old) → gives_reference x p o (Raises text) ≡ Raises text
  -- a reference to a new block
  pub block : (x : World) (p : Process) (o : Operand) (target : List Word) (to : ℕ) (d : Leads x p o target to) (old : Option ℕ)
      (b : Block) → word_at target (pos to) ≡ Found (Refer old) →
      StoresWord (gives_block x p o (Found b)) (with_block x b) p d.place target to (Refer (Some (next_serial x)))
  pub block_raised : (x : World) (p : Process) (o : Operand) (target : List Word) (to : ℕ) (d : Leads x p o target to) (old : Option ℕ)
      (text : List ℕ) → word_at target (pos to) ≡ Found (Refer old) → gives_block x p o (Raises text) ≡ Raises text
  -- it is the block of the next serial, and the others are those that they were
  pub new_block : (x : World) (b : Block) → at (with_block x b).heap (next_serial x) ≡ Some b
  pub other_blocks : (x : World) (b : Block) (n : ℕ) → n ≢ next_serial x → at (with_block x b).heap n ≡ at x.heap n
  -- in a world with a block more, operands lead where they led
  pub later : (x : World) (b : Block) (p : Process) (o : Operand) (words : List Word) (n : ℕ) (l : Leads x p o words n) →
      LeadsStill x b p o words n l
