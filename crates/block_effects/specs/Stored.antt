-- What operands read, where results go, and what memory is once they are stored.
use Rattle.std.specs.Prelude.{ℕ, pos, ◌≡◌, ◌/◌, ℤ, List, Option, Some, slice_set}
use Rattle.limbo_values.specs.declared.number.Kind.{Kind}
use Rattle.dis_isa.specs.declared.inst.Inst.{Inst}
use Rattle.dis_isa.specs.declared.inst.Middle.{Middle}
use Rattle.dis_isa.specs.declared.inst.Middle.TheVariants as middle
use Rattle.dis_isa.specs.declared.inst.Operand.{Operand}
use Rattle.dis_file.specs.declared.object.Object.{Object}
use Rattle.dis_meaning.specs.Words.{Word, Refer, Access, Found, ◌>>=◌, word_at, plain}
use Rattle.dis_meaning.specs.Numbers.{number_at}
use Rattle.dis_meaning.specs.Process.{Process}
use Rattle.dis_meaning.specs.Places.{Spot, Own}
use Rattle.dis_memory.specs.Blocks.{Block, World, with_block, next_serial}
use Rattle.dis_memory.specs.Places.{Memory, memory, with_words_at, source_of, given_of, source_reference, middle_reference}
use Rattle.dis_memory.specs.Kinds.{Elements, Linked, text_at, elements_at, first_cell}
use Rattle.dis_memory.specs.Process.{Does, next}
use Rattle.dis_memory.specs.Step.{obey}
use Rattle.value_moves.specs.Spots.{Leads}

-- An instruction comes to this.
abbrev pub Comes : (limit : ℕ) → Object → World → Process → Inst → Access Does → Type 0
Comes limit o x p i does = obey limit o x p i i.op ≡ does

-- Other words stand in a place, and the process goes on behind the instruction.
abbrev pub After : World → Process → Spot → List Word → Access Does
After x p place others = with_words_at x p place others >>= λ m. Found (next m)

module _ (x : World) (p : Process) where
  -- ---- where results go: to words in which one of their kind stands

  pub record NumberThere (kind : Kind) (b : Operand) : Type 0 where
    pub words : List Word
    pub byte : ℕ
    pub leads : Leads x p b words byte
    pub old : ℤ
    pub stands : number_at kind words (pos byte) ≡ Found old

  pub record ReferenceThere (b : Operand) : Type 0 where
    pub words : List Word
    pub byte : ℕ
    pub leads : Leads x p b words byte
    pub old : Option ℕ
    pub stands : word_at words (pos byte) ≡ Found (Refer old)

  -- A word of the running frame that refers to nothing: a number or an address.
  pub record PlainThere (byte : ℕ) : Type 0 where
    pub old : Word
    pub stands : word_at p.frame.words (pos byte) ≡ Found old
    pub is_plain : plain old ≡ Found old

  -- ---- what is there then

  -- A reference that was there already, or nothing.
  abbrev pub AfterReference : {b : Operand} → ReferenceThere b → Option ℕ → Access Does
  AfterReference d r = After x p d.leads.place (slice_set d.words (d.byte / 4) (Refer r))

  -- A new block, and a reference to it.
  abbrev pub AfterBlock : {b : Operand} → ReferenceThere b → Block → Access Does
  AfterBlock d new = After (with_block x new) p d.leads.place (slice_set d.words (d.byte / 4) (Refer (Some (next_serial x))))

  -- A plain word of the frame.
  abbrev pub AfterPlain : (byte : ℕ) → Word → Access Does
  AfterPlain n w = After x p (Own (pos n)) (slice_set p.frame.words (n / 4) w)

  -- ---- to what operands refer

  abbrev pub ReadsText : Operand → List ℕ → Type 0
  ReadsText a s = (r : Option ℕ) × (source_reference x p a ≡ Found r) × (text_at x r ≡ Found s)

  abbrev pub GivesText : Middle → List ℕ → Type 0
  GivesText m s = (r : Option ℕ) × (middle_reference x p m ≡ Found r) × (text_at x r ≡ Found s)

  abbrev pub ReadsElements : Operand → Option Elements → Type 0
  ReadsElements a e = (r : Option ℕ) × (source_reference x p a ≡ Found r) × (elements_at x r ≡ Found e)

  abbrev pub ReadsCell : Operand → Option Linked → Type 0
  ReadsCell a c = (r : Option ℕ) × (source_reference x p a ≡ Found r) × (first_cell x r ≡ Found c)

-- What is stored elsewhere is stored the same with a new block behind all others.
abbrev pub StoresBehind : Type 0
StoresBehind =
    (x : World) (p : Process) (new : Block) (place : Spot) (others : List Word) (m : Memory) → with_words_at x p place others ≡ Found m →
    with_words_at (with_block x new) p place others ≡ Found (memory (with_block m.world new) m.process)

-- What operands that lead somewhere read there, and middles in the running frame.
pub record OperandsRead (x : World) (p : Process) : Type 0 where
  pub number : (kind : Kind) (a : Operand) (words : List Word) (n : ℕ) (z : ℤ) → Leads x p a words n →
      number_at kind words (pos n) ≡ Found z → source_of kind x p a ≡ Found z
  pub reference : (a : Operand) (words : List Word) (n : ℕ) (r : Option ℕ) → Leads x p a words n →
      word_at words (pos n) ≡ Found (Refer r) → source_reference x p a ≡ Found r
  pub given : (kind : Kind) (n : ℕ) (z : ℤ) → number_at kind p.frame.words (pos n) ≡ Found z →
      given_of kind x p (middle.Fp (pos n)) ≡ Found z
  pub given_reference : (n : ℕ) (r : Option ℕ) → word_at p.frame.words (pos n) ≡ Found (Refer r) →
      middle_reference x p (middle.Fp (pos n)) ≡ Found r

abbrev pub OperandsReadAll : Type 0
OperandsReadAll = (x : World) (p : Process) → OperandsRead x p
