-- What sources and middles are read as, from what stands where they lead.
use Rattle.std.specs.Prelude.{ℕ, pos, ◌≡◌, ℤ, List, Some}
use Rattle.heap_model.specs.Heap.{at}
use Rattle.limbo_values.specs.declared.number.Kind.{Kind}
use Rattle.limbo_values.specs.declared.number.Kind.TheVariants.{Int}
use Rattle.dis_isa.specs.declared.inst.Middle.TheVariants as middle
use Rattle.dis_isa.specs.declared.inst.Operand.{Operand}
use Rattle.dis_isa.specs.declared.inst.Operand.TheVariants as operand
use Rattle.dis_meaning.specs.Words.{Word, Plain, Found, ◌>>=◌, word_at, number_in, plain, reference}
use Rattle.dis_meaning.specs.Numbers.{number_at, immediate_as}
use Rattle.dis_meaning.specs.Process.{Process}
use Rattle.dis_memory.specs.Blocks.{World, Instance}
use Rattle.dis_memory.specs.Places.{source_of, source_plain, source_word, source_reference}
use Rattle.dis_memory.specs.Places.{given_of, middle_of, middle_word, middle_reference}
use Rattle.value_moves.specs.Spots.{Leads}

pub record OperandsAreRead : Type 0 where
  -- a source that leads to words
  pub source_number : (x : World) (p : Process) (o : Operand) (words : List Word) (n : ℕ) (kind : Kind) → Leads x p o words n →
      source_of kind x p o ≡ number_at kind words (pos n)
  pub source_plain_word : (x : World) (p : Process) (o : Operand) (words : List Word) (n : ℕ) → Leads x p o words n →
      source_plain x p o ≡ (word_at words (pos n) >>= plain)
  pub source_any_word : (x : World) (p : Process) (o : Operand) (words : List Word) (n : ℕ) → Leads x p o words n →
      source_word x p o ≡ word_at words (pos n)
  pub source_referring : (x : World) (p : Process) (o : Operand) (words : List Word) (n : ℕ) → Leads x p o words n →
      source_reference x p o ≡ (word_at words (pos n) >>= reference)
  -- one that is an immediate
  pub source_given : (x : World) (p : Process) (kind : Kind) (z : ℤ) → source_of kind x p (operand.Imm z) ≡ Found (immediate_as kind z)
  pub source_plain_given : (x : World) (p : Process) (z : ℤ) → source_plain x p (operand.Imm z) ≡ Found (Plain z)
  pub source_word_given : (x : World) (p : Process) (z : ℤ) → source_word x p (operand.Imm z) ≡ Found (Plain z)
  -- a middle of the running frame
  pub own_number : (x : World) (p : Process) (kind : Kind) (n : ℕ) →
      given_of kind x p (middle.Fp (pos n)) ≡ number_at kind p.frame.words (pos n)
  pub own_word : (x : World) (p : Process) (n : ℕ) → middle_word x p (middle.Fp (pos n)) ≡ word_at p.frame.words (pos n)
  pub own_reference : (x : World) (p : Process) (n : ℕ) →
      middle_reference x p (middle.Fp (pos n)) ≡ (word_at p.frame.words (pos n) >>= reference)
  -- of the data of its module
  pub module_number : (x : World) (p : Process) (kind : Kind) (object : ℕ) (words : List Word) (n : ℕ) →
      at x.heap p.frame.instance ≡ Some (Instance object words) → given_of kind x p (middle.Mp (pos n)) ≡ number_at kind words (pos n)
  pub module_word : (x : World) (p : Process) (object : ℕ) (words : List Word) (n : ℕ) →
      at x.heap p.frame.instance ≡ Some (Instance object words) → middle_word x p (middle.Mp (pos n)) ≡ word_at words (pos n)
  pub module_reference : (x : World) (p : Process) (object : ℕ) (words : List Word) (n : ℕ) →
      at x.heap p.frame.instance ≡ Some (Instance object words) →
      middle_reference x p (middle.Mp (pos n)) ≡ (word_at words (pos n) >>= reference)
  -- one that is an immediate
  pub middle_given : (x : World) (p : Process) (kind : Kind) (z : ℤ) → given_of kind x p (middle.Imm z) ≡ Found (immediate_as kind z)
  pub middle_word_given : (x : World) (p : Process) (z : ℤ) → middle_word x p (middle.Imm z) ≡ Found (Plain z)
  -- the middle of an operation: where there is none, the destination's number stands for it
  pub no_middle : (x : World) (p : Process) (kind : Kind) (o : Operand) → middle_of kind x p middle.None o ≡ source_of kind x p o
  pub own_middle : (x : World) (p : Process) (kind : Kind) (z : ℤ) (o : Operand) →
      middle_of kind x p (middle.Fp z) o ≡ given_of kind x p (middle.Fp z)
  pub module_middle : (x : World) (p : Process) (kind : Kind) (z : ℤ) (o : Operand) →
      middle_of kind x p (middle.Mp z) o ≡ given_of kind x p (middle.Mp z)
  pub given_middle : (x : World) (p : Process) (kind : Kind) (z : ℤ) (o : Operand) →
      middle_of kind x p (middle.Imm z) o ≡ given_of kind x p (middle.Imm z)
  -- a word that is read as an int is plain
  pub int_is_plain : (words : List Word) (n : ℕ) (z : ℤ) → number_at Int words (pos n) ≡ Found z →
      (w : Word) × (word_at words (pos n) >>= plain ≡ Found w) × (number_in w ≡ Found z)
