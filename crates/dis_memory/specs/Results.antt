-- Where the results of instructions go. A destination is looked at before anything is raised, and it has to be of the result's kind: so
-- a wrong one is told as such, whatever the result.
use Rattle.std.specs.Prelude.{ℕ, ℤ, Option, Some}
use Rattle.dis_isa.specs.declared.inst.Operand.{Operand}
use Rattle.limbo_values.specs.declared.number.Kind.{Kind}
use Rattle.dis_meaning.specs.Words.{Word, Refer, Access, Found, ◌>>=◌, plain}
use Rattle.dis_meaning.specs.Process.{Process}
use Rattle.dis_meaning.specs.Places.{Spot}
use Rattle.dis_memory.specs.Blocks.{Block, World, with_block, next_serial}
use Rattle.dis_memory.specs.Places.{spot, read, store, store_number, read_number, reference_at}
use Rattle.dis_memory.specs.Process.{Does, next}

module _ (x : World) (p : Process) where
  -- A number.
  abbrev pub gives_number_at : Kind → Spot → Access ℤ → Access Does
  gives_number_at kind d result =
      read_number kind x p d >>= λ old. result >>= λ z. store_number kind x p d z >>= λ m. Found (next m)

  abbrev pub gives_number : Kind → Operand → Access ℤ → Access Does
  gives_number kind o result = spot x p o >>= λ d. gives_number_at kind d result

  -- A plain word: a number or an address.
  abbrev pub gives_plain_at : Spot → Access Word → Access Does
  gives_plain_at d result =
      read x p d >>= plain >>= λ old. result >>= λ w. store x p d w >>= λ m. Found (next m)

  -- A reference that is there already, or nil.
  abbrev pub gives_reference_at : Spot → Access (Option ℕ) → Access Does
  gives_reference_at d result =
      reference_at x p d >>= λ old. result >>= λ r. store x p d (Refer r) >>= λ m. Found (next m)

  abbrev pub gives_reference : Operand → Access (Option ℕ) → Access Does
  gives_reference o result = spot x p o >>= λ d. gives_reference_at d result

  -- A new block, and a reference to it.
  abbrev pub gives_block_at : Spot → Access Block → Access Does
  gives_block_at d result =
      reference_at x p d >>= λ old.
      result >>= λ b.
      store (with_block x b) p d (Refer (Some (next_serial x))) >>= λ m.
      Found (next m)

  abbrev pub gives_block : Operand → Access Block → Access Does
  gives_block o result = spot x p o >>= λ d. gives_block_at d result
