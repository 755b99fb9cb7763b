-- Rows of the loops of initialisers.
use Rattle.std.specs.Prelude.{ℕ, ℤ, ◌≡◌, List, Some, slice_get}
use Rattle.limbo_typed.specs.Typed as typed
use Rattle.core_code.specs.Code as core
use Rattle.core_code.specs.Machine as code
use Rattle.core_code.specs.Slots.{NoRegion, slot, chain_of}
use Rattle.dis_meaning.specs.Process.{Process}
use Rattle.dis_memory.specs.Blocks.{World}
use Rattle.value_words.specs.Facts.{Facts}
use Rattle.value_follows.specs.Sides.{sides}
use Rattle.value_follows.specs.Rows.{Base, RowGoes, InstrGoes}

-- A loop goes on to the next index that isn't named, or none is left, and so many instructions are passed.
abbrev pub NextsGo : Type 0
NextsGo = (m : typed.Module) → Base m → (array loop : ℕ) (named : List ℤ) (passes : ℕ) → InstrGoes m (core.Next array loop named passes)

-- Where nothing is in a loop's chain, its slot is empty then, and so many instructions are passed.
abbrev pub TakesEnd : Type 0
TakesEnd =
    (m : typed.Module) → Base m → (loop from words passes : ℕ) (k : Facts) (i : ℕ) (x : World) (p : code.Process) (q : Process) →
    (sides m).ready k i x p q → slice_get p.frame.code p.frame.pc ≡ Some (core.Take loop from words passes) →
    chain_of (slot p.frame.slots loop) ≡ NoRegion → RowGoes m k i x p q
