-- Rows of the loops of initialisers that give slots to a chain, and take them back.
use Rattle.std.specs.Prelude.{ℕ, ◌+◌, ◌≡◌, ◌<◌, ◌≤◌, Some, slice_get}
use Rattle.limbo_typed.specs.Typed as typed
use Rattle.core_code.specs.Code as core
use Rattle.core_code.specs.Machine as code
use Rattle.core_code.specs.Slots.{Slot, Holds, Forms, Turns, NoRegion, MoreRegions, slot}
use Rattle.dis_meaning.specs.Process.{Process}
use Rattle.dis_memory.specs.Blocks.{World}
use Rattle.value_words.specs.Facts.{Facts}
use Rattle.value_follows.specs.Sides.{sides}
use Rattle.value_follows.specs.Rows.{Base, InstrGoes, RowGoes}

-- The oldest region of a loop's chain comes back into its slots; or there is none, and the turn is passed.
abbrev pub TakesGo : Type 0
TakesGo = (m : typed.Module) → Base m → (loop from words passes : ℕ) → InstrGoes m (core.Take loop from words passes)

-- Nothing is put together in a slot, and no region is in its chain; so no record of the machine is its own.
abbrev pub IsBare : Slot → Type 0
IsBare (Holds v) = Unit {0}
IsBare (Forms vs) = ⊥
IsBare (Turns n NoRegion) = Unit {0}
IsBare (Turns n (MoreRegions g rs)) = ⊥

-- So it is in so many slots from one on.
abbrev pub AreBare : code.Process → (from words : ℕ) → Type 0
AreBare p from words = (s : ℕ) → from ≤ s → s < from + words → IsBare (slot p.frame.slots s)

-- A region of slots in which nothing is put together, and no chain is, becomes the last of a loop's chain, whatever is in it. (A record
-- that a slot has as its own is older than the new record of the chain, and of two records that stand for nothing only the older refers to
-- the younger: so the new one can't refer to it.)
abbrev pub KeepsGo : Type 0
KeepsGo =
    (m : typed.Module) → Base m → (loop from words : ℕ) (k : Facts) (i : ℕ) (x : World) (p : code.Process) (q : Process) →
    (sides m).ready k i x p q → slice_get p.frame.code p.frame.pc ≡ Some (core.Keep loop from words) → AreBare p from words →
    RowGoes m k i x p q
