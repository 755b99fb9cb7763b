-- Rows of returns.
use Rattle.std.specs.Prelude.{ℕ, ◌≡◌, [], Option, None, Some, slice_get}
use Rattle.limbo_typed.specs.Typed as typed
use Rattle.core_code.specs.Code as core
use Rattle.core_code.specs.Machine as code
use Rattle.dis_meaning.specs.Process.{Process}
use Rattle.dis_memory.specs.Blocks.{World}
use Rattle.value_words.specs.Facts.{Facts}
use Rattle.value_frames.specs.Frames.{Form, Nowhere, AsNumber, AsReference, form_of}
use Rattle.value_follows.specs.Sides.{sides}
use Rattle.value_follows.specs.Rows.{Base, RowGoes}

module _ (m : typed.Module) where
  -- A return leads so far from where no frame waits.
  abbrev pub EndGoes : (from : Option ℕ) → Type 0
  EndGoes from =
      (k : Facts) (i : ℕ) (x : World) (p : code.Process) (q : Process) → (sides m).ready k i x p q → p.below ≡ [] →
      slice_get p.frame.code p.frame.pc ≡ Some (core.Return from) → RowGoes m k i x p q

  -- So does one of a function whose answer stands so, whether or not a frame waits.
  abbrev pub ReturnGoes : Form → (from : Option ℕ) → Type 0
  ReturnGoes form from =
      (k : Facts) (i : ℕ) (x : World) (p : code.Process) (q : Process) → (sides m).ready k i x p q → form_of p.frame.answer ≡ form →
      slice_get p.frame.code p.frame.pc ≡ Some (core.Return from) → RowGoes m k i x p q

-- A return of the first function ends both processes.
abbrev pub EndsGo : Type 0
EndsGo = (m : typed.Module) → Base m → (from : Option ℕ) → EndGoes m from

-- One that gives nothing, with or without a slot, goes on in the frame that waits.
abbrev pub NothingReturns : Type 0
NothingReturns = (m : typed.Module) → Base m → (from : Option ℕ) → ReturnGoes m Nowhere from

-- One that gives a byte or an int moves it to the slot that waits for it.
abbrev pub NumberReturns : Type 0
NumberReturns = (m : typed.Module) → Base m → (from : Option ℕ) → ReturnGoes m AsNumber from

-- One without a slot, of a function whose answer refers, gives what refers to nothing.
abbrev pub NilReturns : Type 0
NilReturns = (m : typed.Module) → Base m → ReturnGoes m AsReference None
