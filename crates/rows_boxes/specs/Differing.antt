-- In the code of functions a slot that gets a value is none of those that the instruction reads.
use Rattle.std.specs.Prelude.{ℕ, ◌≡◌, ◌≢◌, ◌<◌, List, [], ◌∷◌, Option, None, Some, slice_get}
use Rattle.limbo_typed.specs.Typed as typed
use Rattle.core_code.specs.Code.{Instr, Give, Place, Pick, Cell, Call, Print, Skip, Truth, Keep, Take}
use Rattle.value_code.specs.Objects.{of_function}

abbrev pub DiffersFrom : ℕ → List ℕ → Type 0
DiffersFrom s [] = Unit {0}
DiffersFrom s (d ∷ ds) = (s ≢ d) × DiffersFrom s ds

abbrev pub DiffersIf : ℕ → Option ℕ → Type 0
DiffersIf s None = Unit {0}
DiffersIf s (Some d) = s ≢ d

-- An operand's slot isn't the one in which it is put together with others. The slots of a chain's regions stand behind the loop's.
abbrev pub Apart : Instr → Type 0
Apart (Give t o into from) = DiffersFrom into from
Apart (Place t v k n into from) = into ≢ from
Apart (Pick t n into from) = into ≢ from
Apart (Cell t into item back) = (into ≢ item) × DiffersIf into back
Apart (Call t f into operands) = DiffersIf into operands
Apart (Print ps into operands) = DiffersIf into operands
Apart (Skip c into decision from n) = (into ≢ from) × DiffersIf into decision × DiffersIf from decision
Apart (Truth into from) = into ≢ from
Apart (Keep loop from words) = loop < from
Apart (Take loop from words n) = loop < from
Apart i = Unit {0}

abbrev pub SlotsDiffer : Type 0
SlotsDiffer =
    (m : typed.Module) (f : typed.Function) (pc : ℕ) (i : Instr) → slice_get (of_function m f).code pc ≡ Some i → Apart i
