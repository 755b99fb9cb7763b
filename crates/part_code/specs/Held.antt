-- What the machine's instructions can hold of three-address code: the operand in the middle has 16 bits, and the text of a format is
-- a string.
use Rattle.std.specs.Prelude.{◌≡◌, ◌≤◌, true, List, [], ◌∷◌, length}
use Rattle.limbo_values.specs.Texts.{longest}
use Rattle.limbo_typed.specs.declared.operation.Operation.TheVariants as operation
use Rattle.slot_code.specs.Code.{Global, Operand, In, Number, Inst, Operate, Branch, Format}
use Rattle.dis_objects.specs.Code.{fits_middle, format_text}

-- An operand in the middle: a place of the function, or a number that is an immediate there. What stands further behind in the
-- module's data than 65,535 bytes can't be there.
abbrev pub IsMiddle : Operand → Type 0
IsMiddle (In (Global k x)) = ⊥
IsMiddle (In s) = Unit {0}
IsMiddle (Number z) = fits_middle z ≡ true

-- The left operand stands in the middle, but of a comparison the right one.
abbrev pub IsHeld : Inst → Type 0
IsHeld (Operate (operation.Arithmetic o k) into x y) = IsMiddle x
IsHeld (Operate (operation.Shift s k) into x y) = IsMiddle x
IsHeld (Operate (operation.Compare c k) into x y) = IsMiddle y
IsHeld (Branch k c x y n) = IsMiddle y
IsHeld (Format ps) = length (format_text ps) ≤ longest
IsHeld i = Unit {0}

abbrev pub AllHeld : List Inst → Type 0
AllHeld [] = Unit {0}
AllHeld (i ∷ is) = IsHeld i × AllHeld is
