-- Which type the code in front of a place tells of a slot's value: that of the last which an instruction gave to it.
use Rattle.std.specs.Prelude.{ℕ, nat_eq, if◌then◌else◌, List, [], ◌∷◌, Option, None, Some, take}
use Rattle.limbo_types.specs.Types as ty
use Rattle.limbo_types.specs.Types.{Ty}
use Rattle.process_model.specs.Choice.{or_else}
use Rattle.limbo_meaning.specs.Values.{Value, Num, Ref}
use Rattle.core_code.specs.Code.{Instr, Give, Place, Gather, Pick, Known, Cell, Call, Print, Skip, Truth}

-- As of which type a value stands that no step gives: a length, the list without items, nothing.
abbrev pub type_known : Value → Ty
type_known (Num z) = ty.Int
type_known (Ref r) = ty.Nil
type_known v = ty.Nothing

-- Of which type the value is that an instruction gives to a slot, or that it puts an operand of.
abbrev pub given_to : Instr → (slot : ℕ) → Option Ty
given_to (Give t o into from) s = if nat_eq into s then Some t else None
given_to (Place t v j k into from) s = if nat_eq into s then Some t else None
given_to (Gather t o into n) s = if nat_eq into s then Some t else None
given_to (Pick t n into from) s = if nat_eq into s then Some t else None
given_to (Known v into) s = if nat_eq into s then Some (type_known v) else None
given_to (Cell t into item back) s = if nat_eq into s then Some (ty.ListOf t) else None
given_to (Call t f into o) s = if nat_eq into s then Some t else None
given_to (Print ps into o) s = if nat_eq into s then Some ty.Int else None
given_to (Skip c into decision from passes) s = if nat_eq into s then Some ty.Int else None
given_to (Truth into from) s = if nat_eq into s then Some ty.Int else None
given_to i s = None

-- The last that is given to a slot, by code and by the code in front of a place.
abbrev pub last_given : List Instr → (slot : ℕ) → Option Ty
last_given [] s = None
last_given (i ∷ is) s = or_else (last_given is s) (given_to i s)

abbrev pub told : (code : List Instr) → (pc slot : ℕ) → Option Ty
told code pc s = last_given (take pc code) s
