-- As of which type the value of a print stands in its slot: nothing is there where it isn't in this part of the language.
use Rattle.limbo_types.specs.Types.{Ty, Nothing}
use Rattle.limbo_typed.specs.declared.print.Printed.{Printed}
use Rattle.limbo_typed.specs.declared.print.Printed.TheVariants as printed
use Rattle.limbo_typed.specs.Typed.{Optional, Absent, Present}

abbrev pub print_type : Printed → Ty → (file : Optional) → Ty
print_type printed.Fprint t file = Nothing
print_type _ t Absent = t
print_type _ t (Present f) = Nothing

abbrev pub channel_type : Ty → (size : Optional) → Ty
channel_type t Absent = t
channel_type t (Present n) = Nothing
