-- What an assignment waits for.
use Rattle.std.specs.Prelude.{Option, None, Some}
use Rattle.limbo_typed.specs.Typed.{Expr, Pattern, AltHead, Receives}
use Rattle.limbo_stmt_values.specs.limbo_stating.Alts.{assigned}

abbrev pub received_to : Pattern → Expr → Option AltHead
received_to p x = elim (assigned x) [ None ↦ None | Some c ↦ Some (Receives (Some p) c) ]
