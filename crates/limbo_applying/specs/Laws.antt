-- What holds of what is applied.
use Rattle.std.specs.Prelude.{◌≡◌}
use Rattle.limbo_typed.specs.Typed.{Expr, Exprs}
use Rattle.limbo_context.specs.Context.{Context}
use Rattle.limbo_things.specs.Things.{Thing}
use Rattle.limbo_applying.specs.Applying.{Applies}

-- It is one expression at most.
abbrev pub OneApplied : Type 0
OneApplied = (c : Context) (thing : Thing) (args : Exprs) (e f : Expr) → Applies c thing args e → Applies c thing args f → e ≡ f
