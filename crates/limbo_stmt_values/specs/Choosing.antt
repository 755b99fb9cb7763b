-- How a `case` takes an expression of a type.
use Rattle.std.specs.Prelude.{◌≡◌}
use Rattle.limbo_types.specs.Types.{Ty, Nil}
use Rattle.limbo_typed.specs.Sound.{IsCased}
use Rattle.limbo_stmt_values.specs.declared.endings.Choice.{Choice}
use Rattle.limbo_stmt_values.specs.declared.endings.Choice.TheVariants.{AsItIs, AsString, Not}

abbrev pub IsChoice : Ty → Choice → Type 0
IsChoice t AsItIs = IsCased t
IsChoice t AsString = t ≡ Nil
IsChoice t Not = (IsCased t → ⊥) × (t ≡ Nil → ⊥)
