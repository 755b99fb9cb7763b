use Rattle.std.proofs.Common.{List}
use Rattle.limbo_types.specs.View.{view_tys}
use Rattle.limbo_layout.specs.Adts.{Def, AllName}
use Rattle.limbo_adts_rows.proofs.ints.Given as goal

abbrev pub invariant-loop : goal.invariant-loop
invariant-loop l = (defs : List Def) → AllName defs 0 (view_tys l.parts.items)
