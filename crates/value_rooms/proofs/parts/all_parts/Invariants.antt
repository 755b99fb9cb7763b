use Rattle.std.proofs.Common.{◌≡◌, map, take}
use Rattle.limbo_layout.specs.Adts.{parts}
use Rattle.limbo_layout.specs.View.{view_defs}
use Rattle.value_rooms.specs.Tables.{view_parts}
use Rattle.value_rooms.proofs.parts.all_parts.Given as goal

abbrev pub invariant-loop-def : goal.invariant-loop-def
invariant-loop-def l = view_parts l.all.items ≡ map parts (view_defs (take l.def-index l.defs))
