use Rattle.std.proofs.Common.{◌≡◌, ◌++◌, drop}
use Rattle.limbo_declarations.specs.View.{rows_of}
use Rattle.limbo_top.specs.Tops as told
use Rattle.limbo_top.specs.View.{placed}
use Rattle.limbo_top.proofs.tops.declared.Given as goal

abbrev pub invariant-loop-s : goal.invariant-loop-s
invariant-loop-s l = rows_of l.rows.items ++ told.declared (placed (drop l.s-index l.tops)) ≡ told.declared (placed l.tops)
