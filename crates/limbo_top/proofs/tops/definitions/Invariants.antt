use Rattle.std.proofs.Common.{◌≡◌, ◌++◌, drop}
use Rattle.limbo_top.specs.Tops as told
use Rattle.limbo_top.specs.View.{placed, definitions_of}
use Rattle.limbo_top.proofs.tops.definitions.Given as goal

abbrev pub invariant-loop-s : goal.invariant-loop-s
invariant-loop-s l = definitions_of l.definitions.items ++ told.definitions (placed (drop l.s-index l.tops)) ≡ told.definitions (placed l.tops)
