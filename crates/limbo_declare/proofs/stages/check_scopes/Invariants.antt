use Rattle.std.proofs.Common.{take}
use Rattle.limbo_top.specs.View.{placed}
use Rattle.limbo_declare.specs.Declares.{AreOnceInside}
use Rattle.limbo_declare.proofs.stages.check_scopes.Given as goal

abbrev pub invariant-loop-s : goal.invariant-loop-s
invariant-loop-s l = AreOnceInside (placed (take l.s-index l.tops))
