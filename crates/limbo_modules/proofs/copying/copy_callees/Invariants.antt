use Rattle.std.proofs.Common.{◌≡◌, map, take}
use Rattle.limbo_context.specs.View.{view_callee}
use Rattle.limbo_modules.proofs.copying.copy_callees.Given as goal

abbrev pub invariant-loop-callee : goal.invariant-loop-callee
invariant-loop-callee l = map view_callee l.copies.items ≡ map view_callee (take l.callee-index l.callees)
