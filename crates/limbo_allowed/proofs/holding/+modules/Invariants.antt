use Rattle.std.proofs.Common.{◌≡◌, drop}
use Rattle.limbo_types.specs.View.{view_tys}
use Rattle.limbo_allowed.specs.Choosing.{some_has_module}
use Rattle.limbo_allowed.proofs.holding.+modules.Given as goal

abbrev pub invariant-some_has_module-loop-t : goal.invariant-some_has_module-loop-t
invariant-some_has_module-loop-t l = some_has_module l.system (view_tys (drop l.t-index l.ts)) ≡ some_has_module l.system (view_tys l.ts)
