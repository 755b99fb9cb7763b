use Rattle.std.proofs.Common.{◌≡◌, drop}
use Rattle.limbo_types.specs.View.{view_tys}
use Rattle.limbo_allowed.specs.Choosing.{some_holds_fd}
use Rattle.limbo_allowed.proofs.holding.+files.Given as goal

abbrev pub invariant-some_holds_fd-loop-t : goal.invariant-some_holds_fd-loop-t
invariant-some_holds_fd-loop-t l = some_holds_fd l.fd (view_tys (drop l.t-index l.ts)) ≡ some_holds_fd l.fd (view_tys l.ts)
