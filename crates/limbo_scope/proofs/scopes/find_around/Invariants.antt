use Rattle.std.proofs.Common.{◌≡◌, length}
use Rattle.limbo_scope.specs.Scopes.{seen}
use Rattle.limbo_scope.specs.Maps.{scopes_of}
use Rattle.limbo_scope.proofs.scopes.find_around.Given as goal

abbrev pub invariant-loop-innermost : goal.invariant-loop-innermost
invariant-loop-innermost l = seen l.name (scopes_of l.rest) ≡ seen l.name (scopes_of l.around)

abbrev pub decreases-loop-innermost : goal.decreases-loop-innermost
decreases-loop-innermost l = length l.rest
