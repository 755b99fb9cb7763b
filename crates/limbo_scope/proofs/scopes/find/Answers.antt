use Rattle.std.proofs.Common.{◌∙◌}
use Rattle.limbo_scope.proofs.Maps.{looked}
use Rattle.limbo_scope.proofs.scopes.find.Goals as goal

pub returns : goal.returns
returns c = c.copied.ensures ∙ c.get.ensures.value ∙ looked c.args.scope.now c.args.name.now
