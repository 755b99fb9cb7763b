use Rattle.std.proofs.Common.{sym, ◌∙◌}
use Rattle.limbo_locals.proofs.Rules.{typed_as}
use Rattle.limbo_locals.proofs.constants.valued.Goals as goal

pub returns-in_ok-copy-in-Some-clause-of : goal.returns-in_ok-copy-in-Some-clause-of
returns-in_ok-copy-in-Some-clause-of c = c.in_ok-copy-in-Some.ensures ∙ sym (typed_as c.args.x.now)
