use Rattle.limbo_tree.specs.View.{view_expr}
use Rattle.limbo_unknown.specs.Written.{first}
use Rattle.limbo_unknown.proofs.Gaps.{told_nothing}
use Rattle.limbo_unknown.proofs.Plain.{no_first}
use Rattle.limbo_unknown.proofs.exprs.+missing_first.Goals as goal

pub returns-in_default : goal.returns-in_default
returns-in_default t c =
    told_nothing c.args.naming.now c.args.scope (first c.args.in_constant (view_expr c.args.part.now))
    (no_first c.args.in_constant c.args.part.now c.in_default.not-Name c.in_default.not-Arrow c.in_default.not-Dot)
