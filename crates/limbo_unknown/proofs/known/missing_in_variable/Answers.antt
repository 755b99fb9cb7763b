use Rattle.std.proofs.Common.{option_map}
use Rattle.limbo_tree.specs.View.{view_type, view_expr}
use Rattle.limbo_unknown.specs.Written.{in_type, in_value}
use Rattle.limbo_unknown.proofs.Gaps.{told_later}
use Rattle.limbo_unknown.proofs.known.missing_in_variable.Goals as goal

pub returns-in-None : goal.returns-in-None
returns-in-None c =
    told_later c.args.naming.now c.args.scope (in_type (view_type c.args.of.now))
    (in_value (option_map (λ e. view_expr e.now) c.args.value)) c.missing_in_value.result c.in-None.ensures c.missing_in_value.ensures
