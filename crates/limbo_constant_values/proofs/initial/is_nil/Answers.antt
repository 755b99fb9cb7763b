use Rattle.std.proofs.Common.{◌≡◌, true, false, ap, ◌∙◌}
use Rattle.limbo_tree.specs.View.{view_expr}
use Rattle.limbo_tree.proofs.Exprs.{view_expr-Nil}
use Rattle.limbo_constant_values.proofs.Nils.{no_nil}
use Rattle.limbo_constant_values.proofs.initial.is_nil.Goals as goal

pub returns-in-Nil-clause-yes : goal.returns-in-Nil-clause-yes
returns-in-Nil-clause-yes c = λ h. ap view_expr c.in-Nil.is ∙ view_expr-Nil c.in-Nil.span

pub returns-in_default : goal.returns-in_default
returns-in_default c = record {
  yes = λ h. absurd (let z : false ≡ true = h in cc);
  no = λ h. no_nil c.args.e.now c.in_default.not-Nil;
}
