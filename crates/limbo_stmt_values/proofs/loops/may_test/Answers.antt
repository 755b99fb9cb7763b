use Rattle.std.proofs.Common.{refl, sym, subst, Option, None, Box, Global}
use Rattle.limbo_tree.specs.declared.expr.Expr as code_tree
use Rattle.limbo_tree.specs.View as source
use Rattle.limbo_typed.specs.View.{view_boxed}
use Rattle.limbo_typed.proofs.View.{view_boxed-None}
use Rattle.limbo_context.specs.View.{view_context, view_body}
use Rattle.limbo_stating.specs.Around.{MayTest}
use Rattle.limbo_stmt_values.specs.Leading.{point}
use Rattle.limbo_stmt_values.proofs.loops.may_test.Goals as goal

pub returns-in-None-clause-tests : goal.returns-in-None-clause-tests
returns-in-None-clause-tests c = λ n.
    subst
    (λ (z : Option (Box code_tree.Expr Global)).
    MayTest (point (view_context c.args.context.now) (view_body c.args.body.now) n) (source.view_boxed z) (view_boxed None)
    (point (view_context c.args.context.now) (view_body c.args.body.now) n)) (sym c.in-None.is) (view_boxed-None, refl)
