use Rattle.std.proofs.Common.{refl, sym, subst, Option, None, Some, Box, Global}
use Rattle.limbo_tree.specs.declared.expr.Expr as code_tree
use Rattle.limbo_tree.specs.View as source
use Rattle.limbo_typed.specs.View.{view_expr, view_boxed}
use Rattle.limbo_typed.proofs.View.{view_boxed-None, view_boxed-Some}
use Rattle.limbo_context.specs.View.{view_context, view_body}
use Rattle.limbo_stating.specs.Around.{MayEvaluate, Evaluates}
use Rattle.limbo_stmt_values.specs.Leading.{point}
use Rattle.limbo_stmt_values.proofs.loops.may_evaluate.Goals as goal

pub returns-in-None-clause-evaluates : goal.returns-in-None-clause-evaluates
returns-in-None-clause-evaluates c = λ n.
    subst
    (λ (z : Option (Box code_tree.Expr Global)).
    MayEvaluate (point (view_context c.args.context.now) (view_body c.args.body.now) n) (source.view_boxed z) (view_boxed None)
    (point (view_context c.args.context.now) (view_body c.args.body.now) n)) (sym c.in-None.is) (view_boxed-None, refl)

pub returns-in-Ok-clause-evaluates : goal.returns-in-Ok-clause-evaluates
returns-in-Ok-clause-evaluates c = λ n.
    let p = point (view_context c.args.context.now) (view_body c.args.body.now) n in
    let q = point (view_context c.args.context.now) (view_body c.evaluate.new.body) n in
    let h =
    subst (λ (z : code_tree.Expr). Evaluates p (source.view_expr z) (view_expr c.in-Ok.x.value) q) c.deref.ensures
    (c.in-Ok.ensures.evaluates n) in
    subst (λ (z : Option (Box code_tree.Expr Global)). MayEvaluate p (source.view_boxed z) (view_boxed (Some c.in-Ok.x)) q)
    (sym c.in-Some.is) (view_expr c.in-Ok.x.value, h, view_boxed-Some c.in-Ok.x)
