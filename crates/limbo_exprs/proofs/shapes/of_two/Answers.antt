use Rattle.limbo_typed.specs.View.{view_expr}
use Rattle.limbo_context.specs.View.{view_context}
use Rattle.limbo_exprs.proofs.Rules.{index_refused, give_refused}
use Rattle.limbo_exprs.proofs.shapes.of_two.Goals as goal

pub returns-in-Index-clause-refused : goal.returns-in-Index-clause-refused
returns-in-Index-clause-refused c =
    index_refused c.index.result (view_context c.args.context.now) c.args.form c.in-Index.is c.args.x.value c.args.y.value
    c.index.ensures.refused

pub returns-in-Give-clause-refused : goal.returns-in-Give-clause-refused
returns-in-Give-clause-refused c =
    give_refused c.give.result (view_context c.args.context.now) c.args.form c.in-Give.op c.in-Give.is c.requires.values
    (view_expr c.args.x.value) (view_expr c.args.y.value) c.give.ensures.refused
