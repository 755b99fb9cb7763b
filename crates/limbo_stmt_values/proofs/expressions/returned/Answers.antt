use Rattle.limbo_tree.specs.View as source
use Rattle.limbo_types.specs.View.{view_ty}
use Rattle.limbo_typed.specs.View.{view_expr}
use Rattle.limbo_context.specs.View.{view_context, view_body}
use Rattle.limbo_stmt_values.proofs.Told.{if_err}
use Rattle.limbo_stmt_values.proofs.Rules.{answer_unvalued, answer_unfit}
use Rattle.limbo_stmt_values.proofs.expressions.returned.Goals as goal

pub returns-in-Ok-clause-refused : goal.returns-in-Ok-clause-refused
returns-in-Ok-clause-refused c =
    if_err c.answer.result _ _
    (λ f h.
    answer_unfit (view_context c.args.context.now) (view_body c.args.body.now) (source.view_expr c.args.e.now) (view_expr c.in-Ok.x.value)
    (view_body c.value.new.body) (view_ty c.args.asked.now) f.cause c.in-Ok.ensures.typed h)
    c.answer.ensures.refused

pub returns-in-Err-clause-refused : goal.returns-in-Err-clause-refused
returns-in-Err-clause-refused c =
    answer_unvalued (view_context c.args.context.now) (view_body c.args.body.now) (source.view_expr c.args.e.now) (view_ty
    c.args.asked.now) c.in-Err.fault.cause
    c.in-Err.ensures.refused
