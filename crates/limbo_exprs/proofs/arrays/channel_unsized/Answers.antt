use Rattle.limbo_tree.specs.View as source
use Rattle.limbo_types.specs.View.{view_ty}
use Rattle.limbo_typed.specs.View.{view_expr}
use Rattle.limbo_context.specs.View.{view_context, view_body}
use Rattle.limbo_typing.specs.Typing as typing
use Rattle.limbo_exprs.proofs.Rules.{carried_fails}
use Rattle.limbo_exprs.proofs.arrays.channel_unsized.Goals as goal

pub returns-in_ok-channel-in-Ok-clause-typed : goal.returns-in_ok-channel-in-Ok-clause-typed
returns-in_ok-channel-in-Ok-clause-typed c =
    typing.of_channel (view_body c.args.body.now) (source.view_type c.args.element.now) (view_ty c.in-Ok.item.value)
    (view_expr c.in_ok-channel-in-Ok.field-0.value) c.in-Ok.ensures.means c.in_ok-channel-in-Ok.ensures.typed

pub returns-in-Err-clause-refused : goal.returns-in-Err-clause-refused
returns-in-Err-clause-refused c =
    carried_fails (view_context c.args.context.now) (view_body c.args.body.now) c.in-Err.fault.cause (source.view_type c.args.element.now)
    c.in-Err.ensures.refused
