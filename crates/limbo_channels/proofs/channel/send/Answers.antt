use Rattle.std.proofs.Common.{refl, ◌∙◌, rules}
use Rattle.limbo_types.specs.View.{view_ty}
use Rattle.limbo_typed.specs.View.{view_expr, view_node}
use Rattle.limbo_typed.proofs.View.{view_expr-out, view_node-Send}
use Rattle.limbo_channels.proofs.Channels.{send_given, none_sent, none_settled}
use Rattle.limbo_channels.proofs.Told.{refuses_with}
use Rattle.limbo_channels.proofs.channel.send.Goals as goal

pub returns-in_default-clause-refused : goal.returns-in_default-clause-refused
returns-in_default-clause-refused c =
    let channel = c.args.channel.value in
    refuses_with _ _ _
    (none_sent (view_ty channel.ty) (view_node channel.node) (view_expr channel)
    (view_expr c.args.value.value)
    (view_expr-out channel) (search rules))
    (search rules)

pub returns-then-not-branch-clause-refused : goal.returns-then-not-branch-clause-refused
returns-then-not-branch-clause-refused c =
    let channel = c.args.channel.value in
    refuses_with _ _ _
    (none_settled (view_ty channel.ty) (view_ty c.in_ok-item.item.value) (view_node channel.node) (view_expr channel)
    (view_expr c.args.value.value)
    (view_expr-out channel) (search rules) (search rules))
    (search rules)

pub returns-clause-typed : goal.returns-clause-typed
returns-clause-typed c =
    let channel = c.args.channel.value in
    send_given (view_ty channel.ty) (view_ty c.in_ok-item.item.value) (view_node channel.node) (view_expr channel)
    (view_expr c.args.value.value)
    (view_expr c.settle.new.value) _ (view_expr-out channel) (search rules) (search rules)
    (c.in_ok-boxed.ensures ∙ rw (view_node-Send c.args.channel _, c.into_inner-ty.ensures) refl)
