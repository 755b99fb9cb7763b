use Rattle.std.proofs.Common.{◌≡◌, None, refl, ◌∙◌, rules}
use Rattle.limbo_types.specs.View.{view_ty}
use Rattle.limbo_typed.specs.View.{view_expr, view_node}
use Rattle.limbo_typed.proofs.View.{view_expr-out, view_node-Receive}
use Rattle.limbo_channels.specs.Choosing.{received}
use Rattle.limbo_channels.proofs.Channels.{receive_given, none_received}
use Rattle.limbo_channels.proofs.Told.{refuses_with}
use Rattle.limbo_channels.proofs.channel.receive.Goals as goal

pub returns-in_default-clause-refused : goal.returns-in_default-clause-refused
returns-in_default-clause-refused c =
    let channel = c.args.channel.value in
    let none : None ≡ received (view_ty channel.ty) = search rules in
    refuses_with _ _ _ (none_received (view_ty channel.ty) (view_node channel.node) (view_expr channel) (view_expr-out channel) none)
    (search rules)

pub returns-clause-typed : goal.returns-clause-typed
returns-clause-typed c =
    let channel = c.args.channel.value in
    receive_given (view_ty channel.ty) (view_ty c.in-Some.ty) (view_node channel.node) (view_expr channel) _
    (view_expr-out channel) (search rules)
    (c.in_ok-boxed.ensures ∙ rw (view_node-Receive c.args.channel) refl)
