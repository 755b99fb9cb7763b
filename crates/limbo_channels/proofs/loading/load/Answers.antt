use Rattle.std.proofs.Common.{refl, ◌∙◌, rules}
use Rattle.limbo_types.proofs.View.{view_ty-Chars, view_ty-Module}
use Rattle.limbo_typed.specs.View.{view_expr}
use Rattle.limbo_typed.proofs.View.{view_node-Load}
use Rattle.limbo_channels.proofs.Channels.{load_given}
use Rattle.limbo_channels.proofs.loading.load.Goals as goal

pub returns-clause-typed : goal.returns-clause-typed
returns-clause-typed c =
    load_given c.args.interface (view_expr c.args.path.value) (view_expr c.settle.new.value) _ (search (rules, view_ty-Chars))
    (c.in_ok-boxed.ensures ∙ rw (view_ty-Module c.args.interface, view_node-Load c.args.interface _) refl)
