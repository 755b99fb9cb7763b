use Rattle.std.proofs.Common.{map}
use Rattle.std.specs.Prelude.{option_map}
use Rattle.limbo_tree.specs.View as source
use Rattle.limbo_context.specs.View.{view_context, view_body}
use Rattle.limbo_members.proofs.Standing.{adt_fails, adt_again}
use Rattle.limbo_members.proofs.adts.declare_adt.Goals as goal

pub returns-in-Err-clause-refused : goal.returns-in-Err-clause-refused
returns-in-Err-clause-refused c =
    adt_again c.args.name.now.text (source.view_members c.args.members.now)
    (option_map (λ vs. map source.view_variant vs.items) c.args.pick.now) (view_context c.args.context.now) (view_body c.args.body.now)
    c.in-Err.fault.cause
    c.in-Err.ensures.refused

pub returns-in-Err-whole_adt-clause-refused : goal.returns-in-Err-whole_adt-clause-refused
returns-in-Err-whole_adt-clause-refused c =
    adt_fails c.args.name.now.text (source.view_members c.args.members.now)
    (option_map (λ vs. map source.view_variant vs.items) c.args.pick.now) (view_context c.args.context.now) (view_body c.args.body.now)
    c.in-Err-whole_adt.fault.cause
    c.in-Err-whole_adt.ensures.refused
