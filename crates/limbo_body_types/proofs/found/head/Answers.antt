use Rattle.std.proofs.Common.{sym, ap, option_map}
use Rattle.limbo_tree.specs.View.{view_name, view_qual}
use Rattle.limbo_context.specs.View.{view_context, view_body}
use Rattle.limbo_body_types.proofs.Names.{member_head}
use Rattle.limbo_body_types.proofs.found.head.Goals as goal

pub returns-in-Some-member : goal.returns-in-Some-member
returns-in-Some-member c =
    member_head (view_context c.args.context.now) (view_body c.args.body.now) (view_qual c.args.name.now) c.in-Some.meaning c.in-Some-member.member.text
    c.member_of.result (sym c.in-Some.ensures) (ap (option_map view_name) c.in-Some-member.is) c.member_of.ensures
