use Rattle.limbo_tree.specs.View.{view_members}
use Rattle.limbo_context.specs.View.{view_context, view_body}
use Rattle.limbo_members.proofs.Added.{from}
use Rattle.limbo_interfaces.proofs.Added.{Comes}
use Rattle.limbo_interfaces.proofs.adding.add_members.Given as goal

abbrev pub invariant-loop-member : goal.invariant-loop-member
invariant-loop-member l =
    Comes l.interface (view_context l.initial.context) (view_body l.initial.body) (view_members l.members) (view_context l.context)
    (view_body l.body) (from l.member-index l.members)
