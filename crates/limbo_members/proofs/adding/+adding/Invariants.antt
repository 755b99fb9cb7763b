use Rattle.limbo_tree.specs.View.{view_members}
use Rattle.limbo_context.specs.View.{view_context, view_body}
use Rattle.limbo_members.specs.Adding.{view_given}
use Rattle.limbo_members.proofs.Added.{Comes, from}
use Rattle.limbo_members.proofs.adding.+adding.Given as goal

abbrev pub invariant-add_members-loop-member : goal.invariant-add_members-loop-member
invariant-add_members-loop-member l =
    Comes l.in_module l.adt (view_context l.initial.context) (view_body l.initial.body) (view_members l.members) (view_context l.context)
    (view_body l.body) (from l.member-index l.members) (view_given l.given)
