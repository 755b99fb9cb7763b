use Rattle.std.proofs.Common.{◌+◌, subst}
use Rattle.limbo_tree.specs.View as source
use Rattle.limbo_context.specs.View.{view_context, view_body}
use Rattle.limbo_members.proofs.Added.{from, next_from, all_from, none_from}
use Rattle.limbo_interfaces.proofs.Added.{Comes, comes_start, comes_more, comes_fail, comes_end}
use Rattle.limbo_interfaces.proofs.adding.add_members.Goals as goal

pub loop-member-init : goal.loop-member-init
loop-member-init c =
    subst (λ ms. Comes c.args.interface (view_context c.args.context.now) (view_body c.args.body.now) (source.view_members
    c.args.members.now) (view_context c.args.context.now) (view_body c.args.body.now) ms)
    (all_from c.args.members.now)
    (comes_start c.args.interface (view_context c.args.context.now) (view_body c.args.body.now) (source.view_members c.args.members.now)
    c.requires.begun)

pub add_member-requires : goal.add_member-requires
add_member-requires c = record { begun = c.loop-member.invariant.begun }

pub loop-member-preserved : goal.loop-member-preserved
loop-member-preserved c =
    comes_more c.args.interface (view_context c.args.context.now) (view_body c.args.body.now) (source.view_members c.args.members.now)
    (view_context c.loop-member.context) (view_body c.loop-member.body) (source.view_member c.member-item.result) (from
    (c.loop-member.member-index + 1)
    c.args.members.now) (view_context c.add_member.new.context) (view_body c.add_member.new.body)
    (subst (λ ms. Comes c.args.interface (view_context c.args.context.now) (view_body c.args.body.now) (source.view_members
    c.args.members.now)
    (view_context c.loop-member.context) (view_body c.loop-member.body) ms)
    (next_from c.args.members.now c.loop-member.member-index c.member-item.result c.loop-member-test.true c.member-item.is)
    c.loop-member.invariant) c.in-Ok.ensures.adds c.in-Ok.ensures.begun

pub returns-in-Err-clause-refused : goal.returns-in-Err-clause-refused
returns-in-Err-clause-refused c =
    comes_fail c.args.interface (view_context c.args.context.now) (view_body c.args.body.now) (source.view_members c.args.members.now)
    (view_context c.loop-member.context) (view_body c.loop-member.body) (source.view_member c.member-item.result) (from
    (c.loop-member.member-index + 1)
    c.args.members.now) c.in-Err.fault.cause
    (subst (λ ms. Comes c.args.interface (view_context c.args.context.now) (view_body c.args.body.now) (source.view_members
    c.args.members.now)
    (view_context c.loop-member.context) (view_body c.loop-member.body) ms)
    (next_from c.args.members.now c.loop-member.member-index c.member-item.result c.loop-member-test.true c.member-item.is)
    c.loop-member.invariant) c.in-Err.ensures.refused

pub returns-clause-adds : goal.returns-clause-adds
returns-clause-adds c =
    comes_end c.args.interface (view_context c.args.context.now) (view_body c.args.body.now) (source.view_members c.args.members.now)
    (view_context c.loop-member.context) (view_body c.loop-member.body)
    (subst (λ ms. Comes c.args.interface (view_context c.args.context.now) (view_body c.args.body.now) (source.view_members
    c.args.members.now)
    (view_context c.loop-member.context) (view_body c.loop-member.body) ms)
    (none_from c.args.members.now c.loop-member.member-index c.loop-member-test.false) c.loop-member.invariant)
