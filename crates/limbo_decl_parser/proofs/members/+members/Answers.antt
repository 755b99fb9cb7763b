use Rattle.std.proofs.Common.{◌≡◌, true, false, refl, arith}
use Rattle.std.proofs.lemmas.Result.{err_from_is_err_and}
use Rattle.limbo_tree.specs.View.{view_member}
use Rattle.limbo_reading.specs.Reading.{kinds}
use Rattle.limbo_reading.proofs.Loops.{until_start, going_more, going_end, going_fails}
use Rattle.limbo_decl_parser.specs.Decls.{member_at, members_of_at, members_end, ends_members}
use Rattle.limbo_decl_parser.proofs.Places.{member_shorter}
use Rattle.limbo_decl_parser.proofs.members.+members.Goals as goal

pub members_at-returns-in_err-member : goal.members_at-returns-in_err-member
members_at-returns-in_err-member t c =
    let p = err_from_is_err_and c.from_residual.result c.from_residual.ensures.1 in
    let on : ends_members (kinds c.members.rest.now) ≡ false = cc in
    rw (p.1, p.2) (going_fails c.in_err-member.field-0.0 view_member (member_at c.args.budget) members_end _ c.members.members.items (kinds c.members.rest.now) (rw on refl) c.in_err-member.ensures c.members.invariant)

pub members_at-members-smaller : goal.members_at-members-smaller
members_at-members-smaller t c = omega (arith, member_shorter c.args.budget (kinds c.members.rest.now) (view_member c.in_ok-member.member.value) (kinds c.in_ok-member.after.now) c.in_ok-member.ensures)

pub members_at-members-preserved : goal.members_at-members-preserved
members_at-members-preserved t c =
    let on : ends_members (kinds c.members.rest.now) ≡ false = cc in
    rw c.in_ok-push_member.ensures.items (going_more view_member (member_at c.args.budget) members_end _ c.members.members.items (kinds c.members.rest.now) (kinds c.in_ok-member.after.now) c.in_ok-member.member.value (rw on refl) c.in_ok-member.ensures (member_shorter c.args.budget (kinds c.members.rest.now) (view_member c.in_ok-member.member.value) (kinds c.in_ok-member.after.now) c.in_ok-member.ensures) c.members.invariant)

pub members_at-returns : goal.members_at-returns
members_at-returns t c =
    let off : ends_members (kinds c.members.rest.now) ≡ true = cc in
    going_end view_member (member_at c.args.budget) members_end _ c.members.members.items (kinds c.members.rest.now) (rw off refl) c.members.invariant

pub members_at-members-init : goal.members_at-members-init
unfolding members_of_at
members_at-members-init t c = rw c.new-members.ensures.items (until_start view_member (member_at c.args.budget) members_end (kinds c.args.tokens.now))
