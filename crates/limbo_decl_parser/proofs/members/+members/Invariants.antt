use Rattle.std.proofs.Common.{◌+◌, ◌*◌, length}
use Rattle.limbo_tree.specs.View.{view_member}
use Rattle.limbo_reading.specs.Reading.{kinds}
use Rattle.limbo_reading.proofs.Loops.{Going}
use Rattle.limbo_decl_parser.specs.Decls.{member_at, members_end, members_at}
use Rattle.limbo_decl_parser.proofs.members.+members.Given as goal

-- an adt's inside takes one from the budget
abbrev pub decreases-adt_at : goal.decreases-adt_at
decreases-adt_at l = l.budget * 8

abbrev pub decreases-adt_above : goal.decreases-adt_above
decreases-adt_above l = l.inner * 8 + 5

abbrev pub decreases-members_at : goal.decreases-members_at
decreases-members_at l = l.budget * 8 + 4

abbrev pub decreases-member_at : goal.decreases-member_at
decreases-member_at l = l.budget * 8 + 3

abbrev pub decreases-member_behind : goal.decreases-member_behind
decreases-member_behind l = l.budget * 8 + 2

abbrev pub decreases-adt_member : goal.decreases-adt_member
decreases-adt_member l = l.budget * 8 + 1

-- the list so far, and what is left
abbrev pub invariant-members_at-members : goal.invariant-members_at-members
invariant-members_at-members l = Going view_member (member_at l.budget) members_end (members_at l.budget (kinds l.tokens)) l.members.items (kinds l.rest)

abbrev pub decreases-members_at-members : goal.decreases-members_at-members
decreases-members_at-members l = length (kinds l.rest)
