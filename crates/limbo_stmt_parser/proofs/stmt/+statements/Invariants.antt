use Rattle.std.proofs.Common.{◌+◌, ◌*◌, length}
use Rattle.limbo_tree.specs.View.{view_case_arm, view_alt_arm, view_pick_arm, view_handler_arm}
use Rattle.limbo_reading.specs.Reading.{kinds}
use Rattle.limbo_stmt_parts.specs.declared.start.Region.TheVariants as region
use Rattle.limbo_stmt_parser.proofs.Going.{Statements, Arms}
use Rattle.limbo_stmt_parser.proofs.stmt.+statements.Given as goal

-- A statement counts above what it holds: there the budget is one less.
abbrev pub decreases-stmt_at : goal.decreases-stmt_at
decreases-stmt_at l = l.budget * 8

abbrev pub decreases-if_at : goal.decreases-if_at
decreases-if_at l = l.inner * 8 + 7

abbrev pub decreases-branch_at : goal.decreases-branch_at
decreases-branch_at l = l.inner * 8 + 7

abbrev pub decreases-while_at : goal.decreases-while_at
decreases-while_at l = l.inner * 8 + 6

abbrev pub decreases-do_at : goal.decreases-do_at
decreases-do_at l = l.inner * 8 + 6

abbrev pub decreases-for_at : goal.decreases-for_at
decreases-for_at l = l.inner * 8 + 6

abbrev pub decreases-case_at : goal.decreases-case_at
decreases-case_at l = l.inner * 8 + 6

abbrev pub decreases-alt_at : goal.decreases-alt_at
decreases-alt_at l = l.inner * 8 + 6

abbrev pub decreases-pick_at : goal.decreases-pick_at
decreases-pick_at l = l.inner * 8 + 6

abbrev pub decreases-block_above : goal.decreases-block_above
decreases-block_above l = l.budget * 8 + 5

abbrev pub decreases-stmts_at : goal.decreases-stmts_at
decreases-stmts_at l = l.budget * 8 + 1

abbrev pub decreases-case_arms_at : goal.decreases-case_arms_at
decreases-case_arms_at l = l.budget * 8 + 3

abbrev pub decreases-alt_arms_at : goal.decreases-alt_arms_at
decreases-alt_arms_at l = l.budget * 8 + 3

abbrev pub decreases-pick_arms_at : goal.decreases-pick_arms_at
decreases-pick_arms_at l = l.budget * 8 + 3

abbrev pub decreases-handler_arms_at : goal.decreases-handler_arms_at
decreases-handler_arms_at l = l.budget * 8 + 3

-- the statements so far, and what is left
abbrev pub invariant-stmts_at-statements : goal.invariant-stmts_at-statements
invariant-stmts_at-statements l = Statements l.budget l.region (kinds l.tokens) l.statements.items (kinds l.rest)

abbrev pub decreases-stmts_at-statements : goal.decreases-stmts_at-statements
decreases-stmts_at-statements l = length (kinds l.rest)

abbrev pub invariant-case_arms_at-arms : goal.invariant-case_arms_at-arms
invariant-case_arms_at-arms l = Arms view_case_arm l.budget region.Case (kinds l.tokens) l.arms.items (kinds l.rest)

abbrev pub decreases-case_arms_at-arms : goal.decreases-case_arms_at-arms
decreases-case_arms_at-arms l = length (kinds l.rest)

abbrev pub invariant-alt_arms_at-arms : goal.invariant-alt_arms_at-arms
invariant-alt_arms_at-arms l = Arms view_alt_arm l.budget region.Alt (kinds l.tokens) l.arms.items (kinds l.rest)

abbrev pub decreases-alt_arms_at-arms : goal.decreases-alt_arms_at-arms
decreases-alt_arms_at-arms l = length (kinds l.rest)

abbrev pub invariant-pick_arms_at-arms : goal.invariant-pick_arms_at-arms
invariant-pick_arms_at-arms l = Arms view_pick_arm l.budget region.Pick (kinds l.tokens) l.arms.items (kinds l.rest)

abbrev pub decreases-pick_arms_at-arms : goal.decreases-pick_arms_at-arms
decreases-pick_arms_at-arms l = length (kinds l.rest)

abbrev pub invariant-handler_arms_at-arms : goal.invariant-handler_arms_at-arms
invariant-handler_arms_at-arms l = Arms view_handler_arm l.budget region.Handler (kinds l.tokens) l.arms.items (kinds l.rest)

abbrev pub decreases-handler_arms_at-arms : goal.decreases-handler_arms_at-arms
decreases-handler_arms_at-arms l = length (kinds l.rest)
