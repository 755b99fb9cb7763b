use Rattle.std.proofs.Common.{◌+◌, ◌*◌, max}
use Rattle.limbo_tree.proofs.stmt.Stmt.TheLaws.{the_size}
use Rattle.limbo_tree.proofs.stmt.Block.TheLaws.{the_size as block_size}
use Rattle.limbo_tree.proofs.stmt.CaseArm.TheLaws.{the_size as case_size}
use Rattle.limbo_tree.proofs.stmt.AltArm.TheLaws.{the_size as alt_size}
use Rattle.limbo_tree.proofs.stmt.PickArm.TheLaws.{the_size as pick_size}
use Rattle.limbo_tree.proofs.stmt.HandlerArm.TheLaws.{the_size as handler_size}
use Rattle.limbo_tree.specs.View as source
use Rattle.limbo_types.specs.View.{view_ty}
use Rattle.limbo_typed.specs.View.{view_case_arm, view_alt_arm, view_pick_arm, view_handler_arm}
use Rattle.limbo_stmt_values.specs.limbo_stating.Stating.{OfCase, OfAlt, OfPick, OfHandler}
use Rattle.limbo_heads.specs.Around.{view_around}
use Rattle.limbo_stmts.specs.View.{view_point}
use Rattle.limbo_stmts.proofs.Rows.{StatedSoFar, ArmedSoFar}
use Rattle.limbo_stmts.proofs.+statements.Given as goal
use denote.Param.Weighed.{most}

-- ---- measures: first how deep the deepest part is, and then who calls whom

abbrev pub decreases-statements::state : goal.decreases-statements::state
decreases-statements::state l = the_size l.s.now * 16

abbrev pub decreases-statements::state_all : goal.decreases-statements::state_all
decreases-statements::state_all l = most the_size l.ss.now * 16 + 1

abbrev pub decreases-blocks::inside : goal.decreases-blocks::inside
decreases-blocks::inside l = most the_size l.ss.now * 16 + 2

abbrev pub decreases-blocks::plain : goal.decreases-blocks::plain
decreases-blocks::plain l = most the_size l.ss.now * 16 + 3

abbrev pub decreases-blocks::handlers : goal.decreases-blocks::handlers
decreases-blocks::handlers l = most handler_size l.arms.now * 16 + 4

abbrev pub decreases-blocks::handled : goal.decreases-blocks::handled
decreases-blocks::handled l = max (most the_size l.ss.now) (most handler_size l.arms.now) * 16 + 5

abbrev pub decreases-blocks::block : goal.decreases-blocks::block
decreases-blocks::block l = block_size l.b.now * 16

abbrev pub decreases-choices::only_if : goal.decreases-choices::only_if
decreases-choices::only_if l = the_size l.then.now * 16 + 1

abbrev pub decreases-choices::if_else : goal.decreases-choices::if_else
decreases-choices::if_else l = max (the_size l.then.now) (the_size l.other.now) * 16 + 1

abbrev pub decreases-loops::turn : goal.decreases-loops::turn
decreases-loops::turn l = the_size l.s.now * 16 + 1

abbrev pub decreases-loops::while_loop : goal.decreases-loops::while_loop
decreases-loops::while_loop l = the_size l.body.now * 16 + 2

abbrev pub decreases-loops::do_loop : goal.decreases-loops::do_loop
decreases-loops::do_loop l = the_size l.body.now * 16 + 2

abbrev pub decreases-loops::for_loop : goal.decreases-loops::for_loop
decreases-loops::for_loop l = the_size l.body.now * 16 + 2

abbrev pub decreases-arms::case_arm : goal.decreases-arms::case_arm
decreases-arms::case_arm l = case_size l.arm.now * 16 + 2

abbrev pub decreases-arms::case_arms : goal.decreases-arms::case_arms
decreases-arms::case_arms l = most case_size l.arms.now * 16 + 3

abbrev pub decreases-arms::alt_arm : goal.decreases-arms::alt_arm
decreases-arms::alt_arm l = alt_size l.arm.now * 16 + 2

abbrev pub decreases-arms::alt_arms : goal.decreases-arms::alt_arms
decreases-arms::alt_arms l = most alt_size l.arms.now * 16 + 3

abbrev pub decreases-arms::pick_arm : goal.decreases-arms::pick_arm
decreases-arms::pick_arm l = pick_size l.arm.now * 16 + 2

abbrev pub decreases-arms::pick_arms : goal.decreases-arms::pick_arms
decreases-arms::pick_arms l = most pick_size l.arms.now * 16 + 3

abbrev pub decreases-arms::handler_arm : goal.decreases-arms::handler_arm
decreases-arms::handler_arm l = handler_size l.arm.now * 16 + 2

abbrev pub decreases-arms::handler_arms : goal.decreases-arms::handler_arms
decreases-arms::handler_arms l = most handler_size l.arms.now * 16 + 3

abbrev pub decreases-branches::case_of : goal.decreases-branches::case_of
decreases-branches::case_of l = most case_size l.arms.now * 16 + 4

abbrev pub decreases-branches::alt_of : goal.decreases-branches::alt_of
decreases-branches::alt_of l = most alt_size l.arms.now * 16 + 4

abbrev pub decreases-branches::pick_of : goal.decreases-branches::pick_of
decreases-branches::pick_of l = most pick_size l.arms.now * 16 + 4

-- ---- what holds in the loops

abbrev pub invariant-statements::state_all-loop-s : goal.invariant-statements::state_all-loop-s
invariant-statements::state_all-loop-s l =
    StatedSoFar (view_around l.around) (view_point l.fn.point) (view_point l.point) l.ss l.s-index l.zs.items

abbrev pub invariant-arms::case_arms-loop-arm : goal.invariant-arms::case_arms-loop-arm
invariant-arms::case_arms-loop-arm l =
    ArmedSoFar (OfCase (view_ty l.t)) source.view_case_arm view_case_arm (view_around l.around) (view_point l.fn.point) (view_point
    l.point) l.arms l.arm-index
    l.xs.items

abbrev pub invariant-arms::alt_arms-loop-arm : goal.invariant-arms::alt_arms-loop-arm
invariant-arms::alt_arms-loop-arm l =
    ArmedSoFar OfAlt source.view_alt_arm view_alt_arm (view_around l.around) (view_point l.fn.point) (view_point l.point) l.arms l.arm-index
    l.xs.items

abbrev pub invariant-arms::pick_arms-loop-arm : goal.invariant-arms::pick_arms-loop-arm
invariant-arms::pick_arms-loop-arm l =
    ArmedSoFar (OfPick l.name l.adt) source.view_pick_arm view_pick_arm (view_around l.around) (view_point l.fn.point) (view_point
    l.point) l.arms l.arm-index
    l.xs.items

abbrev pub invariant-arms::handler_arms-loop-arm : goal.invariant-arms::handler_arms-loop-arm
invariant-arms::handler_arms-loop-arm l =
    ArmedSoFar (OfHandler (source.name_of l.name)) source.view_handler_arm view_handler_arm (view_around l.around) (view_point
    l.fn.point) (view_point l.point) l.arms l.arm-index
    l.xs.items
