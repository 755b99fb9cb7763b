-- How control runs is one of the ways.
use Rattle.std.proofs.Common.{ℕ, List, Some, subst}
use Rattle.limbo_layout.specs.Adts.{Def}
use Rattle.limbo_typed.specs.Typed.{Expr, Stmt, Stmts, MoreStmts, Bodies, Do}
use Rattle.limbo_paths.specs.Paths as way
use Rattle.limbo_paths.specs.Paths.{Way, Through, Breaks, Continues, Leaves, LeaveAll, LeaveArms}
use Rattle.limbo_paths.specs.Runs as run
use Rattle.limbo_paths.specs.Runs.{Runs, RunAll, RunArm, EndsTurn}

turned : (defs : List Def) (ss : Stmts) (c : Expr) (v : Way) → EndsTurn v → LeaveAll defs ss v → Leaves defs (Do ss (Some c)) Through
turned defs ss c Through e l = way.do_ends ss c l
turned defs ss c (Breaks n) e l = absurd e
turned defs ss c (Continues n) e l = way.do_continues ss c (subst (λ (z : ℕ). LeaveAll defs ss (Continues z)) e l)

joined : (defs : List Def) (s : Stmt) (ss : Stmts) (w : Way) → Leaves defs s Through → LeaveAll defs ss w → LeaveAll defs (MoreStmts s ss) w
joined defs s ss Through l m = way.one_by_one s ss l m
joined defs s ss (Breaks n) l m = way.jump_behind s ss (Breaks n) tt m
joined defs s ss (Continues n) l m = way.jump_behind s ss (Continues n) tt m

mutual
  pub leaves : (defs : List Def) (s : Stmt) (w : Way) → Runs defs s w → Leaves defs s w
  leaves defs _ _ run.empty = way.empty
  leaves defs _ _ (run.declared xs e) = way.declared xs e
  leaves defs _ _ (run.evaluated e) = way.evaluated e
  leaves defs _ _ (run.spawned e) = way.spawned e
  leaves defs _ _ (run.block ss w r) = way.block ss w (leave_all defs ss w r)
  leaves defs _ _ (run.then_part c ss others w r) = way.then_part c ss others w (leave_all defs ss w r)
  leaves defs _ _ (run.else_part c ss others w r) = way.else_part c ss others w (leave_all defs others w r)
  leaves defs _ _ (run.while_ends c ss) = way.while_ends c ss
  leaves defs _ _ (run.while_turn c ss v w r e q) = leaves defs _ w q
  leaves defs _ _ (run.while_part c ss v w r e) = way.while_part c ss v w (leave_all defs ss v r) e
  leaves defs _ _ (run.for_ends first next c ss) = way.for_ends first next c ss
  leaves defs _ _ (run.for_turn first c next ss v w r e q) = leaves defs _ w q
  leaves defs _ _ (run.for_part first c next ss v w r e) = way.for_part first c next ss v w (leave_all defs ss v r) e
  leaves defs _ _ (run.do_ends ss c v r e) = turned defs ss c v e (leave_all defs ss v r)
  leaves defs _ _ (run.do_turn ss c v w r e q) = leaves defs _ w q
  leaves defs _ _ (run.do_part ss c v w r e) = way.do_part ss c v w (leave_all defs ss v r) e
  leaves defs _ _ (run.case_misses e heads arms never) = way.case_misses e heads arms never
  leaves defs _ _ (run.case_ends e heads arms r) = way.case_ends e heads arms (leave_arms defs arms Through r)
  leaves defs _ _ (run.case_part e heads arms v w r f) = way.case_part e heads arms v w (leave_arms defs arms v r) f
  leaves defs _ _ (run.alt_ends heads arms r) = way.alt_ends heads arms (leave_arms defs arms Through r)
  leaves defs _ _ (run.alt_part heads arms v w r f) = way.alt_part heads arms v w (leave_arms defs arms v r) f
  leaves defs _ _ (run.pick_misses e heads arms v h never) = way.pick_misses e heads arms v h never
  leaves defs _ _ (run.pick_ends e heads arms r) = way.pick_ends e heads arms (leave_arms defs arms Through r)
  leaves defs _ _ (run.pick_part e heads arms v w r f) = way.pick_part e heads arms v w (leave_arms defs arms v r) f
  leaves defs _ _ (run.breaks n) = way.breaks n
  leaves defs _ _ (run.continues n) = way.continues n
  leaves defs _ _ (run.handled ss n heads arms w r) = way.handled ss n heads arms w (leave_all defs ss w r)
  leaves defs _ _ (run.handler ss n heads arms w r) = way.handler ss n heads arms w (leave_arms defs arms w r)

  pub leave_all : (defs : List Def) (ss : Stmts) (w : Way) → RunAll defs ss w → LeaveAll defs ss w
  leave_all defs _ _ run.at_end = way.at_end
  leave_all defs _ _ (run.next s ss w r q) = joined defs s ss w (leaves defs s Through r) (leave_all defs ss w q)
  leave_all defs _ _ (run.jump s ss w j r) = way.jump_here s ss w j (leaves defs s w r)

  pub leave_arms : (defs : List Def) (arms : Bodies) (w : Way) → RunArm defs arms w → LeaveArms defs arms w
  leave_arms defs _ _ (run.this_arm ss arms w r) = way.this_arm ss arms w (leave_all defs ss w r)
  leave_arms defs _ _ (run.other_arm ss arms w r) = way.other_arm ss arms w (leave_arms defs arms w r)
