-- How control runs through statements (Limbo Language Reference, statements), whatever conditions, values and choices come out as.
-- An execution that ends in a `return`, `raise` or `exit`, or never, is none of these.
use Rattle.std.specs.Prelude.{ℕ, ◌≡◌, List, Option, Some}
use Rattle.limbo_layout.specs.Adts.{Def}
use Rattle.limbo_typed.specs.declared.stmt.CasePattern.{CasePattern}
use Rattle.limbo_typed.specs.Sound.{type_of}
use Rattle.limbo_typed.specs.Typed.{Expr, AltHead, PickHead, HandlerHead, Stmt, Stmts, NoStmts, MoreStmts, Bodies, MoreBodies}
use Rattle.limbo_typed.specs.Typed.{Empty, Block, Declare, Eval, If, While, Do, For, Case, Alt, Pick, Break, Continue, Spawn, Handle}
use Rattle.limbo_paths.specs.Paths.{Way, Through, Breaks, Continues, IsJump, outward, TakesRest, Takes, HasVariant}

-- What ends a turn of a loop, so that the next may begin.
abbrev pub EndsTurn : Way → Type 0
EndsTurn Through = Unit {0}
EndsTurn (Breaks n) = ⊥
EndsTurn (Continues n) = n ≡ 0

mutual
  pub data Runs (defs : List Def) : Stmt → Way → Type 0 where
    empty : Runs defs Empty Through
    declared : (xs : List ℕ) (e : Option Expr) → Runs defs (Declare xs e) Through
    evaluated : (e : Expr) → Runs defs (Eval e) Through
    spawned : (e : Expr) → Runs defs (Spawn e) Through
    block : (ss : Stmts) (w : Way) → RunAll defs ss w → Runs defs (Block ss) w
    then_part : (c : Expr) (ss others : Stmts) (w : Way) → RunAll defs ss w → Runs defs (If c ss others) w
    else_part : (c : Expr) (ss others : Stmts) (w : Way) → RunAll defs others w → Runs defs (If c ss others) w
    -- a loop ends where its condition fails, or goes round once more, or a jump of this turn leaves it
    while_ends : (c : Expr) (ss : Stmts) → Runs defs (While (Some c) ss) Through
    while_turn : (c : Option Expr) (ss : Stmts) (v w : Way)
        → RunAll defs ss v → EndsTurn v → Runs defs (While c ss) w → Runs defs (While c ss) w
    while_part : (c : Option Expr) (ss : Stmts) (v w : Way) → RunAll defs ss v → outward v ≡ Some w → Runs defs (While c ss) w
    for_ends : (first next : Option Expr) (c : Expr) (ss : Stmts) → Runs defs (For first (Some c) next ss) Through
    for_turn : (first c next : Option Expr) (ss : Stmts) (v w : Way)
        → RunAll defs ss v → EndsTurn v → Runs defs (For first c next ss) w → Runs defs (For first c next ss) w
    for_part : (first c next : Option Expr) (ss : Stmts) (v w : Way)
        → RunAll defs ss v → outward v ≡ Some w → Runs defs (For first c next ss) w
    do_ends : (ss : Stmts) (c : Expr) (v : Way) → RunAll defs ss v → EndsTurn v → Runs defs (Do ss (Some c)) Through
    do_turn : (ss : Stmts) (c : Option Expr) (v w : Way)
        → RunAll defs ss v → EndsTurn v → Runs defs (Do ss c) w → Runs defs (Do ss c) w
    do_part : (ss : Stmts) (c : Option Expr) (v w : Way) → RunAll defs ss v → outward v ≡ Some w → Runs defs (Do ss c) w
    case_misses : (e : Expr) (heads : List (List CasePattern)) (arms : Bodies)
        → (TakesRest heads → ⊥) → Runs defs (Case e heads arms) Through
    case_ends : (e : Expr) (heads : List (List CasePattern)) (arms : Bodies)
        → RunArm defs arms Through → Runs defs (Case e heads arms) Through
    case_part : (e : Expr) (heads : List (List CasePattern)) (arms : Bodies) (v w : Way)
        → RunArm defs arms v → outward v ≡ Some w → Runs defs (Case e heads arms) w
    alt_ends : (heads : List AltHead) (arms : Bodies) → RunArm defs arms Through → Runs defs (Alt heads arms) Through
    alt_part : (heads : List AltHead) (arms : Bodies) (v w : Way)
        → RunArm defs arms v → outward v ≡ Some w → Runs defs (Alt heads arms) w
    pick_misses : (e : Expr) (heads : List PickHead) (arms : Bodies) (variant : ℕ)
        → HasVariant defs (type_of e) variant → (Takes heads variant → ⊥) → Runs defs (Pick e heads arms) Through
    pick_ends : (e : Expr) (heads : List PickHead) (arms : Bodies)
        → RunArm defs arms Through → Runs defs (Pick e heads arms) Through
    pick_part : (e : Expr) (heads : List PickHead) (arms : Bodies) (v w : Way)
        → RunArm defs arms v → outward v ≡ Some w → Runs defs (Pick e heads arms) w
    breaks : (n : ℕ) → Runs defs (Break n) (Breaks n)
    continues : (n : ℕ) → Runs defs (Continue n) (Continues n)
    handled : (ss : Stmts) (n : ℕ) (heads : List HandlerHead) (arms : Bodies) (w : Way)
        → RunAll defs ss w → Runs defs (Handle ss n heads arms) w
    handler : (ss : Stmts) (n : ℕ) (heads : List HandlerHead) (arms : Bodies) (w : Way)
        → RunArm defs arms w → Runs defs (Handle ss n heads arms) w

  -- One statement after the other, up to a jump.
  pub data RunAll (defs : List Def) : Stmts → Way → Type 0 where
    at_end : RunAll defs NoStmts Through
    next : (s : Stmt) (ss : Stmts) (w : Way) → Runs defs s Through → RunAll defs ss w → RunAll defs (MoreStmts s ss) w
    jump : (s : Stmt) (ss : Stmts) (w : Way) → IsJump w → Runs defs s w → RunAll defs (MoreStmts s ss) w

  -- One of the arms.
  pub data RunArm (defs : List Def) : Bodies → Way → Type 0 where
    this_arm : (ss : Stmts) (arms : Bodies) (w : Way) → RunAll defs ss w → RunArm defs (MoreBodies ss arms) w
    other_arm : (ss : Stmts) (arms : Bodies) (w : Way) → RunArm defs arms w → RunArm defs (MoreBodies ss arms) w
