-- The ways on which control leaves statements (Limbo Language Reference, statements), as far as one asks whether a path of a function
-- runs to its end. Conditions and choices may come out either way.
use Rattle.std.specs.Prelude.{ℕ, zero, suc, ◌≡◌, ◌<◌, ◌⊎◌, List, [], length, Option, None, Some, slice_get}
use Rattle.limbo_types.specs.Types.{Ty}
use Rattle.limbo_layout.specs.Adts.{Def, Has}
use Rattle.limbo_typed.specs.declared.stmt.CasePattern.{CasePattern}
use Rattle.limbo_typed.specs.declared.stmt.CasePattern.TheVariants as case
use Rattle.limbo_typed.specs.Fitting.{IsRefOf}
use Rattle.limbo_typed.specs.Sound.{type_of}
use Rattle.limbo_typed.specs.Typed.{Expr, AltHead, PickHead, HandlerHead, Stmt, Stmts, NoStmts, MoreStmts, Bodies, MoreBodies}
use Rattle.limbo_typed.specs.Typed.{Empty, Block, Declare, Eval, If, While, Do, For, Case, Alt, Pick, Break, Continue, Spawn, Handle}

-- To what stands behind, or by a `break` or `continue` that goes to a loop or branch around, the innermost of which is 0.
pub data Way : Type 0 where
  Through : Way
  Breaks : ℕ → Way
  Continues : ℕ → Way

abbrev pub IsJump : Way → Type 0
IsJump Through = ⊥
IsJump (Breaks n) = Unit {0}
IsJump (Continues n) = Unit {0}

-- A way out of a part of a loop or branch, as a way out of the whole, if it is one: a `break` of it goes on behind it, and a jump to
-- one further out is a jump there too.
abbrev pub outward : Way → Option Way
outward Through = None
outward (Breaks zero) = Some Through
outward (Breaks (suc n)) = Some (Breaks n)
outward (Continues zero) = None
outward (Continues (suc n)) = Some (Continues n)

-- One of the arms of a `case` is `*`.
pub record TakesRest (heads : List (List CasePattern)) : Type 0 where
  pub head : List CasePattern
  pub there : Has heads head
  pub any : Has head case.Any

-- An arm of a `pick` takes a variant, by its number or by `*`.
pub record Takes (heads : List PickHead) (variant : ℕ) : Type 0 where
  pub head : PickHead
  pub there : Has heads head
  pub named : (head.variants ≡ []) ⊎ Has head.variants variant

-- The type is a `ref` of a pick adt, which has a variant of this number.
pub record HasVariant (defs : List Def) (t : Ty) (variant : ℕ) : Type 0 where
  pub adt : ℕ
  pub of : IsRefOf adt t
  pub def : Def
  pub there : slice_get defs adt ≡ Some def
  pub below : variant < length def.picks

-- How statements are left. `return`, `raise` and `exit` leave the function, and so by none of these ways. Of jumps each counts that
-- stands in a statement, whether it is reached or not.
mutual
  pub data Leaves (defs : List Def) : Stmt → Way → Type 0 where
    empty : Leaves defs Empty Through
    declared : (xs : List ℕ) (e : Option Expr) → Leaves defs (Declare xs e) Through
    evaluated : (e : Expr) → Leaves defs (Eval e) Through
    spawned : (e : Expr) → Leaves defs (Spawn e) Through
    block : (ss : Stmts) (w : Way) → LeaveAll defs ss w → Leaves defs (Block ss) w
    then_part : (c : Expr) (ss others : Stmts) (w : Way) → LeaveAll defs ss w → Leaves defs (If c ss others) w
    else_part : (c : Expr) (ss others : Stmts) (w : Way) → LeaveAll defs others w → Leaves defs (If c ss others) w
    -- a loop whose condition fails; without a condition it is left by its jumps alone
    while_ends : (c : Expr) (ss : Stmts) → Leaves defs (While (Some c) ss) Through
    while_part : (c : Option Expr) (ss : Stmts) (v w : Way) → LeaveAll defs ss v → outward v ≡ Some w → Leaves defs (While c ss) w
    for_ends : (first next : Option Expr) (c : Expr) (ss : Stmts) → Leaves defs (For first (Some c) next ss) Through
    for_part : (first c next : Option Expr) (ss : Stmts) (v w : Way)
        → LeaveAll defs ss v → outward v ≡ Some w → Leaves defs (For first c next ss) w
    -- the condition of this one is tested where its body was gone through, or was left by a `continue`
    do_ends : (ss : Stmts) (c : Expr) → LeaveAll defs ss Through → Leaves defs (Do ss (Some c)) Through
    do_continues : (ss : Stmts) (c : Expr) → LeaveAll defs ss (Continues 0) → Leaves defs (Do ss (Some c)) Through
    do_part : (ss : Stmts) (c : Option Expr) (v w : Way) → LeaveAll defs ss v → outward v ≡ Some w → Leaves defs (Do ss c) w
    -- where no arm fits, nothing happens
    case_misses : (e : Expr) (heads : List (List CasePattern)) (arms : Bodies)
        → (TakesRest heads → ⊥) → Leaves defs (Case e heads arms) Through
    case_ends : (e : Expr) (heads : List (List CasePattern)) (arms : Bodies)
        → LeaveArms defs arms Through → Leaves defs (Case e heads arms) Through
    case_part : (e : Expr) (heads : List (List CasePattern)) (arms : Bodies) (v w : Way)
        → LeaveArms defs arms v → outward v ≡ Some w → Leaves defs (Case e heads arms) w
    -- an `alt` waits for one of its arms
    alt_ends : (heads : List AltHead) (arms : Bodies) → LeaveArms defs arms Through → Leaves defs (Alt heads arms) Through
    alt_part : (heads : List AltHead) (arms : Bodies) (v w : Way)
        → LeaveArms defs arms v → outward v ≡ Some w → Leaves defs (Alt heads arms) w
    pick_misses : (e : Expr) (heads : List PickHead) (arms : Bodies) (variant : ℕ)
        → HasVariant defs (type_of e) variant → (Takes heads variant → ⊥) → Leaves defs (Pick e heads arms) Through
    pick_ends : (e : Expr) (heads : List PickHead) (arms : Bodies)
        → LeaveArms defs arms Through → Leaves defs (Pick e heads arms) Through
    pick_part : (e : Expr) (heads : List PickHead) (arms : Bodies) (v w : Way)
        → LeaveArms defs arms v → outward v ≡ Some w → Leaves defs (Pick e heads arms) w
    breaks : (n : ℕ) → Leaves defs (Break n) (Breaks n)
    continues : (n : ℕ) → Leaves defs (Continue n) (Continues n)
    handled : (ss : Stmts) (n : ℕ) (heads : List HandlerHead) (arms : Bodies) (w : Way)
        → LeaveAll defs ss w → Leaves defs (Handle ss n heads arms) w
    handler : (ss : Stmts) (n : ℕ) (heads : List HandlerHead) (arms : Bodies) (w : Way)
        → LeaveArms defs arms w → Leaves defs (Handle ss n heads arms) w

  -- Statements in a row: through one after the other, or by a jump of one of them.
  pub data LeaveAll (defs : List Def) : Stmts → Way → Type 0 where
    at_end : LeaveAll defs NoStmts Through
    one_by_one : (s : Stmt) (ss : Stmts) → Leaves defs s Through → LeaveAll defs ss Through → LeaveAll defs (MoreStmts s ss) Through
    jump_here : (s : Stmt) (ss : Stmts) (w : Way) → IsJump w → Leaves defs s w → LeaveAll defs (MoreStmts s ss) w
    jump_behind : (s : Stmt) (ss : Stmts) (w : Way) → IsJump w → LeaveAll defs ss w → LeaveAll defs (MoreStmts s ss) w

  -- One of the arms.
  pub data LeaveArms (defs : List Def) : Bodies → Way → Type 0 where
    this_arm : (ss : Stmts) (arms : Bodies) (w : Way) → LeaveAll defs ss w → LeaveArms defs (MoreBodies ss arms) w
    other_arm : (ss : Stmts) (arms : Bodies) (w : Way) → LeaveArms defs arms w → LeaveArms defs (MoreBodies ss arms) w

-- No path of a body runs to its end: what a function with an answer owes.
abbrev pub Answers : List Def → Stmts → Type 0
Answers defs body = LeaveAll defs body Through → ⊥
