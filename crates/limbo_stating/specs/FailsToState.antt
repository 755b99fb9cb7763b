-- Why statements are none (Limbo Language Reference, statements): a part fails, or the parts don't fit.
use Rattle.std.specs.Prelude.{◌≡◌, ◌≢◌, ℕ, true, List, Option, None, Some}
use Rattle.limbo_tree.specs.Exprs.{Expr}
use Rattle.limbo_tree.specs.Decls.{Decl}
use Rattle.limbo_tree.specs.Stmts.{Stmt, Stmts, Block, Arms, Head, MoreArms, CaseHead, AltHead, PickHead, HandlerHead}
use Rattle.limbo_tree.specs.Stmts.{MoreStmts, Plain, Handled, Nested, Declare, Eval, If, IfElse, While, Do, For, Case, Alt, Pick}
use Rattle.limbo_tree.specs.Stmts.{Break, Continue, Return, Spawn, Raise}
use Rattle.limbo_types.specs.Types.{Nothing}
use Rattle.limbo_typed.specs.Typed as typed
use Rattle.limbo_typed.specs.declared.stmt.CasePattern.{CasePattern}
use Rattle.limbo_typed.specs.Sound.{type_of, is_call}
use Rattle.limbo_refusals.specs.Refusals.{Refusal, Clash, NoneIs}
use Rattle.limbo_arguments.specs.Failing.{FailsAt}
use Rattle.limbo_causes.specs.Causes.{Cause, Refused, nothing}
use Rattle.limbo_context.specs.Context.{Body}
use Rattle.limbo_local.specs.limbo_typing.Typing.{Types}
use Rattle.limbo_local.specs.limbo_typing.Failing.{Fails, FailsValue}
use Rattle.limbo_local.specs.Points.{Point, ValueAt, enter, leave}
use Rattle.limbo_local.specs.Failing.{FailsToDeclare}
use Rattle.limbo_stating.specs.Reasons.{Reason, ByPart, CaseOverlap, BadAlt, BadPick, NoReturn, BadLabel}
use Rattle.limbo_stating.specs.Around.{Around, in_loop, in_branch, in_arm_of, Innermost, IsLabelled, IsContinued}
use Rattle.limbo_stating.specs.Around.{FailsToEvaluate, FailsToTest}
use Rattle.limbo_stating.specs.Around.{MayEvaluate, MayFailToEvaluate, Tests, MayTest, MayFailToTest}
use Rattle.limbo_stating.specs.Cases.{Chooses, FailsToChoose, FailsPatterns, AreApart}
use Rattle.limbo_stating.specs.Alts.{FailsAltHead, HasOneStar}
use Rattle.limbo_stating.specs.Picks.{Picks, FailsToPick, HasNoVariant, PickOnce}
use Rattle.limbo_stating.specs.Handlers.{FailsHandlerHead}
use Rattle.limbo_stating.specs.Raising.{FailsToRaise}
use Rattle.limbo_stating.specs.Stating.{Branch, OfCase, OfAlt, OfPick, OfHandler, HeadOf, IsHead, States, StatesAll, StatesArms, with_catch}

-- A head is none.
abbrev pub FailsHead : Branch → Point → Head → Reason → Type 0
FailsHead (OfCase t) p (CaseHead ps) k = FailsPatterns t p ps k
FailsHead OfAlt p (AltHead e) k = FailsAltHead p e k
FailsHead (OfPick n a) p (PickHead ns) k = HasNoVariant p.context a ns × (k ≡ BadPick)
FailsHead (OfHandler n) p (HandlerHead ps) k = (c : Cause) × FailsHandlerHead p ps n c × (k ≡ ByPart c)
FailsHead _ p _ k = ⊥

-- It is no typed expression, or no call without an answer.
pub data FailsToSpawn (p : Point) (e : Expr) : Cause → Type 0 where
  untyped : (k : Cause) → Fails p.context p.body e k → FailsToSpawn p e k
  no_call : (x : typed.Expr) (b : Body) → Types p.context p.body e x b → ((is_call x ≡ true) × (type_of x ≡ Nothing) → ⊥)
      → FailsToSpawn p e (Refused (Clash (type_of x) Nothing))

mutual
  pub data FailsToState : Around → Point → Stmt → Reason → Type 0 where
    in_nested : (v : Around) (p : Point) (b : Block) (k : Reason) → FailsBlock v p b k → FailsToState v p (Nested b) k
    in_declaration : (v : Around) (p : Point) (d : Decl) (k : Cause) → FailsToDeclare d p k → FailsToState v p (Declare d) (ByPart k)
    evaluated : (v : Around) (p : Point) (e : Expr) (k : Cause) → FailsToEvaluate p e k → FailsToState v p (Eval e) (ByPart k)
    if_tested : (v : Around) (p : Point) (c : Expr) (s : Stmt) (k : Cause) → FailsToTest p c k → FailsToState v p (If c s) (ByPart k)
    if_holds : (v : Around) (p q : Point) (c : Expr) (s : Stmt) (x : typed.Expr) (k : Reason) → Tests p c x q → FailsToState v q s k
        → FailsToState v p (If c s) k
    either_tested : (v : Around) (p : Point) (c : Expr) (s t : Stmt) (k : Cause) → FailsToTest p c k
        → FailsToState v p (IfElse c s t) (ByPart k)
    either_holds : (v : Around) (p q : Point) (c : Expr) (s t : Stmt) (x : typed.Expr) (k : Reason) → Tests p c x q
        → FailsToState v q s k → FailsToState v p (IfElse c s t) k
    either_fails : (v : Around) (p q r : Point) (c : Expr) (s t : Stmt) (x : typed.Expr) (y : typed.Stmt) (k : Reason) → Tests p c x q
        → States v q s y r → FailsToState v r t k → FailsToState v p (IfElse c s t) k
    while_tested : (v : Around) (p : Point) (l : Option (List ℕ)) (c : Option Expr) (s : Stmt) (k : Cause) → MayFailToTest p c k
        → FailsToState v p (While l c s) (ByPart k)
    while_repeats : (v : Around) (p q : Point) (l : Option (List ℕ)) (c : Option Expr) (s : Stmt) (x : Option typed.Expr) (k : Reason)
        → MayTest p c x q → FailsToState (in_loop l v) q s k → FailsToState v p (While l c s) k
    do_repeats : (v : Around) (p : Point) (l : Option (List ℕ)) (s : Stmt) (c : Option Expr) (k : Reason)
        → FailsToState (in_loop l v) p s k → FailsToState v p (Do l s c) k
    do_tested : (v : Around) (p q : Point) (l : Option (List ℕ)) (s : Stmt) (c : Option Expr) (y : typed.Stmt) (k : Cause)
        → States (in_loop l v) p s y q → MayFailToTest q c k → FailsToState v p (Do l s c) (ByPart k)
    for_begins : (v : Around) (p : Point) (l : Option (List ℕ)) (a c b : Option Expr) (s : Stmt) (k : Cause) → MayFailToEvaluate p a k
        → FailsToState v p (For l a c b s) (ByPart k)
    for_tested : (v : Around) (p q : Point) (l : Option (List ℕ)) (a c b : Option Expr) (s : Stmt) (x : Option typed.Expr) (k : Cause)
        → MayEvaluate p a x q → MayFailToTest q c k → FailsToState v p (For l a c b s) (ByPart k)
    for_steps : (v : Around) (p q r : Point) (l : Option (List ℕ)) (a c b : Option Expr) (s : Stmt) (x y : Option typed.Expr) (k : Cause)
        → MayEvaluate p a x q → MayTest q c y r → MayFailToEvaluate r b k → FailsToState v p (For l a c b s) (ByPart k)
    for_repeats : (v : Around) (p q r u : Point) (l : Option (List ℕ)) (a c b : Option Expr) (s : Stmt) (x y z : Option typed.Expr)
        (k : Reason) → MayEvaluate p a x q → MayTest q c y r → MayEvaluate r b z u → FailsToState (in_loop l v) u s k
        → FailsToState v p (For l a c b s) k
    case_value : (v : Around) (p : Point) (l : Option (List ℕ)) (e : Expr) (arms : Arms) (k : Cause) → FailsToChoose p e k
        → FailsToState v p (Case l e arms) (ByPart k)
    case_arm : (v : Around) (p q : Point) (l : Option (List ℕ)) (e : Expr) (arms : Arms) (x : typed.Expr) (k : Reason)
        → Chooses p e x q → FailsArms (OfCase (type_of x)) (in_branch l v) q arms k → FailsToState v p (Case l e arms) k
    case_overlaps : (v : Around) (p q r : Point) (l : Option (List ℕ)) (e : Expr) (arms : Arms) (x : typed.Expr)
        (heads : List (List CasePattern)) (bodies : typed.Bodies) → Chooses p e x q
        → StatesArms (OfCase (type_of x)) (in_branch l v) q arms heads bodies r → (AreApart heads → ⊥)
        → FailsToState v p (Case l e arms) CaseOverlap
    alt_arm : (v : Around) (p : Point) (l : Option (List ℕ)) (arms : Arms) (k : Reason) → FailsArms OfAlt (in_branch l v) p arms k
        → FailsToState v p (Alt l arms) k
    alt_stars : (v : Around) (p q : Point) (l : Option (List ℕ)) (arms : Arms) (heads : List typed.AltHead) (bodies : typed.Bodies)
        → StatesArms OfAlt (in_branch l v) p arms heads bodies q → (HasOneStar heads → ⊥) → FailsToState v p (Alt l arms) BadAlt
    pick_value : (v : Around) (p : Point) (l : Option (List ℕ)) (n : List ℕ) (e : Expr) (arms : Arms) (k : Reason) → FailsToPick p e k
        → FailsToState v p (Pick l n e arms) k
    pick_arm : (v : Around) (p q : Point) (l : Option (List ℕ)) (n : List ℕ) (e : Expr) (arms : Arms) (x : typed.Expr) (a : ℕ) (k : Reason)
        → Picks p e x a q → FailsArms (OfPick n a) (in_branch l v) q arms k → FailsToState v p (Pick l n e arms) k
    pick_repeats : (v : Around) (p q r : Point) (l : Option (List ℕ)) (n : List ℕ) (e : Expr) (arms : Arms) (x : typed.Expr) (a : ℕ)
        (heads : List typed.PickHead) (bodies : typed.Bodies) → Picks p e x a q
        → StatesArms (OfPick n a) (in_branch l v) q arms heads bodies r → (PickOnce heads → ⊥)
        → FailsToState v p (Pick l n e arms) BadPick
    breaks_nothing : (v : Around) (p : Point) (l : Option (List ℕ)) → NoneIs (Innermost v.turns (IsLabelled l))
        → FailsToState v p (Break l) BadLabel
    continues_nothing : (v : Around) (p : Point) (l : Option (List ℕ)) → NoneIs (Innermost v.turns (IsContinued l))
        → FailsToState v p (Continue l) BadLabel
    returns_nothing : (v : Around) (p : Point) → v.answer ≢ Nothing → FailsToState v p (Return None) NoReturn
    returned : (v : Around) (p : Point) (e : Expr) (k : Cause) → FailsValue p.context p.body e k
        → FailsToState v p (Return (Some e)) (ByPart k)
    returned_unfit : (v : Around) (p q : Point) (e : Expr) (x : typed.Expr) (r : Refusal) → ValueAt p e x q → FailsAt v.answer x r
        → FailsToState v p (Return (Some e)) (ByPart (Refused r))
    spawned : (v : Around) (p : Point) (e : Expr) (k : Cause) → FailsToSpawn p e k → FailsToState v p (Spawn e) (ByPart k)
    raises_nothing : (v : Around) (p : Point) → v.caught ≡ None → FailsToState v p (Raise None) (ByPart nothing)
    raised : (v : Around) (p : Point) (e : Expr) (k : Cause) → FailsToRaise p e k → FailsToState v p (Raise (Some e)) (ByPart k)

  pub data FailsAll : Around → Point → Stmts → Reason → Type 0 where
    here : (v : Around) (p : Point) (s : Stmt) (ss : Stmts) (k : Reason) → FailsToState v p s k → FailsAll v p (MoreStmts s ss) k
    later : (v : Around) (p q : Point) (s : Stmt) (ss : Stmts) (y : typed.Stmt) (k : Reason) → States v p s y q → FailsAll v q ss k
        → FailsAll v p (MoreStmts s ss) k

  pub data FailsBlock : Around → Point → Block → Reason → Type 0 where
    in_plain : (v : Around) (p : Point) (ss : Stmts) (k : Reason) → FailsAll v (enter p) ss k → FailsBlock v p (Plain ss) k
    in_handled : (v : Around) (p : Point) (ss : Stmts) (n : Option (List ℕ)) (arms : Arms) (k : Reason)
        → FailsAll v (enter (with_catch p)) ss k → FailsBlock v p (Handled ss n arms) k
    in_handler : (v : Around) (p q : Point) (ss : Stmts) (n : Option (List ℕ)) (arms : Arms) (zs : typed.Stmts) (k : Reason)
        → StatesAll v (enter (with_catch p)) ss zs q → FailsArms (OfHandler n) (in_arm_of p.catches v) (leave q) arms k
        → FailsBlock v p (Handled ss n arms) k

  pub data FailsArms : Branch → Around → Point → Arms → Reason → Type 0 where
    in_head : (o : Branch) (v : Around) (p : Point) (h : Head) (ss : Stmts) (arms : Arms) (k : Reason) → FailsHead o (enter p) h k
        → FailsArms o v p (MoreArms h ss arms) k
    in_body : (o : Branch) (v : Around) (p q : Point) (h : Head) (ss : Stmts) (arms : Arms) (x : HeadOf o) (k : Reason)
        → IsHead o (enter p) h x q → FailsAll v q ss k → FailsArms o v p (MoreArms h ss arms) k
    behind : (o : Branch) (v : Around) (p q r : Point) (h : Head) (ss : Stmts) (arms : Arms) (x : HeadOf o) (zs : typed.Stmts) (k : Reason)
        → IsHead o (enter p) h x q → StatesAll v q ss zs r → FailsArms o v (leave r) arms k → FailsArms o v p (MoreArms h ss arms) k
