-- Statements (Limbo Language Reference, statements): which typed statement each is, where the checking has come to, and where it leads.
-- Parts are gone through as they are written, and each sees what those before it declare.
use Rattle.std.specs.Prelude.{◌≡◌, ℕ, suc, true, List, [], ◌∷◌, Option, None, Some}
use Rattle.limbo_tree.specs.Exprs as exprs
use Rattle.limbo_tree.specs.Stmts as tree
use Rattle.limbo_tree.specs.Stmts.{NoArms, MoreArms}
use Rattle.limbo_types.specs.Types.{Ty, Nothing}
use Rattle.limbo_typed.specs.declared.stmt.CasePattern.{CasePattern}
use Rattle.limbo_typed.specs.Typed.{Expr, AltHead, PickHead, HandlerHead, Stmt, Stmts, NoStmts, MoreStmts, Bodies, NoBodies, MoreBodies}
use Rattle.limbo_typed.specs.Typed.{Empty, Block, Eval, If, While, Do, For, Case, Alt, Pick, Break, Continue, Return, Exit, Spawn}
use Rattle.limbo_typed.specs.Typed.{RaiseAgain, Handle}
use Rattle.limbo_typed.specs.Sound.{type_of, is_call}
use Rattle.limbo_standing.specs.Standing.{Settles}
use Rattle.limbo_context.specs.Context.{Body}
use Rattle.limbo_local.specs.limbo_typing.Typing.{Types}
use Rattle.limbo_local.specs.Points.{Point, ValueAt, with_body, enter, leave}
use Rattle.limbo_local.specs.Declaring.{Declares}
use Rattle.limbo_stating.specs.Around.{Around, in_loop, in_branch, in_arm_of, Innermost, IsLabelled, IsContinued}
use Rattle.limbo_stating.specs.Around.{Evaluates, MayEvaluate, Tests, MayTest}
use Rattle.limbo_stating.specs.Cases.{Chooses, ArePatterns, AreApart}
use Rattle.limbo_stating.specs.Alts.{IsAltHead, HasOneStar}
use Rattle.limbo_stating.specs.Picks.{Picks, IsPickHead, PickOnce}
use Rattle.limbo_stating.specs.Handlers.{IsHandlerHead}
use Rattle.limbo_stating.specs.Raising.{Raises}

-- ---- heads of arms

-- Whose arms they are: of a `case` of values of a type, of an `alt`, of a `pick` with this name of an adt, of a handler, which may have a
-- name.
pub data Branch : Type 0 where
  OfCase : Ty → Branch
  OfAlt : Branch
  OfPick : (name : List ℕ) → (adt : ℕ) → Branch
  OfHandler : (name : Option (List ℕ)) → Branch

-- their heads
abbrev pub HeadOf : Branch → Type 0
HeadOf (OfCase t) = List CasePattern
HeadOf OfAlt = AltHead
HeadOf (OfPick n a) = PickHead
HeadOf (OfHandler n) = HandlerHead

abbrev pub IsHead : (o : Branch) → Point → tree.Head → HeadOf o → Point → Type 0
IsHead (OfCase t) p (tree.CaseHead ps) h q = ArePatterns t p ps h q
IsHead OfAlt p (tree.AltHead e) h q = IsAltHead p e h q
IsHead (OfPick n a) p (tree.PickHead ns) h q = IsPickHead n a p ns h q
IsHead (OfHandler n) p (tree.HandlerHead ps) h q = IsHandlerHead n p ps h q
IsHead _ p _ h q = ⊥

-- ---- statements

-- A spawned call has no answer.
pub record Spawns (p : Point) (e : exprs.Expr) (x : Expr) (q : Point) : Type 0 where
  pub behind : Body
  pub types : Types p.context p.body e x behind
  pub call : is_call x ≡ true
  pub no_answer : type_of x ≡ Nothing
  pub goes_on : q ≡ with_body behind p

-- A handler has a place of its own for what it catches.
abbrev pub with_catch : Point → Point
with_catch p = record p { catches = suc p.catches }

-- a statement alone
abbrev pub one : Stmt → Stmts
one s = MoreStmts s NoStmts

abbrev mutual
  pub States : Around → Point → tree.Stmt → Stmt → Point → Type 0
  States v p tree.Empty z q = (z ≡ Empty) × (q ≡ p)
  States v p (tree.Nested b) z q = StatesBlock v p b z q
  States v p (tree.Declare d) z q = Declares v.module_name d p z q
  States v p (tree.Eval e) z q = (x : Expr) × Evaluates p e x q × (z ≡ Eval x)
  States v p (tree.If c s) z q =
      (x : Expr) × (y : Stmt) × (r : Point) × Tests p c x r × States v r s y q × (z ≡ If x (one y) NoStmts)
  States v p (tree.IfElse c s t) z q =
      (x : Expr) × (y : Stmt) × (w : Stmt) × (r : Point) × (u : Point) × Tests p c x r × States v r s y u × States v u t w q
      × (z ≡ If x (one y) (one w))
  States v p (tree.While l c s) z q =
      (x : Option Expr) × (y : Stmt) × (r : Point) × MayTest p c x r × States (in_loop l v) r s y q × (z ≡ While x (one y))
  States v p (tree.Do l s c) z q =
      (x : Option Expr) × (y : Stmt) × (r : Point) × States (in_loop l v) p s y r × MayTest r c x q × (z ≡ Do (one y) x)
  States v p (tree.For l a c b s) z q =
      (first : Option Expr) × (x : Option Expr) × (next : Option Expr) × (y : Stmt) × (r : Point) × (u : Point) × (w : Point)
      × MayEvaluate p a first r × MayTest r c x u × MayEvaluate u b next w × States (in_loop l v) w s y q
      × (z ≡ For first x next (one y))
  States v p (tree.Case l e arms) z q =
      (x : Expr) × (heads : List (List CasePattern)) × (bodies : Bodies) × (r : Point) × Chooses p e x r
      × StatesArms (OfCase (type_of x)) (in_branch l v) r arms heads bodies q × AreApart heads × (z ≡ Case x heads bodies)
  States v p (tree.Alt l arms) z q =
      (heads : List AltHead) × (bodies : Bodies) × StatesArms OfAlt (in_branch l v) p arms heads bodies q × HasOneStar heads
      × (z ≡ Alt heads bodies)
  States v p (tree.Pick l n e arms) z q =
      (x : Expr) × (a : ℕ) × (heads : List PickHead) × (bodies : Bodies) × (r : Point) × Picks p e x a r
      × StatesArms (OfPick n a) (in_branch l v) r arms heads bodies q × PickOnce heads × (z ≡ Pick x heads bodies)
  States v p (tree.Break l) z q = (n : ℕ) × Innermost v.turns (IsLabelled l) n × (z ≡ Break n) × (q ≡ p)
  States v p (tree.Continue l) z q = (n : ℕ) × Innermost v.turns (IsContinued l) n × (z ≡ Continue n) × (q ≡ p)
  States v p (tree.Return None) z q = (v.answer ≡ Nothing) × (z ≡ Return None) × (q ≡ p)
  States v p (tree.Return (Some e)) z q = (x : Expr) × (y : Expr) × ValueAt p e x q × Settles v.answer x y × (z ≡ Return (Some y))
  States v p tree.Exit z q = (z ≡ Exit) × (q ≡ p)
  States v p (tree.Spawn e) z q = (x : Expr) × Spawns p e x q × (z ≡ Spawn x)
  States v p (tree.Raise None) z q = (n : ℕ) × (v.caught ≡ Some n) × (z ≡ RaiseAgain n) × (q ≡ p)
  States v p (tree.Raise (Some e)) z q = Raises p e z q

  -- statements in a row
  pub StatesAll : Around → Point → tree.Stmts → Stmts → Point → Type 0
  StatesAll v p tree.NoStmts zs q = (zs ≡ NoStmts) × (q ≡ p)
  StatesAll v p (tree.MoreStmts s ss) zs q =
      (y : Stmt) × (ys : Stmts) × (r : Point) × States v p s y r × StatesAll v r ss ys q × (zs ≡ MoreStmts y ys)

  -- A block is a scope. What handles its exceptions stands behind it.
  pub StatesBlock : Around → Point → tree.Block → Stmt → Point → Type 0
  StatesBlock v p (tree.Plain ss) z q =
      (zs : Stmts) × (r : Point) × StatesAll v (enter p) ss zs r × (z ≡ Block zs) × (q ≡ leave r)
  StatesBlock v p (tree.Handled ss n arms) z q =
      (zs : Stmts) × (heads : List HandlerHead) × (bodies : Bodies) × (r : Point) × StatesAll v (enter (with_catch p)) ss zs r
      × StatesArms (OfHandler n) (in_arm_of p.catches v) (leave r) arms heads bodies q × (z ≡ Handle zs p.catches heads bodies)

  -- An arm is a scope, its head in it.
  pub StatesArms : (o : Branch) → Around → Point → tree.Arms → List (HeadOf o) → Bodies → Point → Type 0
  StatesArms o v p NoArms hs bs q = (hs ≡ []) × (bs ≡ NoBodies) × (q ≡ p)
  StatesArms o v p (MoreArms h ss arms) hs bs q =
      (x : HeadOf o) × (xs : List (HeadOf o)) × (ys : Stmts) × (cs : Bodies) × (r : Point) × (u : Point)
      × IsHead o (enter p) h x r × StatesAll v r ss ys u × StatesArms o v (leave u) arms xs cs q
      × (hs ≡ x ∷ xs) × (bs ≡ MoreBodies ys cs)
