-- Statements that hold others, by the records that the steps answer.
use Rattle.std.proofs.Common.{◌≡◌, Option, List, ℕ, sym, subst}
use Rattle.limbo_tree.specs.Exprs.{Expr}
use Rattle.limbo_tree.specs.Stmts as tree
use Rattle.limbo_tree.specs.View as source
use Rattle.limbo_typed.specs.Typed as typed
use Rattle.limbo_causes.specs.Causes.{Cause}
use Rattle.limbo_stmt_values.specs.limbo_local.Points.{Point, enter, leave}
use Rattle.limbo_stmt_values.specs.limbo_stating.Reasons.{Reason, ByPart}
use Rattle.limbo_stmt_values.specs.limbo_stating.Around.{Around, in_arm_of}
use Rattle.limbo_stmt_values.specs.limbo_stating.Stating.{OfHandler, StatesAll, with_catch}
use Rattle.limbo_stmt_values.specs.limbo_stating.FailsToState as fails
use Rattle.limbo_stmt_values.specs.limbo_stating.FailsToState.{FailsToState, FailsAll, FailsBlock, FailsArms}
use Rattle.limbo_typed.specs.View as made
use Rattle.limbo_stmt_values.specs.limbo_stating.Stating.{Branch, HeadOf, IsHead}
use Rattle.limbo_stmt_values.specs.limbo_stating.FailsToState.{FailsHead}
use Rattle.limbo_stmts.specs.Stated as stated
use Rattle.limbo_stmts.specs.Stated.{StatesInside, StatesArm, FailsArm}
use Rattle.limbo_stmts.specs.Turns as turns
use Rattle.limbo_stmts.specs.Turns.{FailsForHead}

-- ---- loops

pub for_fails : (v : Around) (p : Point) (l : Option (List ℕ)) (a c b : Option Expr) (s : tree.Stmt) (k : Cause) → FailsForHead p a c b k
    → FailsToState v p (tree.For l a c b s) (ByPart k)
for_fails v p l a c b s k (turns.begins _ h) = fails.for_begins v p l a c b s k h
for_fails v p l a c b s k (turns.tested q x _ g h) = fails.for_tested v p q l a c b s x k g h
for_fails v p l a c b s k (turns.steps q r x y _ g w h) = fails.for_steps v p q r l a c b s x y k g w h

-- ---- blocks

module _ (v : Around) (p begun : Point) (ss : tree.Stmts) (n : Option (List ℕ)) (arms : tree.Arms) (e : begun ≡ with_catch p) where
  pub inside_fails : (k : Reason) → FailsAll v (enter begun) ss k → FailsBlock v p (tree.Handled ss n arms) k
  inside_fails k h = fails.in_handled v p ss n arms k (subst (λ (q : Point). FailsAll v (enter q) ss k) e h)

  pub handlers_fail : (zs : typed.Stmts) (behind : Point) (caught : ℕ) (k : Reason) → caught ≡ p.catches → StatesInside v begun ss zs behind
      → FailsArms (OfHandler n) (in_arm_of caught v) behind arms k → FailsBlock v p (tree.Handled ss n arms) k
  handlers_fail zs behind caught k c i h =
      fails.in_handler v p i.behind ss n arms zs k (subst (λ (q : Point). StatesAll v (enter q) ss zs i.behind) e i.states)
      (subst (λ (z : ℕ). FailsArms (OfHandler n) (in_arm_of z v) (leave i.behind) arms k) c
      (subst (λ (q : Point). FailsArms (OfHandler n) (in_arm_of caught v) q arms k) i.goes_on h))

-- ---- arms

module _ (o : Branch) (v : Around) (p begun : Point) (a b : source.Arm) (e : begun ≡ enter p) (is : a ≡ b) where
  pub head_fails : (k : Reason) → FailsHead o begun b.head k → FailsArm o v p a k
  head_fails k h =
      subst (λ (z : source.Arm). FailsArm o v p z k) (sym is) (stated.in_head k (subst (λ (q : Point). FailsHead o q b.head k) e h))

  pub body_fails : (q : Point) (x : HeadOf o) (k : Reason) → IsHead o begun b.head x q → FailsAll v q b.body k → FailsArm o v p a k
  body_fails q x k w h =
      subst (λ (z : source.Arm). FailsArm o v p z k) (sym is)
      (stated.in_body q x k (subst (λ (z : Point). IsHead o z b.head x q) e w) h)

  pub arm_states : (x y : made.Arm (HeadOf o)) (q behind r : Point) → x ≡ y → IsHead o begun b.head y.head q
      → StatesAll v q b.body y.body behind → r ≡ leave behind → StatesArm o v p a x r
  arm_states x y q behind r same w s g =
      subst (λ (z : source.Arm). StatesArm o v p z x r) (sym is)
      (subst (λ (z : made.Arm (HeadOf o)). StatesArm o v p b z r) (sym same)
      (record { begun = q; behind = behind; head = subst (λ (z : Point). IsHead o z b.head y.head q) e w; body = s; goes_on = g }))
