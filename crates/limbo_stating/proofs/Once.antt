-- A statement is one typed statement at most, and leads to one point.
use Rattle.std.proofs.Common.{◌≡◌, refl, sym, ap, ◌∙◌, subst, ℕ, ◌∷◌, List, [], Option, None, Some}
use Rattle.std.proofs.lemmas.Option.{same_Some}
use Rattle.limbo_tree.specs.Exprs as exprs
use Rattle.limbo_tree.specs.Stmts as tree
use Rattle.limbo_typed.specs.declared.stmt.CasePattern.{CasePattern}
use Rattle.limbo_typed.specs.Typed.{Expr, AltHead, PickHead, HandlerHead, Stmt, Stmts, MoreStmts, NoStmts, Bodies, MoreBodies, Function}
use Rattle.limbo_typed.specs.Typed.{Block, Eval, If, While, Do, For, Case, Alt, Pick, Break, Continue, Return, Spawn, RaiseAgain, Handle}
use Rattle.limbo_typed.specs.Sound.{type_of}
use Rattle.limbo_standing.specs.Standing.{Settles}
use Rattle.limbo_scope.specs.Scopes.{Scope}
use Rattle.limbo_context.specs.Context.{Context, Callee}
use Rattle.limbo_local.specs.Points.{Point, enter, leave}
use Rattle.limbo_local.proofs.Once.{same_two, value_once}
use Rattle.limbo_stating.specs.Around.{Around, in_loop, in_branch, in_arm_of, IsLabelled, IsContinued, MayTest, MayEvaluate}
use Rattle.limbo_stating.specs.Stating.{Branch, OfCase, OfAlt, OfPick, OfHandler, HeadOf, one, with_catch}
use Rattle.limbo_stating.specs.Stating.{States, StatesAll, StatesBlock, StatesArms}
use Rattle.limbo_stating.specs.Functions.{Definition, begins, around, function, IsFunction, AreFunctions}
use Rattle.limbo_stating.proofs.Lower.{OneBelow}
use Rattle.limbo_stating.proofs.Parts.{same_three, one_innermost, one_evaluated, may_evaluate_one, one_test, may_test_one, one_chosen}
use Rattle.limbo_stating.proofs.Parts.{one_picked, one_spawned, one_head, one_raised}

-- ---- behind equal points

pub at : (v : Around) (s : tree.Stmt) (z : Stmt) (q p r : Point) → p ≡ r → States v r s z q → States v p s z q
at v s z q p r e h = subst (λ (x : Point). States v x s z q) (sym e) h

pub all_at : (v : Around) (ss : tree.Stmts) (zs : Stmts) (q p r : Point) → p ≡ r → StatesAll v r ss zs q → StatesAll v p ss zs q
all_at v ss zs q p r e h = subst (λ (x : Point). StatesAll v x ss zs q) (sym e) h

pub arms_at : (o : Branch) (v : Around) (arms : tree.Arms) (hs : List (HeadOf o)) (bs : Bodies) (q p r : Point) → p ≡ r
    → StatesArms o v r arms hs bs q → StatesArms o v p arms hs bs q
arms_at o v arms hs bs q p r e h = subst (λ (x : Point). StatesArms o v x arms hs bs q) (sym e) h

pub left_at : (o : Branch) (v : Around) (arms : tree.Arms) (hs : List (HeadOf o)) (bs : Bodies) (q p r : Point) → p ≡ r
    → StatesArms o v (leave r) arms hs bs q → StatesArms o v (leave p) arms hs bs q
left_at o v arms hs bs q p r e h = subst (λ (x : Point). StatesArms o v (leave x) arms hs bs q) (sym e) h

pub case_at : (v : Around) (arms : tree.Arms) (hs : List (List CasePattern)) (bs : Bodies) (q p r : Point) (x y : Expr) → p ≡ r → x ≡ y
    → StatesArms (OfCase (type_of y)) v r arms hs bs q → StatesArms (OfCase (type_of x)) v p arms hs bs q
case_at v arms hs bs q p r x y e f h =
    arms_at (OfCase (type_of x)) v arms hs bs q p r e
    (subst (λ (z : Expr). StatesArms (OfCase (type_of z)) v r arms hs bs q) (sym f) h)

pub pick_at : (n : List ℕ) (v : Around) (arms : tree.Arms) (hs : List PickHead) (bs : Bodies) (q p r : Point) (a i : ℕ) → p ≡ r → a ≡ i
    → StatesArms (OfPick n i) v r arms hs bs q → StatesArms (OfPick n a) v p arms hs bs q
pick_at n v arms hs bs q p r a i e f h =
    arms_at (OfPick n a) v arms hs bs q p r e (subst (λ (z : ℕ). StatesArms (OfPick n z) v r arms hs bs q) (sym f) h)

pub test_at : (c : Option exprs.Expr) (x : Option Expr) (q p r : Point) → p ≡ r → MayTest r c x q → MayTest p c x q
test_at c x q p r e h = subst (λ (z : Point). MayTest z c x q) (sym e) h

pub evaluate_at : (c : Option exprs.Expr) (x : Option Expr) (q p r : Point) → p ≡ r → MayEvaluate r c x q → MayEvaluate p c x q
evaluate_at c x q p r e h = subst (λ (z : Point). MayEvaluate z c x q) (sym e) h

module _ (b : OneBelow) where
  mutual
    pub one_stated : (v : Around) (p : Point) (s : tree.Stmt) (y z : Stmt) (q r : Point) → States v p s y q → States v p s z r
        → (y ≡ z) × (q ≡ r)
    one_stated v p tree.Empty y z q r h k = (h.0 ∙ sym k.0, h.1 ∙ sym k.1)
    one_stated v p (tree.Nested d) y z q r h k = one_block v p d y z q r h k
    one_stated v p (tree.Declare d) y z q r h k = b.declared v.module_name d p q r y z h k
    one_stated v p (tree.Eval e) y z q r h k =
        let a = one_evaluated b p e h.0 k.0 q r h.1 k.1 in (h.2 ∙ ap Eval a.0 ∙ sym k.2, a.1)
    one_stated v p (tree.If c s) y z q r h k =
        let a = one_test b p c h.0 k.0 h.2 k.2 h.3 k.3 in
        let l = one_stated v h.2 s h.1 k.1 q r h.4 (at v s k.1 r h.2 k.2 a.1 k.4) in
        (h.5 ∙ same_two (λ (x : Expr) (w : Stmt). If x (one w) NoStmts) h.0 k.0 h.1 k.1 a.0 l.0 ∙ sym k.5, l.1)
    one_stated v p (tree.IfElse c s t) y z q r h k =
        let a = one_test b p c h.0 k.0 h.3 k.3 h.5 k.5 in
        let l = one_stated v h.3 s h.1 k.1 h.4 k.4 h.6 (at v s k.1 k.4 h.3 k.3 a.1 k.6) in
        let m = one_stated v h.4 t h.2 k.2 q r h.7 (at v t k.2 r h.4 k.4 l.1 k.7) in (
          h.8
              ∙ same_three (λ (x : Expr) (w : Stmt) (u : Stmt). If x (one w) (one u)) h.0 k.0 h.1 k.1 h.2 k.2 a.0 l.0 m.0
              ∙ sym k.8,
          m.1,
        )
    one_stated v p (tree.While l c s) y z q r h k =
        let a = may_test_one b p c h.0 k.0 h.2 k.2 h.3 k.3 in
        let m = one_stated (in_loop l v) h.2 s h.1 k.1 q r h.4 (at (in_loop l v) s k.1 r h.2 k.2 a.1 k.4) in
        (h.5 ∙ same_two (λ (x : Option Expr) (w : Stmt). While x (one w)) h.0 k.0 h.1 k.1 a.0 m.0 ∙ sym k.5, m.1)
    one_stated v p (tree.Do l s c) y z q r h k =
        let m = one_stated (in_loop l v) p s h.1 k.1 h.2 k.2 h.3 k.3 in
        let a = may_test_one b h.2 c h.0 k.0 q r h.4 (test_at c k.0 r h.2 k.2 m.1 k.4) in
        (h.5 ∙ same_two (λ (x : Option Expr) (w : Stmt). Do (one w) x) h.0 k.0 h.1 k.1 a.0 m.0 ∙ sym k.5, a.1)
    one_stated v p (tree.For l a c n s) y z q r h k =
        let i = may_evaluate_one b p a h.0 k.0 h.4 k.4 h.7 k.7 in
        let t = may_test_one b h.4 c h.1 k.1 h.5 k.5 h.8 (test_at c k.1 k.5 h.4 k.4 i.1 k.8) in
        let j = may_evaluate_one b h.5 n h.2 k.2 h.6 k.6 h.9 (evaluate_at n k.2 k.6 h.5 k.5 t.1 k.9) in
        let m = one_stated (in_loop l v) h.6 s h.3 k.3 q r h.10 (at (in_loop l v) s k.3 r h.6 k.6 j.1 k.10) in (
          h.11
              ∙ same_three (λ (x : Option Expr) (w : Option Expr) (u : Option Expr). For x w u (one h.3)) h.0 k.0 h.1 k.1 h.2 k.2 i.0 t.0
              j.0
              ∙ ap (λ w. For k.0 k.1 k.2 (one w)) m.0
              ∙ sym k.11,
          m.1,
        )
    one_stated v p (tree.Case l e arms) y z q r h k =
        let a = one_chosen b p e h.0 k.0 h.3 k.3 h.4 k.4 in
        let m =
        one_arms (OfCase (type_of h.0)) (in_branch l v) h.3 arms h.1 k.1 h.2 k.2 q r h.5
        (case_at (in_branch l v) arms k.1 k.2 r h.3 k.3 h.0 k.0 a.1 a.0 k.5) in (
          h.7
              ∙ same_three (λ (x : Expr) (hs : List (List CasePattern)) (bs : Bodies). Case x hs bs) h.0 k.0 h.1 k.1 h.2 k.2 a.0 m.0 m.1
              ∙ sym k.7,
          m.2,
        )
    one_stated v p (tree.Alt l arms) y z q r h k =
        let m = one_arms OfAlt (in_branch l v) p arms h.0 k.0 h.1 k.1 q r h.2 k.2 in
        (h.4 ∙ same_two (λ (hs : List AltHead) (bs : Bodies). Alt hs bs) h.0 k.0 h.1 k.1 m.0 m.1 ∙ sym k.4, m.2)
    one_stated v p (tree.Pick l n e arms) y z q r h k =
        let a = one_picked b p e h.0 k.0 h.1 k.1 h.4 k.4 h.5 k.5 in
        let m =
        one_arms (OfPick n h.1) (in_branch l v) h.4 arms h.2 k.2 h.3 k.3 q r h.6
        (pick_at n (in_branch l v) arms k.2 k.3 r h.4 k.4 h.1 k.1 a.2 a.1 k.6) in (
          h.8
              ∙ same_three (λ (x : Expr) (hs : List PickHead) (bs : Bodies). Pick x hs bs) h.0 k.0 h.2 k.2 h.3 k.3 a.0 m.0 m.1
              ∙ sym k.8,
          m.2,
        )
    one_stated v p (tree.Break l) y z q r h k =
        (h.2 ∙ ap Break (one_innermost v.turns (IsLabelled l) h.0 k.0 h.1 k.1) ∙ sym k.2, h.3 ∙ sym k.3)
    one_stated v p (tree.Continue l) y z q r h k =
        (h.2 ∙ ap Continue (one_innermost v.turns (IsContinued l) h.0 k.0 h.1 k.1) ∙ sym k.2, h.3 ∙ sym k.3)
    one_stated v p (tree.Return None) y z q r h k = (h.1 ∙ sym k.1, h.2 ∙ sym k.2)
    one_stated v p (tree.Return (Some e)) y z q r h k =
        let a = value_once b.value p e h.0 k.0 q r h.2 k.2 in
        let s = b.settled v.answer k.0 h.1 k.1 (subst (λ (x : Expr). Settles v.answer x h.1) a.0 h.3) k.3 in
        (h.4 ∙ ap (λ x. Return (Some x)) s ∙ sym k.4, a.1)
    one_stated v p tree.Exit y z q r h k = (h.0 ∙ sym k.0, h.1 ∙ sym k.1)
    one_stated v p (tree.Spawn e) y z q r h k =
        let a = one_spawned b p e h.0 k.0 q r h.1 k.1 in (h.2 ∙ ap Spawn a.0 ∙ sym k.2, a.1)
    one_stated v p (tree.Raise None) y z q r h k =
        (h.2 ∙ ap RaiseAgain (same_Some h.0 k.0 (sym h.1 ∙ k.1)) ∙ sym k.2, h.3 ∙ sym k.3)
    one_stated v p (tree.Raise (Some e)) y z q r h k = one_raised b p e y z q r h k

    pub one_stated_all : (v : Around) (p : Point) (ss : tree.Stmts) (ys zs : Stmts) (q r : Point) → StatesAll v p ss ys q
        → StatesAll v p ss zs r → (ys ≡ zs) × (q ≡ r)
    one_stated_all v p tree.NoStmts ys zs q r h k = (h.0 ∙ sym k.0, h.1 ∙ sym k.1)
    one_stated_all v p (tree.MoreStmts s ss) ys zs q r h k =
        let a = one_stated v p s h.0 k.0 h.2 k.2 h.3 k.3 in
        let l = one_stated_all v h.2 ss h.1 k.1 q r h.4 (all_at v ss k.1 r h.2 k.2 a.1 k.4) in
        (h.5 ∙ same_two MoreStmts h.0 k.0 h.1 k.1 a.0 l.0 ∙ sym k.5, l.1)

    pub one_block : (v : Around) (p : Point) (d : tree.Block) (y z : Stmt) (q r : Point) → StatesBlock v p d y q → StatesBlock v p d z r
        → (y ≡ z) × (q ≡ r)
    one_block v p (tree.Plain ss) y z q r h k =
        let a = one_stated_all v (enter p) ss h.0 k.0 h.1 k.1 h.2 k.2 in (h.3 ∙ ap Block a.0 ∙ sym k.3, h.4 ∙ ap leave a.1 ∙ sym k.4)
    one_block v p (tree.Handled ss n arms) y z q r h k =
        let a = one_stated_all v (enter (with_catch p)) ss h.0 k.0 h.3 k.3 h.4 k.4 in
        let m =
        one_arms (OfHandler n) (in_arm_of p.catches v) (leave h.3) arms h.1 k.1 h.2 k.2 q r h.5
        (left_at (OfHandler n) (in_arm_of p.catches v) arms k.1 k.2 r h.3 k.3 a.1 k.5) in (
          h.6
              ∙ same_three (λ (zs : Stmts) (hs : List HandlerHead) (bs : Bodies). Handle zs p.catches hs bs) h.0 k.0 h.1 k.1 h.2 k.2 a.0 m.0
              m.1
              ∙ sym k.6,
          m.2,
        )

    pub one_arms : (o : Branch) (v : Around) (p : Point) (arms : tree.Arms) (hs is : List (HeadOf o)) (bs ds : Bodies) (q r : Point)
        → StatesArms o v p arms hs bs q → StatesArms o v p arms is ds r → (hs ≡ is) × (bs ≡ ds) × (q ≡ r)
    one_arms o v p tree.NoArms hs is bs ds q r h k = (h.0 ∙ sym k.0, h.1 ∙ sym k.1, h.2 ∙ sym k.2)
    one_arms o v p (tree.MoreArms x ss arms) hs is bs ds q r h k =
        let a = one_head b o (enter p) x h.0 k.0 h.4 k.4 h.6 k.6 in
        let l = one_stated_all v h.4 ss h.2 k.2 h.5 k.5 h.7 (all_at v ss k.2 k.5 h.4 k.4 a.1 k.7) in
        let m =
        one_arms o v (leave h.5) arms h.1 k.1 h.3 k.3 q r h.8 (left_at o v arms k.1 k.3 r h.5 k.5 l.1 k.8) in (
          h.9 ∙ same_two (λ (w : HeadOf o) (ws : List (HeadOf o)). w ∷ ws) h.0 k.0 h.1 k.1 a.0 m.0 ∙ sym k.9,
          h.10 ∙ same_two MoreBodies h.2 k.2 h.3 k.3 l.0 m.1 ∙ sym k.10,
          m.2,
        )

  -- ---- functions

  function_at : (m : List ℕ) (f : Callee) (d : Definition) (y z : Stmt) (q r : Point) → y ≡ z → q ≡ r → function f d y q ≡ function f d z r
  function_at m f d y z q r e i = same_two (λ (w : Stmt) (u : Point). function f d w u) y z q r e i

  pub one_function : (m : List ℕ) (scopes : List Scope) (f : Callee) (d : Definition) (c : Context) (g h : Function) (e i : Context)
      → IsFunction m scopes f d c g e → IsFunction m scopes f d c h i → (g ≡ h) × (e ≡ i)
  one_function m scopes f d c g h e i x y =
      let a = one_block (around m f.of) (begins c scopes d f.of) d.block x.stmt y.stmt x.behind y.behind x.states y.states in (
        x.gives ∙ function_at m f d x.stmt y.stmt x.behind y.behind a.0 a.1 ∙ sym y.gives,
        x.goes_on ∙ ap (λ z. z.context) a.1 ∙ sym y.goes_on,
      )

  pub one_module : (m : List ℕ) (scopes : List Scope) (fs : List Callee) (ds : List Definition) (c d e : Context) (gs hs : List Function)
      → AreFunctions m scopes fs ds c gs d → AreFunctions m scopes fs ds c hs e → (gs ≡ hs) × (d ≡ e)
  one_module m scopes [] [] c d e [] [] x y = (refl, x ∙ sym y)
  one_module m scopes [] [] c d e [] (h ∷ hs) x y = absurd y
  one_module m scopes [] [] c d e (g ∷ gs) hs x y = absurd x
  one_module m scopes [] (k ∷ ks) c d e gs hs x y = absurd x
  one_module m scopes (f ∷ fs) [] c d e gs hs x y = absurd x
  one_module m scopes (f ∷ fs) (k ∷ ks) c d e [] hs x y = absurd x
  one_module m scopes (f ∷ fs) (k ∷ ks) c d e (g ∷ gs) [] x y = absurd y
  one_module m scopes (f ∷ fs) (k ∷ ks) c d e (g ∷ gs) (h ∷ hs) x y =
      let a = one_function m scopes f k c g h x.0 y.0 x.1 y.1 in
      let l =
      one_module m scopes fs ks x.0 d e gs hs x.2
      (subst (λ (z : Context). AreFunctions m scopes fs ks z hs e) (sym a.1) y.2) in
      (same_two (λ (w : Function) (ws : List Function). w ∷ ws) g h gs hs a.0 l.0, l.1)
