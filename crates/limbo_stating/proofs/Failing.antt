-- What fails is no typed statement.
use Rattle.std.proofs.Common.{◌≡◌, sym, ◌∙◌, subst, ℕ, inl, inr, List, [], ◌∷◌}
use Rattle.std.proofs.lemmas.Option.{none-some}
use Rattle.limbo_tree.specs.Stmts as tree
use Rattle.limbo_typed.specs.declared.stmt.CasePattern.{CasePattern}
use Rattle.limbo_typed.specs.Typed.{Expr, AltHead, PickHead, Stmt, Stmts, Bodies, Function}
use Rattle.limbo_typed.specs.Sound.{type_of}
use Rattle.limbo_scope.specs.Scopes.{Scope}
use Rattle.limbo_standing.specs.Standing.{Settles}
use Rattle.limbo_paths.specs.Paths.{Answers}
use Rattle.limbo_context.specs.Context.{Context, Callee}
use Rattle.limbo_local.specs.Points.{Point, enter, leave}
use Rattle.limbo_local.proofs.Once.{value_once, one_header}
use Rattle.limbo_local.proofs.Failing.{not_header}
use Rattle.limbo_stating.specs.Reasons.{Reason}
use Rattle.limbo_stating.specs.Around.{Around, in_loop, in_branch, in_arm_of}
use Rattle.limbo_stating.specs.Cases.{AreApart}
use Rattle.limbo_stating.specs.Alts.{HasOneStar}
use Rattle.limbo_stating.specs.Picks.{PickOnce}
use Rattle.limbo_stating.specs.Stating.{Branch, OfCase, OfAlt, OfPick, OfHandler, HeadOf, with_catch}
use Rattle.limbo_stating.specs.Stating.{States, StatesAll, StatesBlock, StatesArms}
use Rattle.limbo_stating.specs.FailsToState as fails
use Rattle.limbo_stating.specs.FailsToState.{FailsToState, FailsAll, FailsBlock, FailsArms}
use Rattle.limbo_stating.specs.Functions as functions
use Rattle.limbo_stating.specs.Functions.{Definition, begins, outside, around, body_of, IsFunction, FailsFunction, AreFunctions}
use Rattle.limbo_stating.specs.Functions.{FailsSomeFunction}
use Rattle.limbo_stating.proofs.Lower.{OneBelow, NoneBelow}
use Rattle.limbo_stating.proofs.Parts.{may_evaluate_one, one_test, may_test_one, one_chosen, one_picked, one_head}
use Rattle.limbo_stating.proofs.PartsFail.{not_evaluated, may_not_evaluate, not_tested, may_not_test, not_chosen, not_picked, not_spawned}
use Rattle.limbo_stating.proofs.PartsFail.{not_head, not_raised, not_valued}
use Rattle.limbo_stating.proofs.Once.{at, all_at, left_at, case_at, pick_at, test_at, evaluate_at}
use Rattle.limbo_stating.proofs.Once.{one_stated, one_stated_all, one_block, one_arms, one_function}

module _ (b : OneBelow) (f : NoneBelow) where
  mutual
    pub not_stated : (v : Around) (p : Point) (s : tree.Stmt) (k : Reason) → FailsToState v p s k → (z : Stmt) (q : Point)
        → States v p s z q → ⊥
    not_stated _ _ _ _ (fails.in_nested v p d k g) z q h = not_block v p d k g z q h
    not_stated _ _ _ _ (fails.in_declaration v p d k g) z q h = f.declares v.module_name d p q k z g h
    not_stated _ _ _ _ (fails.evaluated v p e k g) z q h = not_evaluated b f p e k g h.0 q h.1
    not_stated _ _ _ _ (fails.if_tested v p c s k g) z q h = not_tested b f p c k g h.0 h.2 h.3
    not_stated _ _ _ _ (fails.if_holds v p r c s x k t g) z q h =
        let a = one_test b p c x h.0 r h.2 t h.3 in not_stated v r s k g h.1 q (at v s h.1 q r h.2 a.1 h.4)
    not_stated _ _ _ _ (fails.either_tested v p c s t k g) z q h = not_tested b f p c k g h.0 h.3 h.5
    not_stated _ _ _ _ (fails.either_holds v p r c s t x k i g) z q h =
        let a = one_test b p c x h.0 r h.3 i h.5 in not_stated v r s k g h.1 h.4 (at v s h.1 h.4 r h.3 a.1 h.6)
    not_stated _ _ _ _ (fails.either_fails v p r u c s t x y k i j g) z q h =
        let a = one_test b p c x h.0 r h.3 i h.5 in
        let l = one_stated b v r s y h.1 u h.4 j (at v s h.1 h.4 r h.3 a.1 h.6) in
        not_stated v u t k g h.2 q (at v t h.2 q u h.4 l.1 h.7)
    not_stated _ _ _ _ (fails.while_tested v p l c s k g) z q h = may_not_test b f p c k g h.0 h.2 h.3
    not_stated _ _ _ _ (fails.while_repeats v p r l c s x k t g) z q h =
        let a = may_test_one b p c x h.0 r h.2 t h.3 in not_stated (in_loop l v) r s k g h.1 q (at (in_loop l v) s h.1 q r h.2 a.1 h.4)
    not_stated _ _ _ _ (fails.do_repeats v p l s c k g) z q h = not_stated (in_loop l v) p s k g h.1 h.2 h.3
    not_stated _ _ _ _ (fails.do_tested v p r l s c y k i g) z q h =
        let a = one_stated b (in_loop l v) p s y h.1 r h.2 i h.3 in may_not_test b f r c k g h.0 q (test_at c h.0 q r h.2 a.1 h.4)
    not_stated _ _ _ _ (fails.for_begins v p l a c n s k g) z q h = may_not_evaluate b f p a k g h.0 h.4 h.7
    not_stated _ _ _ _ (fails.for_tested v p r l a c n s x k i g) z q h =
        let o = may_evaluate_one b p a x h.0 r h.4 i h.7 in may_not_test b f r c k g h.1 h.5 (test_at c h.1 h.5 r h.4 o.1 h.8)
    not_stated _ _ _ _ (fails.for_steps v p r u l a c n s x y k i j g) z q h =
        let o = may_evaluate_one b p a x h.0 r h.4 i h.7 in
        let t = may_test_one b r c y h.1 u h.5 j (test_at c h.1 h.5 r h.4 o.1 h.8) in
        may_not_evaluate b f u n k g h.2 h.6 (evaluate_at n h.2 h.6 u h.5 t.1 h.9)
    not_stated _ _ _ _ (fails.for_repeats v p r u w l a c n s x y d k i j m g) z q h =
        let o = may_evaluate_one b p a x h.0 r h.4 i h.7 in
        let t = may_test_one b r c y h.1 u h.5 j (test_at c h.1 h.5 r h.4 o.1 h.8) in
        let e = may_evaluate_one b u n d h.2 w h.6 m (evaluate_at n h.2 h.6 u h.5 t.1 h.9) in
        not_stated (in_loop l v) w s k g h.3 q (at (in_loop l v) s h.3 q w h.6 e.1 h.10)
    not_stated _ _ _ _ (fails.case_value v p l e arms k g) z q h = not_chosen b f p e k g h.0 h.3 h.4
    not_stated _ _ _ _ (fails.case_arm v p r l e arms x k c g) z q h =
        let a = one_chosen b p e x h.0 r h.3 c h.4 in
        not_arms (OfCase (type_of x)) (in_branch l v) r arms k g h.1 h.2 q (case_at (in_branch l v) arms h.1 h.2 q r h.3 x h.0 a.1 a.0 h.5)
    not_stated _ _ _ _ (fails.case_overlaps v p r u l e arms x hs bs c m g) z q h =
        let a = one_chosen b p e x h.0 r h.3 c h.4 in
        let o =
        one_arms b (OfCase (type_of x)) (in_branch l v) r arms hs h.1 bs h.2 u q m
        (case_at (in_branch l v) arms h.1 h.2 q r h.3 x h.0 a.1 a.0 h.5) in
        g (subst (λ (i : List (List CasePattern)). AreApart i) (sym o.0) h.6)
    not_stated _ _ _ _ (fails.alt_arm v p l arms k g) z q h = not_arms OfAlt (in_branch l v) p arms k g h.0 h.1 q h.2
    not_stated _ _ _ _ (fails.alt_stars v p u l arms hs bs m g) z q h =
        let o = one_arms b OfAlt (in_branch l v) p arms hs h.0 bs h.1 u q m h.2 in
        g (subst (λ (i : List AltHead). HasOneStar i) (sym o.0) h.3)
    not_stated _ _ _ _ (fails.pick_value v p l n e arms k g) z q h = not_picked b f p e k g h.0 h.1 h.4 h.5
    not_stated _ _ _ _ (fails.pick_arm v p r l n e arms x i k c g) z q h =
        let a = one_picked b p e x h.0 i h.1 r h.4 c h.5 in
        not_arms (OfPick n i) (in_branch l v) r arms k g h.2 h.3 q (pick_at n (in_branch l v) arms h.2 h.3 q r h.4 i h.1 a.2 a.1 h.6)
    not_stated _ _ _ _ (fails.pick_repeats v p r u l n e arms x i hs bs c m g) z q h =
        let a = one_picked b p e x h.0 i h.1 r h.4 c h.5 in
        let o =
        one_arms b (OfPick n i) (in_branch l v) r arms hs h.2 bs h.3 u q m
        (pick_at n (in_branch l v) arms h.2 h.3 q r h.4 i h.1 a.2 a.1 h.6) in
        g (subst (λ (j : List PickHead). PickOnce j) (sym o.0) h.7)
    not_stated _ _ _ _ (fails.breaks_nothing v p l g) z q h = g h.0 h.1
    not_stated _ _ _ _ (fails.continues_nothing v p l g) z q h = g h.0 h.1
    not_stated _ _ _ _ (fails.returns_nothing v p g) z q h = g h.0
    not_stated _ _ _ _ (fails.returned v p e k g) z q h = not_valued b f p e k g h.0 q h.2
    not_stated _ _ _ _ (fails.returned_unfit v p r e x c i g) z q h =
        let a = value_once b.value p e x h.0 r q i h.2 in
        g.stands_not h.1 (subst (λ (y : Expr). Settles v.answer y h.1) (sym a.0) h.3)
    not_stated _ _ _ _ (fails.spawned v p e k g) z q h = not_spawned b f p e k g h.0 q h.1
    not_stated _ _ _ _ (fails.raises_nothing v p g) z q h = none-some h.0 (sym g ∙ h.1)
    not_stated _ _ _ _ (fails.raised v p e k g) z q h = not_raised b f p e k g z q h

    pub not_all : (v : Around) (p : Point) (ss : tree.Stmts) (k : Reason) → FailsAll v p ss k → (zs : Stmts) (q : Point)
        → StatesAll v p ss zs q → ⊥
    not_all _ _ _ _ (fails.here v p s ss k g) zs q h = not_stated v p s k g h.0 h.2 h.3
    not_all _ _ _ _ (fails.later v p r s ss y k i g) zs q h =
        let a = one_stated b v p s y h.0 r h.2 i h.3 in not_all v r ss k g h.1 q (all_at v ss h.1 q r h.2 a.1 h.4)

    pub not_block : (v : Around) (p : Point) (d : tree.Block) (k : Reason) → FailsBlock v p d k → (z : Stmt) (q : Point)
        → StatesBlock v p d z q → ⊥
    not_block _ _ _ _ (fails.in_plain v p ss k g) z q h = not_all v (enter p) ss k g h.0 h.1 h.2
    not_block _ _ _ _ (fails.in_handled v p ss n arms k g) z q h = not_all v (enter (with_catch p)) ss k g h.0 h.3 h.4
    not_block _ _ _ _ (fails.in_handler v p r ss n arms zs k i g) z q h =
        let a = one_stated_all b v (enter (with_catch p)) ss zs h.0 r h.3 i h.4 in
        not_arms (OfHandler n) (in_arm_of p.catches v) (leave r) arms k g h.1 h.2 q
        (left_at (OfHandler n) (in_arm_of p.catches v) arms h.1 h.2 q r h.3 a.1 h.5)

    pub not_arms : (o : Branch) (v : Around) (p : Point) (arms : tree.Arms) (k : Reason) → FailsArms o v p arms k → (hs : List (HeadOf o))
        (bs : Bodies) (q : Point) → StatesArms o v p arms hs bs q → ⊥
    not_arms _ _ _ _ _ (fails.in_head o v p x ss arms k g) hs bs q h = not_head b f o (enter p) x k g h.0 h.4 h.6
    not_arms _ _ _ _ _ (fails.in_body o v p r x ss arms y k i g) hs bs q h =
        let a = one_head b o (enter p) x y h.0 r h.4 i h.6 in not_all v r ss k g h.2 h.5 (all_at v ss h.2 h.5 r h.4 a.1 h.7)
    not_arms _ _ _ _ _ (fails.behind o v p r u x ss arms y zs k i j g) hs bs q h =
        let a = one_head b o (enter p) x y h.0 r h.4 i h.6 in
        let l = one_stated_all b v r ss zs h.2 u h.5 j (all_at v ss h.2 h.5 r h.4 a.1 h.7) in
        not_arms o v (leave u) arms k g h.1 h.3 q (left_at o v arms h.1 h.3 q u h.5 l.1 h.8)

  -- ---- functions

  answers_at : (z y : Stmt) (q r : Point) → z ≡ y → q ≡ r → Answers r.context.adts (body_of y) → Answers q.context.adts (body_of z)
  answers_at z y q r e i h =
      let a = subst (λ (x : Point). Answers x.context.adts (body_of y)) (sym i) h in
      subst (λ (x : Stmt). Answers q.context.adts (body_of x)) (sym e) a

  not_function : (m : List ℕ) (scopes : List Scope) (c : Callee) (d : Definition) (e : Context) (k : Reason)
      → FailsFunction m scopes c d e k → (g : Function) (i : Context) → IsFunction m scopes c d e g i → ⊥
  not_function m scopes c d e _ (functions.again n) g i h = n h.once
  not_function m scopes c d e _ (functions.a_type k x) g i h = not_header e (outside scopes) d.of k x c.of h.header
  not_function m scopes c d e _ (functions.unlike of x n) g i h = n (one_header e (outside scopes) d.of of c.of x h.header)
  not_function m scopes c d e _ (functions.in_block k x) g i h =
      not_block (around m c.of) (begins e scopes d c.of) d.block k x h.stmt h.behind h.states
  not_function m scopes c d e _ (functions.no_answer z q n x never) g i h =
      let a = one_block b (around m c.of) (begins e scopes d c.of) d.block z h.stmt q h.behind x h.states in
      elim h.answers [ inl l ↦ n l | inr r ↦ never (answers_at z h.stmt q h.behind a.0 a.1 r) ]

  pub not_module : (m : List ℕ) (scopes : List Scope) (cs : List Callee) (ds : List Definition) (e : Context) (k : Reason)
      → FailsSomeFunction m scopes cs ds e k → (gs : List Function) (i : Context) → AreFunctions m scopes cs ds e gs i → ⊥
  not_module m scopes _ _ _ _ (functions.this_function c cs d ds e k x) [] i h = absurd h
  not_module m scopes _ _ _ _ (functions.this_function c cs d ds e k x) (g ∷ gs) i h = not_function m scopes c d e k x g h.0 h.1
  not_module m scopes _ _ _ _ (functions.later_function c cs d ds e j y k s x) [] i h = absurd h
  not_module m scopes _ _ _ _ (functions.later_function c cs d ds e j y k s x) (g ∷ gs) i h =
      let a = one_function b m scopes c d e y g j h.0 s h.1 in
      not_module m scopes cs ds j k x gs i (subst (λ (z : Context). AreFunctions m scopes cs ds z gs i) (sym a.1) h.2)
