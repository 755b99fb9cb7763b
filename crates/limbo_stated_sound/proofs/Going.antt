-- What is known of a point is known behind statements.
use Rattle.std.proofs.Common.{◌≡◌, ℕ, List, [], ◌∷◌, Option, None, Some, subst, arith}
use Rattle.std.proofs.lemmas.Option.{slice_get_within}
use Rattle.limbo_types.specs.Types as ty
use Rattle.limbo_types.specs.Types.{Ty, Tys, Tuple, Chars}
use Rattle.limbo_types.specs.View.{tys_of}
use Rattle.limbo_tree.specs.Exprs as exprs
use Rattle.limbo_tree.specs.Stmts as tree
use Rattle.limbo_typed.specs.declared.stmt.CasePattern.{CasePattern}
use Rattle.limbo_typed.specs.declared.stmt.HandlerPattern.{HandlerPattern}
use Rattle.limbo_typed.specs.declared.stmt.HandlerPattern.TheVariants as handler
use Rattle.limbo_typed.specs.Typed.{Expr, AltHead, PickHead, HandlerHead, Stmt, Stmts, Bodies, Module, Exception}
use Rattle.limbo_typed.specs.Fitting.{IsPick}
use Rattle.limbo_typed.specs.Sound.{type_of, picked, IsSettled, AllSettled, IsNamed, NamesAll}
use Rattle.limbo_context.specs.Context.{Context, Body, HasVariantNamed}
use Rattle.limbo_typed_sound.specs.limbo_typing.Typing.{Types}
use Rattle.limbo_stating.specs.limbo_local.Points.{Point, ValueAt, with_body, enter, leave, with_variables}
use Rattle.limbo_stating.specs.Around.{Around, in_loop, in_branch, in_arm_of, Evaluates, MayEvaluate, MayTest}
use Rattle.limbo_stating.specs.Cases as cases
use Rattle.limbo_stating.specs.Cases.{Chooses, ArePatterns, IsLabel}
use Rattle.limbo_stating.specs.Alts.{IsAltHead}
use Rattle.limbo_stating.specs.Picks.{IsPickHead, AreVariants}
use Rattle.limbo_stating.specs.Handlers as handlers
use Rattle.limbo_stating.specs.Handlers.{IsHandlerHead, HasName, IsCaught, AllCarry, Carries}
use Rattle.limbo_stating.specs.Raising as raising
use Rattle.limbo_stating.specs.Raising.{Raises}
use Rattle.limbo_stating.specs.Stating.{Branch, OfCase, OfAlt, OfPick, OfHandler, HeadOf, IsHead, with_catch}
use Rattle.limbo_stating.specs.Stating.{States, StatesAll, StatesBlock, StatesArms}
use Rattle.limbo_typed_sound.proofs.Lists.{each_at}
use Rattle.limbo_stated_sound.specs.Growing.{LeadsTo, Extends}
use Rattle.limbo_stated_sound.specs.Proper.{IsProperStmt, AreProperStmts, IsProperBlock, AreProperArms}
use Rattle.limbo_stated_sound.specs.Standing.{HasAllTypes, Covers}
use Rattle.limbo_stated_sound.specs.Laws.{IsBranch}
use Rattle.limbo_stated_sound.proofs.Before.{covered_before}
use Rattle.limbo_stated_sound.proofs.Leading.{variables_lead, value_leads}
use Rattle.limbo_stated_sound.proofs.Rows as rows
use Rattle.limbo_stated_sound.proofs.Seen.{Fits, covered_fits}
use Rattle.limbo_stated_sound.proofs.Knowing.{value_known, typed_known, values_known, permitted_is_named, entered_known}
use Rattle.limbo_stated_sound.proofs.Staying.{KnownAt, known_at, declares_variables, declared_known, scope_known}

-- ---- covered behind, covered there

pub covered_there : (m : Module) (p q : Point) → LeadsTo p q → Covers m q.context → Covers m p.context
covered_there m p q l h = covered_before m p.context q.context l.context h

pub covered_at : (m : Module) (p q : Point) → q ≡ p → Covers m q.context → Covers m p.context
covered_at m p q e h = subst (λ (z : Point). Covers m z.context) e h

pub pick_stays : (c d : Context) → Extends c d → (a : ℕ) → IsPick c.adts a → IsPick d.adts a
pick_stays c d h a i = record { def = i.def; there = h.adts a i.def i.there; variants = i.variants }

pub branch_stays : (c d : Context) → Extends c d → (o : Branch) → IsBranch c o → IsBranch d o
branch_stays c d h (OfPick n a) i = pick_stays c d h a i
branch_stays c d h (OfCase t) i = tt
branch_stays c d h OfAlt i = tt
branch_stays c d h (OfHandler n) i = tt

-- ---- types of variables of arms

module _ (m : Module) where
  pub variant_named : (c : Context) → Fits m c → (a : ℕ) (n : List ℕ) (v : ℕ) → HasVariantNamed c a n v → IsNamed m (ty.RefPick a v)
  variant_named c f a n v h =
      let s = (f.adts a h.def h.there).shape in
      let l = slice_get_within h.def.picks v h.named.variant h.named.there in
      let e = s.2 in
      (record { def = s.0; there = s.1; variant = omega arith }, tt)

  pub picked_named : (c : Context) → Fits m c → (a : ℕ) → IsPick c.adts a → (ns : List (List ℕ)) (vs : List ℕ) → AreVariants c a ns vs
      → IsNamed m (picked a vs)
  picked_named c f a i [] [] h = let s = (f.adts a i.def i.there).shape in (slice_get_within m.adts a s.0 s.1, tt)
  picked_named c f a i [] (v ∷ vs) h = absurd h
  picked_named c f a i (n ∷ ns) [] h = absurd h
  picked_named c f a i (n ∷ []) (v ∷ []) h = variant_named c f a n v h.0
  picked_named c f a i (n ∷ k ∷ ns) (v ∷ []) h = absurd h.1
  picked_named c f a i (n ∷ ns) (v ∷ w ∷ vs) h = let s = (f.adts a i.def i.there).shape in (slice_get_within m.adts a s.0 s.1, tt)

  all_settled : (ts : List Ty) → NamesAll m ts → AllSettled (tys_of ts)
  all_settled [] h = tt
  all_settled (t ∷ ts) h = (h.0.1, all_settled ts h.1)

  carried_named : (all : HasAllTypes m) (c : Context) → Covers m c → (z : HandlerPattern) (ts : List Ty) → Carries c z ts → NamesAll m ts
  carried_named all c h (handler.Declared n) ts k =
      subst (NamesAll m) k.2
      (each_at (λ (e : Exception). NamesAll m e.values) m.exceptions n k.0 (h.exceptions n k.0 k.1) all.exceptions)
  carried_named all c h _ ts k = absurd k

  all_carried : (all : HasAllTypes m) (c : Context) → Covers m c → (zs : List HandlerPattern) (ts : List Ty) → AllCarry c zs ts
      → NamesAll m ts
  all_carried all c h [] ts k = absurd k
  all_carried all c h (z ∷ []) ts k = carried_named all c h z ts k
  all_carried all c h (z ∷ y ∷ zs) ts k = carried_named all c h z ts k.0

  caught_settled : (all : HasAllTypes m) (c : Context) → Covers m c → (zs : List HandlerPattern) (t : Ty) → IsCaught c zs t → IsSettled t
  caught_settled all c h zs _ (handlers.IsCaught.values ts k) = all_settled ts (all_carried all c h zs ts k)
  caught_settled all c h zs _ (handlers.text k) = tt

-- ---- expressions

module _ (m : Module) (all : HasAllTypes m) where
  pub fits_covered : (p : Point) → Covers m p.context → Fits m p.context
  fits_covered p h = covered_fits m p.context all.types h

  pub go_by_value : (p : Point) (e : exprs.Expr) (x : Expr) (q : Point) → Covers m p.context → KnownAt m p → ValueAt p e x q → KnownAt m q
  go_by_value p e x q c k h =
      known_at m (with_body h.behind p) q h.goes_on (value_known m p.context (fits_covered p c) p.body e x h.behind h.has k)

  pub go_by_typed : (p : Point) (e : exprs.Expr) (x : Expr) (b : Body) (q : Point) → Covers m p.context → KnownAt m p
      → Types p.context p.body e x b → q ≡ with_body b p → KnownAt m q
  go_by_typed p e x b q c k h i = known_at m (with_body b p) q i (typed_known m p.context (fits_covered p c) p.body e x b h k)

  pub go_evaluated : (p : Point) (e : exprs.Expr) (x : Expr) (q : Point) → Covers m p.context → KnownAt m p → Evaluates p e x q
      → KnownAt m q
  go_evaluated p e x q c k h = go_by_typed p e x h.behind q c k h.types h.goes_on

  pub go_may_evaluate : (p : Point) (e : Option exprs.Expr) (x : Option Expr) (q : Point) → Covers m p.context → KnownAt m p
      → MayEvaluate p e x q → KnownAt m q
  go_may_evaluate p None x q c k h = known_at m p q h.1 k
  go_may_evaluate p (Some e) x q c k h = go_evaluated p e h.0 q c k h.1

  pub go_may_test : (p : Point) (e : Option exprs.Expr) (x : Option Expr) (q : Point) → Covers m p.context → KnownAt m p → MayTest p e x q
      → KnownAt m q
  go_may_test p None x q c k h = known_at m p q h.1 k
  go_may_test p (Some e) x q c k h = go_by_value p e h.0 q c k h.1.has

  go_raised : (p : Point) (e : exprs.Expr) (z : Stmt) (q : Point) → Covers m p.context → KnownAt m p → Raises p e z q → KnownAt m q
  go_raised p _ _ _ c k (raising.a_string e x y q h s) = go_by_value p e x q c k h
  go_raised p _ _ _ c k (raising.alone n i x h v) = k
  go_raised p _ _ _ c k (raising.with_values n es i x xs ys b h v s) = values_known m p.context (fits_covered p c) p.body es xs b v k

  -- ---- heads of arms

  pub go_pattern : (t : Ty) (p : Point) (x : tree.Pattern) (z : CasePattern) (q : Point) → Covers m q.context → KnownAt m p
      → cases.IsPattern t p x z q → KnownAt m q
  go_pattern t p tree.AnyValue z q c k h = known_at m p q h.1 k
  go_pattern t p (tree.Value e) z q c k h =
      go_by_value p e h.1.value q (covered_there m p q (rows.label_leads t p e h.0 q h.1) c) k h.1.has
  go_pattern t p (tree.Range e f) z q c k h =
      let d = covered_there m h.2 q (rows.label_leads t h.2 f h.1 q h.4) c in
      go_by_value h.2 f h.4.value q d
      (go_by_value p e h.3.value h.2 (covered_there m p h.2 (rows.label_leads t p e h.0 h.2 h.3) d) k h.3.has) h.4.has

  go_patterns : (t : Ty) (p : Point) (xs : List tree.Pattern) (zs : List CasePattern) (q : Point) → Covers m q.context → KnownAt m p
      → ArePatterns t p xs zs q → KnownAt m q
  go_patterns t p [] [] q c k h = known_at m p q h k
  go_patterns t p [] (z ∷ zs) q c k h = absurd h
  go_patterns t p (x ∷ xs) [] q c k h = absurd h
  go_patterns t p (x ∷ xs) (z ∷ zs) q c k h =
      go_patterns t h.0 xs zs q c
      (go_pattern t p x z h.0 (covered_there m h.0 q (rows.patterns_lead t h.0 xs zs q h.2) c) k h.1) h.2

  go_alt : (p : Point) (e : Option exprs.Expr) (h : AltHead) (q : Point) → Covers m q.context → KnownAt m p → IsAltHead p e h q
      → KnownAt m q
  go_alt p None h q c k i = known_at m p q i.1 k
  go_alt p (Some e) h q c k i =
      go_by_typed p e i.0 i.1 q (covered_there m p q (rows.typed_leads p e i.0 i.1 q i.3 i.5) c) k i.3 i.5

  go_name : (p : Point) (name : Option (List ℕ)) (zs : List HandlerPattern) (h : HandlerHead) (q : Point) → Covers m q.context → KnownAt m p
      → HasName p name zs h q → KnownAt m q
  go_name p None zs h q c k i = known_at m p q i.1 k
  go_name p (Some n) zs h q c k i =
      let w = with_variables (n ∷ []) i.0 p in
      let d = covered_there m p w (variables_lead (n ∷ []) i.0 p) (covered_at m w q i.4 c) in
      let s = caught_settled m all p.context d zs i.0 i.1 in
      known_at m w q i.4
      (declares_variables m all.types (n ∷ []) i.0 p (permitted_is_named m p.context (fits_covered p d) p.body k i.0 i.2 s) k)

  go_picked : (n : List ℕ) (a : ℕ) (p : Point) (ns : List (List ℕ)) (h : PickHead) (q : Point) → Covers m q.context → KnownAt m p
      → IsPick p.context.adts a → IsPickHead n a p ns h q → KnownAt m q
  go_picked n a p ns h q c k i j =
      let w = with_variables (n ∷ []) (picked a j.0) p in
      let d = covered_there m p w (variables_lead (n ∷ []) (picked a j.0) p) (covered_at m w q j.3 c) in
      known_at m w q j.3
      (declares_variables m all.types (n ∷ []) (picked a j.0) p (picked_named m p.context (fits_covered p d) a i ns j.0 j.1) k)

  pub go_head : (o : Branch) (p : Point) (x : tree.Head) (h : HeadOf o) (q : Point) → Covers m q.context → KnownAt m p
      → IsBranch p.context o
      → IsHead o p x h q → KnownAt m q
  go_head (OfCase t) p (tree.CaseHead ps) h q c k i j = go_patterns t p ps h q c k j
  go_head OfAlt p (tree.AltHead e) h q c k i j = go_alt p e h q c k j
  go_head (OfPick n a) p (tree.PickHead ns) h q c k i j = go_picked n a p ns h q c k i j
  go_head (OfHandler n) p (tree.HandlerHead ps) h q c k i j = go_name p n j.0 h q c k j.2
  go_head (OfCase t) p (tree.AltHead e) h q c k i j = absurd j
  go_head (OfCase t) p (tree.PickHead ns) h q c k i j = absurd j
  go_head (OfCase t) p (tree.HandlerHead ps) h q c k i j = absurd j
  go_head OfAlt p (tree.CaseHead ps) h q c k i j = absurd j
  go_head OfAlt p (tree.PickHead ns) h q c k i j = absurd j
  go_head OfAlt p (tree.HandlerHead ps) h q c k i j = absurd j
  go_head (OfPick n a) p (tree.CaseHead ps) h q c k i j = absurd j
  go_head (OfPick n a) p (tree.AltHead e) h q c k i j = absurd j
  go_head (OfPick n a) p (tree.HandlerHead ps) h q c k i j = absurd j
  go_head (OfHandler n) p (tree.CaseHead ps) h q c k i j = absurd j
  go_head (OfHandler n) p (tree.AltHead e) h q c k i j = absurd j
  go_head (OfHandler n) p (tree.PickHead ns) h q c k i j = absurd j

  -- ---- statements

  pub enters : (p : Point) → KnownAt m p → KnownAt m (enter p)
  enters p k = entered_known m p.context p.body k

  catches : (p : Point) → KnownAt m p → KnownAt m (with_catch p)
  catches p k = k

  mutual
    pub go : (v : Around) (p : Point) (s : tree.Stmt) (z : Stmt) (q : Point) → Covers m q.context → KnownAt m p → IsProperStmt s
        → States v p s z q → KnownAt m q
    go v p tree.Empty z q c k i h = known_at m p q h.1 k
    go v p (tree.Nested b) z q c k i h = go_block v p b z q c k i h
    go v p (tree.Declare d) z q c k i h = declared_known m all.types v.module_name d p q z (fits_covered q c) k i h
    go v p (tree.Eval e) z q c k i h = go_evaluated p e h.0 q (covered_there m p q (rows.evaluated_leads p e h.0 q h.1) c) k h.1
    go v p (tree.If e s) z q c k i h =
        let d = covered_there m h.2 q (rows.stated_leads v h.2 s h.1 q h.4) c in
        let f = covered_there m p h.2 (rows.tests_lead p e h.0 h.2 h.3) d in
        go v h.2 s h.1 q c (go_by_value p e h.0 h.2 f k h.3.has) i.1 h.4
    go v p (tree.IfElse e s t) z q c k i h =
        let d = covered_there m h.4 q (rows.stated_leads v h.4 t h.2 q h.7) c in
        let f = covered_there m h.3 h.4 (rows.stated_leads v h.3 s h.1 h.4 h.6) d in
        let g = covered_there m p h.3 (rows.tests_lead p e h.0 h.3 h.5) f in
        go v h.4 t h.2 q c (go v h.3 s h.1 h.4 d (go_by_value p e h.0 h.3 g k h.5.has) i.1 h.6) i.2 h.7
    go v p (tree.While l e s) z q c k i h =
        let d = covered_there m h.2 q (rows.stated_leads (in_loop l v) h.2 s h.1 q h.4) c in
        let f = covered_there m p h.2 (rows.may_test_leads p e h.0 h.2 h.3) d in
        go (in_loop l v) h.2 s h.1 q c (go_may_test p e h.0 h.2 f k h.3) i.1 h.4
    go v p (tree.Do l s e) z q c k i h =
        let d = covered_there m h.2 q (rows.may_test_leads h.2 e h.0 q h.4) c in
        go_may_test h.2 e h.0 q d (go (in_loop l v) p s h.1 h.2 d k i.0 h.3) h.4
    go v p (tree.For l a e b s) z q c k i h =
        let d = covered_there m h.6 q (rows.stated_leads (in_loop l v) h.6 s h.3 q h.10) c in
        let f = covered_there m h.5 h.6 (rows.may_evaluate_leads h.5 b h.2 h.6 h.9) d in
        let g = covered_there m h.4 h.5 (rows.may_test_leads h.4 e h.1 h.5 h.8) f in
        let j = covered_there m p h.4 (rows.may_evaluate_leads p a h.0 h.4 h.7) g in
        go (in_loop l v) h.6 s h.3 q c
        (go_may_evaluate h.5 b h.2 h.6 f (go_may_test h.4 e h.1 h.5 g (go_may_evaluate p a h.0 h.4 j k h.7) h.8) h.9) i.3 h.10
    go v p (tree.Case l e arms) z q c k i h =
        let d = covered_there m h.3 q (rows.arms_lead (OfCase (type_of h.0)) (in_branch l v) h.3 arms h.1 h.2 q h.5) c in
        let f = covered_there m p h.3 (value_leads p e h.4.value h.3 h.4.has) d in
        go_arms (OfCase (type_of h.0)) (in_branch l v) h.3 arms h.1 h.2 q c (go_by_value p e h.4.value h.3 f k h.4.has) tt i.1 h.5
    go v p (tree.Alt l arms) z q c k i h = go_arms OfAlt (in_branch l v) p arms h.0 h.1 q c k tt i h.2
    go v p (tree.Pick l n e arms) z q c k i h =
        let d = covered_there m h.4 q (rows.arms_lead (OfPick n h.1) (in_branch l v) h.4 arms h.2 h.3 q h.6) c in
        let w = value_leads p e h.0 h.4 h.5.has in
        let f = covered_there m p h.4 w d in
        go_arms (OfPick n h.1) (in_branch l v) h.4 arms h.2 h.3 q c (go_by_value p e h.0 h.4 f k h.5.has)
        (pick_stays p.context h.4.context w.context h.1 h.5.is.pick) i.1 h.6
    go v p (tree.Break l) z q c k i h = known_at m p q h.3 k
    go v p (tree.Continue l) z q c k i h = known_at m p q h.3 k
    go v p (tree.Return None) z q c k i h = known_at m p q h.2 k
    go v p (tree.Return (Some e)) z q c k i h = go_by_value p e h.0 q (covered_there m p q (value_leads p e h.0 q h.2) c) k h.2
    go v p tree.Exit z q c k i h = known_at m p q h.1 k
    go v p (tree.Spawn e) z q c k i h =
        go_by_typed p e h.0 h.1.behind q (covered_there m p q (rows.typed_leads p e h.0 h.1.behind q h.1.types h.1.goes_on) c) k h.1.types
        h.1.goes_on
    go v p (tree.Raise None) z q c k i h = known_at m p q h.3 k
    go v p (tree.Raise (Some e)) z q c k i h = go_raised p e z q (covered_there m p q (rows.raises_lead p e z q h) c) k h

    pub go_all : (v : Around) (p : Point) (ss : tree.Stmts) (zs : Stmts) (q : Point) → Covers m q.context → KnownAt m p → AreProperStmts ss
        → StatesAll v p ss zs q → KnownAt m q
    go_all v p tree.NoStmts zs q c k i h = known_at m p q h.1 k
    go_all v p (tree.MoreStmts s ss) zs q c k i h =
        let d = covered_there m h.2 q (rows.all_lead v h.2 ss h.1 q h.4) c in
        go_all v h.2 ss h.1 q c (go v p s h.0 h.2 d k i.0 h.3) i.1 h.4

    pub go_block : (v : Around) (p : Point) (b : tree.Block) (z : Stmt) (q : Point) → Covers m q.context → KnownAt m p → IsProperBlock b
        → StatesBlock v p b z q → KnownAt m q
    go_block v p (tree.Plain ss) z q c k i h =
        let d = covered_at m (leave h.1) q h.4 c in
        known_at m (leave h.1) q h.4
        (scope_known m all.types p h.1 k (go_all v (enter p) ss h.0 h.1 d (enters p k) i h.2) (rows.all_lead v (enter p) ss h.0 h.1 h.2))
    go_block v p (tree.Handled ss n arms) z q c k i h =
        let o = with_catch p in
        let d = covered_there m (leave h.3) q (rows.arms_lead (OfHandler n) (in_arm_of p.catches v) (leave h.3) arms h.1 h.2 q h.5) c in
        let s = scope_known m all.types o h.3 (catches p k) (go_all v (enter o) ss h.0 h.3 d (enters o (catches p k)) i.0 h.4)
        (rows.all_lead v (enter o) ss h.0 h.3 h.4) in
        go_arms (OfHandler n) (in_arm_of p.catches v) (leave h.3) arms h.1 h.2 q c s tt i.1 h.5

    pub go_arms : (o : Branch) (v : Around) (p : Point) (arms : tree.Arms) (hs : List (HeadOf o)) (bs : Bodies) (q : Point)
        → Covers m q.context → KnownAt m p → IsBranch p.context o → AreProperArms arms → StatesArms o v p arms hs bs q → KnownAt m q
    go_arms o v p tree.NoArms hs bs q c k j i h = known_at m p q h.2 k
    go_arms o v p (tree.MoreArms x ss arms) hs bs q c k j i h =
        let d = covered_there m (leave h.5) q (rows.arms_lead o v (leave h.5) arms h.1 h.3 q h.8) c in
        let w = rows.all_lead v h.4 ss h.2 h.5 h.7 in
        let f = covered_there m h.4 h.5 w d in
        let r = rows.head_leads o (enter p) x h.0 h.4 h.6 in
        let a = go_head o (enter p) x h.0 h.4 f (enters p k) j h.6 in
        let b = go_all v h.4 ss h.2 h.5 d a i.1 h.7 in
        let l = rows.arm_leads o v p x ss h.0 h.2 h.4 h.5 h.6 h.7 in
        go_arms o v (leave h.5) arms h.1 h.3 q c (scope_known m all.types p h.5 k b l)
        (branch_stays p.context h.5.context l.context o j) i.2 h.8
