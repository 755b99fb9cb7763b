-- Points behind statements: what only grows.
use Rattle.std.proofs.Common.{◌≡◌, ℕ, List, [], ◌∷◌, Option, None, Some, refl, arith}
use Rattle.limbo_tree.specs.Exprs as exprs
use Rattle.limbo_tree.specs.Stmts as tree
use Rattle.limbo_typed.specs.declared.stmt.CasePattern.{CasePattern}
use Rattle.limbo_typed.specs.declared.stmt.Constant.{Constant}
use Rattle.limbo_types.specs.Types.{Ty}
use Rattle.limbo_typed.specs.Typed.{Expr, AltHead, HandlerHead, Stmt, Stmts, Bodies}
use Rattle.limbo_typed.specs.Sound.{type_of, picked}
use Rattle.limbo_context.specs.Context.{Body}
use Rattle.limbo_typed_sound.specs.limbo_typing.Typing.{Types}
use Rattle.limbo_stating.specs.limbo_local.Points.{Point, with_body, enter, leave, with_variables}
use Rattle.limbo_stating.specs.Around.{Around, in_loop, in_branch, in_arm_of, Evaluates, MayEvaluate, Tests, MayTest}
use Rattle.limbo_stating.specs.Cases as cases
use Rattle.limbo_stating.specs.Cases.{Chooses, ArePatterns, IsLabel}
use Rattle.limbo_stating.specs.Alts.{IsAltHead}
use Rattle.limbo_stating.specs.Handlers.{HasName}
use Rattle.limbo_stating.specs.Raising as raising
use Rattle.limbo_stating.specs.Raising.{Raises}
use Rattle.limbo_stating.specs.Stating.{Branch, OfCase, OfAlt, OfPick, OfHandler, HeadOf, IsHead, with_catch}
use Rattle.limbo_stating.specs.Stating.{States, StatesAll, StatesBlock, StatesArms}
use Rattle.limbo_stated_sound.specs.Growing.{LeadsTo}
use Rattle.limbo_stated_sound.proofs.Moving.{by_typed, by_values}
use Rattle.limbo_stated_sound.proofs.Imports.{same_imports}
use Rattle.limbo_stated_sound.proofs.Members.{declared_leads}
use Rattle.limbo_stated_sound.proofs.Leading.{extends_itself, leads_to_itself, leads_on, leads_at, by_body, value_leads}
use Rattle.limbo_stated_sound.proofs.Leading.{variables_lead, scope_leads}

-- ---- expressions in statements

pub typed_leads : (p : Point) (e : exprs.Expr) (x : Expr) (b : Body) (q : Point) → Types p.context p.body e x b → q ≡ with_body b p
    → LeadsTo p q
typed_leads p e x b q h i = leads_at p q (with_body b p) i (by_body p b (by_typed p.context p.body e x b h))

pub evaluated_leads : (p : Point) (e : exprs.Expr) (x : Expr) (q : Point) → Evaluates p e x q → LeadsTo p q
evaluated_leads p e x q h = typed_leads p e x h.behind q h.types h.goes_on

pub may_evaluate_leads : (p : Point) (e : Option exprs.Expr) (x : Option Expr) (q : Point) → MayEvaluate p e x q → LeadsTo p q
may_evaluate_leads p None x q h = leads_at p q p h.1 (leads_to_itself p)
may_evaluate_leads p (Some e) x q h = evaluated_leads p e h.0 q h.1

pub tests_lead : (p : Point) (e : exprs.Expr) (x : Expr) (q : Point) → Tests p e x q → LeadsTo p q
tests_lead p e x q h = value_leads p e x q h.has

pub may_test_leads : (p : Point) (e : Option exprs.Expr) (x : Option Expr) (q : Point) → MayTest p e x q → LeadsTo p q
may_test_leads p None x q h = leads_at p q p h.1 (leads_to_itself p)
may_test_leads p (Some e) x q h = tests_lead p e h.0 q h.1

pub raises_lead : (p : Point) (e : exprs.Expr) (z : Stmt) (q : Point) → Raises p e z q → LeadsTo p q
raises_lead p _ _ _ (raising.a_string e x y q h s) = value_leads p e x q h
raises_lead p _ _ _ (raising.alone n i x h v) = leads_to_itself p
raises_lead p _ _ _ (raising.with_values n es i x xs ys b h v s) = by_body p b (by_values p.context p.body es xs b v)

-- ---- heads of arms

pub label_leads : (t : Ty) (p : Point) (e : exprs.Expr) (v : Constant) (q : Point) → IsLabel t p e v q → LeadsTo p q
label_leads t p e v q h = value_leads p e h.value q h.has

pub pattern_leads : (t : Ty) (p : Point) (x : tree.Pattern) (z : CasePattern) (q : Point) → cases.IsPattern t p x z q → LeadsTo p q
pattern_leads t p tree.AnyValue z q h = leads_at p q p h.1 (leads_to_itself p)
pattern_leads t p (tree.Value e) z q h = label_leads t p e h.0 q h.1
pattern_leads t p (tree.Range e f) z q h = leads_on p h.2 q (label_leads t p e h.0 h.2 h.3) (label_leads t h.2 f h.1 q h.4)

pub patterns_lead : (t : Ty) (p : Point) (xs : List tree.Pattern) (zs : List CasePattern) (q : Point) → ArePatterns t p xs zs q
    → LeadsTo p q
patterns_lead t p [] [] q h = leads_at p q p h (leads_to_itself p)
patterns_lead t p [] (z ∷ zs) q h = absurd h
patterns_lead t p (x ∷ xs) [] q h = absurd h
patterns_lead t p (x ∷ xs) (z ∷ zs) q h = leads_on p h.0 q (pattern_leads t p x z h.0 h.1) (patterns_lead t h.0 xs zs q h.2)

alt_leads : (p : Point) (e : Option exprs.Expr) (h : AltHead) (q : Point) → IsAltHead p e h q → LeadsTo p q
alt_leads p None h q k = leads_at p q p k.1 (leads_to_itself p)
alt_leads p (Some e) h q k = typed_leads p e k.0 k.1 q k.3 k.5

name_leads : (p : Point) (name : Option (List ℕ)) (zs : _) (h : HandlerHead) (q : Point) → HasName p name zs h q → LeadsTo p q
name_leads p None zs h q k = leads_at p q p k.1 (leads_to_itself p)
name_leads p (Some n) zs h q k = leads_at p q (with_variables (n ∷ []) k.0 p) k.4 (variables_lead (n ∷ []) k.0 p)

pub head_leads : (o : Branch) (p : Point) (x : tree.Head) (h : HeadOf o) (q : Point) → IsHead o p x h q → LeadsTo p q
head_leads (OfCase t) p (tree.CaseHead ps) h q k = patterns_lead t p ps h q k
head_leads OfAlt p (tree.AltHead e) h q k = alt_leads p e h q k
head_leads (OfPick n a) p (tree.PickHead ns) h q k =
    leads_at p q (with_variables (n ∷ []) (picked a k.0) p) k.3 (variables_lead (n ∷ []) (picked a k.0) p)
head_leads (OfHandler n) p (tree.HandlerHead ps) h q k = name_leads p n k.0 h q k.2
head_leads (OfCase t) p (tree.AltHead e) h q k = absurd k
head_leads (OfCase t) p (tree.PickHead ns) h q k = absurd k
head_leads (OfCase t) p (tree.HandlerHead ps) h q k = absurd k
head_leads OfAlt p (tree.CaseHead ps) h q k = absurd k
head_leads OfAlt p (tree.PickHead ns) h q k = absurd k
head_leads OfAlt p (tree.HandlerHead ps) h q k = absurd k
head_leads (OfPick n a) p (tree.CaseHead ps) h q k = absurd k
head_leads (OfPick n a) p (tree.AltHead e) h q k = absurd k
head_leads (OfPick n a) p (tree.HandlerHead ps) h q k = absurd k
head_leads (OfHandler n) p (tree.CaseHead ps) h q k = absurd k
head_leads (OfHandler n) p (tree.AltHead e) h q k = absurd k
head_leads (OfHandler n) p (tree.PickHead ns) h q k = absurd k

-- ---- statements

pub catch_leads : (p : Point) → LeadsTo p (with_catch p)
catch_leads p = record {
  variables = (leads_to_itself p).variables;
  catches = omega arith;
  context = extends_itself p.context;
  scopes = refl;
  imported = same_imports p.context.imports p.body.variables;
}

mutual
  pub stated_leads : (v : Around) (p : Point) (s : tree.Stmt) (z : Stmt) (q : Point) → States v p s z q → LeadsTo p q
  stated_leads v p tree.Empty z q h = leads_at p q p h.1 (leads_to_itself p)
  stated_leads v p (tree.Nested b) z q h = block_leads v p b z q h
  stated_leads v p (tree.Declare d) z q h = declared_leads v.module_name d p q z h
  stated_leads v p (tree.Eval e) z q h = evaluated_leads p e h.0 q h.1
  stated_leads v p (tree.If c s) z q h = leads_on p h.2 q (tests_lead p c h.0 h.2 h.3) (stated_leads v h.2 s h.1 q h.4)
  stated_leads v p (tree.IfElse c s t) z q h =
      leads_on p h.3 q (tests_lead p c h.0 h.3 h.5)
      (leads_on h.3 h.4 q (stated_leads v h.3 s h.1 h.4 h.6) (stated_leads v h.4 t h.2 q h.7))
  stated_leads v p (tree.While l c s) z q h =
      leads_on p h.2 q (may_test_leads p c h.0 h.2 h.3) (stated_leads (in_loop l v) h.2 s h.1 q h.4)
  stated_leads v p (tree.Do l s c) z q h =
      leads_on p h.2 q (stated_leads (in_loop l v) p s h.1 h.2 h.3) (may_test_leads h.2 c h.0 q h.4)
  stated_leads v p (tree.For l a c b s) z q h =
      leads_on p h.4 q (may_evaluate_leads p a h.0 h.4 h.7)
      (leads_on h.4 h.5 q (may_test_leads h.4 c h.1 h.5 h.8)
      (leads_on h.5 h.6 q (may_evaluate_leads h.5 b h.2 h.6 h.9) (stated_leads (in_loop l v) h.6 s h.3 q h.10)))
  stated_leads v p (tree.Case l e arms) z q h =
      leads_on p h.3 q (value_leads p e h.4.value h.3 h.4.has)
      (arms_lead (OfCase (type_of h.0)) (in_branch l v) h.3 arms h.1 h.2 q h.5)
  stated_leads v p (tree.Alt l arms) z q h = arms_lead OfAlt (in_branch l v) p arms h.0 h.1 q h.2
  stated_leads v p (tree.Pick l n e arms) z q h =
      leads_on p h.4 q (value_leads p e h.0 h.4 h.5.has) (arms_lead (OfPick n h.1) (in_branch l v) h.4 arms h.2 h.3 q h.6)
  stated_leads v p (tree.Break l) z q h = leads_at p q p h.3 (leads_to_itself p)
  stated_leads v p (tree.Continue l) z q h = leads_at p q p h.3 (leads_to_itself p)
  stated_leads v p (tree.Return None) z q h = leads_at p q p h.2 (leads_to_itself p)
  stated_leads v p (tree.Return (Some e)) z q h = value_leads p e h.0 q h.2
  stated_leads v p tree.Exit z q h = leads_at p q p h.1 (leads_to_itself p)
  stated_leads v p (tree.Spawn e) z q h = typed_leads p e h.0 h.1.behind q h.1.types h.1.goes_on
  stated_leads v p (tree.Raise None) z q h = leads_at p q p h.3 (leads_to_itself p)
  stated_leads v p (tree.Raise (Some e)) z q h = raises_lead p e z q h

  pub all_lead : (v : Around) (p : Point) (ss : tree.Stmts) (zs : Stmts) (q : Point) → StatesAll v p ss zs q → LeadsTo p q
  all_lead v p tree.NoStmts zs q h = leads_at p q p h.1 (leads_to_itself p)
  all_lead v p (tree.MoreStmts s ss) zs q h = leads_on p h.2 q (stated_leads v p s h.0 h.2 h.3) (all_lead v h.2 ss h.1 q h.4)

  pub block_leads : (v : Around) (p : Point) (b : tree.Block) (z : Stmt) (q : Point) → StatesBlock v p b z q → LeadsTo p q
  block_leads v p (tree.Plain ss) z q h =
      leads_at p q (leave h.1) h.4 (scope_leads p h.1 (all_lead v (enter p) ss h.0 h.1 h.2))
  block_leads v p (tree.Handled ss n arms) z q h =
      leads_on p (leave h.3) q
      (leads_on p (with_catch p) (leave h.3) (catch_leads p)
      (scope_leads (with_catch p) h.3 (all_lead v (enter (with_catch p)) ss h.0 h.3 h.4)))
      (arms_lead (OfHandler n) (in_arm_of p.catches v) (leave h.3) arms h.1 h.2 q h.5)

  pub arms_lead : (o : Branch) (v : Around) (p : Point) (arms : tree.Arms) (hs : List (HeadOf o)) (bs : Bodies) (q : Point)
      → StatesArms o v p arms hs bs q → LeadsTo p q
  arms_lead o v p tree.NoArms hs bs q h = leads_at p q p h.2 (leads_to_itself p)
  arms_lead o v p (tree.MoreArms x ss arms) hs bs q h =
      leads_on p (leave h.5) q
      (scope_leads p h.5
      (leads_on (enter p) h.4 h.5 (head_leads o (enter p) x h.0 h.4 h.6) (all_lead v h.4 ss h.2 h.5 h.7)))
      (arms_lead o v (leave h.5) arms h.1 h.3 q h.8)

-- from where an arm begins to its end
pub arm_leads : (o : Branch) (v : Around) (p : Point) (x : tree.Head) (ss : tree.Stmts) (h : HeadOf o) (ys : Stmts) (r u : Point)
    → IsHead o (enter p) x h r → StatesAll v r ss ys u → LeadsTo (enter p) u
arm_leads o v p x ss h ys r u i j = leads_on (enter p) r u (head_leads o (enter p) x h r i) (all_lead v r ss ys u j)
