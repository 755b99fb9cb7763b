-- Which forms of the code nodes and statements have, told by their views.
use Rattle.std.proofs.Common.{◌≡◌, ℕ, List, Option, None, Vec, Box, Global, refl, sym, ap, ◌∙◌, subst}
use Rattle.limbo_types.specs.Types.{Ty}
use Rattle.limbo_typed.specs.declared.expr.TExpr as code_expr
use Rattle.limbo_typed.specs.declared.expr.Pattern as code_pattern
use Rattle.limbo_typed.specs.declared.expr.TNode as code_node
use Rattle.limbo_typed.specs.declared.expr.TNode.{TNode-F, out-TNode, roll-TNode, roll-out-TNode, fold-roll-TNode}
use Rattle.limbo_typed.specs.declared.expr.TNode.TheVariants as make
use Rattle.limbo_typed.specs.declared.stmt.TStmt as code_stmt
use Rattle.limbo_typed.specs.declared.stmt.TStmt.{TStmt-F, out-TStmt, roll-TStmt, roll-out-TStmt, fold-roll-TStmt}
use Rattle.limbo_typed.specs.declared.stmt.TStmt.TheVariants as make_stmt
use Rattle.limbo_typed.specs.Typed as typed
use Rattle.limbo_typed.specs.View.{pattern_step, place_node_step, node_step, item_step, place_step, expr_step}
use Rattle.limbo_typed.specs.View.{view_pattern, view_place_node, view_node, view_item, view_place, view_expr, view_optional}
use Rattle.limbo_typed.specs.View.{stmt_step, alt_arm_step, case_arm_step, handler_arm_step, pick_arm_step}
use Rattle.limbo_typed.specs.View.{view_stmt, view_case_arm, view_alt_arm, view_pick_arm, view_handler_arm, view_boxed}
use Rattle.limbo_typed.proofs.View.{view_stmt-Block, view_stmt-Declare, view_stmt-Eval, view_stmt-If, view_stmt-While, view_stmt-Do}
use Rattle.limbo_typed.proofs.View.{view_stmt-For, view_stmt-Break, view_stmt-Continue, view_stmt-Return}
use Rattle.limbo_typed.proofs.View.{view_node-Assign, view_node-Load}
use Rattle.limbo_meaning.specs.Program.{is_load, before}
use Rattle.limbo_meaning.specs.Trees.{Stm, Over, Eval, Missing, Block, Then}

abbrev Boxed : Type 0
Boxed = Box code_expr.TExpr Global

abbrev PatternIn : Type 0
PatternIn = Box code_pattern.Pattern Global

-- ---- nodes

abbrev HasNode : code_node.TNode → typed.Node → Type 0
HasNode n (typed.Assign p e) = (q : PatternIn) × (f : Boxed) × (n ≡ make.Assign q f)
HasNode n (typed.Load i e) = (j : ℕ) × (f : Boxed) × (n ≡ make.Load j f)
HasNode n _ = Unit {0}

has_node : (n : code_node.TNode) → HasNode n (view_node n)
unfolding view_pattern view_place_node view_node view_item view_place view_expr view_optional
has_node n = go (out-TNode n) (sym (roll-out-TNode n))
  where
    is : (m : code_node.TNode) (t : typed.Node) → n ≡ m → view_node m ≡ t → HasNode n t → HasNode n (view_node n)
    is m t at f h = subst (λ (z : typed.Node). HasNode n z) (sym (ap view_node at ∙ f)) h

    go : (y : TNode-F _ _ _ _ _ _) → n ≡ roll-TNode y → HasNode n (view_node n)
    go (TNode-F.Assign q e) at = let p : n ≡ make.Assign q e = at ∙ make.rolls-Assign q e in is _ _ p (view_node-Assign q e) (q, e, p)
    go (TNode-F.Load i e) at = let p : n ≡ make.Load i e = at ∙ make.rolls-Load i e in is _ _ p (view_node-Load i e) (i, e, p)
    go y at = is _ _ at (fold-roll-TNode _ _ _ _ _ _ pattern_step place_node_step node_step item_step place_step expr_step y) tt

pub assigns_not : (n : code_node.TNode) → ((q : PatternIn) (e : Boxed) → n ≡ make.Assign q e → ⊥) → None ≡ is_load (view_node n)
assigns_not n assign = go (view_node n) (has_node n)
  where
    go : (m : typed.Node) → HasNode n m → None ≡ is_load m
    go (typed.Assign p e) h = absurd (assign h.0 h.1 h.2)
    go _ h = refl

pub loads_not : (n : code_node.TNode) (p : typed.Pattern) (t : Ty) → ((j : ℕ) (e : Boxed) → n ≡ make.Load j e → ⊥)
    → None ≡ is_load (typed.Assign p (typed.Of t (view_node n)))
loads_not n p t load = go (view_node n) (has_node n)
  where
    go : (m : typed.Node) → HasNode n m → None ≡ is_load (typed.Assign p (typed.Of t m))
    go (typed.Load i e) h = absurd (load h.0 h.1 h.2)
    go _ h = refl

-- ---- statements

abbrev Stmts : Type 0
Stmts = Vec code_stmt.TStmt Global

abbrev HasStmt : code_stmt.TStmt → typed.Stmt → Type 0
HasStmt n (typed.Block ss) = (xs : Stmts) × (n ≡ make_stmt.Block xs)
HasStmt n (typed.Declare xs e) = (ys : Vec ℕ Global) × (f : Option Boxed) × (n ≡ make_stmt.Declare ys f)
HasStmt n (typed.Eval e) = (f : Boxed) × (n ≡ make_stmt.Eval f)
HasStmt n (typed.If c ss others) = (f : Boxed) × (xs : Stmts) × (ys : Stmts) × (n ≡ make_stmt.If f xs ys)
HasStmt n (typed.While c ss) = (f : Option Boxed) × (xs : Stmts) × (n ≡ make_stmt.While f xs)
HasStmt n (typed.Do ss c) = (xs : Stmts) × (f : Option Boxed) × (n ≡ make_stmt.Do xs f)
HasStmt n (typed.For a c b ss) =
    (f : Option Boxed) × (g : Option Boxed) × (h : Option Boxed) × (xs : Stmts) × (n ≡ make_stmt.For f g h xs)
HasStmt n (typed.Break x) = (y : ℕ) × (n ≡ make_stmt.Break y)
HasStmt n (typed.Continue x) = (y : ℕ) × (n ≡ make_stmt.Continue y)
HasStmt n (typed.Return e) = (f : Option Boxed) × (n ≡ make_stmt.Return f)
HasStmt n _ = Unit {0}

has_stmt : (n : code_stmt.TStmt) → HasStmt n (view_stmt n)
unfolding view_stmt view_case_arm view_alt_arm view_pick_arm view_handler_arm view_boxed
has_stmt n = go (out-TStmt n) (sym (roll-out-TStmt n))
  where
    is : (m : code_stmt.TStmt) (t : typed.Stmt) → n ≡ m → view_stmt m ≡ t → HasStmt n t → HasStmt n (view_stmt n)
    is m t at f h = subst (λ (z : typed.Stmt). HasStmt n z) (sym (ap view_stmt at ∙ f)) h

    go : (y : TStmt-F _ _ _ _ _) → n ≡ roll-TStmt y → HasStmt n (view_stmt n)
    go (TStmt-F.Block ss) at = let p : n ≡ make_stmt.Block ss = at ∙ make_stmt.rolls-Block ss in is _ _ p (view_stmt-Block ss) (ss, p)
    go (TStmt-F.Declare xs e) at =
        let p : n ≡ make_stmt.Declare xs e = at ∙ make_stmt.rolls-Declare xs e in is _ _ p (view_stmt-Declare xs e) (xs, e, p)
    go (TStmt-F.Eval e) at = let p : n ≡ make_stmt.Eval e = at ∙ make_stmt.rolls-Eval e in is _ _ p (view_stmt-Eval e) (e, p)
    go (TStmt-F.If c ss others) at =
        let p : n ≡ make_stmt.If c ss others = at ∙ make_stmt.rolls-If c ss others in
        is _ _ p (view_stmt-If c ss others) (c, ss, others, p)
    go (TStmt-F.While c ss) at =
        let p : n ≡ make_stmt.While c ss = at ∙ make_stmt.rolls-While c ss in is _ _ p (view_stmt-While c ss) (c, ss, p)
    go (TStmt-F.Do ss c) at = let p : n ≡ make_stmt.Do ss c = at ∙ make_stmt.rolls-Do ss c in is _ _ p (view_stmt-Do ss c) (ss, c, p)
    go (TStmt-F.For a c b ss) at =
        let p : n ≡ make_stmt.For a c b ss = at ∙ make_stmt.rolls-For a c b ss in
        is _ _ p (view_stmt-For a c b ss) (a, c, b, ss, p)
    go (TStmt-F.Break x) at = let p : n ≡ make_stmt.Break x = at ∙ make_stmt.rolls-Break x in is _ _ p (view_stmt-Break x) (x, p)
    go (TStmt-F.Continue x) at = let p : n ≡ make_stmt.Continue x = at
        ∙ make_stmt.rolls-Continue x in is _ _ p (view_stmt-Continue x) (x, p)
    go (TStmt-F.Return e) at = let p : n ≡ make_stmt.Return e = at ∙ make_stmt.rolls-Return e in is _ _ p (view_stmt-Return e) (e, p)
    go y at = is _ _ at (fold-roll-TStmt _ _ _ _ _ stmt_step alt_arm_step case_arm_step handler_arm_step pick_arm_step y) tt

-- What is no statement of this part does nothing.
abbrev pub IsIdle : Stm → Type 0
IsIdle Over = Unit {0}
IsIdle (Eval Missing) = Unit {0}
IsIdle _ = ⊥

pub record IdleThen (b now : Block) : Type 0 where
  pub stm : Stm
  pub idle : IsIdle stm
  pub is : now ≡ Then stm b

pub other_idle : (types : List Ty) (n : code_stmt.TStmt) (b : Block) → ((ss : Stmts) → n ≡ make_stmt.Block ss → ⊥)
    → ((xs : Vec ℕ Global) (e : Option Boxed) → n ≡ make_stmt.Declare xs e → ⊥) → ((e : Boxed) → n ≡ make_stmt.Eval e → ⊥)
    → ((c : Boxed) (ss others : Stmts) → n ≡ make_stmt.If c ss others → ⊥)
    → ((c : Option Boxed) (ss : Stmts) → n ≡ make_stmt.While c ss → ⊥) → ((ss : Stmts) (c : Option Boxed) → n ≡ make_stmt.Do ss c → ⊥)
    → ((a c b : Option Boxed) (ss : Stmts) → n ≡ make_stmt.For a c b ss → ⊥) → ((x : ℕ) → n ≡ make_stmt.Break x → ⊥)
    → ((x : ℕ) → n ≡ make_stmt.Continue x → ⊥) → ((e : Option Boxed) → n ≡ make_stmt.Return e → ⊥)
    → IdleThen b (before types (view_stmt n) b)
other_idle types n b block declare evals chooses loops does counts breaks continues returns = go (view_stmt n) (has_stmt n)
  where
    go : (s : typed.Stmt) → HasStmt n s → IdleThen b (before types s b)
    go typed.Empty h = record { stm = Over; idle = tt; is = refl }
    go (typed.Block ss) h = absurd (block h.0 h.1)
    go (typed.Declare xs e) h = absurd (declare h.0 h.1 h.2)
    go (typed.Eval e) h = absurd (evals h.0 h.1)
    go (typed.If c ss others) h = absurd (chooses h.0 h.1 h.2 h.3)
    go (typed.While c ss) h = absurd (loops h.0 h.1 h.2)
    go (typed.Do ss c) h = absurd (does h.0 h.1 h.2)
    go (typed.For a c d ss) h = absurd (counts h.0 h.1 h.2 h.3 h.4)
    go (typed.Break x) h = absurd (breaks h.0 h.1)
    go (typed.Continue x) h = absurd (continues h.0 h.1)
    go (typed.Return e) h = absurd (returns h.0 h.1)
    go _ h = record { stm = Eval Missing; idle = tt; is = refl }
