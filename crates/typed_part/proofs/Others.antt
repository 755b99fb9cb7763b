-- Which forms of the code the parts of a module have, told by their views.
use Rattle.std.proofs.Common.{◌≡◌, ℕ, ℤ, false, Option, None, Vec, Box, Global, refl, sym, ap, ◌∙◌, subst}
use Rattle.inf_text.specs.declared.text.Text.{Text}
use Rattle.limbo_types.specs.Types.{Ty}
use Rattle.limbo_typed.specs.declared.operation.Operation.{Operation}
use Rattle.limbo_typed.specs.declared.operation.Connective.{Connective}
use Rattle.limbo_typed.specs.declared.operation.Given.{Given}
use Rattle.limbo_typed.specs.declared.print.Printed.{Printed}
use Rattle.limbo_typed.specs.declared.print.Piece.{Piece}
use Rattle.limbo_typed.specs.declared.expr.TExpr as code_expr
use Rattle.limbo_typed.specs.declared.expr.Place as code_place
use Rattle.limbo_typed.specs.declared.expr.PlaceNode as code_at
use Rattle.limbo_typed.specs.declared.expr.PlaceNode.{PlaceNode-F, out-PlaceNode, roll-PlaceNode, roll-out-PlaceNode, fold-roll-PlaceNode}
use Rattle.limbo_typed.specs.declared.expr.PlaceNode.TheVariants as make_place
use Rattle.limbo_typed.specs.declared.expr.Pattern as code_pattern
use Rattle.limbo_typed.specs.declared.expr.Pattern.{Pattern-F, out-Pattern, roll-Pattern, roll-out-Pattern, fold-roll-Pattern}
use Rattle.limbo_typed.specs.declared.expr.Pattern.TheVariants as make_pattern
use Rattle.limbo_typed.specs.declared.expr.TNode as code_node
use Rattle.limbo_typed.specs.declared.expr.TNode.{TNode-F, out-TNode, roll-TNode, roll-out-TNode, fold-roll-TNode}
use Rattle.limbo_typed.specs.declared.expr.TNode.TheVariants as make
use Rattle.limbo_typed.specs.declared.stmt.TStmt as code_stmt
use Rattle.limbo_typed.specs.declared.stmt.TStmt.{TStmt-F, out-TStmt, roll-TStmt, roll-out-TStmt, fold-roll-TStmt}
use Rattle.limbo_typed.specs.declared.stmt.TStmt.TheVariants as make_stmt
use Rattle.limbo_typed.specs.Typed as tree
use Rattle.limbo_typed.specs.View.{pattern_step, place_node_step, node_step, item_step, place_step, expr_step}
use Rattle.limbo_typed.specs.View.{view_pattern, view_place_node, view_node, view_item, view_place, view_expr, view_optional}
use Rattle.limbo_typed.specs.View.{stmt_step, alt_arm_step, case_arm_step, handler_arm_step, pick_arm_step}
use Rattle.limbo_typed.specs.View.{view_stmt, view_case_arm, view_alt_arm, view_pick_arm, view_handler_arm, view_boxed}
use Rattle.limbo_typed.proofs.View.{view_stmt-Empty, view_stmt-Block, view_stmt-Declare, view_stmt-Eval, view_stmt-If, view_stmt-While}
use Rattle.limbo_typed.proofs.View.{view_stmt-Do, view_stmt-For, view_stmt-Break, view_stmt-Continue, view_stmt-Return}
use Rattle.limbo_typed.proofs.View.{view_node-Number, view_node-Chars, view_node-Read, view_node-Apply, view_node-Assign, view_node-Call}
use Rattle.limbo_typed.proofs.View.{view_node-Lazy, view_node-Update, view_node-Step, view_node-Print, view_node-Load}
use Rattle.limbo_typed.proofs.View.{view_place_node-Local, view_place_node-Global, view_pattern-Place}
use Rattle.typed_part.specs.Part as part
use Rattle.typed_part.specs.Part.{Inside}

abbrev Boxed : Type 0
Boxed = Box code_expr.TExpr Global

abbrev Exprs : Type 0
Exprs = Vec code_expr.TExpr Global

abbrev PlaceIn : Type 0
PlaceIn = Box code_place.Place Global

abbrev PatternIn : Type 0
PatternIn = Box code_pattern.Pattern Global

-- ---- places

abbrev HasAt : code_at.PlaceNode → tree.PlaceNode → Type 0
HasAt n (tree.Local x) = (y : ℕ) × (n ≡ make_place.Local y)
HasAt n (tree.Global x) = (y : ℕ) × (n ≡ make_place.Global y)
HasAt n _ = Unit {0}

has_at : (n : code_at.PlaceNode) → HasAt n (view_place_node n)
unfolding view_pattern view_place_node view_node view_item view_place view_expr view_optional
has_at n = go (out-PlaceNode n) (sym (roll-out-PlaceNode n))
  where
    is : (m : code_at.PlaceNode) (t : tree.PlaceNode) → n ≡ m → view_place_node m ≡ t → HasAt n t → HasAt n (view_place_node n)
    is m t at f h = subst (λ (z : tree.PlaceNode). HasAt n z) (sym (ap view_place_node at ∙ f)) h

    go : (y : PlaceNode-F _ _ _ _ _ _) → n ≡ roll-PlaceNode y → HasAt n (view_place_node n)
    go (PlaceNode-F.Local x) at =
        let p : n ≡ make_place.Local x = at ∙ make_place.rolls-Local x in is _ _ p (view_place_node-Local x) (x, p)
    go (PlaceNode-F.Global x) at =
        let p : n ≡ make_place.Global x = at ∙ make_place.rolls-Global x in is _ _ p (view_place_node-Global x) (x, p)
    go y at = is _ _ at (fold-roll-PlaceNode _ _ _ _ _ _ pattern_step place_node_step node_step item_step place_step expr_step y) tt

pub no_variable : (i : Inside) (u : Ty) (n : code_at.PlaceNode) → ((x : ℕ) → n ≡ make_place.Local x → ⊥)
    → ((x : ℕ) → n ≡ make_place.Global x → ⊥) → false ≡ part.is_place i (tree.At u (view_place_node n))
no_variable i u n p q = go (view_place_node n) (has_at n)
  where
    go : (t : tree.PlaceNode) → HasAt n t → false ≡ part.is_place i (tree.At u t)
    go (tree.Local x) h = absurd (p h.0 h.1)
    go (tree.Global x) h = absurd (q h.0 h.1)
    go _ h = refl

pub no_global : (n : code_at.PlaceNode) → ((x : ℕ) → n ≡ make_place.Global x → ⊥) → None ≡ part.global_at (view_place_node n)
no_global n p = go (view_place_node n) (has_at n)
  where
    go : (t : tree.PlaceNode) → HasAt n t → None ≡ part.global_at t
    go (tree.Global x) h = absurd (p h.0 h.1)
    go _ h = refl

-- ---- patterns

abbrev HasPattern : code_pattern.Pattern → tree.Pattern → Type 0
HasPattern n (tree.ToPlace p) = (q : PlaceIn) × (n ≡ make_pattern.Place q)
HasPattern n _ = Unit {0}

has_pattern : (n : code_pattern.Pattern) → HasPattern n (view_pattern n)
unfolding view_pattern view_place_node view_node view_item view_place view_expr view_optional
has_pattern n = go (out-Pattern n) (sym (roll-out-Pattern n))
  where
    is : (m : code_pattern.Pattern) (t : tree.Pattern) → n ≡ m → view_pattern m ≡ t → HasPattern n t → HasPattern n (view_pattern n)
    is m t at f h = subst (λ (z : tree.Pattern). HasPattern n z) (sym (ap view_pattern at ∙ f)) h

    go : (y : Pattern-F _ _ _ _ _ _) → n ≡ roll-Pattern y → HasPattern n (view_pattern n)
    go (Pattern-F.Place q) at = let p : n ≡ make_pattern.Place q = at ∙ make_pattern.rolls-Place q in is _ _ p (view_pattern-Place q) (q, p)
    go y at = is _ _ at (fold-roll-Pattern _ _ _ _ _ _ pattern_step place_node_step node_step item_step place_step expr_step y) tt

pub to_no_place : (i : Inside) (u t : Ty) (n : code_pattern.Pattern) → ((q : PlaceIn) → n ≡ make_pattern.Place q → ⊥)
    → false ≡ part.assigns i (view_pattern n) u t
to_no_place i u t n p = go (view_pattern n) (has_pattern n)
  where
    go : (x : tree.Pattern) → HasPattern n x → false ≡ part.assigns i x u t
    go (tree.ToPlace q) h = absurd (p h.0 h.1)
    go _ h = refl

pub to_no_global : (n : code_pattern.Pattern) → ((q : PlaceIn) → n ≡ make_pattern.Place q → ⊥) → None ≡ part.global_to (view_pattern n)
to_no_global n p = go (view_pattern n) (has_pattern n)
  where
    go : (t : tree.Pattern) → HasPattern n t → None ≡ part.global_to t
    go (tree.ToPlace q) h = absurd (p h.0 h.1)
    go _ h = refl

-- ---- nodes

abbrev HasNode : code_node.TNode → tree.Node → Type 0
HasNode n (tree.Number v) = (w : ℤ) × (n ≡ make.Number w)
HasNode n (tree.Chars v) = (t : Text) × (n ≡ make.Chars t)
HasNode n (tree.Read p) = (q : PlaceIn) × (n ≡ make.Read q)
HasNode n (tree.Apply o es) = (fs : Exprs) × (n ≡ make.Apply o fs)
HasNode n (tree.Lazy c l r) = (x : Boxed) × (y : Boxed) × (n ≡ make.Lazy c x y)
HasNode n (tree.Assign p e) = (q : PatternIn) × (f : Boxed) × (n ≡ make.Assign q f)
HasNode n (tree.Update o p e) = (q : PlaceIn) × (f : Boxed) × (n ≡ make.Update o q f)
HasNode n (tree.Step o g p) = (q : PlaceIn) × (n ≡ make.Step o g q)
HasNode n (tree.Call f es) = (g : ℕ) × (fs : Exprs) × (n ≡ make.Call g fs)
HasNode n (tree.Print w m file ps es) =
    (v : Printed) × (x : Boxed) × (y : Option Boxed) × (qs : Vec Piece Global) × (fs : Exprs) × (n ≡ make.Print v x y qs fs)
HasNode n (tree.Load i e) = (j : ℕ) × (f : Boxed) × (n ≡ make.Load j f)
HasNode n _ = Unit {0}

has_node : (n : code_node.TNode) → HasNode n (view_node n)
unfolding view_pattern view_place_node view_node view_item view_place view_expr view_optional
has_node n = go (out-TNode n) (sym (roll-out-TNode n))
  where
    is : (m : code_node.TNode) (t : tree.Node) → n ≡ m → view_node m ≡ t → HasNode n t → HasNode n (view_node n)
    is m t at f h = subst (λ (z : tree.Node). HasNode n z) (sym (ap view_node at ∙ f)) h

    go : (y : TNode-F _ _ _ _ _ _) → n ≡ roll-TNode y → HasNode n (view_node n)
    go (TNode-F.Number v) at = let p : n ≡ make.Number v = at ∙ make.rolls-Number v in is _ _ p (view_node-Number v) (v, p)
    go (TNode-F.Chars v) at = let p : n ≡ make.Chars v = at ∙ make.rolls-Chars v in is _ _ p (view_node-Chars v) (v, p)
    go (TNode-F.Read q) at = let p : n ≡ make.Read q = at ∙ make.rolls-Read q in is _ _ p (view_node-Read q) (q, p)
    go (TNode-F.Apply o es) at = let p : n ≡ make.Apply o es = at ∙ make.rolls-Apply o es in is _ _ p (view_node-Apply o es) (es, p)
    go (TNode-F.Lazy c l r) at = let p : n ≡ make.Lazy c l r = at ∙ make.rolls-Lazy c l r in is _ _ p (view_node-Lazy c l r) (l, r, p)
    go (TNode-F.Assign q e) at = let p : n ≡ make.Assign q e = at ∙ make.rolls-Assign q e in is _ _ p (view_node-Assign q e) (q, e, p)
    go (TNode-F.Update o q e) at =
        let p : n ≡ make.Update o q e = at ∙ make.rolls-Update o q e in is _ _ p (view_node-Update o q e) (q, e, p)
    go (TNode-F.Step o g q) at = let p : n ≡ make.Step o g q = at ∙ make.rolls-Step o g q in is _ _ p (view_node-Step o g q) (q, p)
    go (TNode-F.Call f es) at = let p : n ≡ make.Call f es = at ∙ make.rolls-Call f es in is _ _ p (view_node-Call f es) (f, es, p)
    go (TNode-F.Print w m file ps es) at =
        let p : n ≡ make.Print w m file ps es = at ∙ make.rolls-Print w m file ps es in
        is _ _ p (view_node-Print w m file ps es) (w, m, file, ps, es, p)
    go (TNode-F.Load i e) at = let p : n ≡ make.Load i e = at ∙ make.rolls-Load i e in is _ _ p (view_node-Load i e) (i, e, p)
    go y at = is _ _ at (fold-roll-TNode _ _ _ _ _ _ pattern_step place_node_step node_step item_step place_step expr_step y) tt

pub no_path : (n : code_node.TNode) → ((t : Text) → n ≡ make.Chars t → ⊥) → false ≡ part.is_path_node (view_node n)
no_path n p = go (view_node n) (has_node n)
  where
    go : (t : tree.Node) → HasNode n t → false ≡ part.is_path_node t
    go (tree.Chars s) h = absurd (p h.0 h.1)
    go _ h = refl

pub no_load : (system : Option ℕ) (n : code_node.TNode) → ((j : ℕ) (e : Boxed) → n ≡ make.Load j e → ⊥)
    → false ≡ part.is_load_node system (view_node n)
no_load system n p = go (view_node n) (has_node n)
  where
    go : (t : tree.Node) → HasNode n t → false ≡ part.is_load_node system t
    go (tree.Load i e) h = absurd (p h.0 h.1 h.2)
    go _ h = refl

pub reads_not : (n : code_node.TNode) → ((q : PlaceIn) → n ≡ make.Read q → ⊥) → None ≡ part.global_read (view_node n)
reads_not n p = go (view_node n) (has_node n)
  where
    go : (t : tree.Node) → HasNode n t → None ≡ part.global_read t
    go (tree.Read q) h = absurd (p h.0 h.1)
    go _ h = refl

pub loads_not : (system : Option ℕ) (n : code_node.TNode) → ((q : PatternIn) (e : Boxed) → n ≡ make.Assign q e → ⊥)
    → None ≡ part.loads_node system (view_node n)
loads_not system n p = go (view_node n) (has_node n)
  where
    go : (t : tree.Node) → HasNode n t → None ≡ part.loads_node system t
    go (tree.Assign a e) h = absurd (p h.0 h.1 h.2)
    go _ h = refl

pub no_node : (i : Inside) (u : Ty) (n : code_node.TNode) → ((v : ℤ) → n ≡ make.Number v → ⊥) → ((q : PlaceIn) → n ≡ make.Read q → ⊥)
    → ((o : Operation) (es : Exprs) → n ≡ make.Apply o es → ⊥) → ((c : Connective) (l r : Boxed) → n ≡ make.Lazy c l r → ⊥)
    → ((q : PatternIn) (e : Boxed) → n ≡ make.Assign q e → ⊥) → ((o : Operation) (q : PlaceIn) (e : Boxed) → n ≡ make.Update o q e → ⊥)
    → ((o : Operation) (g : Given) (q : PlaceIn) → n ≡ make.Step o g q → ⊥) → ((f : ℕ) (es : Exprs) → n ≡ make.Call f es → ⊥)
    → ((w : Printed) (m : Boxed) (file : Option Boxed) (ps : Vec Piece Global) (es : Exprs) → n ≡ make.Print w m file ps es → ⊥)
    → false ≡ part.is_node i u (view_node n)
no_node i u n number read apply lazy assign update step call print = go (view_node n) (has_node n)
  where
    go : (t : tree.Node) → HasNode n t → false ≡ part.is_node i u t
    go (tree.Number v) h = absurd (number h.0 h.1)
    go (tree.Read w) h = absurd (read h.0 h.1)
    go (tree.Apply o es) h = absurd (apply o h.0 h.1)
    go (tree.Lazy c l r) h = absurd (lazy c h.0 h.1 h.2)
    go (tree.Assign p e) h = absurd (assign h.0 h.1 h.2)
    go (tree.Update o p e) h = absurd (update o h.0 h.1 h.2)
    go (tree.Step o g p) h = absurd (step o g h.0 h.1)
    go (tree.Call f es) h = absurd (call h.0 h.1 h.2)
    go (tree.Print w m file ps es) h = absurd (print h.0 h.1 h.2 h.3 h.4 h.5)
    go _ h = refl

-- ---- statements

abbrev Stmts : Type 0
Stmts = Vec code_stmt.TStmt Global

abbrev HasStmt : code_stmt.TStmt → tree.Stmt → Type 0
HasStmt n tree.Empty = n ≡ make_stmt.Empty
HasStmt n (tree.Block ss) = (xs : Stmts) × (n ≡ make_stmt.Block xs)
HasStmt n (tree.Declare xs e) = (ys : Vec ℕ Global) × (f : Option Boxed) × (n ≡ make_stmt.Declare ys f)
HasStmt n (tree.Eval e) = (f : Boxed) × (n ≡ make_stmt.Eval f)
HasStmt n (tree.If c ss others) = (f : Boxed) × (xs : Stmts) × (ys : Stmts) × (n ≡ make_stmt.If f xs ys)
HasStmt n (tree.While c ss) = (f : Option Boxed) × (xs : Stmts) × (n ≡ make_stmt.While f xs)
HasStmt n (tree.Do ss c) = (xs : Stmts) × (f : Option Boxed) × (n ≡ make_stmt.Do xs f)
HasStmt n (tree.For a c b ss) =
    (f : Option Boxed) × (g : Option Boxed) × (h : Option Boxed) × (xs : Stmts) × (n ≡ make_stmt.For f g h xs)
HasStmt n (tree.Break k) = n ≡ make_stmt.Break k
HasStmt n (tree.Continue k) = n ≡ make_stmt.Continue k
HasStmt n (tree.Return e) = (f : Option Boxed) × (n ≡ make_stmt.Return f)
HasStmt n _ = Unit {0}

has_stmt : (n : code_stmt.TStmt) → HasStmt n (view_stmt n)
unfolding view_stmt view_case_arm view_alt_arm view_pick_arm view_handler_arm view_boxed
has_stmt n = go (out-TStmt n) (sym (roll-out-TStmt n))
  where
    is : (m : code_stmt.TStmt) (t : tree.Stmt) → n ≡ m → view_stmt m ≡ t → HasStmt n t → HasStmt n (view_stmt n)
    is m t at f h = subst (λ (z : tree.Stmt). HasStmt n z) (sym (ap view_stmt at ∙ f)) h

    go : (y : TStmt-F _ _ _ _ _) → n ≡ roll-TStmt y → HasStmt n (view_stmt n)
    go TStmt-F.Empty at = let p : n ≡ make_stmt.Empty = at ∙ make_stmt.rolls-Empty in is _ _ p view_stmt-Empty p
    go (TStmt-F.Block ss) at = let p : n ≡ make_stmt.Block ss = at ∙ make_stmt.rolls-Block ss in is _ _ p (view_stmt-Block ss) (ss, p)
    go (TStmt-F.Declare xs e) at =
        let p : n ≡ make_stmt.Declare xs e = at ∙ make_stmt.rolls-Declare xs e in is _ _ p (view_stmt-Declare xs e) (xs, e, p)
    go (TStmt-F.Eval e) at = let p : n ≡ make_stmt.Eval e = at ∙ make_stmt.rolls-Eval e in is _ _ p (view_stmt-Eval e) (e, p)
    go (TStmt-F.If c ss others) at =
        let p : n ≡ make_stmt.If c ss others = at ∙ make_stmt.rolls-If c ss others in
        is _ _ p (view_stmt-If c ss others) (c, ss, others, p)
    go (TStmt-F.While c ss) at =
        let p : n ≡ make_stmt.While c ss = at ∙ make_stmt.rolls-While c ss in is _ _ p (view_stmt-While c ss) (c, ss, p)
    go (TStmt-F.Do ss c) at = let p : n ≡ make_stmt.Do ss c = at ∙ make_stmt.rolls-Do ss c in is _ _ p (view_stmt-Do ss c) (ss, c, p)
    go (TStmt-F.For a c b ss) at =
        let p : n ≡ make_stmt.For a c b ss = at ∙ make_stmt.rolls-For a c b ss in
        is _ _ p (view_stmt-For a c b ss) (a, c, b, ss, p)
    go (TStmt-F.Break k) at = let p : n ≡ make_stmt.Break k = at ∙ make_stmt.rolls-Break k in is _ _ p (view_stmt-Break k) p
    go (TStmt-F.Continue k) at = let p : n ≡ make_stmt.Continue k = at ∙ make_stmt.rolls-Continue k in is _ _ p (view_stmt-Continue k) p
    go (TStmt-F.Return e) at = let p : n ≡ make_stmt.Return e = at ∙ make_stmt.rolls-Return e in is _ _ p (view_stmt-Return e) (e, p)
    go y at = is _ _ at (fold-roll-TStmt _ _ _ _ _ stmt_step alt_arm_step case_arm_step handler_arm_step pick_arm_step y) tt

pub evaluates_not : (system : Option ℕ) (n : code_stmt.TStmt) → ((e : Boxed) → n ≡ make_stmt.Eval e → ⊥)
    → None ≡ part.loads_stmt system (view_stmt n)
evaluates_not system n p = go (view_stmt n) (has_stmt n)
  where
    go : (t : tree.Stmt) → HasStmt n t → None ≡ part.loads_stmt system t
    go (tree.Eval e) h = absurd (p h.0 h.1)
    go _ h = refl

pub no_stmt : (i : Inside) (loops : ℕ) (n : code_stmt.TStmt) → (n ≡ make_stmt.Empty → ⊥) → ((ss : Stmts) → n ≡ make_stmt.Block ss → ⊥)
    → ((xs : Vec ℕ Global) (e : Option Boxed) → n ≡ make_stmt.Declare xs e → ⊥) → ((e : Boxed) → n ≡ make_stmt.Eval e → ⊥)
    → ((c : Boxed) (ss others : Stmts) → n ≡ make_stmt.If c ss others → ⊥)
    → ((c : Option Boxed) (ss : Stmts) → n ≡ make_stmt.While c ss → ⊥)
    → ((ss : Stmts) (c : Option Boxed) → n ≡ make_stmt.Do ss c → ⊥)
    → ((a c b : Option Boxed) (ss : Stmts) → n ≡ make_stmt.For a c b ss → ⊥) → ((k : ℕ) → n ≡ make_stmt.Break k → ⊥)
    → ((k : ℕ) → n ≡ make_stmt.Continue k → ⊥) → ((e : Option Boxed) → n ≡ make_stmt.Return e → ⊥)
    → false ≡ part.is_stmt i loops (view_stmt n)
no_stmt i loops n empty block declare eval choice while_loop do_loop for_loop break continue return =
    go (view_stmt n) (has_stmt n)
  where
    go : (t : tree.Stmt) → HasStmt n t → false ≡ part.is_stmt i loops t
    go tree.Empty h = absurd (empty h)
    go (tree.Block ss) h = absurd (block h.0 h.1)
    go (tree.Declare xs e) h = absurd (declare h.0 h.1 h.2)
    go (tree.Eval e) h = absurd (eval h.0 h.1)
    go (tree.If c ss others) h = absurd (choice h.0 h.1 h.2 h.3)
    go (tree.While c ss) h = absurd (while_loop h.0 h.1 h.2)
    go (tree.Do ss c) h = absurd (do_loop h.0 h.1 h.2)
    go (tree.For a c b ss) h = absurd (for_loop h.0 h.1 h.2 h.3 h.4)
    go (tree.Break k) h = absurd (break k h)
    go (tree.Continue k) h = absurd (continue k h)
    go (tree.Return e) h = absurd (return h.0 h.1)
    go _ h = refl
