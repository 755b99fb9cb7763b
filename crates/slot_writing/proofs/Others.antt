-- Which forms of the code the parts of a module have, told by their views.
use Rattle.std.proofs.Common.{◌≡◌, ℕ, ℤ, List, [], Option, None, Vec, Box, Global, refl, sym, ap, ◌∙◌, subst}
use Rattle.limbo_types.specs.declared.ty.Ty as code_ty
use Rattle.limbo_types.specs.declared.ty.Ty.TheVariants as make_ty
use Rattle.limbo_types.specs.Types.{Ty}
use Rattle.limbo_types.specs.Types as types
use Rattle.limbo_types.specs.View.{view_ty}
use Rattle.limbo_types.proofs.Forms.{HasForm, has_form}
use Rattle.limbo_values.specs.declared.number.Kind.TheVariants as kind
use Rattle.limbo_typed.specs.declared.operation.Operation.{Operation}
use Rattle.limbo_typed.specs.declared.operation.Connective.{Connective}
use Rattle.limbo_typed.specs.declared.operation.Given.{Given}
use Rattle.limbo_typed.specs.declared.print.Printed.{Printed}
use Rattle.limbo_typed.specs.declared.print.Piece.{Piece}
use Rattle.limbo_typed.specs.declared.expr.TExpr as code_expr
use Rattle.limbo_typed.specs.declared.expr.Place as code_place
use Rattle.limbo_typed.specs.declared.expr.PlaceNode as code_at
use Rattle.limbo_typed.specs.declared.expr.PlaceNode.{PlaceNode-F, out-PlaceNode, roll-PlaceNode, roll-out-PlaceNode, fold-roll-PlaceNode}
use Rattle.limbo_typed.specs.declared.expr.PlaceNode.TheVariants as make_place
use Rattle.limbo_typed.specs.declared.expr.Pattern as code_pattern
use Rattle.limbo_typed.specs.declared.expr.Pattern.{Pattern-F, out-Pattern, roll-Pattern, roll-out-Pattern, fold-roll-Pattern}
use Rattle.limbo_typed.specs.declared.expr.Pattern.TheVariants as make_pattern
use Rattle.limbo_typed.specs.declared.expr.TNode as code_node
use Rattle.limbo_typed.specs.declared.expr.TNode.{TNode-F, out-TNode, roll-TNode, roll-out-TNode, fold-roll-TNode}
use Rattle.limbo_typed.specs.declared.expr.TNode.TheVariants as make
use Rattle.limbo_typed.specs.declared.stmt.TStmt as code_stmt
use Rattle.limbo_typed.specs.declared.stmt.TStmt.{TStmt-F, out-TStmt, roll-TStmt, roll-out-TStmt, fold-roll-TStmt}
use Rattle.limbo_typed.specs.declared.stmt.TStmt.TheVariants as make_stmt
use Rattle.limbo_typed.specs.Typed as typed
use Rattle.limbo_typed.specs.View.{pattern_step, place_node_step, node_step, item_step, place_step, expr_step}
use Rattle.limbo_typed.specs.View.{view_pattern, view_place_node, view_node, view_item, view_place, view_expr, view_optional}
use Rattle.limbo_typed.specs.View.{stmt_step, alt_arm_step, case_arm_step, handler_arm_step, pick_arm_step}
use Rattle.limbo_typed.specs.View.{view_stmt, view_case_arm, view_alt_arm, view_pick_arm, view_handler_arm, view_boxed}
use Rattle.limbo_typed.proofs.View.{view_stmt-Block, view_stmt-Declare, view_stmt-Eval, view_stmt-If, view_stmt-While, view_stmt-Do}
use Rattle.limbo_typed.proofs.View.{view_stmt-For, view_stmt-Break, view_stmt-Continue, view_stmt-Return}
use Rattle.limbo_typed.proofs.View.{view_node-Number, view_node-Read, view_node-Apply, view_node-Lazy, view_node-Assign, view_node-Update}
use Rattle.limbo_typed.proofs.View.{view_node-Step, view_node-Call, view_node-Print, view_node-Load}
use Rattle.limbo_typed.proofs.View.{view_place_node-Local, view_place_node-Global, view_pattern-Place}
use Rattle.typed_meaning.specs.Trees as trees
use Rattle.typed_meaning.specs.Program.{place_node, place_to, node_of, as_printed, is_load}
use Rattle.typed_meaning.specs.Values.{kind_of}
use Rattle.typed_lower.specs.Statements.{number_kind, stmt_code, Around}
use Rattle.typed_lower.specs.Sizes.{node_size, inner_size, stmt_size}

abbrev Boxed : Type 0
Boxed = Box code_expr.TExpr Global

abbrev Exprs : Type 0
Exprs = Vec code_expr.TExpr Global

abbrev PlaceIn : Type 0
PlaceIn = Box code_place.Place Global

abbrev PatternIn : Type 0
PatternIn = Box code_pattern.Pattern Global

-- ---- types

pub no_byte : (t : code_ty.Ty) (u : trees.Term) → (t ≡ make_ty.Byte → ⊥) → as_printed (view_ty t) u ≡ u
no_byte t u p = go (view_ty t) (has_form t)
  where
    go : (v : Ty) → HasForm t v → as_printed v u ≡ u
    go types.Byte h = absurd (p h)
    go _ h = refl

pub other_kind : (t : code_ty.Ty) → (t ≡ make_ty.Byte → ⊥) → (t ≡ make_ty.Big → ⊥) → kind.Int ≡ kind_of (view_ty t)
other_kind t p q = go (view_ty t) (has_form t)
  where
    go : (v : Ty) → HasForm t v → kind.Int ≡ kind_of v
    go types.Byte h = absurd (p h)
    go types.Big h = absurd (q h)
    go _ h = refl

pub no_number : (t : code_ty.Ty) → (t ≡ make_ty.Byte → ⊥) → (t ≡ make_ty.Int → ⊥) → (t ≡ make_ty.Big → ⊥)
    → None ≡ number_kind (view_ty t)
no_number t p q r = go (view_ty t) (has_form t)
  where
    go : (v : Ty) → HasForm t v → None ≡ number_kind v
    go types.Byte h = absurd (p h)
    go types.Int h = absurd (q h)
    go types.Big h = absurd (r h)
    go _ h = refl

pub has_value : (t : code_ty.Ty) → (t ≡ make_ty.Nothing → ⊥) → 24 ≡ node_size (view_ty t)
has_value t p = go (view_ty t) (has_form t)
  where
    go : (v : Ty) → HasForm t v → 24 ≡ node_size v
    go types.Nothing h = absurd (p h)
    go _ h = refl

-- ---- places

abbrev HasAt : code_at.PlaceNode → typed.PlaceNode → Type 0
HasAt n (typed.Local x) = (y : ℕ) × (n ≡ make_place.Local y)
HasAt n (typed.Global x) = (y : ℕ) × (n ≡ make_place.Global y)
HasAt n _ = Unit {0}

has_at : (n : code_at.PlaceNode) → HasAt n (view_place_node n)
unfolding view_pattern view_place_node view_node view_item view_place view_expr view_optional
has_at n = go (out-PlaceNode n) (sym (roll-out-PlaceNode n))
  where
    is : (m : code_at.PlaceNode) (t : typed.PlaceNode) → n ≡ m → view_place_node m ≡ t → HasAt n t → HasAt n (view_place_node n)
    is m t at f h = subst (λ (z : typed.PlaceNode). HasAt n z) (sym (ap view_place_node at ∙ f)) h

    go : (y : PlaceNode-F _ _ _ _ _ _) → n ≡ roll-PlaceNode y → HasAt n (view_place_node n)
    go (PlaceNode-F.Local x) at =
        let p : n ≡ make_place.Local x = at ∙ make_place.rolls-Local x in is _ _ p (view_place_node-Local x) (x, p)
    go (PlaceNode-F.Global x) at =
        let p : n ≡ make_place.Global x = at ∙ make_place.rolls-Global x in is _ _ p (view_place_node-Global x) (x, p)
    go y at = is _ _ at (fold-roll-PlaceNode _ _ _ _ _ _ pattern_step place_node_step node_step item_step place_step expr_step y) tt

pub no_at : (n : code_at.PlaceNode) → ((x : ℕ) → n ≡ make_place.Local x → ⊥) → ((x : ℕ) → n ≡ make_place.Global x → ⊥)
    → None ≡ place_node (view_place_node n)
no_at n p q = go (view_place_node n) (has_at n)
  where
    go : (t : typed.PlaceNode) → HasAt n t → None ≡ place_node t
    go (typed.Local x) h = absurd (p h.0 h.1)
    go (typed.Global x) h = absurd (q h.0 h.1)
    go _ h = refl

-- ---- patterns

abbrev HasPattern : code_pattern.Pattern → typed.Pattern → Type 0
HasPattern n (typed.ToPlace p) = (q : PlaceIn) × (n ≡ make_pattern.Place q)
HasPattern n _ = Unit {0}

has_pattern : (n : code_pattern.Pattern) → HasPattern n (view_pattern n)
unfolding view_pattern view_place_node view_node view_item view_place view_expr view_optional
has_pattern n = go (out-Pattern n) (sym (roll-out-Pattern n))
  where
    is : (m : code_pattern.Pattern) (t : typed.Pattern) → n ≡ m → view_pattern m ≡ t → HasPattern n t → HasPattern n (view_pattern n)
    is m t at f h = subst (λ (z : typed.Pattern). HasPattern n z) (sym (ap view_pattern at ∙ f)) h

    go : (y : Pattern-F _ _ _ _ _ _) → n ≡ roll-Pattern y → HasPattern n (view_pattern n)
    go (Pattern-F.Place q) at = let p : n ≡ make_pattern.Place q = at ∙ make_pattern.rolls-Place q in is _ _ p (view_pattern-Place q) (q, p)
    go y at = is _ _ at (fold-roll-Pattern _ _ _ _ _ _ pattern_step place_node_step node_step item_step place_step expr_step y) tt

pub to_no_place : (n : code_pattern.Pattern) → ((q : PlaceIn) → n ≡ make_pattern.Place q → ⊥) → None ≡ place_to (view_pattern n)
to_no_place n p = go (view_pattern n) (has_pattern n)
  where
    go : (t : typed.Pattern) → HasPattern n t → None ≡ place_to t
    go (typed.ToPlace q) h = absurd (p h.0 h.1)
    go _ h = refl

-- ---- nodes

abbrev HasNode : code_node.TNode → typed.Node → Type 0
HasNode n (typed.Number v) = (w : ℤ) × (n ≡ make.Number w)
HasNode n (typed.Read p) = (q : PlaceIn) × (n ≡ make.Read q)
HasNode n (typed.Apply o es) = (fs : Exprs) × (n ≡ make.Apply o fs)
HasNode n (typed.Lazy c l r) = (d : Connective) × (x : Boxed) × (y : Boxed) × (n ≡ make.Lazy d x y)
HasNode n (typed.Assign p e) = (q : PatternIn) × (f : Boxed) × (n ≡ make.Assign q f)
HasNode n (typed.Update o p e) = (q : PlaceIn) × (f : Boxed) × (n ≡ make.Update o q f)
HasNode n (typed.Step o g p) = (q : PlaceIn) × (n ≡ make.Step o g q)
HasNode n (typed.Call f es) = (g : ℕ) × (fs : Exprs) × (n ≡ make.Call g fs)
HasNode n (typed.Print w m file ps es) =
    (v : Printed) × (x : Boxed) × (y : Option Boxed) × (qs : Vec Piece Global) × (fs : Exprs) × (n ≡ make.Print v x y qs fs)
HasNode n (typed.Load i e) = (j : ℕ) × (f : Boxed) × (n ≡ make.Load j f)
HasNode n _ = Unit {0}

has_node : (n : code_node.TNode) → HasNode n (view_node n)
unfolding view_pattern view_place_node view_node view_item view_place view_expr view_optional
has_node n = go (out-TNode n) (sym (roll-out-TNode n))
  where
    is : (m : code_node.TNode) (t : typed.Node) → n ≡ m → view_node m ≡ t → HasNode n t → HasNode n (view_node n)
    is m t at f h = subst (λ (z : typed.Node). HasNode n z) (sym (ap view_node at ∙ f)) h

    go : (y : TNode-F _ _ _ _ _ _) → n ≡ roll-TNode y → HasNode n (view_node n)
    go (TNode-F.Number v) at = let p : n ≡ make.Number v = at ∙ make.rolls-Number v in is _ _ p (view_node-Number v) (v, p)
    go (TNode-F.Read q) at = let p : n ≡ make.Read q = at ∙ make.rolls-Read q in is _ _ p (view_node-Read q) (q, p)
    go (TNode-F.Apply o es) at = let p : n ≡ make.Apply o es = at ∙ make.rolls-Apply o es in is _ _ p (view_node-Apply o es) (es, p)
    go (TNode-F.Lazy c l r) at =
        let p : n ≡ make.Lazy c l r = at ∙ make.rolls-Lazy c l r in is _ _ p (view_node-Lazy c l r) (c, l, r, p)
    go (TNode-F.Assign q e) at = let p : n ≡ make.Assign q e = at ∙ make.rolls-Assign q e in is _ _ p (view_node-Assign q e) (q, e, p)
    go (TNode-F.Update o q e) at =
        let p : n ≡ make.Update o q e = at ∙ make.rolls-Update o q e in is _ _ p (view_node-Update o q e) (q, e, p)
    go (TNode-F.Step o g q) at = let p : n ≡ make.Step o g q = at ∙ make.rolls-Step o g q in is _ _ p (view_node-Step o g q) (q, p)
    go (TNode-F.Call f es) at = let p : n ≡ make.Call f es = at ∙ make.rolls-Call f es in is _ _ p (view_node-Call f es) (f, es, p)
    go (TNode-F.Print w m file ps es) at =
        let p : n ≡ make.Print w m file ps es = at ∙ make.rolls-Print w m file ps es in
        is _ _ p (view_node-Print w m file ps es) (w, m, file, ps, es, p)
    go (TNode-F.Load i e) at = let p : n ≡ make.Load i e = at ∙ make.rolls-Load i e in is _ _ p (view_node-Load i e) (i, e, p)
    go y at = is _ _ at (fold-roll-TNode _ _ _ _ _ _ pattern_step place_node_step node_step item_step place_step expr_step y) tt

pub no_term : (t : Ty) (n : code_node.TNode) → ((v : ℤ) → n ≡ make.Number v → ⊥) → ((q : PlaceIn) → n ≡ make.Read q → ⊥)
    → ((o : Operation) (es : Exprs) → n ≡ make.Apply o es → ⊥) → ((c : Connective) (l r : Boxed) → n ≡ make.Lazy c l r → ⊥)
    → ((q : PatternIn) (e : Boxed) → n ≡ make.Assign q e → ⊥) → ((o : Operation) (q : PlaceIn) (e : Boxed) → n ≡ make.Update o q e → ⊥)
    → ((o : Operation) (g : Given) (q : PlaceIn) → n ≡ make.Step o g q → ⊥) → ((f : ℕ) (es : Exprs) → n ≡ make.Call f es → ⊥)
    → ((w : Printed) (m : Boxed) (file : Option Boxed) (ps : Vec Piece Global) (es : Exprs) → n ≡ make.Print w m file ps es → ⊥)
    → trees.Missing ≡ node_of t (view_node n)
no_term t n number reads apply lazy assign update step call print = go (view_node n) (has_node n)
  where
    go : (m : typed.Node) → HasNode n m → trees.Missing ≡ node_of t m
    go (typed.Number v) h = absurd (number h.0 h.1)
    go (typed.Read p) h = absurd (reads h.0 h.1)
    go (typed.Apply o es) h = absurd (apply o h.0 h.1)
    go (typed.Lazy c l r) h = absurd (lazy h.0 h.1 h.2 h.3)
    go (typed.Assign p e) h = absurd (assign h.0 h.1 h.2)
    go (typed.Update o p e) h = absurd (update o h.0 h.1 h.2)
    go (typed.Step o g p) h = absurd (step o g h.0 h.1)
    go (typed.Call f es) h = absurd (call h.0 h.1 h.2)
    go (typed.Print w m file ps es) h = absurd (print h.0 h.1 h.2 h.3 h.4 h.5)
    go _ h = refl

pub no_size : (n : code_node.TNode) → ((o : Operation) (es : Exprs) → n ≡ make.Apply o es → ⊥)
    → ((c : Connective) (l r : Boxed) → n ≡ make.Lazy c l r → ⊥) → ((q : PatternIn) (e : Boxed) → n ≡ make.Assign q e → ⊥)
    → ((o : Operation) (q : PlaceIn) (e : Boxed) → n ≡ make.Update o q e → ⊥)
    → ((o : Operation) (g : Given) (q : PlaceIn) → n ≡ make.Step o g q → ⊥) → ((f : ℕ) (es : Exprs) → n ≡ make.Call f es → ⊥)
    → ((w : Printed) (m : Boxed) (file : Option Boxed) (ps : Vec Piece Global) (es : Exprs) → n ≡ make.Print w m file ps es → ⊥)
    → ((j : ℕ) (e : Boxed) → n ≡ make.Load j e → ⊥) → inner_size (view_node n) ≡ 0
no_size n apply lazy assign update step call print load = go (view_node n) (has_node n)
  where
    go : (m : typed.Node) → HasNode n m → inner_size m ≡ 0
    go (typed.Apply o es) h = absurd (apply o h.0 h.1)
    go (typed.Lazy c l r) h = absurd (lazy h.0 h.1 h.2 h.3)
    go (typed.Assign p e) h = absurd (assign h.0 h.1 h.2)
    go (typed.Update o p e) h = absurd (update o h.0 h.1 h.2)
    go (typed.Step o g p) h = absurd (step o g h.0 h.1)
    go (typed.Call f es) h = absurd (call h.0 h.1 h.2)
    go (typed.Print w m file ps es) h = absurd (print h.0 h.1 h.2 h.3 h.4 h.5)
    go (typed.Load i e) h = absurd (load h.0 h.1 h.2)
    go _ h = refl

pub assigns_not : (n : code_node.TNode) → ((q : PatternIn) (e : Boxed) → n ≡ make.Assign q e → ⊥) → None ≡ is_load (view_node n)
assigns_not n assign = go (view_node n) (has_node n)
  where
    go : (m : typed.Node) → HasNode n m → None ≡ is_load m
    go (typed.Assign p e) h = absurd (assign h.0 h.1 h.2)
    go _ h = refl

pub loads_not : (n : code_node.TNode) (p : typed.Pattern) (t : Ty) → ((j : ℕ) (e : Boxed) → n ≡ make.Load j e → ⊥)
    → None ≡ is_load (typed.Assign p (typed.Of t (view_node n)))
loads_not n p t load = go (view_node n) (has_node n)
  where
    go : (m : typed.Node) → HasNode n m → None ≡ is_load (typed.Assign p (typed.Of t m))
    go (typed.Load i e) h = absurd (load h.0 h.1 h.2)
    go _ h = refl

-- ---- statements

abbrev Stmts : Type 0
Stmts = Vec code_stmt.TStmt Global

abbrev HasStmt : code_stmt.TStmt → typed.Stmt → Type 0
HasStmt n (typed.Block ss) = (xs : Stmts) × (n ≡ make_stmt.Block xs)
HasStmt n (typed.Declare xs e) = (ys : Vec ℕ Global) × (f : Option Boxed) × (n ≡ make_stmt.Declare ys f)
HasStmt n (typed.Eval e) = (f : Boxed) × (n ≡ make_stmt.Eval f)
HasStmt n (typed.If c ss others) = (f : Boxed) × (xs : Stmts) × (ys : Stmts) × (n ≡ make_stmt.If f xs ys)
HasStmt n (typed.While c ss) = (f : Option Boxed) × (xs : Stmts) × (n ≡ make_stmt.While f xs)
HasStmt n (typed.Do ss c) = (xs : Stmts) × (f : Option Boxed) × (n ≡ make_stmt.Do xs f)
HasStmt n (typed.For a c b ss) =
    (f : Option Boxed) × (g : Option Boxed) × (h : Option Boxed) × (xs : Stmts) × (n ≡ make_stmt.For f g h xs)
HasStmt n (typed.Break x) = (y : ℕ) × (n ≡ make_stmt.Break y)
HasStmt n (typed.Continue x) = (y : ℕ) × (n ≡ make_stmt.Continue y)
HasStmt n (typed.Return e) = (f : Option Boxed) × (n ≡ make_stmt.Return f)
HasStmt n _ = Unit {0}

has_stmt : (n : code_stmt.TStmt) → HasStmt n (view_stmt n)
unfolding view_stmt view_case_arm view_alt_arm view_pick_arm view_handler_arm view_boxed
has_stmt n = go (out-TStmt n) (sym (roll-out-TStmt n))
  where
    is : (m : code_stmt.TStmt) (t : typed.Stmt) → n ≡ m → view_stmt m ≡ t → HasStmt n t → HasStmt n (view_stmt n)
    is m t at f h = subst (λ (z : typed.Stmt). HasStmt n z) (sym (ap view_stmt at ∙ f)) h

    go : (y : TStmt-F _ _ _ _ _) → n ≡ roll-TStmt y → HasStmt n (view_stmt n)
    go (TStmt-F.Block ss) at = let p : n ≡ make_stmt.Block ss = at ∙ make_stmt.rolls-Block ss in is _ _ p (view_stmt-Block ss) (ss, p)
    go (TStmt-F.Declare xs e) at =
        let p : n ≡ make_stmt.Declare xs e = at ∙ make_stmt.rolls-Declare xs e in is _ _ p (view_stmt-Declare xs e) (xs, e, p)
    go (TStmt-F.Eval e) at = let p : n ≡ make_stmt.Eval e = at ∙ make_stmt.rolls-Eval e in is _ _ p (view_stmt-Eval e) (e, p)
    go (TStmt-F.If c ss others) at =
        let p : n ≡ make_stmt.If c ss others = at ∙ make_stmt.rolls-If c ss others in
        is _ _ p (view_stmt-If c ss others) (c, ss, others, p)
    go (TStmt-F.While c ss) at =
        let p : n ≡ make_stmt.While c ss = at ∙ make_stmt.rolls-While c ss in is _ _ p (view_stmt-While c ss) (c, ss, p)
    go (TStmt-F.Do ss c) at = let p : n ≡ make_stmt.Do ss c = at ∙ make_stmt.rolls-Do ss c in is _ _ p (view_stmt-Do ss c) (ss, c, p)
    go (TStmt-F.For a c b ss) at =
        let p : n ≡ make_stmt.For a c b ss = at ∙ make_stmt.rolls-For a c b ss in
        is _ _ p (view_stmt-For a c b ss) (a, c, b, ss, p)
    go (TStmt-F.Break x) at = let p : n ≡ make_stmt.Break x = at ∙ make_stmt.rolls-Break x in is _ _ p (view_stmt-Break x) (x, p)
    go (TStmt-F.Continue x) at = let p : n ≡ make_stmt.Continue x = at
        ∙ make_stmt.rolls-Continue x in is _ _ p (view_stmt-Continue x) (x, p)
    go (TStmt-F.Return e) at = let p : n ≡ make_stmt.Return e = at ∙ make_stmt.rolls-Return e in is _ _ p (view_stmt-Return e) (e, p)
    go y at = is _ _ at (fold-roll-TStmt _ _ _ _ _ stmt_step alt_arm_step case_arm_step handler_arm_step pick_arm_step y) tt

pub no_stmt_size : (n : code_stmt.TStmt) → ((ss : Stmts) → n ≡ make_stmt.Block ss → ⊥)
    → ((xs : Vec ℕ Global) (e : Option Boxed) → n ≡ make_stmt.Declare xs e → ⊥) → ((e : Boxed) → n ≡ make_stmt.Eval e → ⊥)
    → ((c : Boxed) (ss others : Stmts) → n ≡ make_stmt.If c ss others → ⊥)
    → ((c : Option Boxed) (ss : Stmts) → n ≡ make_stmt.While c ss → ⊥) → ((ss : Stmts) (c : Option Boxed) → n ≡ make_stmt.Do ss c → ⊥)
    → ((a c b : Option Boxed) (ss : Stmts) → n ≡ make_stmt.For a c b ss → ⊥) → ((e : Option Boxed) → n ≡ make_stmt.Return e → ⊥)
    → stmt_size (view_stmt n) ≡ 0
no_stmt_size n block declare evals chooses loops does counts returns = go (view_stmt n) (has_stmt n)
  where
    go : (s : typed.Stmt) → HasStmt n s → stmt_size s ≡ 0
    go (typed.Block ss) h = absurd (block h.0 h.1)
    go (typed.Declare xs e) h = absurd (declare h.0 h.1 h.2)
    go (typed.Eval e) h = absurd (evals h.0 h.1)
    go (typed.If c ss others) h = absurd (chooses h.0 h.1 h.2 h.3)
    go (typed.While c ss) h = absurd (loops h.0 h.1 h.2)
    go (typed.Do ss c) h = absurd (does h.0 h.1 h.2)
    go (typed.For a c b ss) h = absurd (counts h.0 h.1 h.2 h.3 h.4)
    go (typed.Return e) h = absurd (returns h.0 h.1)
    go _ h = refl

pub no_stmt_code : (types : List Ty) (arounds : List Around) (n : code_stmt.TStmt) → ((ss : Stmts) → n ≡ make_stmt.Block ss → ⊥)
    → ((xs : Vec ℕ Global) (e : Option Boxed) → n ≡ make_stmt.Declare xs e → ⊥) → ((e : Boxed) → n ≡ make_stmt.Eval e → ⊥)
    → ((c : Boxed) (ss others : Stmts) → n ≡ make_stmt.If c ss others → ⊥)
    → ((c : Option Boxed) (ss : Stmts) → n ≡ make_stmt.While c ss → ⊥) → ((ss : Stmts) (c : Option Boxed) → n ≡ make_stmt.Do ss c → ⊥)
    → ((a c b : Option Boxed) (ss : Stmts) → n ≡ make_stmt.For a c b ss → ⊥) → ((x : ℕ) → n ≡ make_stmt.Break x → ⊥)
    → ((x : ℕ) → n ≡ make_stmt.Continue x → ⊥) → ((e : Option Boxed) → n ≡ make_stmt.Return e → ⊥)
    → stmt_code types arounds (view_stmt n) ≡ []
no_stmt_code types arounds n block declare evals chooses loops does counts breaks continues returns = go (view_stmt n) (has_stmt n)
  where
    go : (s : typed.Stmt) → HasStmt n s → stmt_code types arounds s ≡ []
    go (typed.Block ss) h = absurd (block h.0 h.1)
    go (typed.Declare xs e) h = absurd (declare h.0 h.1 h.2)
    go (typed.Eval e) h = absurd (evals h.0 h.1)
    go (typed.If c ss others) h = absurd (chooses h.0 h.1 h.2 h.3)
    go (typed.While c ss) h = absurd (loops h.0 h.1 h.2)
    go (typed.Do ss c) h = absurd (does h.0 h.1 h.2)
    go (typed.For a c b ss) h = absurd (counts h.0 h.1 h.2 h.3 h.4)
    go (typed.Break x) h = absurd (breaks h.0 h.1)
    go (typed.Continue x) h = absurd (continues h.0 h.1)
    go (typed.Return e) h = absurd (returns h.0 h.1)
    go _ h = refl
