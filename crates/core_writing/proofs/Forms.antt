-- Which forms the nodes of the code have, told by their views.
use Rattle.std.proofs.Common.{◌≡◌, ℕ, ℤ, List, Option, Vec, Box, Global, refl, sym, ap, ◌∙◌, subst}
use Rattle.inf_text.specs.declared.text.Text.{Text}
use Rattle.limbo_types.specs.declared.ty.Ty.TheVariants as make_ty
use Rattle.limbo_types.specs.Types.{Ty}
use Rattle.limbo_types.specs.Types as types
use Rattle.limbo_types.proofs.Forms.{HasForm, has_form}
use Rattle.limbo_types.specs.View.{view_ty}
use Rattle.limbo_layout.specs.Adts.{Def}
use Rattle.limbo_typed.specs.declared.operation.Operation.{Operation}
use Rattle.limbo_typed.specs.declared.operation.Operation.TheVariants as operation
use Rattle.limbo_typed.specs.declared.operation.Connective.{Connective}
use Rattle.limbo_typed.specs.declared.operation.Given.{Given}
use Rattle.limbo_typed.specs.declared.print.Printed.{Printed}
use Rattle.limbo_typed.specs.declared.print.Printed.TheVariants as printed
use Rattle.limbo_typed.specs.declared.print.Piece.{Piece}
use Rattle.limbo_typed.specs.declared.expr.TExpr as code_expr
use Rattle.limbo_typed.specs.declared.expr.Item as code_item
use Rattle.limbo_typed.specs.declared.expr.Place as code_place
use Rattle.limbo_typed.specs.declared.expr.Pattern as code_pattern
use Rattle.limbo_typed.specs.declared.expr.TNode as code_node
use Rattle.limbo_typed.specs.declared.expr.TNode.{TNode-F, out-TNode, roll-TNode, roll-out-TNode}
use Rattle.limbo_typed.specs.declared.expr.TNode.TheVariants as make
use Rattle.limbo_typed.specs.Typed as typed
use Rattle.limbo_typed.specs.View.{view_pattern, view_place_node, view_node, view_item, view_place, view_expr, view_exprs, view_optional}
use Rattle.limbo_typed.proofs.View.{view_expr-out, view_node-Number, view_node-Chars, view_node-Nil, view_node-Read, view_node-Part}
use Rattle.limbo_typed.proofs.View.{view_node-Apply, view_node-Lazy, view_node-Assign, view_node-Update, view_node-Step, view_node-Copy}
use Rattle.limbo_typed.proofs.View.{view_node-Filled, view_node-Channel, view_node-Call, view_node-Print, view_node-OpenNil}
use Rattle.limbo_typed.proofs.View.{view_node-CallThrough, view_node-Load, view_node-Send, view_node-Receive}
use Rattle.limbo_meaning.specs.Trees.{Node, Terms, NoTerms}
use Rattle.limbo_meaning.specs.Program.{node_of, term_of, terms_of, operating}
use Rattle.core_code.specs.Terms.{LoweredAll, type_of, lower, lower_all}
use Rattle.core_writing.specs.Completed.{completed, unlowered}
use Rattle.core_writing.specs.Operands.{operands_in}
use Rattle.core_writing.specs.Operands as operands

abbrev pub Boxed : Type 0
Boxed = Box code_expr.TExpr Global

abbrev pub Exprs : Type 0
Exprs = Vec code_expr.TExpr Global

abbrev pub PlaceIn : Type 0
PlaceIn = Box code_place.Place Global

abbrev pub PatternIn : Type 0
PatternIn = Box code_pattern.Pattern Global

abbrev pub ItemsIn : Type 0
ItemsIn = Vec code_item.Item Global

abbrev pub HasNode : code_node.TNode → typed.Node → Type 0
HasNode n (typed.Number v) = (w : ℤ) × (n ≡ make.Number w)
HasNode n (typed.Chars s) = (w : Text) × (n ≡ make.Chars w)
HasNode n typed.Nil = n ≡ make.Nil
HasNode n (typed.Read p) = (q : PlaceIn) × (n ≡ make.Read q)
HasNode n (typed.Part e k) = (f : Boxed) × (j : ℕ) × (n ≡ make.Part f j)
HasNode n (typed.Apply o es) = (fs : Exprs) × (n ≡ make.Apply o fs)
HasNode n (typed.Lazy c l r) = (d : Connective) × (x : Boxed) × (y : Boxed) × (n ≡ make.Lazy d x y)
HasNode n (typed.Assign p e) = (q : PatternIn) × (f : Boxed) × (n ≡ make.Assign q f)
HasNode n (typed.Update o p e) = (q : PlaceIn) × (f : Boxed) × (n ≡ make.Update o q f)
HasNode n (typed.Step o g p) = (q : PlaceIn) × (n ≡ make.Step o g q)
HasNode n (typed.Copy a i e) = (b : Boxed) × (j : Boxed) × (f : Boxed) × (n ≡ make.Copy b j f)
HasNode n (typed.Filled l is rest) = (m : Option Boxed) × (js : ItemsIn) × (r : Option Boxed) × (n ≡ make.Filled m js r)
HasNode n (typed.Channel k) = (m : Option Boxed) × (n ≡ make.Channel m)
HasNode n (typed.Call f es) = (g : ℕ) × (fs : Exprs) × (n ≡ make.Call g fs)
HasNode n (typed.Print w m file ps es) =
    (v : Printed) × (x : Boxed) × (y : Option Boxed) × (qs : Vec Piece Global) × (fs : Exprs) × (n ≡ make.Print v x y qs fs)
HasNode n typed.OpenNil = n ≡ make.OpenNil
HasNode n (typed.CallThrough m k f es) = (x : Boxed) × (j : ℕ) × (g : ℕ) × (fs : Exprs) × (n ≡ make.CallThrough x j g fs)
HasNode n (typed.Load k e) = (j : ℕ) × (f : Boxed) × (n ≡ make.Load j f)
HasNode n (typed.Send c e) = (d : Boxed) × (f : Boxed) × (n ≡ make.Send d f)
HasNode n (typed.Receive c) = (d : Boxed) × (n ≡ make.Receive d)

pub has_node : (n : code_node.TNode) → HasNode n (view_node n)
unfolding view_pattern view_place_node view_node view_item view_place view_expr view_optional
has_node n = go (out-TNode n) (sym (roll-out-TNode n))
  where
    is : (m : code_node.TNode) (t : typed.Node) → n ≡ m → view_node m ≡ t → HasNode n t → HasNode n (view_node n)
    is m t at f h = subst (λ (z : typed.Node). HasNode n z) (sym (ap view_node at ∙ f)) h

    go : (y : TNode-F _ _ _ _ _ _) → n ≡ roll-TNode y → HasNode n (view_node n)
    go (TNode-F.Number v) at = let p : n ≡ make.Number v = at ∙ make.rolls-Number v in is _ _ p (view_node-Number v) (v, p)
    go (TNode-F.Chars s) at = let p : n ≡ make.Chars s = at ∙ make.rolls-Chars s in is _ _ p (view_node-Chars s) (s, p)
    go TNode-F.Nil at = let p : n ≡ make.Nil = at ∙ make.rolls-Nil in is _ _ p view_node-Nil p
    go (TNode-F.Read q) at = let p : n ≡ make.Read q = at ∙ make.rolls-Read q in is _ _ p (view_node-Read q) (q, p)
    go (TNode-F.Part e k) at = let p : n ≡ make.Part e k = at ∙ make.rolls-Part e k in is _ _ p (view_node-Part e k) (e, k, p)
    go (TNode-F.Apply o es) at = let p : n ≡ make.Apply o es = at ∙ make.rolls-Apply o es in is _ _ p (view_node-Apply o es) (es, p)
    go (TNode-F.Lazy c l r) at =
        let p : n ≡ make.Lazy c l r = at ∙ make.rolls-Lazy c l r in is _ _ p (view_node-Lazy c l r) (c, l, r, p)
    go (TNode-F.Assign q e) at = let p : n ≡ make.Assign q e = at ∙ make.rolls-Assign q e in is _ _ p (view_node-Assign q e) (q, e, p)
    go (TNode-F.Update o q e) at =
        let p : n ≡ make.Update o q e = at ∙ make.rolls-Update o q e in is _ _ p (view_node-Update o q e) (q, e, p)
    go (TNode-F.Step o g q) at = let p : n ≡ make.Step o g q = at ∙ make.rolls-Step o g q in is _ _ p (view_node-Step o g q) (q, p)
    go (TNode-F.Copy a i e) at =
        let p : n ≡ make.Copy a i e = at ∙ make.rolls-Copy a i e in is _ _ p (view_node-Copy a i e) (a, i, e, p)
    go (TNode-F.Filled l is' rest) at =
        let p : n ≡ make.Filled l is' rest = at ∙ make.rolls-Filled l is' rest in is _ _ p (view_node-Filled l is' rest) (l, is', rest, p)
    go (TNode-F.Channel k) at = let p : n ≡ make.Channel k = at ∙ make.rolls-Channel k in is _ _ p (view_node-Channel k) (k, p)
    go (TNode-F.Call f es) at = let p : n ≡ make.Call f es = at ∙ make.rolls-Call f es in is _ _ p (view_node-Call f es) (f, es, p)
    go (TNode-F.Print w m file ps es) at =
        let p : n ≡ make.Print w m file ps es = at ∙ make.rolls-Print w m file ps es in
        is _ _ p (view_node-Print w m file ps es) (w, m, file, ps, es, p)
    go TNode-F.OpenNil at = let p : n ≡ make.OpenNil = at ∙ make.rolls-OpenNil in is _ _ p view_node-OpenNil p
    go (TNode-F.CallThrough m k f es) at =
        let p : n ≡ make.CallThrough m k f es = at ∙ make.rolls-CallThrough m k f es in
        is _ _ p (view_node-CallThrough m k f es) (m, k, f, es, p)
    go (TNode-F.Load k e) at = let p : n ≡ make.Load k e = at ∙ make.rolls-Load k e in is _ _ p (view_node-Load k e) (k, e, p)
    go (TNode-F.Send c e) at = let p : n ≡ make.Send c e = at ∙ make.rolls-Send c e in is _ _ p (view_node-Send c e) (c, e, p)
    go (TNode-F.Receive c) at = let p : n ≡ make.Receive c = at ∙ make.rolls-Receive c in is _ _ p (view_node-Receive c) (c, p)

-- Of what has no operands.
pub no_operands : (e : code_expr.TExpr) → ((q : PlaceIn) → e.node ≡ make.Read q → ⊥)
    → ((f : Boxed) (k : ℕ) → e.node ≡ make.Part f k → ⊥) → ((o : Operation) (es : Exprs) → e.node ≡ make.Apply o es → ⊥)
    → ((q : PatternIn) (f : Boxed) → e.node ≡ make.Assign q f → ⊥) → ((a i f : Boxed) → e.node ≡ make.Copy a i f → ⊥)
    → ((f : ℕ) (es : Exprs) → e.node ≡ make.Call f es → ⊥)
    → ((w : Printed) (m : Boxed) (file : Option Boxed) (ps : Vec Piece Global) (es : Exprs) → e.node ≡ make.Print w m file ps es → ⊥)
    → operands_in (term_of (view_expr e)) ≡ NoTerms
no_operands e reads part apply assign copy call print =
    ap (λ (x : typed.Expr). operands_in (term_of x)) (view_expr-out e) ∙ go _ (view_node e.node) (has_node e.node)
  where
    go : (t : Ty) (m : typed.Node) → HasNode e.node m → operands_in (node_of t m) ≡ NoTerms
    go t (typed.Read (typed.At u p)) h = absurd (reads h.0 h.1)
    go t (typed.Part f k) h = absurd (part h.0 h.1 h.2)
    go t (typed.Apply o es) h = absurd (apply o h.0 h.1)
    go t (typed.Assign p f) h = absurd (assign h.0 h.1 h.2)
    go t (typed.Copy a i f) h = absurd (copy h.0 h.1 h.2 h.3)
    go t (typed.Call f es) h = absurd (call h.0 h.1 h.2)
    go t (typed.Print w m file ps es) h = absurd (print h.0 h.1 h.2 h.3 h.4 h.5)
    go t (typed.Update o (typed.At u p) f) h = refl
    go t (typed.Step o g (typed.At u p)) h = refl
    go t (typed.Channel typed.Absent) h = refl
    go t (typed.Channel (typed.Present n)) h = refl
    go t _ h = refl

-- ---- expressions of a form

pub seen : (e : code_expr.TExpr) (m : typed.Node) → view_node e.node ≡ m → view_expr e ≡ typed.Of (view_ty e.ty) m
seen e m at = view_expr-out e ∙ ap (λ n. typed.Of (view_ty e.ty) n) at

pub seen_assign : (e : code_expr.TExpr) (q : PatternIn) (f : Boxed) → e.node ≡ make.Assign q f
    → view_expr e ≡ typed.Of (view_ty e.ty) (typed.Assign (view_pattern q.value) (view_expr f.value))
seen_assign e q f at = view_expr-out e ∙ ap (λ n. typed.Of (view_ty e.ty) n) (ap view_node at ∙ view_node-Assign q f)

pub seen_copy : (e : code_expr.TExpr) (a i f : Boxed) → e.node ≡ make.Copy a i f
    → view_expr e ≡ typed.Of (view_ty e.ty) (typed.Copy (view_expr a.value) (view_expr i.value) (view_expr f.value))
seen_copy e a i f at = view_expr-out e ∙ ap (λ n. typed.Of (view_ty e.ty) n) (ap view_node at ∙ view_node-Copy a i f)

pub seen_print : (e : code_expr.TExpr) (w : Printed) (m : Boxed) (file : Option Boxed) (ps : Vec Piece Global) (es : Exprs)
    → e.node ≡ make.Print w m file ps es
    → view_expr e ≡ typed.Of (view_ty e.ty) (typed.Print w (view_expr m.value) (view_optional file) ps.items (view_exprs es.items))
seen_print e w m file ps es at =
    view_expr-out e ∙ ap (λ n. typed.Of (view_ty e.ty) n) (ap view_node at ∙ view_node-Print w m file ps es)

-- A type that isn't `byte`: what is printed is the expression itself.
pub no_byte : (e : code_expr.TExpr) → (e.ty ≡ make_ty.Byte → ⊥) → operands.printed (view_expr e) ≡ term_of (view_expr e)
no_byte e p = ap operands.printed (view_expr-out e) ∙ go (view_ty e.ty) (has_form e.ty) ∙ sym (ap term_of (view_expr-out e))
  where
    go : (t : Ty) → HasForm e.ty t → operands.printed (typed.Of t (view_node e.node)) ≡ node_of t (view_node e.node)
    go types.Byte h = absurd (p h)
    go _ h = refl

-- Of what is of its own type, and of what is none.
pub no_type : (defs : List Def) (e : code_expr.TExpr) → ((q : PlaceIn) → e.node ≡ make.Read q → ⊥)
    → ((c : Connective) (l r : Boxed) → e.node ≡ make.Lazy c l r → ⊥) → ((q : PatternIn) (f : Boxed) → e.node ≡ make.Assign q f → ⊥)
    → ((o : Operation) (q : PlaceIn) (f : Boxed) → e.node ≡ make.Update o q f → ⊥)
    → ((o : Operation) (g : Given) (q : PlaceIn) → e.node ≡ make.Step o g q → ⊥) → ((a i f : Boxed) → e.node ≡ make.Copy a i f → ⊥)
    → ((l : Option Boxed) (is : ItemsIn) (r : Option Boxed) → e.node ≡ make.Filled l is r → ⊥)
    → ((n : Option Boxed) → e.node ≡ make.Channel n → ⊥)
    → ((w : Printed) (m : Boxed) (file : Option Boxed) (ps : Vec Piece Global) (es : Exprs) → e.node ≡ make.Print w m file ps es → ⊥)
    → (e.node ≡ make.OpenNil → ⊥) → ((m : Boxed) (k f : ℕ) (es : Exprs) → e.node ≡ make.CallThrough m k f es → ⊥)
    → ((k : ℕ) (f : Boxed) → e.node ≡ make.Load k f → ⊥) → ((c f : Boxed) → e.node ≡ make.Send c f → ⊥)
    → ((c : Boxed) → e.node ≡ make.Receive c → ⊥) → type_of defs (term_of (view_expr e)) ≡ view_ty e.ty
no_type defs e reads lazy assign update step copy filled channel print opened through load send receive =
    ap (λ (x : typed.Expr). type_of defs (term_of x)) (view_expr-out e) ∙ go (view_ty e.ty) (view_node e.node) (has_node e.node)
  where
    applied : (t : Ty) (o : Operation) (ts : Terms) → type_of defs (Node t (operating o) ts) ≡ t
    applied t operation.List ts = refl
    applied t _ ts = refl

    go : (t : Ty) (m : typed.Node) → HasNode e.node m → type_of defs (node_of t m) ≡ t
    go t (typed.Read (typed.At u p)) h = absurd (reads h.0 h.1)
    go t (typed.Lazy c l r) h = absurd (lazy h.0 h.1 h.2 h.3)
    go t (typed.Assign p f) h = absurd (assign h.0 h.1 h.2)
    go t (typed.Update o p f) h = absurd (update o h.0 h.1 h.2)
    go t (typed.Step o g p) h = absurd (step o g h.0 h.1)
    go t (typed.Copy a i f) h = absurd (copy h.0 h.1 h.2 h.3)
    go t (typed.Filled l is r) h = absurd (filled h.0 h.1 h.2 h.3)
    go t (typed.Channel n) h = absurd (channel h.0 h.1)
    go t (typed.Print w m file ps es) h = absurd (print h.0 h.1 h.2 h.3 h.4 h.5)
    go t typed.OpenNil h = absurd (opened h)
    go t (typed.CallThrough m k f es) h = absurd (through h.0 h.1 h.2 h.3 h.4)
    go t (typed.Load k f) h = absurd (load h.0 h.1 h.2)
    go t (typed.Send c f) h = absurd (send h.0 h.1 h.2)
    go t (typed.Receive c) h = absurd (receive h.0 h.1)
    go t (typed.Apply o es) h = applied t o (terms_of es)
    go t _ h = refl

-- Of what isn't a node behind its operands.
pub no_node : (defs : List Def) (e : code_expr.TExpr) (l : LoweredAll) → ((v : ℤ) → e.node ≡ make.Number v → ⊥)
    → ((v : Text) → e.node ≡ make.Chars v → ⊥) → (e.node ≡ make.Nil → ⊥) → ((q : PlaceIn) → e.node ≡ make.Read q → ⊥)
    → ((f : Boxed) (k : ℕ) → e.node ≡ make.Part f k → ⊥) → ((o : Operation) (es : Exprs) → e.node ≡ make.Apply o es → ⊥)
    → ((q : PatternIn) (f : Boxed) → e.node ≡ make.Assign q f → ⊥) → ((a i f : Boxed) → e.node ≡ make.Copy a i f → ⊥)
    → ((n : Option Boxed) → e.node ≡ make.Channel n → ⊥) → ((f : ℕ) (es : Exprs) → e.node ≡ make.Call f es → ⊥)
    → ((w : Printed) (m : Boxed) (file : Option Boxed) (ps : Vec Piece Global) (es : Exprs) → e.node ≡ make.Print w m file ps es → ⊥)
    → unlowered l ≡ completed defs (term_of (view_expr e)) l
no_node defs e l number chars nil reads part apply assign copy channel call print =
    sym (ap (λ (x : typed.Expr). completed defs (term_of x) l) (view_expr-out e) ∙ go (view_ty e.ty) (view_node e.node) (has_node e.node))
  where
    go : (t : Ty) (m : typed.Node) → HasNode e.node m → completed defs (node_of t m) l ≡ unlowered l
    go t (typed.Number v) h = absurd (number h.0 h.1)
    go t (typed.Chars v) h = absurd (chars h.0 h.1)
    go t typed.Nil h = absurd (nil h)
    go t (typed.Read p) h = absurd (reads h.0 h.1)
    go t (typed.Part f k) h = absurd (part h.0 h.1 h.2)
    go t (typed.Apply o es) h = absurd (apply o h.0 h.1)
    go t (typed.Assign p f) h = absurd (assign h.0 h.1 h.2)
    go t (typed.Copy a i f) h = absurd (copy h.0 h.1 h.2 h.3)
    go t (typed.Channel n) h = absurd (channel h.0 h.1)
    go t (typed.Call f es) h = absurd (call h.0 h.1 h.2)
    go t (typed.Print w m file ps es) h = absurd (print h.0 h.1 h.2 h.3 h.4 h.5)
    go t (typed.Update o (typed.At u p) f) h = refl
    go t (typed.Step o g (typed.At u p)) h = refl
    go t _ h = refl

-- Of what is a node behind its operands, or isn't in this part of the language.
pub no_own : (defs : List Def) (lo : ℕ) (e : code_expr.TExpr) → ((c : Connective) (l r : Boxed) → e.node ≡ make.Lazy c l r → ⊥)
    → ((o : Operation) (q : PlaceIn) (f : Boxed) → e.node ≡ make.Update o q f → ⊥)
    → ((o : Operation) (g : Given) (q : PlaceIn) → e.node ≡ make.Step o g q → ⊥)
    → ((l : Option Boxed) (is : ItemsIn) (r : Option Boxed) → e.node ≡ make.Filled l is r → ⊥)
    → completed defs (term_of (view_expr e)) (lower_all defs lo (operands_in (term_of (view_expr e))))
    ≡ lower defs lo (term_of (view_expr e))
no_own defs lo e lazy update step filled =
    rw (view_expr-out e) (go (view_ty e.ty) (view_node e.node) (has_node e.node))
  where
    go : (t : Ty) (m : typed.Node) → HasNode e.node m
        → completed defs (node_of t m) (lower_all defs lo (operands_in (node_of t m))) ≡ lower defs lo (node_of t m)
    go t (typed.Lazy c l r) h = absurd (lazy h.0 h.1 h.2 h.3)
    go t (typed.Update o p f) h = absurd (update o h.0 h.1 h.2)
    go t (typed.Step o g p) h = absurd (step o g h.0 h.1)
    go t (typed.Filled l is r) h = absurd (filled h.0 h.1 h.2 h.3)
    go t (typed.Read (typed.At u p)) h = refl
    go t (typed.Channel typed.Absent) h = refl
    go t (typed.Channel (typed.Present n)) h = refl
    go t (typed.Print printed.Print m typed.Absent ps es) h = refl
    go t (typed.Print printed.Sprint m typed.Absent ps es) h = refl
    go t (typed.Print printed.Fprint m typed.Absent ps es) h = refl
    go t (typed.Print w m (typed.Present f) ps es) h = refl
    go t _ h = refl
