-- What the rest of the forms come to.
use Rattle.std.proofs.Common.{◌≡◌, ℕ, ◌+◌, arith, List, Option, false, Vec, Box, Global, refl, sym, ap, ◌∙◌, subst}
use Rattle.limbo_types.specs.Types.{Ty}
use Rattle.limbo_layout.specs.Adts.{Def}
use Rattle.limbo_typed.specs.declared.operation.Connective.{Connective}
use Rattle.limbo_typed.specs.declared.operation.Given.{Given}
use Rattle.limbo_typed.specs.declared.print.Printed.{Printed}
use Rattle.limbo_typed.specs.declared.print.Piece.{Piece}
use Rattle.limbo_typed.specs.declared.expr.Item as code_item
use Rattle.limbo_typed.specs.declared.expr.TExpr as code_expr
use Rattle.limbo_typed.specs.declared.expr.Place as code_place
use Rattle.limbo_typed.specs.declared.expr.Pattern as code_pattern
use Rattle.limbo_typed.specs.declared.expr.TNode as code_node
use Rattle.limbo_typed.specs.declared.expr.TNode.{TNode-F, out-TNode, roll-TNode, roll-out-TNode, fold-roll-TNode}
use Rattle.limbo_typed.specs.declared.expr.TNode.TheVariants as make
use Rattle.limbo_typed.specs.Typed as typed
use Rattle.limbo_typed.specs.View.{pattern_step, place_node_step, node_step, item_step, place_step, expr_step}
use Rattle.limbo_typed.specs.View.{view_pattern, view_place_node, view_node, view_item, view_place, view_expr, view_optional}
use Rattle.limbo_typed.proofs.View.{view_node-Read, view_node-Part, view_node-Apply, view_node-Lazy, view_node-Assign, view_node-Update}
use Rattle.limbo_typed.proofs.View.{view_node-Step, view_node-Copy, view_node-Filled, view_node-Channel, view_node-Call, view_node-Print}
use Rattle.limbo_typed.proofs.View.{view_node-Load}
use Rattle.core_frames.specs.Sizes.{inner_size, node_size}
use Rattle.core_sizing.specs.Holding.{node_holds}
use Rattle.core_sizing.specs.Sizes.{parts_size}
use Rattle.limbo_typed.specs.declared.operation.Operation.{Operation}
use Rattle.limbo_typed.specs.declared.operation.Operation.TheVariants as operation
use Rattle.limbo_meaning.specs.Evaluation.{refers, work_refers}
use Rattle.limbo_meaning.specs.Program.{operating}

pub operates : (defs : List Def) (t : Ty) (o : Operation) → (o ≡ operation.List → ⊥) → (o ≡ operation.Tuple → ⊥)
    → ((n : ℕ) (v : Option ℕ) → o ≡ operation.Adt n v → ⊥) → refers defs t ≡ work_refers defs t (operating o)
operates defs t operation.List a b c = absurd (a refl)
operates defs t operation.Tuple a b c = absurd (b refl)
operates defs t (operation.Adt n v) a b c = absurd (c n v refl)
operates defs t _ a b c = refl

-- ---- nodes

abbrev pub Boxed : Type 0
Boxed = Box code_expr.TExpr Global

abbrev pub Optional : Type 0
Optional = Option Boxed

abbrev pub Exprs : Type 0
Exprs = Vec code_expr.TExpr Global

abbrev pub Items : Type 0
Items = Vec code_item.Item Global

abbrev pub PlaceIn : Type 0
PlaceIn = Box code_place.Place Global

abbrev pub PatternIn : Type 0
PatternIn = Box code_pattern.Pattern Global

-- which form of the code a node has, told by its view
abbrev HasNode : code_node.TNode → typed.Node → Type 0
HasNode n (typed.Read p) = (q : PlaceIn) × (n ≡ make.Read q)
HasNode n (typed.Part e k) = (f : Boxed) × (j : ℕ) × (n ≡ make.Part f j)
HasNode n (typed.Apply o es) = (p : Operation) × (fs : Exprs) × (n ≡ make.Apply p fs)
HasNode n (typed.Lazy c l r) = (d : Connective) × (x : Boxed) × (y : Boxed) × (n ≡ make.Lazy d x y)
HasNode n (typed.Assign p e) = (q : PatternIn) × (f : Boxed) × (n ≡ make.Assign q f)
HasNode n (typed.Update o p e) = (w : Operation) × (q : PlaceIn) × (f : Boxed) × (n ≡ make.Update w q f)
HasNode n (typed.Step o g p) = (w : Operation) × (h : Given) × (q : PlaceIn) × (n ≡ make.Step w h q)
HasNode n (typed.Copy a i e) = (x : Boxed) × (y : Boxed) × (z : Boxed) × (n ≡ make.Copy x y z)
HasNode n (typed.Filled l is rest) = (x : Optional) × (ys : Items) × (z : Optional) × (n ≡ make.Filled x ys z)
HasNode n (typed.Channel size) = (x : Optional) × (n ≡ make.Channel x)
HasNode n (typed.Call f es) = (g : ℕ) × (fs : Exprs) × (n ≡ make.Call g fs)
HasNode n (typed.Print w m file ps es) =
    (v : Printed) × (x : Boxed) × (y : Optional) × (qs : Vec Piece Global) × (fs : Exprs) × (n ≡ make.Print v x y qs fs)
HasNode n (typed.Load i e) = (j : ℕ) × (f : Boxed) × (n ≡ make.Load j f)
HasNode n _ = Unit {0}

has_node : (n : code_node.TNode) → HasNode n (view_node n)
unfolding view_pattern view_place_node view_node view_item view_place view_expr view_optional
has_node n = go (out-TNode n) (sym (roll-out-TNode n))
  where
    is : (m : code_node.TNode) (t : typed.Node) → n ≡ m → view_node m ≡ t → HasNode n t → HasNode n (view_node n)
    is m t at f h = subst (λ (z : typed.Node). HasNode n z) (sym (ap view_node at ∙ f)) h

    go : (y : TNode-F _ _ _ _ _ _) → n ≡ roll-TNode y → HasNode n (view_node n)
    go (TNode-F.Read q) at = let p : n ≡ make.Read q = at ∙ make.rolls-Read q in is _ _ p (view_node-Read q) (q, p)
    go (TNode-F.Part e k) at = let p : n ≡ make.Part e k = at ∙ make.rolls-Part e k in is _ _ p (view_node-Part e k) (e, k, p)
    go (TNode-F.Apply o es) at = let p : n ≡ make.Apply o es = at ∙ make.rolls-Apply o es in is _ _ p (view_node-Apply o es) (o, es, p)
    go (TNode-F.Lazy c l r) at =
        let p : n ≡ make.Lazy c l r = at ∙ make.rolls-Lazy c l r in is _ _ p (view_node-Lazy c l r) (c, l, r, p)
    go (TNode-F.Assign q e) at = let p : n ≡ make.Assign q e = at ∙ make.rolls-Assign q e in is _ _ p (view_node-Assign q e) (q, e, p)
    go (TNode-F.Update o q e) at =
        let p : n ≡ make.Update o q e = at ∙ make.rolls-Update o q e in is _ _ p (view_node-Update o q e) (o, q, e, p)
    go (TNode-F.Step o g q) at = let p : n ≡ make.Step o g q = at ∙ make.rolls-Step o g q in is _ _ p (view_node-Step o g q) (o, g, q, p)
    go (TNode-F.Copy a i e) at =
        let p : n ≡ make.Copy a i e = at ∙ make.rolls-Copy a i e in is _ _ p (view_node-Copy a i e) (a, i, e, p)
    go (TNode-F.Filled l is' rest) at =
        let p : n ≡ make.Filled l is' rest = at ∙ make.rolls-Filled l is' rest in
        is _ _ p (view_node-Filled l is' rest) (l, is', rest, p)
    go (TNode-F.Channel k) at = let p : n ≡ make.Channel k = at ∙ make.rolls-Channel k in is _ _ p (view_node-Channel k) (k, p)
    go (TNode-F.Call f es) at = let p : n ≡ make.Call f es = at ∙ make.rolls-Call f es in is _ _ p (view_node-Call f es) (f, es, p)
    go (TNode-F.Print w m file ps es) at =
        let p : n ≡ make.Print w m file ps es = at ∙ make.rolls-Print w m file ps es in
        is _ _ p (view_node-Print w m file ps es) (w, m, file, ps, es, p)
    go (TNode-F.Load i e) at = let p : n ≡ make.Load i e = at ∙ make.rolls-Load i e in is _ _ p (view_node-Load i e) (i, e, p)
    go y at = is _ _ at (fold-roll-TNode _ _ _ _ _ _ pattern_step place_node_step node_step item_step place_step expr_step y) tt

-- none of the forms that have others in them, but for a load
pub record IsOther (n : code_node.TNode) : Type 0 where
  pub read : (q : PlaceIn) → n ≡ make.Read q → ⊥
  pub part : (e : Boxed) (k : ℕ) → n ≡ make.Part e k → ⊥
  pub apply : (o : Operation) (es : Exprs) → n ≡ make.Apply o es → ⊥
  pub lazy : (c : Connective) (l r : Boxed) → n ≡ make.Lazy c l r → ⊥
  pub assign : (q : PatternIn) (e : Boxed) → n ≡ make.Assign q e → ⊥
  pub update : (o : Operation) (q : PlaceIn) (e : Boxed) → n ≡ make.Update o q e → ⊥
  pub step : (o : Operation) (g : Given) (q : PlaceIn) → n ≡ make.Step o g q → ⊥
  pub copy : (a i e : Boxed) → n ≡ make.Copy a i e → ⊥
  pub filled : (l : Optional) (is : Items) (rest : Optional) → n ≡ make.Filled l is rest → ⊥
  pub call : (f : ℕ) (es : Exprs) → n ≡ make.Call f es → ⊥
  pub print : (w : Printed) (m : Boxed) (file : Optional) (ps : Vec Piece Global) (es : Exprs) → n ≡ make.Print w m file ps es → ⊥

pub holds_not : (defs : List Def) (t : Ty) (n : code_node.TNode) → IsOther n → ((k : Optional) → n ≡ make.Channel k → ⊥)
    → false ≡ node_holds defs t (view_node n)
holds_not defs t n o channel = go (view_node n) (has_node n)
  where
    go : (m : typed.Node) → HasNode n m → false ≡ node_holds defs t m
    go (typed.Read p) h = absurd (o.read h.0 h.1)
    go (typed.Part e k) h = absurd (o.part h.0 h.1 h.2)
    go (typed.Apply w es) h = absurd (o.apply h.0 h.1 h.2)
    go (typed.Lazy c l r) h = absurd (o.lazy h.0 h.1 h.2 h.3)
    go (typed.Assign p e) h = absurd (o.assign h.0 h.1 h.2)
    go (typed.Update w p e) h = absurd (o.update h.0 h.1 h.2 h.3)
    go (typed.Step w g p) h = absurd (o.step h.0 h.1 h.2 h.3)
    go (typed.Copy a i e) h = absurd (o.copy h.0 h.1 h.2 h.3)
    go (typed.Filled l is rest) h = absurd (o.filled h.0 h.1 h.2 h.3)
    go (typed.Channel k) h = absurd (channel h.0 h.1)
    go (typed.Call f es) h = absurd (o.call h.0 h.1 h.2)
    go (typed.Print w m file ps es) h = absurd (o.print h.0 h.1 h.2 h.3 h.4 h.5)
    go _ h = refl

pub other_size : (defs : List Def) (t : Ty) (n : code_node.TNode) → ((q : PlaceIn) → n ≡ make.Read q → ⊥)
    → ((o : Operation) (q : PlaceIn) (e : Boxed) → n ≡ make.Update o q e → ⊥)
    → ((o : Operation) (g : Given) (q : PlaceIn) → n ≡ make.Step o g q → ⊥)
    → ((l : Optional) (is : Items) (rest : Optional) → n ≡ make.Filled l is rest → ⊥)
    → inner_size defs t (view_node n) ≡ node_size defs t + parts_size defs (view_node n)
other_size defs t n read update step filled = go (view_node n) (has_node n)
  where
    go : (m : typed.Node) → HasNode n m → inner_size defs t m ≡ node_size defs t + parts_size defs m
    go (typed.Read p) h = absurd (read h.0 h.1)
    go (typed.Update w p e) h = absurd (update h.0 h.1 h.2 h.3)
    go (typed.Step w g p) h = absurd (step h.0 h.1 h.2 h.3)
    go (typed.Filled l is rest) h = absurd (filled h.0 h.1 h.2 h.3)
    go _ h = omega arith

pub no_parts : (defs : List Def) (n : code_node.TNode) → ((e : Boxed) (k : ℕ) → n ≡ make.Part e k → ⊥)
    → ((o : Operation) (es : Exprs) → n ≡ make.Apply o es → ⊥) → ((c : Connective) (l r : Boxed) → n ≡ make.Lazy c l r → ⊥)
    → ((q : PatternIn) (e : Boxed) → n ≡ make.Assign q e → ⊥) → ((a i e : Boxed) → n ≡ make.Copy a i e → ⊥)
    → ((f : ℕ) (es : Exprs) → n ≡ make.Call f es → ⊥)
    → ((w : Printed) (m : Boxed) (file : Optional) (ps : Vec Piece Global) (es : Exprs) → n ≡ make.Print w m file ps es → ⊥)
    → ((j : ℕ) (e : Boxed) → n ≡ make.Load j e → ⊥) → parts_size defs (view_node n) ≡ 0
no_parts defs n part apply lazy assign copy call print load = go (view_node n) (has_node n)
  where
    go : (m : typed.Node) → HasNode n m → parts_size defs m ≡ 0
    go (typed.Part e k) h = absurd (part h.0 h.1 h.2)
    go (typed.Apply w es) h = absurd (apply h.0 h.1 h.2)
    go (typed.Lazy c l r) h = absurd (lazy h.0 h.1 h.2 h.3)
    go (typed.Assign p e) h = absurd (assign h.0 h.1 h.2)
    go (typed.Copy a i e) h = absurd (copy h.0 h.1 h.2 h.3)
    go (typed.Call f es) h = absurd (call h.0 h.1 h.2)
    go (typed.Print w m file ps es) h = absurd (print h.0 h.1 h.2 h.3 h.4 h.5)
    go (typed.Load j e) h = absurd (load h.0 h.1 h.2)
    go _ h = refl
