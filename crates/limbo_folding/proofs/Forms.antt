-- What isn't constant by its form, and operands in a row.
use Rattle.std.proofs.Common.{◌≡◌, if◌then◌else◌, ℤ, List, [], ◌∷◌, length, get_or, map, Bool, true, false, None, Vec, Box, Global, refl, sym, ap, ◌∙◌, subst, arith}
use Rattle.inf_text.specs.declared.text.Text.{Text}
use Rattle.limbo_types.specs.View.{view_ty}
use Rattle.limbo_typed.specs.declared.operation.Operation.{Operation}
use Rattle.limbo_typed.specs.declared.operation.Connective.{Connective}
use Rattle.limbo_typed.specs.declared.expr.TExpr as code_expr
use Rattle.limbo_typed.specs.declared.expr.TNode as code_node
use Rattle.limbo_typed.specs.declared.expr.TNode.{TNode-F, out-TNode, roll-TNode, roll-out-TNode, fold-roll-TNode}
use Rattle.limbo_typed.specs.declared.expr.TNode.TheVariants as make
use Rattle.limbo_typed.specs.Typed as tree
use Rattle.limbo_typed.specs.View.{pattern_step, place_node_step, node_step, item_step, place_step, expr_step}
use Rattle.limbo_typed.specs.View.{view_pattern, view_place_node, view_node, view_item, view_place, view_expr, view_optional, exprs_of}
use Rattle.limbo_typed.proofs.View.{view_expr-out, view_node-Number, view_node-Chars, view_node-Apply, view_node-Lazy}
use Rattle.limbo_folding.specs.Folding.{folds, outcome, outcome_at, applied, on_operands, with_one, with_two}

-- ---- nodes of other forms

-- a node of the code has the form that this node has, if it is one that can be constant
abbrev HasNode : code_node.TNode → tree.Node → Type 0
HasNode n (tree.Number z) = (w : ℤ) × (n ≡ make.Number w)
HasNode n (tree.Chars t) = (u : Text) × (n ≡ make.Chars u)
HasNode n (tree.Apply o es) = (p : Operation) × (fs : Vec code_expr.TExpr Global) × (n ≡ make.Apply p fs)
HasNode n (tree.Lazy c l r) = (d : Connective) × (a : Box code_expr.TExpr Global) × (b : Box code_expr.TExpr Global) × (n ≡ make.Lazy d a b)
HasNode n _ = Unit {0}

has_node : (n : code_node.TNode) → HasNode n (view_node n)
unfolding view_pattern view_place_node view_node view_item view_place view_expr view_optional
has_node n = go (out-TNode n) (sym (roll-out-TNode n))
  where
    is : (m : code_node.TNode) (t : tree.Node) → n ≡ m → view_node m ≡ t → HasNode n t → HasNode n (view_node n)
    is m t at f h = subst (λ (z : tree.Node). HasNode n z) (sym (ap view_node at ∙ f)) h

    go : (y : TNode-F _ _ _ _ _ _) → n ≡ roll-TNode y → HasNode n (view_node n)
    go (TNode-F.Number z) at = let p : n ≡ make.Number z = at ∙ make.rolls-Number z in is _ _ p (view_node-Number z) (z, p)
    go (TNode-F.Chars t) at = let p : n ≡ make.Chars t = at ∙ make.rolls-Chars t in is _ _ p (view_node-Chars t) (t, p)
    go (TNode-F.Apply o es) at = let p : n ≡ make.Apply o es = at ∙ make.rolls-Apply o es in is _ _ p (view_node-Apply o es) (o, es, p)
    go (TNode-F.Lazy c l r) at = let p : n ≡ make.Lazy c l r = at ∙ make.rolls-Lazy c l r in is _ _ p (view_node-Lazy c l r) (c, l, r, p)
    go y at = is _ _ at (fold-roll-TNode _ _ _ _ _ _ pattern_step place_node_step node_step item_step place_step expr_step y) tt

pub not_constant : (e : code_expr.TExpr) → ((z : ℤ) → e.node ≡ make.Number z → ⊥) → ((t : Text) → e.node ≡ make.Chars t → ⊥)
    → ((o : Operation) (es : Vec code_expr.TExpr Global) → e.node ≡ make.Apply o es → ⊥)
    → ((c : Connective) (l r : Box code_expr.TExpr Global) → e.node ≡ make.Lazy c l r → ⊥) → None ≡ outcome (view_expr e)
not_constant e number chars apply lazy = go (view_node e.node) (has_node e.node) ∙ sym (ap outcome (view_expr-out e))
  where
    go : (m : tree.Node) → HasNode e.node m → None ≡ outcome_at (view_ty e.ty) m
    go (tree.Number z) h = absurd (number h.0 h.1)
    go (tree.Chars t) h = absurd (chars h.0 h.1)
    go (tree.Apply o es) h = absurd (apply h.0 h.1 h.2)
    go (tree.Lazy c l r) h = absurd (lazy h.0 h.1 h.2 h.3)
    go _ h = refl

-- ---- operands in a row

pub one_operand : (o : Operation) (es : List code_expr.TExpr) (e : code_expr.TExpr) → folds o ≡ true → length es ≡ 1 → e ≡ get_or es 0 e
    → with_one o (outcome (view_expr e)) ≡ applied o (exprs_of (map view_expr es))
one_operand o [] e f l is = absurd (omega arith)
one_operand o (x ∷ []) e f l is = rw f (ap (λ (z : code_expr.TExpr). with_one o (outcome (view_expr z))) is)
one_operand o (x ∷ y ∷ es) e f l is = absurd (omega arith)

pub two_operands : (o : Operation) (es : List code_expr.TExpr) (a b : code_expr.TExpr) → folds o ≡ true → length es ≡ 2 → a ≡ get_or es 0 a → b ≡ get_or es 1 b
    → with_two o (outcome (view_expr a)) (outcome (view_expr b)) ≡ applied o (exprs_of (map view_expr es))
two_operands o [] a b f l i j = absurd (omega arith)
two_operands o (x ∷ []) a b f l i j = absurd (omega arith)
two_operands o (x ∷ y ∷ []) a b f l i j =
    rw f (ap (λ (z : code_expr.TExpr). with_two o (outcome (view_expr z)) (outcome (view_expr b))) i
    ∙ ap (λ (z : code_expr.TExpr). with_two o (outcome (view_expr x)) (outcome (view_expr z))) j)
two_operands o (x ∷ y ∷ w ∷ es) a b f l i j = absurd (omega arith)

pub other_operands : (o : Operation) (es : List code_expr.TExpr) → (length es ≡ 1 → ⊥) → (length es ≡ 2 → ⊥) → None ≡ applied o (exprs_of (map view_expr es))
other_operands o es one two = go (folds o) es one two
  where
    go : (b : Bool) (es : List code_expr.TExpr) → (length es ≡ 1 → ⊥) → (length es ≡ 2 → ⊥) → None ≡ (if b then on_operands o (exprs_of (map view_expr es)) else None)
    go false es one two = refl
    go true [] one two = refl
    go true (x ∷ []) one two = absurd (one refl)
    go true (x ∷ y ∷ []) one two = absurd (two refl)
    go true (x ∷ y ∷ w ∷ es) one two = refl
