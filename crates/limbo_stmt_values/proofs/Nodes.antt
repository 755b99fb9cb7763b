-- Which form of the code a call has, told by its view.
use Rattle.std.proofs.Common.{◌≡◌, ℕ, false, Vec, Box, Global, refl, sym, ap, ◌∙◌, subst}
use Rattle.limbo_types.specs.Types.{Ty, Nothing}
use Rattle.limbo_typed.specs.declared.expr.TExpr as code_expr
use Rattle.limbo_typed.specs.declared.expr.TNode as code_node
use Rattle.limbo_typed.specs.declared.expr.TNode.{TNode-F, out-TNode, roll-TNode, roll-out-TNode, fold-roll-TNode}
use Rattle.limbo_typed.specs.declared.expr.TNode.TheVariants as make
use Rattle.limbo_typed.specs.Typed as tree
use Rattle.limbo_typed.specs.Typed.{Of}
use Rattle.limbo_typed.specs.Sound.{is_call}
use Rattle.limbo_typed.specs.View.{pattern_step, place_node_step, node_step, item_step, place_step, expr_step}
use Rattle.limbo_typed.specs.View.{view_pattern, view_place_node, view_node, view_item, view_place, view_expr, view_optional}
use Rattle.limbo_typed.proofs.View.{view_node-Call, view_node-CallThrough}

abbrev Exprs : Type 0
Exprs = Vec code_expr.TExpr Global

abbrev HasNode : code_node.TNode → tree.Node → Type 0
HasNode n (tree.Call f es) = (g : ℕ) × (fs : Exprs) × (n ≡ make.Call g fs)
HasNode n (tree.CallThrough e i f es) = (m : Box code_expr.TExpr Global) × (j : ℕ) × (g : ℕ) × (fs : Exprs) × (n ≡ make.CallThrough m j g
    fs)
HasNode n _ = Unit {0}

has_node : (n : code_node.TNode) → HasNode n (view_node n)
unfolding view_pattern view_place_node view_node view_item view_place view_expr view_optional
has_node n = go (out-TNode n) (sym (roll-out-TNode n))
  where
    is : (m : code_node.TNode) (t : tree.Node) → n ≡ m → view_node m ≡ t → HasNode n t → HasNode n (view_node n)
    is m t at f h = subst (λ (z : tree.Node). HasNode n z) (sym (ap view_node at ∙ f)) h

    go : (y : TNode-F _ _ _ _ _ _) → n ≡ roll-TNode y → HasNode n (view_node n)
    go (TNode-F.Call f es) at = let p : n ≡ make.Call f es = at ∙ make.rolls-Call f es in is _ _ p (view_node-Call f es) (f, es, p)
    go (TNode-F.CallThrough m i f es) at =
        let p : n ≡ make.CallThrough m i f es = at ∙ make.rolls-CallThrough m i f es in
        is _ _ p (view_node-CallThrough m i f es) (m, i, f, es, p)
    go y at = is _ _ at (fold-roll-TNode _ _ _ _ _ _ pattern_step place_node_step node_step item_step place_step expr_step y) tt

pub not_call : (n : code_node.TNode) → ((f : ℕ) (es : Exprs) → n ≡ make.Call f es → ⊥)
    → ((m : Box code_expr.TExpr Global) (i f : ℕ) (es : Exprs) → n ≡ make.CallThrough m i f es → ⊥)
    → false ≡ is_call (Of Nothing (view_node n))
not_call n p q = go (view_node n) (has_node n)
  where
    go : (t : tree.Node) → HasNode n t → false ≡ is_call (Of Nothing t)
    go (tree.Call f es) h = absurd (p h.0 h.1 h.2)
    go (tree.CallThrough e i f es) h = absurd (q h.0 h.1 h.2 h.3 h.4)
    go _ h = refl

pub same_call : (t u : Ty) (n : tree.Node) → is_call (Of t n) ≡ is_call (Of u n)
same_call t u (tree.Call f es) = refl
same_call t u (tree.CallThrough e i f es) = refl
same_call t u _ = refl
