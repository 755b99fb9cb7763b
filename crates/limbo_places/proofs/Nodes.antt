-- Which form of the code an expression's node has, told by its view, and what is told where it has another.
use Rattle.std.proofs.Common.{◌≡◌, ℕ, Option, None, Vec, Box, Global, refl, sym, ap, ◌∙◌, subst}
use Rattle.limbo_typed.specs.declared.operation.Operation.{Operation}
use Rattle.limbo_typed.specs.declared.operation.Operation.TheVariants as op
use Rattle.limbo_typed.specs.declared.expr.TExpr as code_expr
use Rattle.limbo_typed.specs.declared.expr.Place as code_place
use Rattle.limbo_typed.specs.declared.expr.TNode as code_node
use Rattle.limbo_typed.specs.declared.expr.TNode.{TNode-F, out-TNode, roll-TNode, roll-out-TNode, fold-roll-TNode}
use Rattle.limbo_typed.specs.declared.expr.TNode.TheVariants as make
use Rattle.limbo_typed.specs.Typed as tree
use Rattle.limbo_typed.specs.View.{pattern_step, place_node_step, node_step, item_step, place_step, expr_step}
use Rattle.limbo_typed.specs.View.{view_pattern, view_place_node, view_node, view_item, view_place, view_expr, view_optional}
use Rattle.limbo_types.specs.View.{view_ty}
use Rattle.limbo_typed.specs.Sound.{type_of}
use Rattle.limbo_typed.proofs.View.{view_expr-out, view_node-Read, view_node-Apply}
use Rattle.limbo_places.specs.Places.{IsNoPlace}
use Rattle.limbo_places.specs.Choosing.{variant_made, made_as}

-- a node of the code has the form that this node has, if it is one of those that are looked at
abbrev HasNode : code_node.TNode → tree.Node → Type 0
HasNode n (tree.Read p) = (q : Box code_place.Place Global) × (n ≡ make.Read q)
HasNode n (tree.Apply o es) = (p : Operation) × (fs : Vec code_expr.TExpr Global) × (n ≡ make.Apply p fs)
HasNode n _ = Unit {0}

has_node : (n : code_node.TNode) → HasNode n (view_node n)
unfolding view_pattern view_place_node view_node view_item view_place view_expr view_optional
has_node n = go (out-TNode n) (sym (roll-out-TNode n))
  where
    is : (m : code_node.TNode) (t : tree.Node) → n ≡ m → view_node m ≡ t → HasNode n t → HasNode n (view_node n)
    is m t at f h = subst (λ (z : tree.Node). HasNode n z) (sym (ap view_node at ∙ f)) h

    go : (y : TNode-F _ _ _ _ _ _) → n ≡ roll-TNode y → HasNode n (view_node n)
    go (TNode-F.Read p) at = let q : n ≡ make.Read p = at ∙ make.rolls-Read p in is _ _ q (view_node-Read p) (p, q)
    go (TNode-F.Apply o es) at = let p : n ≡ make.Apply o es = at ∙ make.rolls-Apply o es in is _ _ p (view_node-Apply o es) (o, es, p)
    go y at = is _ _ at (fold-roll-TNode _ _ _ _ _ _ pattern_step place_node_step node_step item_step place_step expr_step y) tt

pub no_place : (n : code_node.TNode) → ((p : Box code_place.Place Global) → n ≡ make.Read p → ⊥) → IsNoPlace (view_node n)
no_place n never p e = let h : HasNode n (tree.Read p) = subst (λ (z : tree.Node). HasNode n z) e (has_node n) in never h.0 h.1

pub none_made : (n : ℕ) (o : Operation) → ((m : ℕ) (v : Option ℕ) → o ≡ op.Adt m v → ⊥) → None ≡ variant_made n o
none_made n (op.Adt m v) never = absurd (never m v refl)
none_made n _ never = refl

pub not_made : (n : ℕ) (m : code_node.TNode) → ((o : Operation) (es : Vec code_expr.TExpr Global) → m ≡ make.Apply o es → ⊥)
    → None ≡ made_as n (view_node m)
not_made n m never = go (view_node m) (has_node m)
  where
    go : (t : tree.Node) → HasNode m t → None ≡ made_as n t
    go (tree.Apply o es) h = absurd (never h.0 h.1 h.2)
    go _ h = refl

-- the type of an expression of the code
pub type_is : (e : code_expr.TExpr) → type_of (view_expr e) ≡ view_ty e.ty
type_is e = ap type_of (view_expr-out e)
