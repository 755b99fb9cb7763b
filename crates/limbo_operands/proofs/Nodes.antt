-- Which nodes read a place.
use Rattle.std.proofs.Common.{◌≡◌, Option, None, Some, Box, Global, sym, ap, ◌∙◌, subst}
use Rattle.std.specs.Prelude.{IfNone}
use Rattle.limbo_types.specs.Types.{Ty}
use Rattle.limbo_types.specs.View.{view_ty}
use Rattle.limbo_typed.specs.declared.expr.TExpr as code_expr
use Rattle.limbo_typed.specs.declared.expr.Place as code_place
use Rattle.limbo_typed.specs.declared.expr.TNode as code_node
use Rattle.limbo_typed.specs.declared.expr.TNode.{TNode-F, out-TNode, roll-TNode, roll-out-TNode, fold-roll-TNode}
use Rattle.limbo_typed.specs.declared.expr.TNode.TheVariants as make
use Rattle.limbo_typed.specs.Typed as tree
use Rattle.limbo_typed.specs.View.{pattern_step, place_node_step, node_step, item_step, place_step, expr_step}
use Rattle.limbo_typed.specs.View.{view_pattern, view_place_node, view_node, view_item, view_place, view_expr, view_optional}
use Rattle.limbo_typed.proofs.View.{view_node-Read, view_expr-out}
use Rattle.limbo_operands.specs.Operands.{IsPlace, place}

-- a node of the code reads a place where this node does
abbrev pub HasNode : code_node.TNode → tree.Node → Type 0
HasNode n (tree.Read q) = (p : Box code_place.Place Global) × (n ≡ make.Read p)
HasNode n _ = Unit {0}

pub has_node : (n : code_node.TNode) → HasNode n (view_node n)
unfolding view_pattern view_place_node view_node view_item view_place view_expr view_optional
has_node n = go (out-TNode n) (sym (roll-out-TNode n))
  where
    is : (m : code_node.TNode) (t : tree.Node) → n ≡ m → view_node m ≡ t → HasNode n t → HasNode n (view_node n)
    is m t at f h = subst (λ (z : tree.Node). HasNode n z) (sym (ap view_node at ∙ f)) h

    go : (y : TNode-F _ _ _ _ _ _) → n ≡ roll-TNode y → HasNode n (view_node n)
    go (TNode-F.Read q) at = let p : n ≡ make.Read q = at ∙ make.rolls-Read q in is _ _ p (view_node-Read q) (q, p)
    go y at = is _ _ at (fold-roll-TNode _ _ _ _ _ _ pattern_step place_node_step node_step item_step place_step expr_step y) tt

pub reads_none : (n : code_node.TNode) → ((q : Box code_place.Place Global) → n ≡ make.Read q → ⊥) → (t : Ty) → IsPlace (tree.Of t (view_node n)) → ⊥
reads_none n never t h = go (view_node n) (has_node n) t h
  where
    go : (m : tree.Node) → HasNode n m → (u : Ty) → IsPlace (tree.Of u m) → ⊥
    go _ i _ (place u p) = never i.0 i.1

pub none_also : {A : Type 0} (o : Option A) (P Q : Type 0) → (P → Q) → IfNone o P → IfNone o Q
none_also None P Q f h = f h
none_also (Some x) P Q f h = tt

-- ---- an expression by its node

pub reads_of : (e f : code_expr.TExpr) → f ≡ e → (p : tree.Place) → view_node f.node ≡ tree.Read p
    → view_expr e ≡ tree.Of (view_ty e.ty) (tree.Read p)
reads_of e f same p h =
    view_expr-out e ∙ ap (tree.Of (view_ty e.ty)) (subst (λ (z : code_expr.TExpr). view_node z.node ≡ tree.Read p) same h)

pub no_place_of : (e f : code_expr.TExpr) → f ≡ e → ((t : Ty) → IsPlace (tree.Of t (view_node f.node)) → ⊥) → IsPlace (view_expr e) → ⊥
no_place_of e f same never h =
    subst (λ (z : code_expr.TExpr). (t : Ty) → IsPlace (tree.Of t (view_node z.node)) → ⊥) same never (view_ty e.ty)
    (subst (λ (z : tree.Expr). IsPlace z) (view_expr-out e) h)
