-- Which forms of the code sends, receives and assignments have, told by their views.
use Rattle.std.proofs.Common.{◌≡◌, None, Box, Global, refl, sym, ap, ◌∙◌, subst}
use Rattle.limbo_types.specs.View.{view_ty}
use Rattle.limbo_typed.specs.declared.expr.TExpr as code_expr
use Rattle.limbo_typed.specs.declared.expr.Pattern as code_pattern
use Rattle.limbo_typed.specs.declared.expr.TNode as code_node
use Rattle.limbo_typed.specs.declared.expr.TNode.{TNode-F, out-TNode, roll-TNode, roll-out-TNode, fold-roll-TNode}
use Rattle.limbo_typed.specs.declared.expr.TNode.TheVariants as make
use Rattle.limbo_typed.specs.Typed as tree
use Rattle.limbo_typed.specs.Typed.{Of, Pattern}
use Rattle.limbo_typed.specs.View.{pattern_step, place_node_step, node_step, item_step, place_step, expr_step}
use Rattle.limbo_typed.specs.View.{view_pattern, view_place_node, view_node, view_item, view_place, view_expr, view_optional}
use Rattle.limbo_typed.proofs.View.{view_expr-out, view_node-Assign, view_node-Send, view_node-Receive}
use Rattle.limbo_stmt_values.specs.limbo_stating.Reasons as reasons
use Rattle.limbo_stmt_values.specs.limbo_stating.Reasons.{Reason}
use Rattle.limbo_stmt_values.specs.limbo_stating.Alts.{waits_for}
use Rattle.limbo_stmt_values.specs.Whys.{FailsFor}
use Rattle.limbo_stmt_values.specs.declared.fault.Why.{Why}
use Rattle.limbo_stmt_values.specs.declared.fault.Why.TheVariants as why
use Rattle.limbo_alts.specs.Assigned.{received_to}

abbrev Boxed : Type 0
Boxed = Box code_expr.TExpr Global

abbrev HasNode : code_node.TNode → tree.Node → Type 0
HasNode n (tree.Receive c) = (e : Boxed) × (n ≡ make.Receive e)
HasNode n (tree.Send c x) = (e : Boxed) × (f : Boxed) × (n ≡ make.Send e f)
HasNode n (tree.Assign p x) = (q : Box code_pattern.Pattern Global) × (e : Boxed) × (n ≡ make.Assign q e)
HasNode n _ = Unit {0}

has_node : (n : code_node.TNode) → HasNode n (view_node n)
unfolding view_pattern view_place_node view_node view_item view_place view_expr view_optional
has_node n = go (out-TNode n) (sym (roll-out-TNode n))
  where
    is : (m : code_node.TNode) (t : tree.Node) → n ≡ m → view_node m ≡ t → HasNode n t → HasNode n (view_node n)
    is m t at f h = subst (λ (z : tree.Node). HasNode n z) (sym (ap view_node at ∙ f)) h

    go : (y : TNode-F _ _ _ _ _ _) → n ≡ roll-TNode y → HasNode n (view_node n)
    go (TNode-F.Receive e) at = let p : n ≡ make.Receive e = at ∙ make.rolls-Receive e in is _ _ p (view_node-Receive e) (e, p)
    go (TNode-F.Send e f) at = let p : n ≡ make.Send e f = at ∙ make.rolls-Send e f in is _ _ p (view_node-Send e f) (e, f, p)
    go (TNode-F.Assign q e) at = let p : n ≡ make.Assign q e = at ∙ make.rolls-Assign q e in is _ _ p (view_node-Assign q e) (q, e, p)
    go y at = is _ _ at (fold-roll-TNode _ _ _ _ _ _ pattern_step place_node_step node_step item_step place_step expr_step y) tt

pub waits_none : (x : code_expr.TExpr) → ((q : Box code_pattern.Pattern Global) (e : Boxed) → x.node ≡ make.Assign q e → ⊥)
    → ((e f : Boxed) → x.node ≡ make.Send e f → ⊥) → ((e : Boxed) → x.node ≡ make.Receive e → ⊥) → None ≡ waits_for (view_expr x)
waits_none x p q r = go (view_node x.node) (has_node x.node) ∙ sym (ap waits_for (view_expr-out x))
  where
    go : (t : tree.Node) → HasNode x.node t → None ≡ waits_for (Of (view_ty x.ty) t)
    go (tree.Receive c) h = absurd (r h.0 h.1)
    go (tree.Send c y) h = absurd (q h.0 h.1 h.2)
    go (tree.Assign s y) h = absurd (p h.0 h.1 h.2)
    go _ h = refl

pub received_none : (p : Pattern) (x : code_expr.TExpr) → ((e : Boxed) → x.node ≡ make.Receive e → ⊥) → None ≡ received_to p (view_expr x)
received_none p x r = go (view_node x.node) (has_node x.node) ∙ sym (ap (received_to p) (view_expr-out x))
  where
    go : (t : tree.Node) → HasNode x.node t → None ≡ received_to p (Of (view_ty x.ty) t)
    go (tree.Receive c) h = absurd (r h.0 h.1)
    go _ h = refl

pub bad_told : (w : Why) (P : Reason → Type 0) → w ≡ why.BadAlt → P reasons.BadAlt → FailsFor w P
bad_told w P e h = subst (λ (z : Why). FailsFor z P) (sym e) h
