-- Which form of the code an expression's node has, told by its view, and that one of another form stores nothing.
use Rattle.std.proofs.Common.{◌≡◌, List, Box, Global, sym, ap, ◌∙◌, subst}
use Rattle.limbo_types.specs.declared.ty.Ty as code_ty
use Rattle.limbo_types.specs.declared.ty.Ty.TheVariants as make_ty
use Rattle.limbo_types.specs.Types as ty
use Rattle.limbo_types.specs.View.{view_ty}
use Rattle.limbo_types.proofs.Forms.{HasForm, has_form}
use Rattle.limbo_layout.specs.Adts.{Def}
use Rattle.limbo_typed.specs.declared.operation.Operation.{Operation}
use Rattle.limbo_typed.specs.declared.operation.Given.{Given}
use Rattle.limbo_typed.specs.declared.expr.Pattern as code_pattern
use Rattle.limbo_typed.specs.declared.expr.TNode as code_node
use Rattle.limbo_typed.specs.declared.expr.TNode.{TNode-F, out-TNode, roll-TNode, roll-out-TNode, fold-roll-TNode}
use Rattle.limbo_typed.specs.declared.expr.TNode.TheVariants as make
use Rattle.limbo_typed.specs.Typed as tree
use Rattle.limbo_typed.specs.View.{pattern_step, place_node_step, node_step, item_step, place_step, expr_step}
use Rattle.limbo_typed.specs.View.{view_pattern, view_place_node, view_node, view_item, view_place, view_expr}
use Rattle.limbo_typed.proofs.View.{view_node-Assign, view_node-Update, view_node-Step, view_node-Copy, view_node-Send}
use Rattle.limbo_stores.specs.Stores.{CopyCloses, SendCloses}
use Rattle.limbo_stores.proofs.Forms.{PlaceBox, ExprBox}

abbrev pub PatternBox : Type 0
PatternBox = Box code_pattern.Pattern Global

-- a node of the code has the form that this node has, if it is one of those that are looked at
abbrev pub HasNode : code_node.TNode → tree.Node → Type 0
HasNode n (tree.Assign p e) = (b : PatternBox) × (c : ExprBox) × (n ≡ make.Assign b c)
HasNode n (tree.Update o p e) = (q : Operation) × (b : PlaceBox) × (c : ExprBox) × (n ≡ make.Update q b c)
HasNode n (tree.Step o g p) = (q : Operation) × (h : Given) × (b : PlaceBox) × (n ≡ make.Step q h b)
HasNode n (tree.Copy a i e) = (b c d : ExprBox) × (n ≡ make.Copy b c d)
HasNode n (tree.Send c e) = (b d : ExprBox) × (n ≡ make.Send b d)
HasNode n _ = Unit {0}

pub has_node : (n : code_node.TNode) → HasNode n (view_node n)
unfolding view_pattern view_place_node view_node view_item view_place view_expr
has_node n = go (out-TNode n) (sym (roll-out-TNode n))
  where
    is : (m : code_node.TNode) (t : tree.Node) → n ≡ m → view_node m ≡ t → HasNode n t → HasNode n (view_node n)
    is m t at f h = subst (λ (z : tree.Node). HasNode n z) (sym (ap view_node at ∙ f)) h

    go : (y : TNode-F _ _ _ _ _ _) → n ≡ roll-TNode y → HasNode n (view_node n)
    go (TNode-F.Assign p e) at = let q : n ≡ make.Assign p e = at ∙ make.rolls-Assign p e in is _ _ q (view_node-Assign p e) (p, e, q)
    go (TNode-F.Update o p e) at =
        let q : n ≡ make.Update o p e = at ∙ make.rolls-Update o p e in is _ _ q (view_node-Update o p e) (o, p, e, q)
    go (TNode-F.Step o g p) at = let q : n ≡ make.Step o g p = at ∙ make.rolls-Step o g p in is _ _ q (view_node-Step o g p) (o, g, p, q)
    go (TNode-F.Copy a i e) at = let q : n ≡ make.Copy a i e = at ∙ make.rolls-Copy a i e in is _ _ q (view_node-Copy a i e) (a, i, e, q)
    go (TNode-F.Send c e) at = let q : n ≡ make.Send c e = at ∙ make.rolls-Send c e in is _ _ q (view_node-Send c e) (c, e, q)
    go y at = is _ _ at (fold-roll-TNode _ _ _ _ _ _ pattern_step place_node_step node_step item_step place_step expr_step y) tt

-- a node that stores nothing
abbrev pub StoresNothing : tree.Node → Type 0
StoresNothing (tree.Assign p e) = ⊥
StoresNothing (tree.Update o p e) = ⊥
StoresNothing (tree.Step o g p) = ⊥
StoresNothing (tree.Copy a i e) = ⊥
StoresNothing (tree.Send c e) = ⊥
StoresNothing _ = Unit {0}

pub stores_nothing :
    (n : code_node.TNode)
    → ((b : PatternBox) (c : ExprBox) → n ≡ make.Assign b c → ⊥)
    → ((o : Operation) (b : PlaceBox) (c : ExprBox) → n ≡ make.Update o b c → ⊥)
    → ((o : Operation) (g : Given) (b : PlaceBox) → n ≡ make.Step o g b → ⊥)
    → ((a i e : ExprBox) → n ≡ make.Copy a i e → ⊥)
    → ((c e : ExprBox) → n ≡ make.Send c e → ⊥)
    → StoresNothing (view_node n)
stores_nothing n p0 p1 p2 p3 p4 = go (view_node n) (has_node n)
  where
    go : (t : tree.Node) → HasNode n t → StoresNothing t
    go (tree.Assign p e) h = absurd (p0 h.0 h.1 h.2)
    go (tree.Update o p e) h = absurd (p1 h.0 h.1 h.2 h.3)
    go (tree.Step o g p) h = absurd (p2 h.0 h.1 h.2 h.3)
    go (tree.Copy a i e) h = absurd (p3 h.0 h.1 h.2 h.3)
    go (tree.Send c e) h = absurd (p4 h.0 h.1 h.2)
    go _ h = tt

pub no_copy : (defs : List Def) (u : code_ty.Ty) → ((b : Box code_ty.Ty Global) → u ≡ make_ty.Array b → ⊥) → CopyCloses defs (view_ty u) → ⊥
no_copy defs u p0 = go (view_ty u) (has_form u)
  where
    go : (t : ty.Ty) → HasForm u t → CopyCloses defs t → ⊥
    go (ty.ArrayOf t) h c = p0 h.0 h.1
    go _ h c = c

pub no_send : (defs : List Def) (u : code_ty.Ty) → ((b : Box code_ty.Ty Global) → u ≡ make_ty.Chan b → ⊥) → SendCloses defs (view_ty u) → ⊥
no_send defs u p0 = go (view_ty u) (has_form u)
  where
    go : (t : ty.Ty) → HasForm u t → SendCloses defs t → ⊥
    go (ty.ChanOf t) h c = p0 h.0 h.1
    go _ h c = c
