-- Which form of the code a place has, told by its view, and what is told where it has another.
use Rattle.std.proofs.Common.{◌≡◌, ℕ, false, Option, None, Box, Global, refl, sym, ap, ◌∙◌, subst}
use Rattle.limbo_types.specs.declared.ty.Ty as code_ty
use Rattle.limbo_types.specs.declared.ty.Ty.TheVariants as make_ty
use Rattle.limbo_types.specs.Types as ty
use Rattle.limbo_types.specs.View.{view_ty}
use Rattle.limbo_types.proofs.Forms.{HasForm, has_form}
use Rattle.limbo_typed.specs.declared.expr.TExpr as code_expr
use Rattle.limbo_typed.specs.declared.expr.Place as code_place
use Rattle.limbo_typed.specs.declared.expr.PlaceNode as code_place_node
use Rattle.limbo_typed.specs.declared.expr.PlaceNode.{PlaceNode-F, out-PlaceNode, roll-PlaceNode, roll-out-PlaceNode, fold-roll-PlaceNode}
use Rattle.limbo_typed.specs.declared.expr.PlaceNode.TheVariants as make
use Rattle.limbo_typed.specs.Typed as tree
use Rattle.limbo_typed.specs.View.{pattern_step, place_node_step, node_step, item_step, place_step, expr_step}
use Rattle.limbo_typed.specs.View.{view_pattern, view_place_node, view_node, view_item, view_place, view_expr}
use Rattle.limbo_typed.proofs.View.{view_place-out, view_place_node-Field, view_place_node-Element}
use Rattle.limbo_typed.proofs.View.{view_place_node-Character, view_place_node-Target}
use Rattle.limbo_stores.specs.Stores.{holder, holder_of}
use Rattle.limbo_stores.specs.Choosing.{is_of_fd, stands_in_fd}

abbrev pub PlaceBox : Type 0
PlaceBox = Box code_place.Place Global

abbrev pub ExprBox : Type 0
ExprBox = Box code_expr.TExpr Global

-- where a place of the code is has the form that this has, if it is one of those that are looked at
abbrev pub HasPlaceNode : code_place_node.PlaceNode → tree.PlaceNode → Type 0
HasPlaceNode n (tree.Field p k) = (b : PlaceBox) × (j : ℕ) × (n ≡ make.Field b j)
HasPlaceNode n (tree.Element a i) = (b c : ExprBox) × (n ≡ make.Element b c)
HasPlaceNode n (tree.Character p i) = (b : PlaceBox) × (c : ExprBox) × (n ≡ make.Character b c)
HasPlaceNode n (tree.Target e) = (b : ExprBox) × (n ≡ make.Target b)
HasPlaceNode n _ = Unit {0}

pub has_place_node : (n : code_place_node.PlaceNode) → HasPlaceNode n (view_place_node n)
unfolding view_pattern view_place_node view_node view_item view_place view_expr
has_place_node n = go (out-PlaceNode n) (sym (roll-out-PlaceNode n))
  where
    is :
        (m : code_place_node.PlaceNode) (t : tree.PlaceNode) → n ≡ m → view_place_node m ≡ t → HasPlaceNode n t
        → HasPlaceNode n (view_place_node n)
    is m t at f h = subst (λ (z : tree.PlaceNode). HasPlaceNode n z) (sym (ap view_place_node at ∙ f)) h

    go : (y : PlaceNode-F _ _ _ _ _ _) → n ≡ roll-PlaceNode y → HasPlaceNode n (view_place_node n)
    go (PlaceNode-F.Field p k) at = let q : n ≡ make.Field p k = at ∙ make.rolls-Field p k in is _ _ q (view_place_node-Field p k) (p, k, q)
    go (PlaceNode-F.Element a i) at =
        let q : n ≡ make.Element a i = at ∙ make.rolls-Element a i in is _ _ q (view_place_node-Element a i) (a, i, q)
    go (PlaceNode-F.Character p i) at =
        let q : n ≡ make.Character p i = at ∙ make.rolls-Character p i in is _ _ q (view_place_node-Character p i) (p, i, q)
    go (PlaceNode-F.Target e) at = let q : n ≡ make.Target e = at ∙ make.rolls-Target e in is _ _ q (view_place_node-Target e) (e, q)
    go y at = is _ _ at (fold-roll-PlaceNode _ _ _ _ _ _ pattern_step place_node_step node_step item_step place_step expr_step y) tt

pub no_holder :
    (p : code_place.Place)
    → ((b : PlaceBox) (k : ℕ) → p.at ≡ make.Field b k → ⊥)
    → ((a i : ExprBox) → p.at ≡ make.Element a i → ⊥)
    → ((b : PlaceBox) (i : ExprBox) → p.at ≡ make.Character b i → ⊥)
    → ((e : ExprBox) → p.at ≡ make.Target e → ⊥)
    → None ≡ holder (view_place p)
no_holder p p0 p1 p2 p3 = rw (view_place-out p) (go (view_place_node p.at) (has_place_node p.at))
  where
    go : (t : tree.PlaceNode) → HasPlaceNode p.at t → None ≡ holder_of t
    go (tree.Field q k) h = absurd (p0 h.0 h.1 h.2)
    go (tree.Element a i) h = absurd (p1 h.0 h.1 h.2)
    go (tree.Character q i) h = absurd (p2 h.0 h.1 h.2)
    go (tree.Target e) h = absurd (p3 h.0 h.1)
    go _ h = refl

pub stands_in_none :
    (fd : Option ℕ) (n : code_place_node.PlaceNode)
    → ((b : PlaceBox) (k : ℕ) → n ≡ make.Field b k → ⊥)
    → ((b : PlaceBox) (i : ExprBox) → n ≡ make.Character b i → ⊥)
    → false ≡ stands_in_fd fd (view_place_node n)
stands_in_none fd n p0 p1 = go (view_place_node n) (has_place_node n)
  where
    go : (t : tree.PlaceNode) → HasPlaceNode n t → false ≡ stands_in_fd fd t
    go (tree.Field q k) h = absurd (p0 h.0 h.1 h.2)
    go (tree.Character q i) h = absurd (p1 h.0 h.1 h.2)
    go _ h = refl

pub no_fd : (fd : Option ℕ) (u : code_ty.Ty) → ((n : ℕ) → u ≡ make_ty.Adt n → ⊥) → false ≡ is_of_fd fd (view_ty u)
no_fd fd u p0 = go (view_ty u) (has_form u)
  where
    go : (t : ty.Ty) → HasForm u t → false ≡ is_of_fd fd t
    go (ty.Adt n) h = absurd (p0 h.0 h.1)
    go _ h = refl
