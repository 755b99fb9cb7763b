-- Which form of the code an expression's node has, told by its view, and what is told where it has another.
use Rattle.std.proofs.Common.{◌≡◌, ℕ, Bool, true, false, List, length, Bor, Option, Some, None, option_map, map, Vec, Box, Global, refl, sym, ap, ◌∙◌, subst}
use Rattle.std.specs.Vec.{with_items}
use Rattle.std.proofs.lemmas.List.{with_items_is}
use Rattle.limbo_types.specs.declared.ty.Ty as code_ty
use Rattle.limbo_types.specs.declared.ty.Ty.TheVariants as make_ty
use Rattle.limbo_types.specs.Types as ty
use Rattle.limbo_types.specs.View.{view_ty}
use Rattle.limbo_types.proofs.Forms.{HasForm, has_form}
use Rattle.limbo_typed.specs.declared.operation.Operation.{Operation}
use Rattle.limbo_typed.specs.declared.operation.Operation.TheVariants as op
use Rattle.limbo_typed.specs.declared.expr.TExpr as code_expr
use Rattle.limbo_typed.specs.declared.expr.Item as code_item
use Rattle.limbo_typed.specs.declared.expr.TNode as code_node
use Rattle.limbo_typed.specs.declared.expr.TNode.{TNode-F, out-TNode, roll-TNode, roll-out-TNode, fold-roll-TNode}
use Rattle.limbo_typed.specs.declared.expr.TNode.TheVariants as make
use Rattle.limbo_typed.specs.Typed as tree
use Rattle.limbo_typed.specs.View.{pattern_step, place_node_step, node_step, item_step, place_step, expr_step}
use Rattle.limbo_typed.specs.View.{view_pattern, view_place_node, view_node, view_item, view_place, view_expr, view_optional, view_exprs, items_of}
use Rattle.limbo_typed.proofs.View.{view_node-OpenNil, view_node-Apply, view_node-Filled}
use Rattle.limbo_forms.specs.Forms.{is_reference, element_of}
use Rattle.limbo_standing.specs.Settling.{has_nil, is_open_nil, is_tuple, is_list, is_cons, is_variant_of, stands_variant, settled_node}
use Rattle.limbo_standing.specs.Settling.{Tells, filled_node, settled_args, settled_items, settled_rest}

abbrev pub Boxed : Type 0
Boxed = Option (Box code_expr.TExpr Global)

-- a node of the code has the form that this node has, if it is one of those that are looked at
abbrev pub HasNode : code_node.TNode → tree.Node → Type 0
HasNode n tree.OpenNil = n ≡ make.OpenNil
HasNode n (tree.Apply o es) = (p : Operation) × (fs : Vec code_expr.TExpr Global) × (n ≡ make.Apply p fs)
HasNode n (tree.Filled k is rest) = (l : Boxed) × (js : Vec code_item.Item Global) × (r : Boxed) × (n ≡ make.Filled l js r)
HasNode n _ = Unit {0}

pub has_node : (n : code_node.TNode) → HasNode n (view_node n)
unfolding view_pattern view_place_node view_node view_item view_place view_expr view_optional
has_node n = go (out-TNode n) (sym (roll-out-TNode n))
  where
    is : (m : code_node.TNode) (t : tree.Node) → n ≡ m → view_node m ≡ t → HasNode n t → HasNode n (view_node n)
    is m t at f h = subst (λ (z : tree.Node). HasNode n z) (sym (ap view_node at ∙ f)) h

    go : (y : TNode-F _ _ _ _ _ _) → n ≡ roll-TNode y → HasNode n (view_node n)
    go TNode-F.OpenNil at = let p : n ≡ make.OpenNil = at ∙ make.rolls-OpenNil in is _ _ p view_node-OpenNil p
    go (TNode-F.Apply o es) at = let p : n ≡ make.Apply o es = at ∙ make.rolls-Apply o es in is _ _ p (view_node-Apply o es) (o, es, p)
    go (TNode-F.Filled k is_ rest) at =
        let p : n ≡ make.Filled k is_ rest = at ∙ make.rolls-Filled k is_ rest in
        is _ _ p (view_node-Filled k is_ rest) (k, is_, rest, p)
    go y at = is _ _ at (fold-roll-TNode _ _ _ _ _ _ pattern_step place_node_step node_step item_step place_step expr_step y) tt

pub no_open_nil : (n : code_node.TNode) → (n ≡ make.OpenNil → ⊥) → false ≡ is_open_nil (view_node n)
no_open_nil n never = go (view_node n) (has_node n)
  where
    go : (t : tree.Node) → HasNode n t → false ≡ is_open_nil t
    go tree.OpenNil h = absurd (never h)
    go _ h = refl

pub not_applied : (t : ty.Ty) (n : code_node.TNode) → ((o : Operation) (es : Vec code_expr.TExpr Global) → n ≡ make.Apply o es → ⊥)
    → settled_node t (view_node n) ≡ filled_node t (view_node n)
not_applied t n never = go (view_node n) (has_node n)
  where
    go : (m : tree.Node) → HasNode n m → settled_node t m ≡ filled_node t m
    go (tree.Apply o es) h = absurd (never h.0 h.1 h.2)
    go _ h = refl

pub not_filled : (t : ty.Ty) (n : code_node.TNode)
    → ((k : Boxed) (is : Vec code_item.Item Global) (rest : Boxed) → n ≡ make.Filled k is rest → ⊥) → filled_node t (view_node n) ≡ None
not_filled t n never = go (view_node n) (has_node n)
  where
    go : (m : tree.Node) → HasNode n m → filled_node t m ≡ None
    go (tree.Filled k is rest) h = absurd (never h.0 h.1 h.2 h.3)
    go _ h = refl

-- no elements are asked for
pub filled_never : (t : ty.Ty) (n : code_node.TNode) → None ≡ element_of t → filled_node t (view_node n) ≡ None
filled_never t n e = go (view_node n)
  where
    go : (m : tree.Node) → filled_node t m ≡ None
    go (tree.Filled k is rest) = rw (← e) refl
    go _ = refl

pub other_nil : (u : code_ty.Ty) → (u ≡ make_ty.Chars → ⊥) → is_reference (view_ty u) ≡ has_nil (view_ty u)
other_nil u never = go (view_ty u) (has_form u)
  where
    go : (t : ty.Ty) → HasForm u t → is_reference t ≡ has_nil t
    go ty.Chars h = absurd (never h)
    go _ h = refl

pub no_variant : (n : ℕ) (u : code_ty.Ty) → ((m v : ℕ) → u ≡ make_ty.RefPick m v → ⊥) → false ≡ is_variant_of n (view_ty u)
no_variant n u never = go (view_ty u) (has_form u)
  where
    go : (t : ty.Ty) → HasForm u t → false ≡ is_variant_of n t
    go (ty.RefPick m v) h = absurd (never h.0 h.1 h.2)
    go _ h = refl

pub no_ref_asked : (a : code_ty.Ty) (u : ty.Ty) → ((m : ℕ) → a ≡ make_ty.RefAdt m → ⊥) → false ≡ stands_variant (view_ty a) u
no_ref_asked a u never = go (view_ty a) (has_form a)
  where
    go : (t : ty.Ty) → HasForm a t → false ≡ stands_variant t u
    go (ty.RefAdt m) h = absurd (never h.0 h.1)
    go _ h = refl

pub not_tuple : (o : Operation) → (o ≡ op.Tuple → ⊥) → false ≡ is_tuple o
not_tuple op.Tuple never = absurd (never refl)
not_tuple _ never = refl

pub not_list : (o : Operation) → (o ≡ op.List → ⊥) → false ≡ is_list o
not_list op.List never = absurd (never refl)
not_list _ never = refl

pub not_cons : (o : Operation) → (o ≡ op.Cons → ⊥) → false ≡ is_cons o
not_cons op.Cons never = absurd (never refl)
not_cons _ never = refl

pub no_parts : (a : code_ty.Ty) (o : Operation) (es : tree.Exprs)
    → ((b : Box code_ty.Ty Global) → a ≡ make_ty.List b → ⊥) → ((vs : Vec code_ty.Ty Global) → a ≡ make_ty.Tuple vs → ⊥)
    → settled_args (view_ty a) o es ≡ None
no_parts a o es no_list no_tuple = go (view_ty a) (has_form a)
  where
    go : (t : ty.Ty) → HasForm a t → settled_args t o es ≡ None
    go (ty.ListOf t) h = absurd (no_list h.0 h.1)
    go (ty.Tuple ts) h = absurd (no_tuple h.0 h.1)
    go _ h = refl

-- ---- parts of a node that are settled

pub applied : (t : ty.Ty) (o : Operation) (es fs : Vec code_expr.TExpr Global) (told : Bool)
    → Tells (settled_args t o (view_exprs es.items)) told (view_exprs fs.items)
    → Tells (settled_node t (view_node (make.Apply o es))) told (view_node (make.Apply o fs))
applied t o es fs told h = rw (view_node-Apply o es, view_node-Apply o fs) (go told (settled_args t o (view_exprs es.items)) h)
  where
    go : (b : Bool) (p : Option tree.Exprs) → Tells p b (view_exprs fs.items)
        → Tells (option_map (λ gs. tree.Apply o gs) p) b (tree.Apply o (view_exprs fs.items))
    go true p h = ap (option_map (λ gs. tree.Apply o gs)) h
    go false p h = ap (option_map (λ gs. tree.Apply o gs)) h

pub filled : (t u : ty.Ty) (n : code_node.TNode) (k r s : Boxed) (is js : Vec code_item.Item Global) (new : List code_item.Item)
    → n ≡ make.Filled k is r → js.items ≡ new → Some u ≡ element_of t
    → settled_items u (items_of (map view_item is.items)) ≡ Some (items_of (map view_item new))
    → settled_rest u (view_optional r) ≡ Some (view_optional s)
    → filled_node t (view_node n) ≡ Some (view_node (make.Filled k js s))
filled t u n k r s is js new e j a f h =
    rw (e, view_node-Filled k is r, view_node-Filled k js s, ← a, f, h, j) refl

pub filled_not_items : (t u : ty.Ty) (n : code_node.TNode) (k r : Boxed) (is : Vec code_item.Item Global) → n ≡ make.Filled k is r
    → Some u ≡ element_of t → settled_items u (items_of (map view_item is.items)) ≡ None → filled_node t (view_node n) ≡ None
filled_not_items t u n k r is e a f = rw (e, view_node-Filled k is r, ← a, f) refl

pub filled_not_rest : (t u : ty.Ty) (n : code_node.TNode) (k r : Boxed) (is : Vec code_item.Item Global) (js : tree.Items) → n ≡ make.Filled k is r
    → Some u ≡ element_of t → settled_items u (items_of (map view_item is.items)) ≡ Some js → settled_rest u (view_optional r) ≡ None
    → filled_node t (view_node n) ≡ None
filled_not_rest t u n k r is js e a f h = rw (e, view_node-Filled k is r, ← a, f, h) refl

-- the same of a node that has the form, whose list of parts was lent

pub applied_at : (t : ty.Ty) (n : code_node.TNode) (o p : Operation) (es lent : Vec code_expr.TExpr Global) (old new : List code_expr.TExpr)
    (told : Bool) → n ≡ make.Apply o es → p ≡ o → lent ≡ es → old ≡ lent.items → length new ≡ lent.len
    → Tells (settled_args t o (view_exprs old)) told (view_exprs new)
    → Tells (settled_node t (view_node n)) told (view_node (make.Apply p (with_items lent new)))
applied_at t n o p es lent old new told e f g h l k =
    let fs : Vec code_expr.TExpr Global = with_items lent new in
    let old_is : old ≡ es.items = h ∙ ap (λ (v : Vec code_expr.TExpr Global). v.items) g in
    let new_is : new ≡ fs.items = sym (with_items_is lent new l) in
    let told_so : Tells (settled_args t o (view_exprs es.items)) told (view_exprs fs.items) =
    subst (λ (xs : List code_expr.TExpr). Tells (settled_args t o (view_exprs es.items)) told (view_exprs xs)) new_is
    (subst (λ (xs : List code_expr.TExpr). Tells (settled_args t o (view_exprs xs)) told (view_exprs new)) old_is k) in
    subst (λ (m : code_node.TNode). Tells (settled_node t (view_node m)) told (view_node (make.Apply p fs))) (sym e)
    (subst (λ (q : Operation). Tells (settled_node t (view_node (make.Apply o es))) told (view_node (make.Apply q fs))) (sym f)
    (applied t o es fs told told_so))

-- the type of an array's elements, as it was answered
pub element_is : (t : ty.Ty) (o : Option (Bor code_ty.Ty)) (i : Bor code_ty.Ty) → option_map (λ (b : Bor code_ty.Ty). view_ty b.now) o ≡ element_of t
    → o ≡ Some i → Some (view_ty i.now) ≡ element_of t
element_is t o i e f = ap (option_map (λ (b : Bor code_ty.Ty). view_ty b.now)) (sym f) ∙ e
