-- The equations of the views, one for each variant.
use Rattle.std.proofs.Common.{◌≡◌, ℕ, ℤ, map, Option, Some, None, Vec, Box, Global, refl, sym, ap, ◌∙◌}
use Rattle.inf_text.specs.declared.text.Text.{Text}
use Rattle.limbo_types.specs.View.{view_ty}
use Rattle.limbo_typed.specs.declared.operation.Operation.{Operation}
use Rattle.limbo_typed.specs.declared.operation.Connective.{Connective}
use Rattle.limbo_typed.specs.declared.operation.Given.{Given}
use Rattle.limbo_typed.specs.declared.print.Printed.{Printed}
use Rattle.limbo_typed.specs.declared.print.Piece.{Piece}
use Rattle.limbo_typed.specs.declared.expr.TExpr as code_expr
use Rattle.limbo_typed.specs.declared.expr.TExpr.{fold_out-TExpr}
use Rattle.limbo_typed.specs.declared.expr.TNode.{TNode-F, fold-roll-TNode}
use Rattle.limbo_typed.specs.declared.expr.TNode.TheVariants as make_node
use Rattle.limbo_typed.specs.declared.expr.Item as code_item
use Rattle.limbo_typed.specs.declared.expr.Item.{fold_out-Item}
use Rattle.limbo_typed.specs.declared.expr.Place as code_place
use Rattle.limbo_typed.specs.declared.expr.Place.{fold_out-Place}
use Rattle.limbo_typed.specs.declared.expr.PlaceNode.{PlaceNode-F, fold-roll-PlaceNode}
use Rattle.limbo_typed.specs.declared.expr.PlaceNode.TheVariants as make_place
use Rattle.limbo_typed.specs.declared.expr.Pattern as code_pattern
use Rattle.limbo_typed.specs.declared.expr.Pattern.{Pattern-F, fold-roll-Pattern}
use Rattle.limbo_typed.specs.declared.expr.Pattern.TheVariants as make_pattern
use Rattle.limbo_typed.specs.declared.stmt.TStmt as code_stmt
use Rattle.limbo_typed.specs.declared.stmt.TStmt.{TStmt-F, fold-roll-TStmt}
use Rattle.limbo_typed.specs.declared.stmt.TStmt.TheVariants as make
use Rattle.limbo_typed.specs.declared.stmt.AltArm as code_alt_arm
use Rattle.limbo_typed.specs.declared.stmt.AltArm.{fold_out-AltArm}
use Rattle.limbo_typed.specs.declared.stmt.CaseArm as code_case_arm
use Rattle.limbo_typed.specs.declared.stmt.CaseArm.{fold_out-CaseArm}
use Rattle.limbo_typed.specs.declared.stmt.HandlerArm as code_handler_arm
use Rattle.limbo_typed.specs.declared.stmt.HandlerArm.{fold_out-HandlerArm}
use Rattle.limbo_typed.specs.declared.stmt.PickArm as code_pick_arm
use Rattle.limbo_typed.specs.declared.stmt.PickArm.{fold_out-PickArm}
use Rattle.limbo_typed.specs.Typed as tree
use Rattle.limbo_typed.specs.View.{pattern_step, place_node_step, node_step, item_step, place_step, expr_step, items_of, patterns_of}
use Rattle.limbo_typed.specs.View.{view_pattern, view_place_node, view_node, view_item, view_place, view_expr, view_exprs}
use Rattle.limbo_typed.specs.View.{view_optional, view_boxed, heads_of, bodies_of, view_alt_head}
use Rattle.limbo_typed.specs.View.{stmt_step, alt_arm_step, case_arm_step, handler_arm_step, pick_arm_step}
use Rattle.limbo_typed.specs.View.{view_stmt, view_stmts, view_alt_arm, view_case_arm, view_handler_arm, view_pick_arm}

-- ---- expressions that may be absent

pub view_optional-None : view_optional None ≡ tree.Absent
unfolding view_optional
view_optional-None = refl

pub view_optional-Some : (e : Box code_expr.TExpr Global) → view_optional (Some e) ≡ tree.Present (view_expr e.value)
unfolding view_optional
view_optional-Some e = refl

pub view_boxed-None : view_boxed None ≡ None
unfolding view_boxed
view_boxed-None = refl

pub view_boxed-Some : (e : Box code_expr.TExpr Global) → view_boxed (Some e) ≡ Some (view_expr e.value)
unfolding view_boxed
view_boxed-Some e = refl

-- ---- expressions: an expression, a place and an element by their parts, then a form by its own

pub view_expr-out : (e : code_expr.TExpr) → view_expr e ≡ tree.Of (view_ty e.ty) (view_node e.node)
unfolding view_pattern view_place_node view_node view_item view_place view_expr view_optional
view_expr-out e = fold_out-TExpr _ _ _ _ _ _ pattern_step place_node_step node_step item_step place_step expr_step e

pub view_place-out : (p : code_place.Place) → view_place p ≡ tree.At (view_ty p.ty) (view_place_node p.at)
unfolding view_pattern view_place_node view_node view_item view_place view_expr view_optional
view_place-out p = fold_out-Place _ _ _ _ _ _ pattern_step place_node_step node_step item_step place_step expr_step p

pub view_item-out : (i : code_item.Item) → view_item i ≡ record { index = i.index; value = view_expr i.value }
unfolding view_pattern view_place_node view_node view_item view_place view_expr view_optional
view_item-out i = fold_out-Item _ _ _ _ _ _ pattern_step place_node_step node_step item_step place_step expr_step i

pub view_node-Number : (n : ℤ) → view_node (make_node.Number n) ≡ tree.Number n
unfolding view_pattern view_place_node view_node view_item view_place view_expr view_optional
view_node-Number n =
    ap view_node (sym (make_node.rolls-Number n))
    ∙ fold-roll-TNode _ _ _ _ _ _ pattern_step place_node_step node_step item_step place_step expr_step (TNode-F.Number n)

pub view_node-Chars : (t : Text) → view_node (make_node.Chars t) ≡ tree.Chars t
unfolding view_pattern view_place_node view_node view_item view_place view_expr view_optional
view_node-Chars t =
    ap view_node (sym (make_node.rolls-Chars t))
    ∙ fold-roll-TNode _ _ _ _ _ _ pattern_step place_node_step node_step item_step place_step expr_step (TNode-F.Chars t)

pub view_node-Nil : view_node make_node.Nil ≡ tree.Nil
unfolding view_pattern view_place_node view_node view_item view_place view_expr view_optional
view_node-Nil =
    ap view_node (sym make_node.rolls-Nil)
    ∙ fold-roll-TNode _ _ _ _ _ _ pattern_step place_node_step node_step item_step place_step expr_step TNode-F.Nil

pub view_node-OpenNil : view_node make_node.OpenNil ≡ tree.OpenNil
unfolding view_pattern view_place_node view_node view_item view_place view_expr view_optional
view_node-OpenNil =
    ap view_node (sym make_node.rolls-OpenNil)
    ∙ fold-roll-TNode _ _ _ _ _ _ pattern_step place_node_step node_step item_step place_step expr_step TNode-F.OpenNil

pub view_node-Read : (p : Box code_place.Place Global) → view_node (make_node.Read p) ≡ tree.Read (view_place p.value)
unfolding view_pattern view_place_node view_node view_item view_place view_expr view_optional
view_node-Read p =
    ap view_node (sym (make_node.rolls-Read p))
    ∙ fold-roll-TNode _ _ _ _ _ _ pattern_step place_node_step node_step item_step place_step expr_step (TNode-F.Read p)

pub view_node-Part : (e : Box code_expr.TExpr Global) (k : ℕ) → view_node (make_node.Part e k) ≡ tree.Part (view_expr e.value) k
unfolding view_pattern view_place_node view_node view_item view_place view_expr view_optional
view_node-Part e k =
    ap view_node (sym (make_node.rolls-Part e k))
    ∙ fold-roll-TNode _ _ _ _ _ _ pattern_step place_node_step node_step item_step place_step expr_step (TNode-F.Part e k)

pub view_node-Apply : (o : Operation) (es : Vec code_expr.TExpr Global)
    → view_node (make_node.Apply o es) ≡ tree.Apply o (view_exprs es.items)
unfolding view_pattern view_place_node view_node view_item view_place view_expr view_optional
view_node-Apply o es =
    ap view_node (sym (make_node.rolls-Apply o es))
    ∙ fold-roll-TNode _ _ _ _ _ _ pattern_step place_node_step node_step item_step place_step expr_step (TNode-F.Apply o es)

pub view_node-Lazy : (c : Connective) (l r : Box code_expr.TExpr Global)
    → view_node (make_node.Lazy c l r) ≡ tree.Lazy c (view_expr l.value) (view_expr r.value)
unfolding view_pattern view_place_node view_node view_item view_place view_expr view_optional
view_node-Lazy c l r =
    ap view_node (sym (make_node.rolls-Lazy c l r))
    ∙ fold-roll-TNode _ _ _ _ _ _ pattern_step place_node_step node_step item_step place_step expr_step (TNode-F.Lazy c l r)

pub view_node-Assign : (p : Box code_pattern.Pattern Global) (e : Box code_expr.TExpr Global)
    → view_node (make_node.Assign p e) ≡ tree.Assign (view_pattern p.value) (view_expr e.value)
unfolding view_pattern view_place_node view_node view_item view_place view_expr view_optional
view_node-Assign p e =
    ap view_node (sym (make_node.rolls-Assign p e))
    ∙ fold-roll-TNode _ _ _ _ _ _ pattern_step place_node_step node_step item_step place_step expr_step (TNode-F.Assign p e)

pub view_node-Update : (o : Operation) (p : Box code_place.Place Global) (e : Box code_expr.TExpr Global)
    → view_node (make_node.Update o p e) ≡ tree.Update o (view_place p.value) (view_expr e.value)
unfolding view_pattern view_place_node view_node view_item view_place view_expr view_optional
view_node-Update o p e =
    ap view_node (sym (make_node.rolls-Update o p e))
    ∙ fold-roll-TNode _ _ _ _ _ _ pattern_step place_node_step node_step item_step place_step expr_step (TNode-F.Update o p e)

pub view_node-Step : (o : Operation) (g : Given) (p : Box code_place.Place Global)
    → view_node (make_node.Step o g p) ≡ tree.Step o g (view_place p.value)
unfolding view_pattern view_place_node view_node view_item view_place view_expr view_optional
view_node-Step o g p =
    ap view_node (sym (make_node.rolls-Step o g p))
    ∙ fold-roll-TNode _ _ _ _ _ _ pattern_step place_node_step node_step item_step place_step expr_step (TNode-F.Step o g p)

pub view_node-Copy : (a i e : Box code_expr.TExpr Global)
    → view_node (make_node.Copy a i e) ≡ tree.Copy (view_expr a.value) (view_expr i.value) (view_expr e.value)
unfolding view_pattern view_place_node view_node view_item view_place view_expr view_optional
view_node-Copy a i e =
    ap view_node (sym (make_node.rolls-Copy a i e))
    ∙ fold-roll-TNode _ _ _ _ _ _ pattern_step place_node_step node_step item_step place_step expr_step (TNode-F.Copy a i e)

filled : (k : Option (Box code_expr.TExpr Global)) (is : Vec code_item.Item Global)
    (rest : Option (Box code_expr.TExpr Global))
    → view_node (make_node.Filled k is rest)
    ≡ tree.Filled (view_optional k) (items_of (map view_item is.items)) (view_optional rest)
unfolding view_pattern view_place_node view_node view_item view_place view_expr view_optional
filled None is None =
    ap view_node (sym (make_node.rolls-Filled None is None))
    ∙ fold-roll-TNode _ _ _ _ _ _ pattern_step place_node_step node_step item_step place_step expr_step (TNode-F.Filled None is None)
filled None is (Some rest) =
    ap view_node (sym (make_node.rolls-Filled None is (Some rest)))
    ∙ fold-roll-TNode _ _ _ _ _ _ pattern_step place_node_step node_step item_step place_step expr_step
    (TNode-F.Filled None is (Some rest))
filled (Some k) is None =
    ap view_node (sym (make_node.rolls-Filled (Some k) is None))
    ∙ fold-roll-TNode _ _ _ _ _ _ pattern_step place_node_step node_step item_step place_step expr_step (TNode-F.Filled (Some k) is None)
filled (Some k) is (Some rest) =
    ap view_node (sym (make_node.rolls-Filled (Some k) is (Some rest)))
    ∙ fold-roll-TNode _ _ _ _ _ _ pattern_step place_node_step node_step item_step place_step expr_step
    (TNode-F.Filled (Some k) is (Some rest))

pub view_node-Filled : (k : Option (Box code_expr.TExpr Global)) (is : Vec code_item.Item Global)
    (rest : Option (Box code_expr.TExpr Global))
    → view_node (make_node.Filled k is rest)
    ≡ tree.Filled (view_optional k) (items_of (map view_item is.items)) (view_optional rest)
view_node-Filled k is rest = filled k is rest

pub view_node-Filled_bare : (is : Vec code_item.Item Global)
    → view_node (make_node.Filled None is None) ≡ tree.Filled tree.Absent (items_of (map view_item is.items)) tree.Absent
unfolding view_optional
view_node-Filled_bare is = filled None is None

pub view_node-Filled_rest : (is : Vec code_item.Item Global) (rest : Box code_expr.TExpr Global)
    → view_node (make_node.Filled None is (Some rest))
    ≡ tree.Filled tree.Absent (items_of (map view_item is.items)) (tree.Present (view_expr rest.value))
unfolding view_optional
view_node-Filled_rest is rest = filled None is (Some rest)

pub view_node-Filled_long : (k : Box code_expr.TExpr Global) (is : Vec code_item.Item Global)
    → view_node (make_node.Filled (Some k) is None)
    ≡ tree.Filled (tree.Present (view_expr k.value)) (items_of (map view_item is.items)) tree.Absent
unfolding view_optional
view_node-Filled_long k is = filled (Some k) is None

pub view_node-Filled_long_rest : (k : Box code_expr.TExpr Global) (is : Vec code_item.Item Global) (rest : Box code_expr.TExpr Global)
    → view_node (make_node.Filled (Some k) is (Some rest))
    ≡ tree.Filled (tree.Present (view_expr k.value)) (items_of (map view_item is.items)) (tree.Present (view_expr rest.value))
unfolding view_optional
view_node-Filled_long_rest k is rest = filled (Some k) is (Some rest)

channel : (k : Option (Box code_expr.TExpr Global)) → view_node (make_node.Channel k) ≡ tree.Channel (view_optional k)
unfolding view_pattern view_place_node view_node view_item view_place view_expr view_optional
channel None =
    ap view_node (sym (make_node.rolls-Channel None))
    ∙ fold-roll-TNode _ _ _ _ _ _ pattern_step place_node_step node_step item_step place_step expr_step (TNode-F.Channel None)
channel (Some k) =
    ap view_node (sym (make_node.rolls-Channel (Some k)))
    ∙ fold-roll-TNode _ _ _ _ _ _ pattern_step place_node_step node_step item_step place_step expr_step (TNode-F.Channel (Some k))

pub view_node-Channel : (k : Option (Box code_expr.TExpr Global)) → view_node (make_node.Channel k) ≡ tree.Channel (view_optional k)
view_node-Channel k = channel k

pub view_node-Channel_unsized : view_node (make_node.Channel None) ≡ tree.Channel tree.Absent
unfolding view_optional
view_node-Channel_unsized = channel None

pub view_node-Channel_sized : (k : Box code_expr.TExpr Global)
    → view_node (make_node.Channel (Some k)) ≡ tree.Channel (tree.Present (view_expr k.value))
unfolding view_optional
view_node-Channel_sized k = channel (Some k)

pub view_node-Call : (f : ℕ) (es : Vec code_expr.TExpr Global) → view_node (make_node.Call f es) ≡ tree.Call f (view_exprs es.items)
unfolding view_pattern view_place_node view_node view_item view_place view_expr view_optional
view_node-Call f es =
    ap view_node (sym (make_node.rolls-Call f es))
    ∙ fold-roll-TNode _ _ _ _ _ _ pattern_step place_node_step node_step item_step place_step expr_step (TNode-F.Call f es)

pub view_node-CallThrough : (m : Box code_expr.TExpr Global) (k f : ℕ) (es : Vec code_expr.TExpr Global)
    → view_node (make_node.CallThrough m k f es) ≡ tree.CallThrough (view_expr m.value) k f (view_exprs es.items)
unfolding view_pattern view_place_node view_node view_item view_place view_expr view_optional
view_node-CallThrough m k f es =
    ap view_node (sym (make_node.rolls-CallThrough m k f es))
    ∙ fold-roll-TNode _ _ _ _ _ _ pattern_step place_node_step node_step item_step place_step expr_step (TNode-F.CallThrough m k f es)

print : (which : Printed) (m : Box code_expr.TExpr Global) (fd : Option (Box code_expr.TExpr Global))
    (ps : Vec Piece Global) (es : Vec code_expr.TExpr Global)
    → view_node (make_node.Print which m fd ps es)
    ≡ tree.Print which (view_expr m.value) (view_optional fd) ps.items (view_exprs es.items)
unfolding view_pattern view_place_node view_node view_item view_place view_expr view_optional
print which m None ps es =
    ap view_node (sym (make_node.rolls-Print which m None ps es))
    ∙ fold-roll-TNode _ _ _ _ _ _ pattern_step place_node_step node_step item_step place_step expr_step (TNode-F.Print which m None ps es)
print which m (Some fd) ps es =
    ap view_node (sym (make_node.rolls-Print which m (Some fd) ps es))
    ∙ fold-roll-TNode _ _ _ _ _ _ pattern_step place_node_step node_step item_step place_step expr_step
    (TNode-F.Print which m (Some fd) ps es)

pub view_node-Print : (which : Printed) (m : Box code_expr.TExpr Global) (fd : Option (Box code_expr.TExpr Global))
    (ps : Vec Piece Global) (es : Vec code_expr.TExpr Global)
    → view_node (make_node.Print which m fd ps es)
    ≡ tree.Print which (view_expr m.value) (view_optional fd) ps.items (view_exprs es.items)
view_node-Print which m fd ps es = print which m fd ps es

pub view_node-Print_out : (which : Printed) (m : Box code_expr.TExpr Global) (ps : Vec Piece Global) (es : Vec code_expr.TExpr Global)
    → view_node (make_node.Print which m None ps es) ≡ tree.Print which (view_expr m.value) tree.Absent ps.items (view_exprs es.items)
unfolding view_optional
view_node-Print_out which m ps es = print which m None ps es

pub view_node-Print_file : (which : Printed) (m fd : Box code_expr.TExpr Global) (ps : Vec Piece Global) (es : Vec code_expr.TExpr Global)
    → view_node (make_node.Print which m (Some fd) ps es)
    ≡ tree.Print which (view_expr m.value) (tree.Present (view_expr fd.value)) ps.items (view_exprs es.items)
unfolding view_optional
view_node-Print_file which m fd ps es = print which m (Some fd) ps es

pub view_node-Load : (k : ℕ) (e : Box code_expr.TExpr Global) → view_node (make_node.Load k e) ≡ tree.Load k (view_expr e.value)
unfolding view_pattern view_place_node view_node view_item view_place view_expr view_optional
view_node-Load k e =
    ap view_node (sym (make_node.rolls-Load k e))
    ∙ fold-roll-TNode _ _ _ _ _ _ pattern_step place_node_step node_step item_step place_step expr_step (TNode-F.Load k e)

pub view_node-Send : (c e : Box code_expr.TExpr Global)
    → view_node (make_node.Send c e) ≡ tree.Send (view_expr c.value) (view_expr e.value)
unfolding view_pattern view_place_node view_node view_item view_place view_expr view_optional
view_node-Send c e =
    ap view_node (sym (make_node.rolls-Send c e))
    ∙ fold-roll-TNode _ _ _ _ _ _ pattern_step place_node_step node_step item_step place_step expr_step (TNode-F.Send c e)

pub view_node-Receive : (c : Box code_expr.TExpr Global) → view_node (make_node.Receive c) ≡ tree.Receive (view_expr c.value)
unfolding view_pattern view_place_node view_node view_item view_place view_expr view_optional
view_node-Receive c =
    ap view_node (sym (make_node.rolls-Receive c))
    ∙ fold-roll-TNode _ _ _ _ _ _ pattern_step place_node_step node_step item_step place_step expr_step (TNode-F.Receive c)

pub view_place_node-Local : (x : ℕ) → view_place_node (make_place.Local x) ≡ tree.Local x
unfolding view_pattern view_place_node view_node view_item view_place view_expr view_optional
view_place_node-Local x =
    ap view_place_node (sym (make_place.rolls-Local x))
    ∙ fold-roll-PlaceNode _ _ _ _ _ _ pattern_step place_node_step node_step item_step place_step expr_step (PlaceNode-F.Local x)

pub view_place_node-Global : (x : ℕ) → view_place_node (make_place.Global x) ≡ tree.Global x
unfolding view_pattern view_place_node view_node view_item view_place view_expr view_optional
view_place_node-Global x =
    ap view_place_node (sym (make_place.rolls-Global x))
    ∙ fold-roll-PlaceNode _ _ _ _ _ _ pattern_step place_node_step node_step item_step place_step expr_step (PlaceNode-F.Global x)

pub view_place_node-Field : (p : Box code_place.Place Global) (k : ℕ)
    → view_place_node (make_place.Field p k) ≡ tree.Field (view_place p.value) k
unfolding view_pattern view_place_node view_node view_item view_place view_expr view_optional
view_place_node-Field p k =
    ap view_place_node (sym (make_place.rolls-Field p k))
    ∙ fold-roll-PlaceNode _ _ _ _ _ _ pattern_step place_node_step node_step item_step place_step expr_step (PlaceNode-F.Field p k)

pub view_place_node-Element : (a i : Box code_expr.TExpr Global)
    → view_place_node (make_place.Element a i) ≡ tree.Element (view_expr a.value) (view_expr i.value)
unfolding view_pattern view_place_node view_node view_item view_place view_expr view_optional
view_place_node-Element a i =
    ap view_place_node (sym (make_place.rolls-Element a i))
    ∙ fold-roll-PlaceNode _ _ _ _ _ _ pattern_step place_node_step node_step item_step place_step expr_step (PlaceNode-F.Element a i)

pub view_place_node-Character : (p : Box code_place.Place Global) (i : Box code_expr.TExpr Global)
    → view_place_node (make_place.Character p i) ≡ tree.Character (view_place p.value) (view_expr i.value)
unfolding view_pattern view_place_node view_node view_item view_place view_expr view_optional
view_place_node-Character p i =
    ap view_place_node (sym (make_place.rolls-Character p i))
    ∙ fold-roll-PlaceNode _ _ _ _ _ _ pattern_step place_node_step node_step item_step place_step expr_step (PlaceNode-F.Character p i)

pub view_place_node-Target : (e : Box code_expr.TExpr Global) → view_place_node (make_place.Target e) ≡ tree.Target (view_expr e.value)
unfolding view_pattern view_place_node view_node view_item view_place view_expr view_optional
view_place_node-Target e =
    ap view_place_node (sym (make_place.rolls-Target e))
    ∙ fold-roll-PlaceNode _ _ _ _ _ _ pattern_step place_node_step node_step item_step place_step expr_step (PlaceNode-F.Target e)

pub view_pattern-Place : (p : Box code_place.Place Global) → view_pattern (make_pattern.Place p) ≡ tree.ToPlace (view_place p.value)
unfolding view_pattern view_place_node view_node view_item view_place view_expr view_optional
view_pattern-Place p =
    ap view_pattern (sym (make_pattern.rolls-Place p))
    ∙ fold-roll-Pattern _ _ _ _ _ _ pattern_step place_node_step node_step item_step place_step expr_step (Pattern-F.Place p)

pub view_pattern-Nothing : view_pattern make_pattern.Nothing ≡ tree.ToNothing
unfolding view_pattern view_place_node view_node view_item view_place view_expr view_optional
view_pattern-Nothing =
    ap view_pattern (sym make_pattern.rolls-Nothing)
    ∙ fold-roll-Pattern _ _ _ _ _ _ pattern_step place_node_step node_step item_step place_step expr_step Pattern-F.Nothing

pub view_pattern-Tuple : (ps : Vec code_pattern.Pattern Global)
    → view_pattern (make_pattern.Tuple ps) ≡ tree.ToParts (patterns_of (map view_pattern ps.items))
unfolding view_pattern view_place_node view_node view_item view_place view_expr view_optional
view_pattern-Tuple ps =
    ap view_pattern (sym (make_pattern.rolls-Tuple ps))
    ∙ fold-roll-Pattern _ _ _ _ _ _ pattern_step place_node_step node_step item_step place_step expr_step (Pattern-F.Tuple ps)

pub ruleset the_exprs = (
  view_optional-None,
  view_optional-Some,
  view_expr-out,
  view_place-out,
  view_item-out,
  view_node-Number,
  view_node-Chars,
  view_node-Nil,
  view_node-OpenNil,
  view_node-Read,
  view_node-Part,
  view_node-Apply,
  view_node-Lazy,
  view_node-Assign,
  view_node-Update,
  view_node-Step,
  view_node-Copy,
  view_node-Filled,
  view_node-Filled_bare,
  view_node-Filled_rest,
  view_node-Filled_long,
  view_node-Filled_long_rest,
  view_node-Channel,
  view_node-Channel_unsized,
  view_node-Channel_sized,
  view_node-Call,
  view_node-CallThrough,
  view_node-Print,
  view_node-Print_out,
  view_node-Print_file,
  view_node-Load,
  view_node-Send,
  view_node-Receive,
  view_place_node-Local,
  view_place_node-Global,
  view_place_node-Field,
  view_place_node-Element,
  view_place_node-Character,
  view_place_node-Target,
  view_pattern-Place,
  view_pattern-Nothing,
  view_pattern-Tuple,
)

-- ---- statements

pub view_stmt-Empty : view_stmt make.Empty ≡ tree.Empty
unfolding view_stmt view_alt_arm view_case_arm view_handler_arm view_pick_arm
view_stmt-Empty =
    ap view_stmt (sym make.rolls-Empty)
    ∙ fold-roll-TStmt _ _ _ _ _ stmt_step alt_arm_step case_arm_step handler_arm_step pick_arm_step TStmt-F.Empty

pub view_stmt-Block : (ss : Vec code_stmt.TStmt Global) → view_stmt (make.Block ss) ≡ tree.Block (view_stmts ss.items)
unfolding view_stmt view_alt_arm view_case_arm view_handler_arm view_pick_arm
view_stmt-Block ss =
    ap view_stmt (sym (make.rolls-Block ss))
    ∙ fold-roll-TStmt _ _ _ _ _ stmt_step alt_arm_step case_arm_step handler_arm_step pick_arm_step (TStmt-F.Block ss)

pub view_stmt-Declare : (xs : Vec ℕ Global) (e : Option (Box code_expr.TExpr Global))
    → view_stmt (make.Declare xs e) ≡ tree.Declare xs.items (view_boxed e)
unfolding view_stmt view_alt_arm view_case_arm view_handler_arm view_pick_arm
view_stmt-Declare xs e =
    ap view_stmt (sym (make.rolls-Declare xs e))
    ∙ fold-roll-TStmt _ _ _ _ _ stmt_step alt_arm_step case_arm_step handler_arm_step pick_arm_step (TStmt-F.Declare xs e)

pub view_stmt-Eval : (e : Box code_expr.TExpr Global) → view_stmt (make.Eval e) ≡ tree.Eval (view_expr e.value)
unfolding view_stmt view_alt_arm view_case_arm view_handler_arm view_pick_arm
view_stmt-Eval e =
    ap view_stmt (sym (make.rolls-Eval e))
    ∙ fold-roll-TStmt _ _ _ _ _ stmt_step alt_arm_step case_arm_step handler_arm_step pick_arm_step (TStmt-F.Eval e)

pub view_stmt-If : (c : Box code_expr.TExpr Global) (ss others : Vec code_stmt.TStmt Global)
    → view_stmt (make.If c ss others) ≡ tree.If (view_expr c.value) (view_stmts ss.items) (view_stmts others.items)
unfolding view_stmt view_alt_arm view_case_arm view_handler_arm view_pick_arm
view_stmt-If c ss others =
    ap view_stmt (sym (make.rolls-If c ss others))
    ∙ fold-roll-TStmt _ _ _ _ _ stmt_step alt_arm_step case_arm_step handler_arm_step pick_arm_step (TStmt-F.If c ss others)

pub view_stmt-While : (c : Option (Box code_expr.TExpr Global)) (ss : Vec code_stmt.TStmt Global)
    → view_stmt (make.While c ss) ≡ tree.While (view_boxed c) (view_stmts ss.items)
unfolding view_stmt view_alt_arm view_case_arm view_handler_arm view_pick_arm
view_stmt-While c ss =
    ap view_stmt (sym (make.rolls-While c ss))
    ∙ fold-roll-TStmt _ _ _ _ _ stmt_step alt_arm_step case_arm_step handler_arm_step pick_arm_step (TStmt-F.While c ss)

pub view_stmt-Do : (ss : Vec code_stmt.TStmt Global) (c : Option (Box code_expr.TExpr Global))
    → view_stmt (make.Do ss c) ≡ tree.Do (view_stmts ss.items) (view_boxed c)
unfolding view_stmt view_alt_arm view_case_arm view_handler_arm view_pick_arm
view_stmt-Do ss c =
    ap view_stmt (sym (make.rolls-Do ss c))
    ∙ fold-roll-TStmt _ _ _ _ _ stmt_step alt_arm_step case_arm_step handler_arm_step pick_arm_step (TStmt-F.Do ss c)

pub view_stmt-For : (first c next : Option (Box code_expr.TExpr Global)) (ss : Vec code_stmt.TStmt Global)
    → view_stmt (make.For first c next ss) ≡ tree.For (view_boxed first) (view_boxed c) (view_boxed next) (view_stmts ss.items)
unfolding view_stmt view_alt_arm view_case_arm view_handler_arm view_pick_arm
view_stmt-For first c next ss =
    ap view_stmt (sym (make.rolls-For first c next ss))
    ∙ fold-roll-TStmt _ _ _ _ _ stmt_step alt_arm_step case_arm_step handler_arm_step pick_arm_step (TStmt-F.For first c next ss)

pub view_stmt-Case : (e : Box code_expr.TExpr Global) (arms : Vec code_case_arm.CaseArm Global)
    → view_stmt (make.Case e arms)
    ≡ tree.Case (view_expr e.value) (heads_of (map view_case_arm arms.items)) (bodies_of (map view_case_arm arms.items))
unfolding view_stmt view_alt_arm view_case_arm view_handler_arm view_pick_arm
view_stmt-Case e arms =
    ap view_stmt (sym (make.rolls-Case e arms))
    ∙ fold-roll-TStmt _ _ _ _ _ stmt_step alt_arm_step case_arm_step handler_arm_step pick_arm_step (TStmt-F.Case e arms)

pub view_stmt-Alt : (arms : Vec code_alt_arm.AltArm Global)
    → view_stmt (make.Alt arms) ≡ tree.Alt (heads_of (map view_alt_arm arms.items)) (bodies_of (map view_alt_arm arms.items))
unfolding view_stmt view_alt_arm view_case_arm view_handler_arm view_pick_arm
view_stmt-Alt arms =
    ap view_stmt (sym (make.rolls-Alt arms))
    ∙ fold-roll-TStmt _ _ _ _ _ stmt_step alt_arm_step case_arm_step handler_arm_step pick_arm_step (TStmt-F.Alt arms)

pub view_stmt-Pick : (e : Box code_expr.TExpr Global) (arms : Vec code_pick_arm.PickArm Global)
    → view_stmt (make.Pick e arms)
    ≡ tree.Pick (view_expr e.value) (heads_of (map view_pick_arm arms.items)) (bodies_of (map view_pick_arm arms.items))
unfolding view_stmt view_alt_arm view_case_arm view_handler_arm view_pick_arm
view_stmt-Pick e arms =
    ap view_stmt (sym (make.rolls-Pick e arms))
    ∙ fold-roll-TStmt _ _ _ _ _ stmt_step alt_arm_step case_arm_step handler_arm_step pick_arm_step (TStmt-F.Pick e arms)

pub view_stmt-Break : (n : ℕ) → view_stmt (make.Break n) ≡ tree.Break n
unfolding view_stmt view_alt_arm view_case_arm view_handler_arm view_pick_arm
view_stmt-Break n =
    ap view_stmt (sym (make.rolls-Break n))
    ∙ fold-roll-TStmt _ _ _ _ _ stmt_step alt_arm_step case_arm_step handler_arm_step pick_arm_step (TStmt-F.Break n)

pub view_stmt-Continue : (n : ℕ) → view_stmt (make.Continue n) ≡ tree.Continue n
unfolding view_stmt view_alt_arm view_case_arm view_handler_arm view_pick_arm
view_stmt-Continue n =
    ap view_stmt (sym (make.rolls-Continue n))
    ∙ fold-roll-TStmt _ _ _ _ _ stmt_step alt_arm_step case_arm_step handler_arm_step pick_arm_step (TStmt-F.Continue n)

pub view_stmt-Return : (e : Option (Box code_expr.TExpr Global)) → view_stmt (make.Return e) ≡ tree.Return (view_boxed e)
unfolding view_stmt view_alt_arm view_case_arm view_handler_arm view_pick_arm
view_stmt-Return e =
    ap view_stmt (sym (make.rolls-Return e))
    ∙ fold-roll-TStmt _ _ _ _ _ stmt_step alt_arm_step case_arm_step handler_arm_step pick_arm_step (TStmt-F.Return e)

pub view_stmt-Exit : view_stmt make.Exit ≡ tree.Exit
unfolding view_stmt view_alt_arm view_case_arm view_handler_arm view_pick_arm
view_stmt-Exit =
    ap view_stmt (sym make.rolls-Exit)
    ∙ fold-roll-TStmt _ _ _ _ _ stmt_step alt_arm_step case_arm_step handler_arm_step pick_arm_step TStmt-F.Exit

pub view_stmt-Spawn : (e : Box code_expr.TExpr Global) → view_stmt (make.Spawn e) ≡ tree.Spawn (view_expr e.value)
unfolding view_stmt view_alt_arm view_case_arm view_handler_arm view_pick_arm
view_stmt-Spawn e =
    ap view_stmt (sym (make.rolls-Spawn e))
    ∙ fold-roll-TStmt _ _ _ _ _ stmt_step alt_arm_step case_arm_step handler_arm_step pick_arm_step (TStmt-F.Spawn e)

pub view_stmt-Raise : (e : Box code_expr.TExpr Global) → view_stmt (make.Raise e) ≡ tree.Raise (view_expr e.value)
unfolding view_stmt view_alt_arm view_case_arm view_handler_arm view_pick_arm
view_stmt-Raise e =
    ap view_stmt (sym (make.rolls-Raise e))
    ∙ fold-roll-TStmt _ _ _ _ _ stmt_step alt_arm_step case_arm_step handler_arm_step pick_arm_step (TStmt-F.Raise e)

pub view_stmt-RaiseDeclared : (n : ℕ) (es : Vec code_expr.TExpr Global)
    → view_stmt (make.RaiseDeclared n es) ≡ tree.RaiseDeclared n (view_exprs es.items)
unfolding view_stmt view_alt_arm view_case_arm view_handler_arm view_pick_arm
view_stmt-RaiseDeclared n es =
    ap view_stmt (sym (make.rolls-RaiseDeclared n es))
    ∙ fold-roll-TStmt _ _ _ _ _ stmt_step alt_arm_step case_arm_step handler_arm_step pick_arm_step (TStmt-F.RaiseDeclared n es)

pub view_stmt-RaiseAgain : (n : ℕ) → view_stmt (make.RaiseAgain n) ≡ tree.RaiseAgain n
unfolding view_stmt view_alt_arm view_case_arm view_handler_arm view_pick_arm
view_stmt-RaiseAgain n =
    ap view_stmt (sym (make.rolls-RaiseAgain n))
    ∙ fold-roll-TStmt _ _ _ _ _ stmt_step alt_arm_step case_arm_step handler_arm_step pick_arm_step (TStmt-F.RaiseAgain n)

pub view_stmt-Handle : (ss : Vec code_stmt.TStmt Global) (n : ℕ) (arms : Vec code_handler_arm.HandlerArm Global)
    → view_stmt (make.Handle ss n arms)
    ≡ tree.Handle (view_stmts ss.items) n (heads_of (map view_handler_arm arms.items)) (bodies_of (map view_handler_arm arms.items))
unfolding view_stmt view_alt_arm view_case_arm view_handler_arm view_pick_arm
view_stmt-Handle ss n arms =
    ap view_stmt (sym (make.rolls-Handle ss n arms))
    ∙ fold-roll-TStmt _ _ _ _ _ stmt_step alt_arm_step case_arm_step handler_arm_step pick_arm_step (TStmt-F.Handle ss n arms)

pub view_case_arm-out : (a : code_case_arm.CaseArm) → view_case_arm a ≡ record { head = a.patterns.items; body = view_stmts a.body.items }
unfolding view_stmt view_alt_arm view_case_arm view_handler_arm view_pick_arm
view_case_arm-out a = fold_out-CaseArm _ _ _ _ _ stmt_step alt_arm_step case_arm_step handler_arm_step pick_arm_step a

pub view_alt_arm-out : (a : code_alt_arm.AltArm) → view_alt_arm a ≡ record { head = view_alt_head a.head; body = view_stmts a.body.items }
unfolding view_stmt view_alt_arm view_case_arm view_handler_arm view_pick_arm
view_alt_arm-out a = fold_out-AltArm _ _ _ _ _ stmt_step alt_arm_step case_arm_step handler_arm_step pick_arm_step a

pub view_pick_arm-out : (a : code_pick_arm.PickArm) → view_pick_arm a ≡ record {
  head = record { variants = a.variants.items; variable = a.variable };
  body = view_stmts a.body.items;
}
unfolding view_stmt view_alt_arm view_case_arm view_handler_arm view_pick_arm
view_pick_arm-out a = fold_out-PickArm _ _ _ _ _ stmt_step alt_arm_step case_arm_step handler_arm_step pick_arm_step a

pub view_handler_arm-out : (a : code_handler_arm.HandlerArm) → view_handler_arm a ≡ record {
  head = record { patterns = a.patterns.items; variable = a.variable };
  body = view_stmts a.body.items;
}
unfolding view_stmt view_alt_arm view_case_arm view_handler_arm view_pick_arm
view_handler_arm-out a = fold_out-HandlerArm _ _ _ _ _ stmt_step alt_arm_step case_arm_step handler_arm_step pick_arm_step a

pub ruleset the_stmts = (
  view_boxed-None,
  view_boxed-Some,
  view_stmt-Empty,
  view_stmt-Block,
  view_stmt-Declare,
  view_stmt-Eval,
  view_stmt-If,
  view_stmt-While,
  view_stmt-Do,
  view_stmt-For,
  view_stmt-Case,
  view_stmt-Alt,
  view_stmt-Pick,
  view_stmt-Break,
  view_stmt-Continue,
  view_stmt-Return,
  view_stmt-Exit,
  view_stmt-Spawn,
  view_stmt-Raise,
  view_stmt-RaiseDeclared,
  view_stmt-RaiseAgain,
  view_stmt-Handle,
  view_case_arm-out,
  view_alt_arm-out,
  view_pick_arm-out,
  view_handler_arm-out,
)
