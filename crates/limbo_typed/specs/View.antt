-- The trees of the code, without how they lie in memory.
use Rattle.std.specs.Prelude.{ℤ, List, [], ◌∷◌, map, Option, None, Some, option_map, Box}
use Rattle.std.specs.Global.{Global}
use Rattle.limbo_types.specs.View.{view_ty, view_fn}
use Rattle.limbo_adts.specs.Table.{defs_of}
use Rattle.limbo_typed.specs.declared.expr.TExpr as code_expr
use Rattle.limbo_typed.specs.declared.expr.TExpr.{TExpr-F, fold-TExpr}
use Rattle.limbo_typed.specs.declared.expr.TNode as code_node
use Rattle.limbo_typed.specs.declared.expr.TNode.{TNode-F, fold-TNode}
use Rattle.limbo_typed.specs.declared.expr.Item as code_item
use Rattle.limbo_typed.specs.declared.expr.Item.{Item-F, fold-Item}
use Rattle.limbo_typed.specs.declared.expr.Place as code_place
use Rattle.limbo_typed.specs.declared.expr.Place.{Place-F, fold-Place}
use Rattle.limbo_typed.specs.declared.expr.PlaceNode as code_place_node
use Rattle.limbo_typed.specs.declared.expr.PlaceNode.{PlaceNode-F, fold-PlaceNode}
use Rattle.limbo_typed.specs.declared.expr.Pattern as code_pattern
use Rattle.limbo_typed.specs.declared.expr.Pattern.{Pattern-F, fold-Pattern}
use Rattle.limbo_typed.specs.declared.stmt.TStmt as code_stmt
use Rattle.limbo_typed.specs.declared.stmt.TStmt.{TStmt-F, fold-TStmt}
use Rattle.limbo_typed.specs.declared.stmt.AltHead as code_alt_head
use Rattle.limbo_typed.specs.declared.stmt.AltHead.TheVariants as alt_head
use Rattle.limbo_typed.specs.declared.stmt.AltArm as code_alt_arm
use Rattle.limbo_typed.specs.declared.stmt.AltArm.{AltArm-F, fold-AltArm}
use Rattle.limbo_typed.specs.declared.stmt.CaseArm as code_case_arm
use Rattle.limbo_typed.specs.declared.stmt.CaseArm.{CaseArm-F, fold-CaseArm}
use Rattle.limbo_typed.specs.declared.stmt.CasePattern.{CasePattern}
use Rattle.limbo_typed.specs.declared.stmt.HandlerArm as code_handler_arm
use Rattle.limbo_typed.specs.declared.stmt.HandlerArm.{HandlerArm-F, fold-HandlerArm}
use Rattle.limbo_typed.specs.declared.stmt.PickArm as code_pick_arm
use Rattle.limbo_typed.specs.declared.stmt.PickArm.{PickArm-F, fold-PickArm}
use Rattle.limbo_typed.specs.declared.module.TVar as code_var
use Rattle.limbo_typed.specs.declared.module.TFn as code_fn
use Rattle.limbo_typed.specs.declared.module.Signature as code_signature
use Rattle.limbo_typed.specs.declared.module.Interface as code_interface
use Rattle.limbo_typed.specs.declared.module.Declared as code_declared
use Rattle.limbo_typed.specs.declared.module.TException as code_exception
use Rattle.limbo_typed.specs.declared.module.TypedModule as code_module
use Rattle.limbo_typed.specs.Typed as tree

-- ---- expressions

abbrev pub exprs_of : List tree.Expr → tree.Exprs
exprs_of [] = tree.NoExprs
exprs_of (e ∷ es) = tree.MoreExprs e (exprs_of es)

abbrev pub optional_of : Option tree.Expr → tree.Optional
optional_of None = tree.Absent
optional_of (Some e) = tree.Present e

-- an element of an initialiser
pub record Item : Type 0 where
  pub index : ℤ
  pub value : tree.Expr

abbrev pub items_of : List Item → tree.Items
items_of [] = tree.NoItems
items_of (i ∷ is) = tree.MoreItems i.index i.value (items_of is)

abbrev pub patterns_of : List tree.Pattern → tree.Patterns
patterns_of [] = tree.NoPatterns
patterns_of (p ∷ ps) = tree.MorePatterns p (patterns_of ps)

abbrev pub pattern_step : Pattern-F tree.Pattern tree.PlaceNode tree.Node Item tree.Place tree.Expr → tree.Pattern
pattern_step (Pattern-F.Place p) = tree.ToPlace p.value
pattern_step Pattern-F.Nothing = tree.ToNothing
pattern_step (Pattern-F.Tuple ps) = tree.ToParts (patterns_of ps.items)

abbrev pub place_node_step : PlaceNode-F tree.Pattern tree.PlaceNode tree.Node Item tree.Place tree.Expr → tree.PlaceNode
place_node_step (PlaceNode-F.Local x) = tree.Local x
place_node_step (PlaceNode-F.Global x) = tree.Global x
place_node_step (PlaceNode-F.Field p n) = tree.Field p.value n
place_node_step (PlaceNode-F.Element a i) = tree.Element a.value i.value
place_node_step (PlaceNode-F.Character p i) = tree.Character p.value i.value
place_node_step (PlaceNode-F.Target e) = tree.Target e.value

abbrev pub node_step : TNode-F tree.Pattern tree.PlaceNode tree.Node Item tree.Place tree.Expr → tree.Node
node_step (TNode-F.Number n) = tree.Number n
node_step (TNode-F.Chars t) = tree.Chars t
node_step TNode-F.Nil = tree.Nil
node_step TNode-F.OpenNil = tree.OpenNil
node_step (TNode-F.Read p) = tree.Read p.value
node_step (TNode-F.Part e n) = tree.Part e.value n
node_step (TNode-F.Apply o es) = tree.Apply o (exprs_of es.items)
node_step (TNode-F.Lazy c l r) = tree.Lazy c l.value r.value
node_step (TNode-F.Assign p e) = tree.Assign p.value e.value
node_step (TNode-F.Update o p e) = tree.Update o p.value e.value
node_step (TNode-F.Step o g p) = tree.Step o g p.value
node_step (TNode-F.Copy a i e) = tree.Copy a.value i.value e.value
node_step (TNode-F.Filled n is rest) =
    tree.Filled (optional_of (option_map (λ e. e.value) n)) (items_of is.items) (optional_of (option_map (λ e. e.value) rest))
node_step (TNode-F.Channel n) = tree.Channel (optional_of (option_map (λ e. e.value) n))
node_step (TNode-F.Call f es) = tree.Call f (exprs_of es.items)
node_step (TNode-F.CallThrough m n f es) = tree.CallThrough m.value n f (exprs_of es.items)
node_step (TNode-F.Print which m fd pieces es) =
    tree.Print which m.value (optional_of (option_map (λ e. e.value) fd)) pieces.items (exprs_of es.items)
node_step (TNode-F.Load n e) = tree.Load n e.value
node_step (TNode-F.Send c e) = tree.Send c.value e.value
node_step (TNode-F.Receive c) = tree.Receive c.value

abbrev pub item_step : Item-F tree.Pattern tree.PlaceNode tree.Node Item tree.Place tree.Expr → Item
item_step i = record { index = i.index; value = i.value }

abbrev pub place_step : Place-F tree.Pattern tree.PlaceNode tree.Node Item tree.Place tree.Expr → tree.Place
place_step p = tree.At (view_ty p.ty) p.at

abbrev pub expr_step : TExpr-F tree.Pattern tree.PlaceNode tree.Node Item tree.Place tree.Expr → tree.Expr
expr_step e = tree.Of (view_ty e.ty) e.node

unfoldable pub view_pattern : code_pattern.Pattern → tree.Pattern
view_pattern = fold-Pattern _ _ _ _ _ _ pattern_step place_node_step node_step item_step place_step expr_step

unfoldable pub view_place_node : code_place_node.PlaceNode → tree.PlaceNode
view_place_node = fold-PlaceNode _ _ _ _ _ _ pattern_step place_node_step node_step item_step place_step expr_step

unfoldable pub view_node : code_node.TNode → tree.Node
view_node = fold-TNode _ _ _ _ _ _ pattern_step place_node_step node_step item_step place_step expr_step

unfoldable pub view_item : code_item.Item → Item
view_item = fold-Item _ _ _ _ _ _ pattern_step place_node_step node_step item_step place_step expr_step

unfoldable pub view_place : code_place.Place → tree.Place
view_place = fold-Place _ _ _ _ _ _ pattern_step place_node_step node_step item_step place_step expr_step

unfoldable pub view_expr : code_expr.TExpr → tree.Expr
view_expr = fold-TExpr _ _ _ _ _ _ pattern_step place_node_step node_step item_step place_step expr_step

abbrev pub view_exprs : List code_expr.TExpr → tree.Exprs
view_exprs es = exprs_of (map view_expr es)

-- the expression in a box, if there is one: where a tree of expressions has it, and where a statement has it
unfoldable pub view_optional : Option (Box code_expr.TExpr Global) → tree.Optional
view_optional None = tree.Absent
view_optional (Some e) = tree.Present (view_expr e.value)

unfoldable pub view_boxed : Option (Box code_expr.TExpr Global) → Option tree.Expr
view_boxed None = None
view_boxed (Some e) = Some (view_expr e.value)

-- ---- statements

-- an arm: its head, and its body
pub record Arm (Head : Type 0) : Type 0 where
  pub head : Head
  pub body : tree.Stmts

abbrev pub heads_of : {Head : Type 0} → List (Arm Head) → List Head
heads_of [] = []
heads_of (a ∷ arms) = a.head ∷ heads_of arms

abbrev pub bodies_of : {Head : Type 0} → List (Arm Head) → tree.Bodies
bodies_of [] = tree.NoBodies
bodies_of (a ∷ arms) = tree.MoreBodies a.body (bodies_of arms)

abbrev pub stmts_of : List tree.Stmt → tree.Stmts
stmts_of [] = tree.NoStmts
stmts_of (s ∷ ss) = tree.MoreStmts s (stmts_of ss)

abbrev pub view_alt_head : code_alt_head.AltHead → tree.AltHead
view_alt_head (alt_head.Receive p c) = tree.Receives (option_map (λ b. view_pattern b.value) p) (view_expr c.value)
view_alt_head (alt_head.Send c e) = tree.Sends (view_expr c.value) (view_expr e.value)
view_alt_head alt_head.Any = tree.WaitsNot

abbrev pub AltArm : Type 0
AltArm = Arm tree.AltHead

abbrev pub CaseArm : Type 0
CaseArm = Arm (List CasePattern)

abbrev pub HandlerArm : Type 0
HandlerArm = Arm tree.HandlerHead

abbrev pub PickArm : Type 0
PickArm = Arm tree.PickHead

abbrev pub stmt_step : TStmt-F tree.Stmt AltArm CaseArm HandlerArm PickArm → tree.Stmt
stmt_step TStmt-F.Empty = tree.Empty
stmt_step (TStmt-F.Block ss) = tree.Block (stmts_of ss.items)
stmt_step (TStmt-F.Declare xs e) = tree.Declare xs.items (view_boxed e)
stmt_step (TStmt-F.Eval e) = tree.Eval (view_expr e.value)
stmt_step (TStmt-F.If c then other) = tree.If (view_expr c.value) (stmts_of then.items) (stmts_of other.items)
stmt_step (TStmt-F.While c body) = tree.While (view_boxed c) (stmts_of body.items)
stmt_step (TStmt-F.Do body c) = tree.Do (stmts_of body.items) (view_boxed c)
stmt_step (TStmt-F.For first c next body) =
    tree.For (view_boxed first) (view_boxed c) (view_boxed next) (stmts_of body.items)
stmt_step (TStmt-F.Case e arms) = tree.Case (view_expr e.value) (heads_of arms.items) (bodies_of arms.items)
stmt_step (TStmt-F.Alt arms) = tree.Alt (heads_of arms.items) (bodies_of arms.items)
stmt_step (TStmt-F.Pick e arms) = tree.Pick (view_expr e.value) (heads_of arms.items) (bodies_of arms.items)
stmt_step (TStmt-F.Break n) = tree.Break n
stmt_step (TStmt-F.Continue n) = tree.Continue n
stmt_step (TStmt-F.Return e) = tree.Return (view_boxed e)
stmt_step TStmt-F.Exit = tree.Exit
stmt_step (TStmt-F.Spawn e) = tree.Spawn (view_expr e.value)
stmt_step (TStmt-F.Raise e) = tree.Raise (view_expr e.value)
stmt_step (TStmt-F.RaiseDeclared n es) = tree.RaiseDeclared n (view_exprs es.items)
stmt_step (TStmt-F.RaiseAgain n) = tree.RaiseAgain n
stmt_step (TStmt-F.Handle body n arms) =
    tree.Handle (stmts_of body.items) n (heads_of arms.items) (bodies_of arms.items)

abbrev pub alt_arm_step : AltArm-F tree.Stmt AltArm CaseArm HandlerArm PickArm → AltArm
alt_arm_step a = record { head = view_alt_head a.head; body = stmts_of a.body.items }

abbrev pub case_arm_step : CaseArm-F tree.Stmt AltArm CaseArm HandlerArm PickArm → CaseArm
case_arm_step a = record { head = a.patterns.items; body = stmts_of a.body.items }

abbrev pub handler_arm_step : HandlerArm-F tree.Stmt AltArm CaseArm HandlerArm PickArm → HandlerArm
handler_arm_step a =
    record { head = record { patterns = a.patterns.items; variable = a.variable }; body = stmts_of a.body.items }

abbrev pub pick_arm_step : PickArm-F tree.Stmt AltArm CaseArm HandlerArm PickArm → PickArm
pick_arm_step a =
    record { head = record { variants = a.variants.items; variable = a.variable }; body = stmts_of a.body.items }

unfoldable pub view_stmt : code_stmt.TStmt → tree.Stmt
view_stmt = fold-TStmt _ _ _ _ _ stmt_step alt_arm_step case_arm_step handler_arm_step pick_arm_step

unfoldable pub view_alt_arm : code_alt_arm.AltArm → AltArm
view_alt_arm = fold-AltArm _ _ _ _ _ stmt_step alt_arm_step case_arm_step handler_arm_step pick_arm_step

unfoldable pub view_case_arm : code_case_arm.CaseArm → CaseArm
view_case_arm = fold-CaseArm _ _ _ _ _ stmt_step alt_arm_step case_arm_step handler_arm_step pick_arm_step

unfoldable pub view_handler_arm : code_handler_arm.HandlerArm → HandlerArm
view_handler_arm = fold-HandlerArm _ _ _ _ _ stmt_step alt_arm_step case_arm_step handler_arm_step pick_arm_step

unfoldable pub view_pick_arm : code_pick_arm.PickArm → PickArm
view_pick_arm = fold-PickArm _ _ _ _ _ stmt_step alt_arm_step case_arm_step handler_arm_step pick_arm_step

abbrev pub view_stmts : List code_stmt.TStmt → tree.Stmts
view_stmts ss = stmts_of (map view_stmt ss)

-- ---- modules

abbrev pub view_var : code_var.TVar → tree.Var
view_var v = record { name = v.name; ty = view_ty v.ty }

abbrev pub view_function : code_fn.TFn → tree.Function
view_function f = record {
  name = f.name;
  owner = f.owner;
  of = view_fn f.of;
  variables = map view_var f.variables.items;
  catches = f.catches;
  body = view_stmts f.body.items;
}

abbrev pub view_signature : code_signature.Signature → tree.Signature
view_signature s = record { name = s.name; of = view_fn s.of }

abbrev pub view_interface : code_interface.Interface → tree.Interface
view_interface i = record { name = i.name; functions = map view_signature i.functions.items }

abbrev pub view_declared : code_declared.Declared → tree.Declared
view_declared d = record { name = d.name; of = view_fn d.of; function = d.function }

abbrev pub view_exception : code_exception.TException → tree.Exception
view_exception e = record { module_name = e.module; name = e.name; values = map view_ty e.values.items }

abbrev pub view_module : code_module.TypedModule → tree.Module
view_module m = record {
  name = m.name;
  adts = defs_of m.adts;
  modules = m.adts.modules;
  globals = map view_var m.globals.items;
  initials = m.initials.items;
  functions = map view_function m.functions.items;
  declared = map view_declared m.declared.items;
  interfaces = map view_interface m.interfaces.items;
  system = m.system;
  exceptions = map view_exception m.exceptions.items;
}
