-- What is of no form of these is viewed as none of them: one fact in place of a case for each other form.
use Rattle.std.proofs.Common.{◌≡◌, ℤ, Bool, true, false, Option, None, Some, Vec, Box, Global, sym, ap, ◌∙◌}
use Rattle.limbo_lexer.specs.inf_text.declared.span.Span.{Span}
use Rattle.limbo_lexer.specs.inf_text.declared.text.Text.{Text}
use Rattle.limbo_tree.specs.declared.name.Name as code_name
use Rattle.limbo_tree.specs.declared.name.Qual as code_qual
use Rattle.limbo_tree.specs.declared.types.TypeTree as code_type
use Rattle.limbo_tree.specs.declared.types.TypeTree.{TypeTree-F, out-TypeTree, roll-TypeTree, roll-out-TypeTree, fold-roll-TypeTree}
use Rattle.limbo_tree.specs.declared.types.TypeTree.TheVariants as make_type
use Rattle.limbo_tree.specs.declared.operators.AssignOp.{AssignOp}
use Rattle.limbo_tree.specs.declared.operators.BinaryOp.{BinaryOp}
use Rattle.limbo_tree.specs.declared.expr.Expr as code_expr
use Rattle.limbo_tree.specs.declared.expr.Expr.{Expr-F, out-Expr, roll-Expr, roll-out-Expr, fold-roll-Expr}
use Rattle.limbo_tree.specs.declared.expr.Expr.TheVariants as make
use Rattle.limbo_tree.specs.declared.expr.Init as code_init
use Rattle.limbo_tree.specs.declared.decl.Decl as code_decl
use Rattle.limbo_tree.specs.declared.stmt.Stmt as code_stmt
use Rattle.limbo_tree.specs.declared.stmt.Stmt.{Stmt-F, out-Stmt, roll-Stmt, roll-out-Stmt, fold-roll-Stmt}
use Rattle.limbo_tree.specs.declared.stmt.Stmt.TheVariants as make_stmt
use Rattle.limbo_tree.specs.declared.stmt.Block as code_block
use Rattle.limbo_tree.specs.declared.stmt.Handler as code_handler
use Rattle.limbo_tree.specs.declared.stmt.HandlerArm as code_handler_arm
use Rattle.limbo_tree.specs.declared.stmt.CaseArm as code_case_arm
use Rattle.limbo_tree.specs.declared.stmt.AltArm as code_alt_arm
use Rattle.limbo_tree.specs.declared.stmt.PickArm as code_pick_arm
use Rattle.limbo_tree.specs.Types as types
use Rattle.limbo_tree.specs.Exprs as tree
use Rattle.limbo_tree.specs.Stmts as stmts
use Rattle.limbo_tree.specs.View.{type_step, view_type, expr_step, init_step, view_expr, view_init, stmt_step, alt_arm_step, block_step, case_arm_step, handler_step, handler_arm_step, pick_arm_step, view_stmt, view_block}

-- ---- types

abbrev pub is_int : types.Ty → Bool
is_int types.Int = true
is_int _ = false

pub no_type-Int : (t : code_type.TypeTree) → ((s : Span) → t ≡ make_type.Int s → ⊥) → is_int (view_type t) ≡ false
unfolding view_type
no_type-Int t never = go (out-TypeTree t) (sym (roll-out-TypeTree t))
  where
    go : (y : TypeTree-F code_type.TypeTree) → t ≡ roll-TypeTree y → is_int (view_type t) ≡ false
    go (TypeTree-F.Int s) at = absurd (never s (at ∙ make_type.rolls-Int s))
    go y at = ap (λ x. is_int (view_type x)) at ∙ ap is_int (fold-roll-TypeTree types.Ty type_step y)

abbrev pub is_string : types.Ty → Bool
is_string types.String = true
is_string _ = false

pub no_type-String : (t : code_type.TypeTree) → ((s : Span) → t ≡ make_type.String s → ⊥) → is_string (view_type t) ≡ false
unfolding view_type
no_type-String t never = go (out-TypeTree t) (sym (roll-out-TypeTree t))
  where
    go : (y : TypeTree-F code_type.TypeTree) → t ≡ roll-TypeTree y → is_string (view_type t) ≡ false
    go (TypeTree-F.String s) at = absurd (never s (at ∙ make_type.rolls-String s))
    go y at = ap (λ x. is_string (view_type x)) at ∙ ap is_string (fold-roll-TypeTree types.Ty type_step y)

abbrev pub is_list : types.Ty → Bool
is_list (types.ListOf t) = true
is_list _ = false

pub no_type-List : (t : code_type.TypeTree) → ((u : Box code_type.TypeTree Global) (s : Span) → t ≡ make_type.List u s → ⊥) → is_list (view_type t) ≡ false
unfolding view_type
no_type-List t never = go (out-TypeTree t) (sym (roll-out-TypeTree t))
  where
    go : (y : TypeTree-F code_type.TypeTree) → t ≡ roll-TypeTree y → is_list (view_type t) ≡ false
    go (TypeTree-F.List u s) at = absurd (never u s (at ∙ make_type.rolls-List u s))
    go y at = ap (λ x. is_list (view_type x)) at ∙ ap is_list (fold-roll-TypeTree types.Ty type_step y)

abbrev pub is_ref : types.Ty → Bool
is_ref (types.RefTo q) = true
is_ref _ = false

pub no_type-Ref : (t : code_type.TypeTree) → ((q : code_qual.Qual) (s : Span) → t ≡ make_type.Ref q s → ⊥) → is_ref (view_type t) ≡ false
unfolding view_type
no_type-Ref t never = go (out-TypeTree t) (sym (roll-out-TypeTree t))
  where
    go : (y : TypeTree-F code_type.TypeTree) → t ≡ roll-TypeTree y → is_ref (view_type t) ≡ false
    go (TypeTree-F.Ref q s) at = absurd (never q s (at ∙ make_type.rolls-Ref q s))
    go y at = ap (λ x. is_ref (view_type x)) at ∙ ap is_ref (fold-roll-TypeTree types.Ty type_step y)

abbrev pub is_named : types.Ty → Bool
is_named (types.Named q) = true
is_named _ = false

pub no_type-Named : (t : code_type.TypeTree) → ((q : code_qual.Qual) (s : Span) → t ≡ make_type.Named q s → ⊥) → is_named (view_type t) ≡ false
unfolding view_type
no_type-Named t never = go (out-TypeTree t) (sym (roll-out-TypeTree t))
  where
    go : (y : TypeTree-F code_type.TypeTree) → t ≡ roll-TypeTree y → is_named (view_type t) ≡ false
    go (TypeTree-F.Named q s) at = absurd (never q s (at ∙ make_type.rolls-Named q s))
    go y at = ap (λ x. is_named (view_type x)) at ∙ ap is_named (fold-roll-TypeTree types.Ty type_step y)

-- ---- expressions

abbrev pub is_assign : tree.Expr → Bool
is_assign (tree.Assign o l r) = true
is_assign _ = false

pub no_expr-Assign : (e : code_expr.Expr) → ((o : AssignOp) (l : Box code_expr.Expr Global) (r : Box code_expr.Expr Global) (s : Span) → e ≡ make.Assign o l r s → ⊥) → is_assign (view_expr e) ≡ false
unfolding view_expr view_init
no_expr-Assign e never = go (out-Expr e) (sym (roll-out-Expr e))
  where
    go : (y : Expr-F code_expr.Expr code_init.Init) → e ≡ roll-Expr y → is_assign (view_expr e) ≡ false
    go (Expr-F.Assign o l r s) at = absurd (never o l r s (at ∙ make.rolls-Assign o l r s))
    go y at = ap (λ x. is_assign (view_expr x)) at ∙ ap is_assign (fold-roll-Expr tree.Expr tree.Init expr_step init_step y)

abbrev pub is_load : tree.Expr → Bool
is_load (tree.Load n x) = true
is_load _ = false

pub no_expr-Load : (e : code_expr.Expr) → ((n : code_name.Name) (x : Box code_expr.Expr Global) (s : Span) → e ≡ make.Load n x s → ⊥) → is_load (view_expr e) ≡ false
unfolding view_expr view_init
no_expr-Load e never = go (out-Expr e) (sym (roll-out-Expr e))
  where
    go : (y : Expr-F code_expr.Expr code_init.Init) → e ≡ roll-Expr y → is_load (view_expr e) ≡ false
    go (Expr-F.Load n x s) at = absurd (never n x s (at ∙ make.rolls-Load n x s))
    go y at = ap (λ x. is_load (view_expr x)) at ∙ ap is_load (fold-roll-Expr tree.Expr tree.Init expr_step init_step y)

abbrev pub is_binary : tree.Expr → Bool
is_binary (tree.Binary o l r) = true
is_binary _ = false

pub no_expr-Binary : (e : code_expr.Expr) → ((o : BinaryOp) (l : Box code_expr.Expr Global) (r : Box code_expr.Expr Global) (s : Span) → e ≡ make.Binary o l r s → ⊥) → is_binary (view_expr e) ≡ false
unfolding view_expr view_init
no_expr-Binary e never = go (out-Expr e) (sym (roll-out-Expr e))
  where
    go : (y : Expr-F code_expr.Expr code_init.Init) → e ≡ roll-Expr y → is_binary (view_expr e) ≡ false
    go (Expr-F.Binary o l r s) at = absurd (never o l r s (at ∙ make.rolls-Binary o l r s))
    go y at = ap (λ x. is_binary (view_expr x)) at ∙ ap is_binary (fold-roll-Expr tree.Expr tree.Init expr_step init_step y)

abbrev pub is_call : tree.Expr → Bool
is_call (tree.Call f xs) = true
is_call _ = false

pub no_expr-Call : (e : code_expr.Expr) → ((f : Box code_expr.Expr Global) (xs : Vec code_expr.Expr Global) (s : Span) → e ≡ make.Call f xs s → ⊥) → is_call (view_expr e) ≡ false
unfolding view_expr view_init
no_expr-Call e never = go (out-Expr e) (sym (roll-out-Expr e))
  where
    go : (y : Expr-F code_expr.Expr code_init.Init) → e ≡ roll-Expr y → is_call (view_expr e) ≡ false
    go (Expr-F.Call f xs s) at = absurd (never f xs s (at ∙ make.rolls-Call f xs s))
    go y at = ap (λ x. is_call (view_expr x)) at ∙ ap is_call (fold-roll-Expr tree.Expr tree.Init expr_step init_step y)

abbrev pub is_arrow : tree.Expr → Bool
is_arrow (tree.Arrow x n) = true
is_arrow _ = false

pub no_expr-Arrow : (e : code_expr.Expr) → ((x : Box code_expr.Expr Global) (n : code_name.Name) (s : Span) → e ≡ make.Arrow x n s → ⊥) → is_arrow (view_expr e) ≡ false
unfolding view_expr view_init
no_expr-Arrow e never = go (out-Expr e) (sym (roll-out-Expr e))
  where
    go : (y : Expr-F code_expr.Expr code_init.Init) → e ≡ roll-Expr y → is_arrow (view_expr e) ≡ false
    go (Expr-F.Arrow x n s) at = absurd (never x n s (at ∙ make.rolls-Arrow x n s))
    go y at = ap (λ x. is_arrow (view_expr x)) at ∙ ap is_arrow (fold-roll-Expr tree.Expr tree.Init expr_step init_step y)

abbrev pub is_number : tree.Expr → Bool
is_number (tree.Number v wide) = true
is_number _ = false

pub no_expr-Number : (e : code_expr.Expr) → ((v : ℤ) (wide : Bool) (s : Span) → e ≡ make.Number v wide s → ⊥) → is_number (view_expr e) ≡ false
unfolding view_expr view_init
no_expr-Number e never = go (out-Expr e) (sym (roll-out-Expr e))
  where
    go : (y : Expr-F code_expr.Expr code_init.Init) → e ≡ roll-Expr y → is_number (view_expr e) ≡ false
    go (Expr-F.Number v wide s) at = absurd (never v wide s (at ∙ make.rolls-Number v wide s))
    go y at = ap (λ x. is_number (view_expr x)) at ∙ ap is_number (fold-roll-Expr tree.Expr tree.Init expr_step init_step y)

abbrev pub is_chars : tree.Expr → Bool
is_chars (tree.Chars t) = true
is_chars _ = false

pub no_expr-Chars : (e : code_expr.Expr) → ((t : Text) (s : Span) → e ≡ make.Chars t s → ⊥) → is_chars (view_expr e) ≡ false
unfolding view_expr view_init
no_expr-Chars e never = go (out-Expr e) (sym (roll-out-Expr e))
  where
    go : (y : Expr-F code_expr.Expr code_init.Init) → e ≡ roll-Expr y → is_chars (view_expr e) ≡ false
    go (Expr-F.Chars t s) at = absurd (never t s (at ∙ make.rolls-Chars t s))
    go y at = ap (λ x. is_chars (view_expr x)) at ∙ ap is_chars (fold-roll-Expr tree.Expr tree.Init expr_step init_step y)

abbrev pub is_name : tree.Expr → Bool
is_name (tree.Name t) = true
is_name _ = false

pub no_expr-Name : (e : code_expr.Expr) → ((t : Text) (s : Span) → e ≡ make.Name t s → ⊥) → is_name (view_expr e) ≡ false
unfolding view_expr view_init
no_expr-Name e never = go (out-Expr e) (sym (roll-out-Expr e))
  where
    go : (y : Expr-F code_expr.Expr code_init.Init) → e ≡ roll-Expr y → is_name (view_expr e) ≡ false
    go (Expr-F.Name t s) at = absurd (never t s (at ∙ make.rolls-Name t s))
    go y at = ap (λ x. is_name (view_expr x)) at ∙ ap is_name (fold-roll-Expr tree.Expr tree.Init expr_step init_step y)

abbrev pub is_group : tree.Expr → Bool
is_group (tree.Group xs) = true
is_group _ = false

pub no_expr-Group : (e : code_expr.Expr) → ((xs : Vec code_expr.Expr Global) (s : Span) → e ≡ make.Group xs s → ⊥) → is_group (view_expr e) ≡ false
unfolding view_expr view_init
no_expr-Group e never = go (out-Expr e) (sym (roll-out-Expr e))
  where
    go : (y : Expr-F code_expr.Expr code_init.Init) → e ≡ roll-Expr y → is_group (view_expr e) ≡ false
    go (Expr-F.Group xs s) at = absurd (never xs s (at ∙ make.rolls-Group xs s))
    go y at = ap (λ x. is_group (view_expr x)) at ∙ ap is_group (fold-roll-Expr tree.Expr tree.Init expr_step init_step y)

-- ---- statements

abbrev pub is_empty_stmt : stmts.Stmt → Bool
is_empty_stmt stmts.Empty = true
is_empty_stmt _ = false

pub no_stmt-Empty : (x : code_stmt.Stmt) → ((s : Span) → x ≡ make_stmt.Empty s → ⊥) → is_empty_stmt (view_stmt x) ≡ false
unfolding view_stmt view_block
no_stmt-Empty x never = go (out-Stmt x) (sym (roll-out-Stmt x))
  where
    go : (y : Stmt-F code_stmt.Stmt code_alt_arm.AltArm code_block.Block code_case_arm.CaseArm code_handler.Handler code_handler_arm.HandlerArm code_pick_arm.PickArm) → x ≡ roll-Stmt y → is_empty_stmt (view_stmt x) ≡ false
    go (Stmt-F.Empty s) at = absurd (never s (at ∙ make_stmt.rolls-Empty s))
    go (Stmt-F.If c a None at0) at = ap (λ x. is_empty_stmt (view_stmt x)) at ∙ ap is_empty_stmt (fold-roll-Stmt _ _ _ _ _ _ _ stmt_step alt_arm_step block_step case_arm_step handler_step handler_arm_step pick_arm_step (Stmt-F.If c a None at0))
    go (Stmt-F.If c a (Some b) at0) at = ap (λ x. is_empty_stmt (view_stmt x)) at ∙ ap is_empty_stmt (fold-roll-Stmt _ _ _ _ _ _ _ stmt_step alt_arm_step block_step case_arm_step handler_step handler_arm_step pick_arm_step (Stmt-F.If c a (Some b) at0))
    go y at = ap (λ z. is_empty_stmt (view_stmt z)) at ∙ ap is_empty_stmt (fold-roll-Stmt _ _ _ _ _ _ _ stmt_step alt_arm_step block_step case_arm_step handler_step handler_arm_step pick_arm_step y)

abbrev pub is_block_stmt : stmts.Stmt → Bool
is_block_stmt (stmts.Nested b) = true
is_block_stmt _ = false

pub no_stmt-Block : (x : code_stmt.Stmt) → ((b : code_block.Block) (s : Span) → x ≡ make_stmt.Block b s → ⊥) → is_block_stmt (view_stmt x) ≡ false
unfolding view_stmt view_block
no_stmt-Block x never = go (out-Stmt x) (sym (roll-out-Stmt x))
  where
    go : (y : Stmt-F code_stmt.Stmt code_alt_arm.AltArm code_block.Block code_case_arm.CaseArm code_handler.Handler code_handler_arm.HandlerArm code_pick_arm.PickArm) → x ≡ roll-Stmt y → is_block_stmt (view_stmt x) ≡ false
    go (Stmt-F.Block b s) at = absurd (never b s (at ∙ make_stmt.rolls-Block b s))
    go (Stmt-F.If c a None at0) at = ap (λ x. is_block_stmt (view_stmt x)) at ∙ ap is_block_stmt (fold-roll-Stmt _ _ _ _ _ _ _ stmt_step alt_arm_step block_step case_arm_step handler_step handler_arm_step pick_arm_step (Stmt-F.If c a None at0))
    go (Stmt-F.If c a (Some b) at0) at = ap (λ x. is_block_stmt (view_stmt x)) at ∙ ap is_block_stmt (fold-roll-Stmt _ _ _ _ _ _ _ stmt_step alt_arm_step block_step case_arm_step handler_step handler_arm_step pick_arm_step (Stmt-F.If c a (Some b) at0))
    go y at = ap (λ z. is_block_stmt (view_stmt z)) at ∙ ap is_block_stmt (fold-roll-Stmt _ _ _ _ _ _ _ stmt_step alt_arm_step block_step case_arm_step handler_step handler_arm_step pick_arm_step y)

abbrev pub is_declare_stmt : stmts.Stmt → Bool
is_declare_stmt (stmts.Declare d) = true
is_declare_stmt _ = false

pub no_stmt-Declare : (x : code_stmt.Stmt) → ((d : Box code_decl.Decl Global) (s : Span) → x ≡ make_stmt.Declare d s → ⊥) → is_declare_stmt (view_stmt x) ≡ false
unfolding view_stmt view_block
no_stmt-Declare x never = go (out-Stmt x) (sym (roll-out-Stmt x))
  where
    go : (y : Stmt-F code_stmt.Stmt code_alt_arm.AltArm code_block.Block code_case_arm.CaseArm code_handler.Handler code_handler_arm.HandlerArm code_pick_arm.PickArm) → x ≡ roll-Stmt y → is_declare_stmt (view_stmt x) ≡ false
    go (Stmt-F.Declare d s) at = absurd (never d s (at ∙ make_stmt.rolls-Declare d s))
    go (Stmt-F.If c a None at0) at = ap (λ x. is_declare_stmt (view_stmt x)) at ∙ ap is_declare_stmt (fold-roll-Stmt _ _ _ _ _ _ _ stmt_step alt_arm_step block_step case_arm_step handler_step handler_arm_step pick_arm_step (Stmt-F.If c a None at0))
    go (Stmt-F.If c a (Some b) at0) at = ap (λ x. is_declare_stmt (view_stmt x)) at ∙ ap is_declare_stmt (fold-roll-Stmt _ _ _ _ _ _ _ stmt_step alt_arm_step block_step case_arm_step handler_step handler_arm_step pick_arm_step (Stmt-F.If c a (Some b) at0))
    go y at = ap (λ z. is_declare_stmt (view_stmt z)) at ∙ ap is_declare_stmt (fold-roll-Stmt _ _ _ _ _ _ _ stmt_step alt_arm_step block_step case_arm_step handler_step handler_arm_step pick_arm_step y)

abbrev pub is_eval_stmt : stmts.Stmt → Bool
is_eval_stmt (stmts.Eval x) = true
is_eval_stmt _ = false

pub no_stmt-Eval : (x : code_stmt.Stmt) → ((e : Box code_expr.Expr Global) (s : Span) → x ≡ make_stmt.Eval e s → ⊥) → is_eval_stmt (view_stmt x) ≡ false
unfolding view_stmt view_block
no_stmt-Eval x never = go (out-Stmt x) (sym (roll-out-Stmt x))
  where
    go : (y : Stmt-F code_stmt.Stmt code_alt_arm.AltArm code_block.Block code_case_arm.CaseArm code_handler.Handler code_handler_arm.HandlerArm code_pick_arm.PickArm) → x ≡ roll-Stmt y → is_eval_stmt (view_stmt x) ≡ false
    go (Stmt-F.Eval e s) at = absurd (never e s (at ∙ make_stmt.rolls-Eval e s))
    go (Stmt-F.If c a None at0) at = ap (λ x. is_eval_stmt (view_stmt x)) at ∙ ap is_eval_stmt (fold-roll-Stmt _ _ _ _ _ _ _ stmt_step alt_arm_step block_step case_arm_step handler_step handler_arm_step pick_arm_step (Stmt-F.If c a None at0))
    go (Stmt-F.If c a (Some b) at0) at = ap (λ x. is_eval_stmt (view_stmt x)) at ∙ ap is_eval_stmt (fold-roll-Stmt _ _ _ _ _ _ _ stmt_step alt_arm_step block_step case_arm_step handler_step handler_arm_step pick_arm_step (Stmt-F.If c a (Some b) at0))
    go y at = ap (λ z. is_eval_stmt (view_stmt z)) at ∙ ap is_eval_stmt (fold-roll-Stmt _ _ _ _ _ _ _ stmt_step alt_arm_step block_step case_arm_step handler_step handler_arm_step pick_arm_step y)

abbrev pub is_if_stmt : stmts.Stmt → Bool
is_if_stmt (stmts.If c a) = true
is_if_stmt (stmts.IfElse c a b) = true
is_if_stmt _ = false

pub no_stmt-If : (x : code_stmt.Stmt) → ((c : Box code_expr.Expr Global) (a : Box code_stmt.Stmt Global) (other : Option (Box code_stmt.Stmt Global)) (s : Span) → x ≡ make_stmt.If c a other s → ⊥) → is_if_stmt (view_stmt x) ≡ false
unfolding view_stmt view_block
no_stmt-If x never = go (out-Stmt x) (sym (roll-out-Stmt x))
  where
    go : (y : Stmt-F code_stmt.Stmt code_alt_arm.AltArm code_block.Block code_case_arm.CaseArm code_handler.Handler code_handler_arm.HandlerArm code_pick_arm.PickArm) → x ≡ roll-Stmt y → is_if_stmt (view_stmt x) ≡ false
    go (Stmt-F.If c a other s) at = absurd (never c a other s (at ∙ make_stmt.rolls-If c a other s))
    go y at = ap (λ z. is_if_stmt (view_stmt z)) at ∙ ap is_if_stmt (fold-roll-Stmt _ _ _ _ _ _ _ stmt_step alt_arm_step block_step case_arm_step handler_step handler_arm_step pick_arm_step y)

abbrev pub is_while_stmt : stmts.Stmt → Bool
is_while_stmt (stmts.While l c a) = true
is_while_stmt _ = false

pub no_stmt-While : (x : code_stmt.Stmt) → ((l : Option code_name.Name) (c : Option (Box code_expr.Expr Global)) (a : Box code_stmt.Stmt Global) (s : Span) → x ≡ make_stmt.While l c a s → ⊥) → is_while_stmt (view_stmt x) ≡ false
unfolding view_stmt view_block
no_stmt-While x never = go (out-Stmt x) (sym (roll-out-Stmt x))
  where
    go : (y : Stmt-F code_stmt.Stmt code_alt_arm.AltArm code_block.Block code_case_arm.CaseArm code_handler.Handler code_handler_arm.HandlerArm code_pick_arm.PickArm) → x ≡ roll-Stmt y → is_while_stmt (view_stmt x) ≡ false
    go (Stmt-F.While l c a s) at = absurd (never l c a s (at ∙ make_stmt.rolls-While l c a s))
    go (Stmt-F.If c a None at0) at = ap (λ x. is_while_stmt (view_stmt x)) at ∙ ap is_while_stmt (fold-roll-Stmt _ _ _ _ _ _ _ stmt_step alt_arm_step block_step case_arm_step handler_step handler_arm_step pick_arm_step (Stmt-F.If c a None at0))
    go (Stmt-F.If c a (Some b) at0) at = ap (λ x. is_while_stmt (view_stmt x)) at ∙ ap is_while_stmt (fold-roll-Stmt _ _ _ _ _ _ _ stmt_step alt_arm_step block_step case_arm_step handler_step handler_arm_step pick_arm_step (Stmt-F.If c a (Some b) at0))
    go y at = ap (λ z. is_while_stmt (view_stmt z)) at ∙ ap is_while_stmt (fold-roll-Stmt _ _ _ _ _ _ _ stmt_step alt_arm_step block_step case_arm_step handler_step handler_arm_step pick_arm_step y)

abbrev pub is_return_stmt : stmts.Stmt → Bool
is_return_stmt (stmts.Return x) = true
is_return_stmt _ = false

pub no_stmt-Return : (x : code_stmt.Stmt) → ((e : Option (Box code_expr.Expr Global)) (s : Span) → x ≡ make_stmt.Return e s → ⊥) → is_return_stmt (view_stmt x) ≡ false
unfolding view_stmt view_block
no_stmt-Return x never = go (out-Stmt x) (sym (roll-out-Stmt x))
  where
    go : (y : Stmt-F code_stmt.Stmt code_alt_arm.AltArm code_block.Block code_case_arm.CaseArm code_handler.Handler code_handler_arm.HandlerArm code_pick_arm.PickArm) → x ≡ roll-Stmt y → is_return_stmt (view_stmt x) ≡ false
    go (Stmt-F.Return e s) at = absurd (never e s (at ∙ make_stmt.rolls-Return e s))
    go (Stmt-F.If c a None at0) at = ap (λ x. is_return_stmt (view_stmt x)) at ∙ ap is_return_stmt (fold-roll-Stmt _ _ _ _ _ _ _ stmt_step alt_arm_step block_step case_arm_step handler_step handler_arm_step pick_arm_step (Stmt-F.If c a None at0))
    go (Stmt-F.If c a (Some b) at0) at = ap (λ x. is_return_stmt (view_stmt x)) at ∙ ap is_return_stmt (fold-roll-Stmt _ _ _ _ _ _ _ stmt_step alt_arm_step block_step case_arm_step handler_step handler_arm_step pick_arm_step (Stmt-F.If c a (Some b) at0))
    go y at = ap (λ z. is_return_stmt (view_stmt z)) at ∙ ap is_return_stmt (fold-roll-Stmt _ _ _ _ _ _ _ stmt_step alt_arm_step block_step case_arm_step handler_step handler_arm_step pick_arm_step y)
