-- Where trees of the code stand.
use Rattle.limbo_lexer.specs.inf_text.declared.span.Span.{Span}
use Rattle.limbo_tree.specs.declared.types.TypeTree as code_type
use Rattle.limbo_tree.specs.declared.types.TypeTree.{TypeTree-F, out-TypeTree}
use Rattle.limbo_tree.specs.declared.expr.Expr as code_expr
use Rattle.limbo_tree.specs.declared.expr.Expr.{Expr-F, out-Expr}
use Rattle.limbo_tree.specs.declared.expr.Init as code_init
use Rattle.limbo_tree.specs.declared.decl.Decl as code_decl
use Rattle.limbo_tree.specs.declared.decl.Decl.TheVariants as decl
use Rattle.limbo_tree.specs.declared.stmt.Stmt as code_stmt
use Rattle.limbo_tree.specs.declared.stmt.Stmt.{Stmt-F, out-Stmt}
use Rattle.limbo_tree.specs.declared.stmt.Block as code_block
use Rattle.limbo_tree.specs.declared.stmt.Handler as code_handler
use Rattle.limbo_tree.specs.declared.stmt.HandlerArm as code_handler_arm
use Rattle.limbo_tree.specs.declared.stmt.CaseArm as code_case_arm
use Rattle.limbo_tree.specs.declared.stmt.AltArm as code_alt_arm
use Rattle.limbo_tree.specs.declared.stmt.PickArm as code_pick_arm

-- ---- types

abbrev pub in_type : TypeTree-F code_type.TypeTree → Span
in_type (TypeTree-F.Byte s) = s
in_type (TypeTree-F.Int s) = s
in_type (TypeTree-F.Big s) = s
in_type (TypeTree-F.String s) = s
in_type (TypeTree-F.Array t s) = s
in_type (TypeTree-F.List t s) = s
in_type (TypeTree-F.Chan t s) = s
in_type (TypeTree-F.Ref q s) = s
in_type (TypeTree-F.Named q s) = s
in_type (TypeTree-F.Tuple ts s) = s

unfoldable pub span_of_type : code_type.TypeTree → Span
span_of_type t = in_type (out-TypeTree t)

-- ---- expressions

abbrev pub in_expr : Expr-F code_expr.Expr code_init.Init → Span
in_expr (Expr-F.Assign o l r s) = s
in_expr (Expr-F.Load n x s) = s
in_expr (Expr-F.Binary o l r s) = s
in_expr (Expr-F.Unary o x s) = s
in_expr (Expr-F.Bytes x s) = s
in_expr (Expr-F.Filled n is c s) = s
in_expr (Expr-F.Sized x t s) = s
in_expr (Expr-F.Channel n t s) = s
in_expr (Expr-F.Listed xs s) = s
in_expr (Expr-F.Call f xs s) = s
in_expr (Expr-F.Index x i s) = s
in_expr (Expr-F.Slice x i j s) = s
in_expr (Expr-F.Dot x n s) = s
in_expr (Expr-F.Arrow x n s) = s
in_expr (Expr-F.Postfix o x s) = s
in_expr (Expr-F.Number v w s) = s
in_expr (Expr-F.Chars t s) = s
in_expr (Expr-F.Name n s) = s
in_expr (Expr-F.Nil s) = s
in_expr (Expr-F.Group xs s) = s

unfoldable pub span_of : code_expr.Expr → Span
span_of e = in_expr (out-Expr e)

-- ---- declarations

abbrev pub span_of_decl : code_decl.Decl → Span
span_of_decl (decl.Con ns x s) = s
span_of_decl (decl.Type ns t s) = s
span_of_decl (decl.Var ns t x s) = s
span_of_decl (decl.Define ns x s) = s
span_of_decl (decl.Import ns m s) = s
span_of_decl (decl.Exception ns ts s) = s
span_of_decl (decl.Module n ms s) = s
span_of_decl (decl.Adt n ms pick s) = s

-- ---- statements

abbrev pub Form : Type 0
Form =
    Stmt-F
    code_stmt.Stmt code_alt_arm.AltArm code_block.Block code_case_arm.CaseArm
    code_handler.Handler code_handler_arm.HandlerArm code_pick_arm.PickArm

abbrev pub in_stmt : Form → Span
in_stmt (Stmt-F.Empty s) = s
in_stmt (Stmt-F.Block b s) = s
in_stmt (Stmt-F.Declare d s) = s
in_stmt (Stmt-F.Eval x s) = s
in_stmt (Stmt-F.If c a b s) = s
in_stmt (Stmt-F.While l c a s) = s
in_stmt (Stmt-F.Do l a c s) = s
in_stmt (Stmt-F.For l f c n a s) = s
in_stmt (Stmt-F.Case l x arms s) = s
in_stmt (Stmt-F.Alt l arms s) = s
in_stmt (Stmt-F.Pick l n x arms s) = s
in_stmt (Stmt-F.Break l s) = s
in_stmt (Stmt-F.Continue l s) = s
in_stmt (Stmt-F.Return x s) = s
in_stmt (Stmt-F.Exit s) = s
in_stmt (Stmt-F.Spawn x s) = s
in_stmt (Stmt-F.Raise x s) = s

unfoldable pub span_of_stmt : code_stmt.Stmt → Span
span_of_stmt x = in_stmt (out-Stmt x)
