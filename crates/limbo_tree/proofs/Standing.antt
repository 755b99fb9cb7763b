-- The equations of where trees stand, one for each form.
use Rattle.std.proofs.Common.{◌≡◌, ℤ, Bool, Option, Vec, Box, Global, sym, ap, ◌∙◌}
use Rattle.limbo_lexer.specs.inf_text.declared.span.Span.{Span}
use Rattle.limbo_lexer.specs.inf_text.declared.text.Text.{Text}
use Rattle.limbo_tree.specs.declared.name.Name as code_name
use Rattle.limbo_tree.specs.declared.name.Qual as code_qual
use Rattle.limbo_tree.specs.declared.operators.AssignOp.{AssignOp}
use Rattle.limbo_tree.specs.declared.operators.BinaryOp.{BinaryOp}
use Rattle.limbo_tree.specs.declared.operators.UnaryOp.{UnaryOp}
use Rattle.limbo_tree.specs.declared.operators.PostfixOp.{PostfixOp}
use Rattle.limbo_tree.specs.declared.types.TypeTree as code_type
use Rattle.limbo_tree.specs.declared.types.TypeTree.{TypeTree-F, out-roll-TypeTree}
use Rattle.limbo_tree.specs.declared.types.TypeTree.TheVariants as make_type
use Rattle.limbo_tree.specs.declared.expr.Expr as code_expr
use Rattle.limbo_tree.specs.declared.expr.Expr.{Expr-F, out-roll-Expr}
use Rattle.limbo_tree.specs.declared.expr.Expr.TheVariants as make
use Rattle.limbo_tree.specs.declared.expr.Init as code_init
use Rattle.limbo_tree.specs.declared.decl.Decl as code_decl
use Rattle.limbo_tree.specs.declared.stmt.Stmt as code_stmt
use Rattle.limbo_tree.specs.declared.stmt.Stmt.{Stmt-F, out-roll-Stmt}
use Rattle.limbo_tree.specs.declared.stmt.Stmt.TheVariants as make_stmt
use Rattle.limbo_tree.specs.declared.stmt.Block as code_block
use Rattle.limbo_tree.specs.declared.stmt.CaseArm as code_case_arm
use Rattle.limbo_tree.specs.declared.stmt.AltArm as code_alt_arm
use Rattle.limbo_tree.specs.declared.stmt.PickArm as code_pick_arm
use Rattle.limbo_tree.specs.Spans.{in_type, span_of_type, in_expr, span_of, in_stmt, span_of_stmt}

abbrev pub Boxed : Type 0
Boxed = Box code_expr.Expr Global

abbrev pub BoxedType : Type 0
BoxedType = Box code_type.TypeTree Global

abbrev pub BoxedStmt : Type 0
BoxedStmt = Box code_stmt.Stmt Global

-- ---- types

pub span_of_type-Byte : (s : Span) → span_of_type (make_type.Byte s) ≡ s
unfolding span_of_type
span_of_type-Byte s = ap span_of_type (sym (make_type.rolls-Byte s)) ∙ ap in_type (out-roll-TypeTree (TypeTree-F.Byte s))

pub span_of_type-Int : (s : Span) → span_of_type (make_type.Int s) ≡ s
unfolding span_of_type
span_of_type-Int s = ap span_of_type (sym (make_type.rolls-Int s)) ∙ ap in_type (out-roll-TypeTree (TypeTree-F.Int s))

pub span_of_type-Big : (s : Span) → span_of_type (make_type.Big s) ≡ s
unfolding span_of_type
span_of_type-Big s = ap span_of_type (sym (make_type.rolls-Big s)) ∙ ap in_type (out-roll-TypeTree (TypeTree-F.Big s))

pub span_of_type-String : (s : Span) → span_of_type (make_type.String s) ≡ s
unfolding span_of_type
span_of_type-String s = ap span_of_type (sym (make_type.rolls-String s)) ∙ ap in_type (out-roll-TypeTree (TypeTree-F.String s))

pub span_of_type-Array : (t : BoxedType) (s : Span) → span_of_type (make_type.Array t s) ≡ s
unfolding span_of_type
span_of_type-Array t s = ap span_of_type (sym (make_type.rolls-Array t s)) ∙ ap in_type (out-roll-TypeTree (TypeTree-F.Array t s))

pub span_of_type-List : (t : BoxedType) (s : Span) → span_of_type (make_type.List t s) ≡ s
unfolding span_of_type
span_of_type-List t s = ap span_of_type (sym (make_type.rolls-List t s)) ∙ ap in_type (out-roll-TypeTree (TypeTree-F.List t s))

pub span_of_type-Chan : (t : BoxedType) (s : Span) → span_of_type (make_type.Chan t s) ≡ s
unfolding span_of_type
span_of_type-Chan t s = ap span_of_type (sym (make_type.rolls-Chan t s)) ∙ ap in_type (out-roll-TypeTree (TypeTree-F.Chan t s))

pub span_of_type-Ref : (q : code_qual.Qual) (s : Span) → span_of_type (make_type.Ref q s) ≡ s
unfolding span_of_type
span_of_type-Ref q s = ap span_of_type (sym (make_type.rolls-Ref q s)) ∙ ap in_type (out-roll-TypeTree (TypeTree-F.Ref q s))

pub span_of_type-Named : (q : code_qual.Qual) (s : Span) → span_of_type (make_type.Named q s) ≡ s
unfolding span_of_type
span_of_type-Named q s = ap span_of_type (sym (make_type.rolls-Named q s)) ∙ ap in_type (out-roll-TypeTree (TypeTree-F.Named q s))

pub span_of_type-Tuple : (ts : Vec code_type.TypeTree Global) (s : Span) → span_of_type (make_type.Tuple ts s) ≡ s
unfolding span_of_type
span_of_type-Tuple ts s = ap span_of_type (sym (make_type.rolls-Tuple ts s)) ∙ ap in_type (out-roll-TypeTree (TypeTree-F.Tuple ts s))

pub ruleset the_type_spans = (
  span_of_type-Byte,
  span_of_type-Int,
  span_of_type-Big,
  span_of_type-String,
  span_of_type-Array,
  span_of_type-List,
  span_of_type-Chan,
  span_of_type-Ref,
  span_of_type-Named,
  span_of_type-Tuple,
)

-- ---- expressions

pub span_of-Assign : (o : AssignOp) (l r : Boxed) (s : Span) → span_of (make.Assign o l r s) ≡ s
unfolding span_of
span_of-Assign o l r s = ap span_of (sym (make.rolls-Assign o l r s)) ∙ ap in_expr (out-roll-Expr (Expr-F.Assign o l r s))

pub span_of-Load : (n : code_name.Name) (x : Boxed) (s : Span) → span_of (make.Load n x s) ≡ s
unfolding span_of
span_of-Load n x s = ap span_of (sym (make.rolls-Load n x s)) ∙ ap in_expr (out-roll-Expr (Expr-F.Load n x s))

pub span_of-Binary : (o : BinaryOp) (l r : Boxed) (s : Span) → span_of (make.Binary o l r s) ≡ s
unfolding span_of
span_of-Binary o l r s = ap span_of (sym (make.rolls-Binary o l r s)) ∙ ap in_expr (out-roll-Expr (Expr-F.Binary o l r s))

pub span_of-Unary : (o : UnaryOp) (x : Boxed) (s : Span) → span_of (make.Unary o x s) ≡ s
unfolding span_of
span_of-Unary o x s = ap span_of (sym (make.rolls-Unary o x s)) ∙ ap in_expr (out-roll-Expr (Expr-F.Unary o x s))

pub span_of-Bytes : (x : Boxed) (s : Span) → span_of (make.Bytes x s) ≡ s
unfolding span_of
span_of-Bytes x s = ap span_of (sym (make.rolls-Bytes x s)) ∙ ap in_expr (out-roll-Expr (Expr-F.Bytes x s))

pub span_of-Filled : (n : Option Boxed) (is : Vec code_init.Init Global) (c : Bool) (s : Span) → span_of (make.Filled n is c s) ≡ s
unfolding span_of
span_of-Filled n is c s = ap span_of (sym (make.rolls-Filled n is c s)) ∙ ap in_expr (out-roll-Expr (Expr-F.Filled n is c s))

pub span_of-Sized : (x : Boxed) (t : BoxedType) (s : Span) → span_of (make.Sized x t s) ≡ s
unfolding span_of
span_of-Sized x t s = ap span_of (sym (make.rolls-Sized x t s)) ∙ ap in_expr (out-roll-Expr (Expr-F.Sized x t s))

pub span_of-Channel : (n : Option Boxed) (t : BoxedType) (s : Span) → span_of (make.Channel n t s) ≡ s
unfolding span_of
span_of-Channel n t s = ap span_of (sym (make.rolls-Channel n t s)) ∙ ap in_expr (out-roll-Expr (Expr-F.Channel n t s))

pub span_of-Listed : (xs : Vec code_expr.Expr Global) (s : Span) → span_of (make.Listed xs s) ≡ s
unfolding span_of
span_of-Listed xs s = ap span_of (sym (make.rolls-Listed xs s)) ∙ ap in_expr (out-roll-Expr (Expr-F.Listed xs s))

pub span_of-Call : (f : Boxed) (xs : Vec code_expr.Expr Global) (s : Span) → span_of (make.Call f xs s) ≡ s
unfolding span_of
span_of-Call f xs s = ap span_of (sym (make.rolls-Call f xs s)) ∙ ap in_expr (out-roll-Expr (Expr-F.Call f xs s))

pub span_of-Index : (x i : Boxed) (s : Span) → span_of (make.Index x i s) ≡ s
unfolding span_of
span_of-Index x i s = ap span_of (sym (make.rolls-Index x i s)) ∙ ap in_expr (out-roll-Expr (Expr-F.Index x i s))

pub span_of-Slice : (x : Boxed) (i j : Option Boxed) (s : Span) → span_of (make.Slice x i j s) ≡ s
unfolding span_of
span_of-Slice x i j s = ap span_of (sym (make.rolls-Slice x i j s)) ∙ ap in_expr (out-roll-Expr (Expr-F.Slice x i j s))

pub span_of-Dot : (x : Boxed) (n : code_name.Name) (s : Span) → span_of (make.Dot x n s) ≡ s
unfolding span_of
span_of-Dot x n s = ap span_of (sym (make.rolls-Dot x n s)) ∙ ap in_expr (out-roll-Expr (Expr-F.Dot x n s))

pub span_of-Arrow : (x : Boxed) (n : code_name.Name) (s : Span) → span_of (make.Arrow x n s) ≡ s
unfolding span_of
span_of-Arrow x n s = ap span_of (sym (make.rolls-Arrow x n s)) ∙ ap in_expr (out-roll-Expr (Expr-F.Arrow x n s))

pub span_of-Postfix : (o : PostfixOp) (x : Boxed) (s : Span) → span_of (make.Postfix o x s) ≡ s
unfolding span_of
span_of-Postfix o x s = ap span_of (sym (make.rolls-Postfix o x s)) ∙ ap in_expr (out-roll-Expr (Expr-F.Postfix o x s))

pub span_of-Number : (v : ℤ) (w : Bool) (s : Span) → span_of (make.Number v w s) ≡ s
unfolding span_of
span_of-Number v w s = ap span_of (sym (make.rolls-Number v w s)) ∙ ap in_expr (out-roll-Expr (Expr-F.Number v w s))

pub span_of-Chars : (t : Text) (s : Span) → span_of (make.Chars t s) ≡ s
unfolding span_of
span_of-Chars t s = ap span_of (sym (make.rolls-Chars t s)) ∙ ap in_expr (out-roll-Expr (Expr-F.Chars t s))

pub span_of-Name : (n : Text) (s : Span) → span_of (make.Name n s) ≡ s
unfolding span_of
span_of-Name n s = ap span_of (sym (make.rolls-Name n s)) ∙ ap in_expr (out-roll-Expr (Expr-F.Name n s))

pub span_of-Nil : (s : Span) → span_of (make.Nil s) ≡ s
unfolding span_of
span_of-Nil s = ap span_of (sym (make.rolls-Nil s)) ∙ ap in_expr (out-roll-Expr (Expr-F.Nil s))

pub span_of-Group : (xs : Vec code_expr.Expr Global) (s : Span) → span_of (make.Group xs s) ≡ s
unfolding span_of
span_of-Group xs s = ap span_of (sym (make.rolls-Group xs s)) ∙ ap in_expr (out-roll-Expr (Expr-F.Group xs s))

-- ---- statements

pub span_of_stmt-Empty : (s : Span) → span_of_stmt (make_stmt.Empty s) ≡ s
unfolding span_of_stmt
span_of_stmt-Empty s = ap span_of_stmt (sym (make_stmt.rolls-Empty s)) ∙ ap in_stmt (out-roll-Stmt (Stmt-F.Empty s))

pub span_of_stmt-Block : (b : code_block.Block) (s : Span) → span_of_stmt (make_stmt.Block b s) ≡ s
unfolding span_of_stmt
span_of_stmt-Block b s = ap span_of_stmt (sym (make_stmt.rolls-Block b s)) ∙ ap in_stmt (out-roll-Stmt (Stmt-F.Block b s))

pub span_of_stmt-Declare : (d : Box code_decl.Decl Global) (s : Span) → span_of_stmt (make_stmt.Declare d s) ≡ s
unfolding span_of_stmt
span_of_stmt-Declare d s = ap span_of_stmt (sym (make_stmt.rolls-Declare d s)) ∙ ap in_stmt (out-roll-Stmt (Stmt-F.Declare d s))

pub span_of_stmt-Eval : (x : Boxed) (s : Span) → span_of_stmt (make_stmt.Eval x s) ≡ s
unfolding span_of_stmt
span_of_stmt-Eval x s = ap span_of_stmt (sym (make_stmt.rolls-Eval x s)) ∙ ap in_stmt (out-roll-Stmt (Stmt-F.Eval x s))

pub span_of_stmt-If : (c : Boxed) (a : BoxedStmt) (b : Option BoxedStmt) (s : Span) → span_of_stmt (make_stmt.If c a b s) ≡ s
unfolding span_of_stmt
span_of_stmt-If c a b s = ap span_of_stmt (sym (make_stmt.rolls-If c a b s)) ∙ ap in_stmt (out-roll-Stmt (Stmt-F.If c a b s))

pub span_of_stmt-While :
    (l : Option code_name.Name) (c : Option Boxed) (a : BoxedStmt) (s : Span)
    → span_of_stmt (make_stmt.While l c a s) ≡ s
unfolding span_of_stmt
span_of_stmt-While l c a s = ap span_of_stmt (sym (make_stmt.rolls-While l c a s)) ∙ ap in_stmt (out-roll-Stmt (Stmt-F.While l c a s))

pub span_of_stmt-Do : (l : Option code_name.Name) (a : BoxedStmt) (c : Option Boxed) (s : Span) → span_of_stmt (make_stmt.Do l a c s) ≡ s
unfolding span_of_stmt
span_of_stmt-Do l a c s = ap span_of_stmt (sym (make_stmt.rolls-Do l a c s)) ∙ ap in_stmt (out-roll-Stmt (Stmt-F.Do l a c s))

pub span_of_stmt-For :
    (l : Option code_name.Name) (f c n : Option Boxed) (a : BoxedStmt) (s : Span)
    → span_of_stmt (make_stmt.For l f c n a s) ≡ s
unfolding span_of_stmt
span_of_stmt-For l f c n a s = ap span_of_stmt (sym (make_stmt.rolls-For l f c n a s)) ∙ ap in_stmt (out-roll-Stmt (Stmt-F.For l f c n a s))

pub span_of_stmt-Case :
    (l : Option code_name.Name) (x : Boxed) (arms : Vec code_case_arm.CaseArm Global) (s : Span)
    → span_of_stmt (make_stmt.Case l x arms s) ≡ s
unfolding span_of_stmt
span_of_stmt-Case l x arms s = ap span_of_stmt (sym (make_stmt.rolls-Case l x arms s)) ∙ ap in_stmt (out-roll-Stmt (Stmt-F.Case l x arms s))

pub span_of_stmt-Alt :
    (l : Option code_name.Name) (arms : Vec code_alt_arm.AltArm Global) (s : Span)
    → span_of_stmt (make_stmt.Alt l arms s) ≡ s
unfolding span_of_stmt
span_of_stmt-Alt l arms s = ap span_of_stmt (sym (make_stmt.rolls-Alt l arms s)) ∙ ap in_stmt (out-roll-Stmt (Stmt-F.Alt l arms s))

pub span_of_stmt-Pick :
    (l : Option code_name.Name) (n : code_name.Name) (x : Boxed) (arms : Vec code_pick_arm.PickArm Global) (s : Span)
    → span_of_stmt (make_stmt.Pick l n x arms s) ≡ s
unfolding span_of_stmt
span_of_stmt-Pick l n x arms s =
    ap span_of_stmt (sym (make_stmt.rolls-Pick l n x arms s))
    ∙ ap in_stmt (out-roll-Stmt (Stmt-F.Pick l n x arms s))

pub span_of_stmt-Break : (l : Option code_name.Name) (s : Span) → span_of_stmt (make_stmt.Break l s) ≡ s
unfolding span_of_stmt
span_of_stmt-Break l s = ap span_of_stmt (sym (make_stmt.rolls-Break l s)) ∙ ap in_stmt (out-roll-Stmt (Stmt-F.Break l s))

pub span_of_stmt-Continue : (l : Option code_name.Name) (s : Span) → span_of_stmt (make_stmt.Continue l s) ≡ s
unfolding span_of_stmt
span_of_stmt-Continue l s = ap span_of_stmt (sym (make_stmt.rolls-Continue l s)) ∙ ap in_stmt (out-roll-Stmt (Stmt-F.Continue l s))

pub span_of_stmt-Return : (x : Option Boxed) (s : Span) → span_of_stmt (make_stmt.Return x s) ≡ s
unfolding span_of_stmt
span_of_stmt-Return x s = ap span_of_stmt (sym (make_stmt.rolls-Return x s)) ∙ ap in_stmt (out-roll-Stmt (Stmt-F.Return x s))

pub span_of_stmt-Exit : (s : Span) → span_of_stmt (make_stmt.Exit s) ≡ s
unfolding span_of_stmt
span_of_stmt-Exit s = ap span_of_stmt (sym (make_stmt.rolls-Exit s)) ∙ ap in_stmt (out-roll-Stmt (Stmt-F.Exit s))

pub span_of_stmt-Spawn : (x : Boxed) (s : Span) → span_of_stmt (make_stmt.Spawn x s) ≡ s
unfolding span_of_stmt
span_of_stmt-Spawn x s = ap span_of_stmt (sym (make_stmt.rolls-Spawn x s)) ∙ ap in_stmt (out-roll-Stmt (Stmt-F.Spawn x s))

pub span_of_stmt-Raise : (x : Option Boxed) (s : Span) → span_of_stmt (make_stmt.Raise x s) ≡ s
unfolding span_of_stmt
span_of_stmt-Raise x s = ap span_of_stmt (sym (make_stmt.rolls-Raise x s)) ∙ ap in_stmt (out-roll-Stmt (Stmt-F.Raise x s))
