-- The equations of the views of types and of expressions, one for each variant.
use Rattle.std.proofs.Common.{◌≡◌, ℤ, Bool, map, Option, Some, None, Vec, Box, Global, sym, ap, ◌∙◌}
use Rattle.limbo_lexer.specs.inf_text.declared.span.Span.{Span}
use Rattle.limbo_tree.specs.declared.name.Name as code_name
use Rattle.limbo_tree.specs.declared.name.Qual as code_qual
use Rattle.limbo_tree.specs.declared.types.TypeTree as code_type
use Rattle.limbo_tree.specs.declared.types.TypeTree.{TypeTree-F, fold-roll-TypeTree}
use Rattle.limbo_tree.specs.declared.types.TypeTree.TheVariants as make_type
use Rattle.limbo_tree.specs.Types as types
use Rattle.limbo_lexer.specs.inf_text.declared.text.Text.{Text}
use Rattle.limbo_tree.specs.declared.operators.AssignOp.{AssignOp}
use Rattle.limbo_tree.specs.declared.operators.BinaryOp.{BinaryOp}
use Rattle.limbo_tree.specs.declared.operators.UnaryOp.{UnaryOp}
use Rattle.limbo_tree.specs.declared.operators.PostfixOp.{PostfixOp}
use Rattle.limbo_tree.specs.declared.expr.Expr as code_expr
use Rattle.limbo_tree.specs.declared.expr.Expr.{Expr-F, fold-roll-Expr}
use Rattle.limbo_tree.specs.declared.expr.Expr.TheVariants as make
use Rattle.limbo_tree.specs.declared.expr.Init as code_init
use Rattle.limbo_tree.specs.declared.expr.Init.{Init-F, fold-roll-Init}
use Rattle.limbo_tree.specs.declared.expr.Init.TheVariants as make_init
use Rattle.limbo_tree.specs.Exprs as tree
use Rattle.limbo_tree.specs.View.{view_qual, type_step, view_type, view_types, exprs_of, inits_of, expr_step, init_step, view_expr, view_init, view_part}

pub view_type-Byte : (s : Span) → view_type (make_type.Byte s) ≡ types.Byte
unfolding view_type
view_type-Byte s = ap view_type (sym (make_type.rolls-Byte s)) ∙ fold-roll-TypeTree types.Ty type_step (TypeTree-F.Byte s)

pub view_type-Int : (s : Span) → view_type (make_type.Int s) ≡ types.Int
unfolding view_type
view_type-Int s = ap view_type (sym (make_type.rolls-Int s)) ∙ fold-roll-TypeTree types.Ty type_step (TypeTree-F.Int s)

pub view_type-Big : (s : Span) → view_type (make_type.Big s) ≡ types.Big
unfolding view_type
view_type-Big s = ap view_type (sym (make_type.rolls-Big s)) ∙ fold-roll-TypeTree types.Ty type_step (TypeTree-F.Big s)

pub view_type-String : (s : Span) → view_type (make_type.String s) ≡ types.String
unfolding view_type
view_type-String s = ap view_type (sym (make_type.rolls-String s)) ∙ fold-roll-TypeTree types.Ty type_step (TypeTree-F.String s)

pub view_type-Array : (t : Box code_type.TypeTree Global) (s : Span) → view_type (make_type.Array t s) ≡ types.ArrayOf (view_type t.value)
unfolding view_type
view_type-Array t s = ap view_type (sym (make_type.rolls-Array t s)) ∙ fold-roll-TypeTree types.Ty type_step (TypeTree-F.Array t s)

pub view_type-List : (t : Box code_type.TypeTree Global) (s : Span) → view_type (make_type.List t s) ≡ types.ListOf (view_type t.value)
unfolding view_type
view_type-List t s = ap view_type (sym (make_type.rolls-List t s)) ∙ fold-roll-TypeTree types.Ty type_step (TypeTree-F.List t s)

pub view_type-Chan : (t : Box code_type.TypeTree Global) (s : Span) → view_type (make_type.Chan t s) ≡ types.ChanOf (view_type t.value)
unfolding view_type
view_type-Chan t s = ap view_type (sym (make_type.rolls-Chan t s)) ∙ fold-roll-TypeTree types.Ty type_step (TypeTree-F.Chan t s)

pub view_type-Ref : (q : code_qual.Qual) (s : Span) → view_type (make_type.Ref q s) ≡ types.RefTo (view_qual q)
unfolding view_type
view_type-Ref q s = ap view_type (sym (make_type.rolls-Ref q s)) ∙ fold-roll-TypeTree types.Ty type_step (TypeTree-F.Ref q s)

pub view_type-Named : (q : code_qual.Qual) (s : Span) → view_type (make_type.Named q s) ≡ types.Named (view_qual q)
unfolding view_type
view_type-Named q s = ap view_type (sym (make_type.rolls-Named q s)) ∙ fold-roll-TypeTree types.Ty type_step (TypeTree-F.Named q s)

pub view_type-Tuple : (ts : Vec code_type.TypeTree Global) (s : Span) → view_type (make_type.Tuple ts s) ≡ types.Tuple (view_types ts.items)
unfolding view_type view_types
view_type-Tuple ts s = ap view_type (sym (make_type.rolls-Tuple ts s)) ∙ fold-roll-TypeTree types.Ty type_step (TypeTree-F.Tuple ts s)

pub ruleset the_type_views = (view_type-Byte, view_type-Int, view_type-Big, view_type-String, view_type-Array, view_type-List, view_type-Chan, view_type-Ref, view_type-Named, view_type-Tuple)

-- ---- expressions

pub view_expr-Assign : (o : AssignOp) (l : Box code_expr.Expr Global) (r : Box code_expr.Expr Global) (s : Span) → view_expr (make.Assign o l r s) ≡ tree.Assign o (view_expr l.value) (view_expr r.value)
unfolding view_expr view_init
view_expr-Assign o l r s = ap view_expr (sym (make.rolls-Assign o l r s)) ∙ fold-roll-Expr tree.Expr tree.Init expr_step init_step (Expr-F.Assign o l r s)

pub view_expr-Load : (n : code_name.Name) (e : Box code_expr.Expr Global) (s : Span) → view_expr (make.Load n e s) ≡ tree.Load n.text (view_expr e.value)
unfolding view_expr view_init
view_expr-Load n e s = ap view_expr (sym (make.rolls-Load n e s)) ∙ fold-roll-Expr tree.Expr tree.Init expr_step init_step (Expr-F.Load n e s)

pub view_expr-Binary : (o : BinaryOp) (l : Box code_expr.Expr Global) (r : Box code_expr.Expr Global) (s : Span) → view_expr (make.Binary o l r s) ≡ tree.Binary o (view_expr l.value) (view_expr r.value)
unfolding view_expr view_init
view_expr-Binary o l r s = ap view_expr (sym (make.rolls-Binary o l r s)) ∙ fold-roll-Expr tree.Expr tree.Init expr_step init_step (Expr-F.Binary o l r s)

pub view_expr-Unary : (o : UnaryOp) (e : Box code_expr.Expr Global) (s : Span) → view_expr (make.Unary o e s) ≡ tree.Unary o (view_expr e.value)
unfolding view_expr view_init
view_expr-Unary o e s = ap view_expr (sym (make.rolls-Unary o e s)) ∙ fold-roll-Expr tree.Expr tree.Init expr_step init_step (Expr-F.Unary o e s)

pub view_expr-Bytes : (e : Box code_expr.Expr Global) (s : Span) → view_expr (make.Bytes e s) ≡ tree.Bytes (view_expr e.value)
unfolding view_expr view_init
view_expr-Bytes e s = ap view_expr (sym (make.rolls-Bytes e s)) ∙ fold-roll-Expr tree.Expr tree.Init expr_step init_step (Expr-F.Bytes e s)

pub view_expr-Filled : (n : Option (Box code_expr.Expr Global)) (is : Vec code_init.Init Global) (comma : Bool) (s : Span) → view_expr (make.Filled n is comma s) ≡ tree.Filled (view_part n) (inits_of (map view_init is.items)) comma
unfolding view_expr view_init
view_expr-Filled None is comma s = ap view_expr (sym (make.rolls-Filled None is comma s)) ∙ fold-roll-Expr tree.Expr tree.Init expr_step init_step (Expr-F.Filled None is comma s)
view_expr-Filled (Some xn) is comma s = ap view_expr (sym (make.rolls-Filled (Some xn) is comma s)) ∙ fold-roll-Expr tree.Expr tree.Init expr_step init_step (Expr-F.Filled (Some xn) is comma s)

pub view_expr-Sized : (e : Box code_expr.Expr Global) (t : Box code_type.TypeTree Global) (s : Span) → view_expr (make.Sized e t s) ≡ tree.Sized (view_expr e.value) (view_type t.value)
unfolding view_expr view_init
view_expr-Sized e t s = ap view_expr (sym (make.rolls-Sized e t s)) ∙ fold-roll-Expr tree.Expr tree.Init expr_step init_step (Expr-F.Sized e t s)

pub view_expr-Channel : (n : Option (Box code_expr.Expr Global)) (t : Box code_type.TypeTree Global) (s : Span) → view_expr (make.Channel n t s) ≡ tree.Channel (view_part n) (view_type t.value)
unfolding view_expr view_init
view_expr-Channel None t s = ap view_expr (sym (make.rolls-Channel None t s)) ∙ fold-roll-Expr tree.Expr tree.Init expr_step init_step (Expr-F.Channel None t s)
view_expr-Channel (Some xn) t s = ap view_expr (sym (make.rolls-Channel (Some xn) t s)) ∙ fold-roll-Expr tree.Expr tree.Init expr_step init_step (Expr-F.Channel (Some xn) t s)

pub view_expr-Listed : (es : Vec code_expr.Expr Global) (s : Span) → view_expr (make.Listed es s) ≡ tree.Listed (exprs_of (map view_expr es.items))
unfolding view_expr view_init
view_expr-Listed es s = ap view_expr (sym (make.rolls-Listed es s)) ∙ fold-roll-Expr tree.Expr tree.Init expr_step init_step (Expr-F.Listed es s)

pub view_expr-Call : (f : Box code_expr.Expr Global) (es : Vec code_expr.Expr Global) (s : Span) → view_expr (make.Call f es s) ≡ tree.Call (view_expr f.value) (exprs_of (map view_expr es.items))
unfolding view_expr view_init
view_expr-Call f es s = ap view_expr (sym (make.rolls-Call f es s)) ∙ fold-roll-Expr tree.Expr tree.Init expr_step init_step (Expr-F.Call f es s)

pub view_expr-Index : (e : Box code_expr.Expr Global) (i : Box code_expr.Expr Global) (s : Span) → view_expr (make.Index e i s) ≡ tree.Index (view_expr e.value) (view_expr i.value)
unfolding view_expr view_init
view_expr-Index e i s = ap view_expr (sym (make.rolls-Index e i s)) ∙ fold-roll-Expr tree.Expr tree.Init expr_step init_step (Expr-F.Index e i s)

pub view_expr-Slice : (e : Box code_expr.Expr Global) (i : Option (Box code_expr.Expr Global)) (j : Option (Box code_expr.Expr Global)) (s : Span) → view_expr (make.Slice e i j s) ≡ tree.Slice (view_expr e.value) (view_part i) (view_part j)
unfolding view_expr view_init
view_expr-Slice e None None s = ap view_expr (sym (make.rolls-Slice e None None s)) ∙ fold-roll-Expr tree.Expr tree.Init expr_step init_step (Expr-F.Slice e None None s)
view_expr-Slice e None (Some xj) s = ap view_expr (sym (make.rolls-Slice e None (Some xj) s)) ∙ fold-roll-Expr tree.Expr tree.Init expr_step init_step (Expr-F.Slice e None (Some xj) s)
view_expr-Slice e (Some xi) None s = ap view_expr (sym (make.rolls-Slice e (Some xi) None s)) ∙ fold-roll-Expr tree.Expr tree.Init expr_step init_step (Expr-F.Slice e (Some xi) None s)
view_expr-Slice e (Some xi) (Some xj) s = ap view_expr (sym (make.rolls-Slice e (Some xi) (Some xj) s)) ∙ fold-roll-Expr tree.Expr tree.Init expr_step init_step (Expr-F.Slice e (Some xi) (Some xj) s)

pub view_expr-Dot : (e : Box code_expr.Expr Global) (n : code_name.Name) (s : Span) → view_expr (make.Dot e n s) ≡ tree.Dot (view_expr e.value) n.text
unfolding view_expr view_init
view_expr-Dot e n s = ap view_expr (sym (make.rolls-Dot e n s)) ∙ fold-roll-Expr tree.Expr tree.Init expr_step init_step (Expr-F.Dot e n s)

pub view_expr-Arrow : (e : Box code_expr.Expr Global) (n : code_name.Name) (s : Span) → view_expr (make.Arrow e n s) ≡ tree.Arrow (view_expr e.value) n.text
unfolding view_expr view_init
view_expr-Arrow e n s = ap view_expr (sym (make.rolls-Arrow e n s)) ∙ fold-roll-Expr tree.Expr tree.Init expr_step init_step (Expr-F.Arrow e n s)

pub view_expr-Postfix : (o : PostfixOp) (e : Box code_expr.Expr Global) (s : Span) → view_expr (make.Postfix o e s) ≡ tree.Postfix o (view_expr e.value)
unfolding view_expr view_init
view_expr-Postfix o e s = ap view_expr (sym (make.rolls-Postfix o e s)) ∙ fold-roll-Expr tree.Expr tree.Init expr_step init_step (Expr-F.Postfix o e s)

pub view_expr-Number : (v : ℤ) (wide : Bool) (s : Span) → view_expr (make.Number v wide s) ≡ tree.Number v wide
unfolding view_expr view_init
view_expr-Number v wide s = ap view_expr (sym (make.rolls-Number v wide s)) ∙ fold-roll-Expr tree.Expr tree.Init expr_step init_step (Expr-F.Number v wide s)

pub view_expr-Chars : (t : Text) (s : Span) → view_expr (make.Chars t s) ≡ tree.Chars t
unfolding view_expr view_init
view_expr-Chars t s = ap view_expr (sym (make.rolls-Chars t s)) ∙ fold-roll-Expr tree.Expr tree.Init expr_step init_step (Expr-F.Chars t s)

pub view_expr-Name : (t : Text) (s : Span) → view_expr (make.Name t s) ≡ tree.Name t
unfolding view_expr view_init
view_expr-Name t s = ap view_expr (sym (make.rolls-Name t s)) ∙ fold-roll-Expr tree.Expr tree.Init expr_step init_step (Expr-F.Name t s)

pub view_expr-Nil : (s : Span) → view_expr (make.Nil s) ≡ tree.Nil
unfolding view_expr view_init
view_expr-Nil s = ap view_expr (sym (make.rolls-Nil s)) ∙ fold-roll-Expr tree.Expr tree.Init expr_step init_step (Expr-F.Nil s)

pub view_expr-Group : (es : Vec code_expr.Expr Global) (s : Span) → view_expr (make.Group es s) ≡ tree.Group (exprs_of (map view_expr es.items))
unfolding view_expr view_init
view_expr-Group es s = ap view_expr (sym (make.rolls-Group es s)) ∙ fold-roll-Expr tree.Expr tree.Init expr_step init_step (Expr-F.Group es s)

pub view_expr-no_size : (t : Box code_type.TypeTree Global) (s : Span) → view_expr (make.Channel None t s) ≡ tree.Channel tree.Absent (view_type t.value)
view_expr-no_size t s = view_expr-Channel None t s

pub view_expr-from_start : (e : Box code_expr.Expr Global) (j : Option (Box code_expr.Expr Global)) (s : Span) → view_expr (make.Slice e None j s) ≡ tree.Slice (view_expr e.value) tree.Absent (view_part j)
view_expr-from_start e j s = view_expr-Slice e None j s

pub view_expr-from : (e i : Box code_expr.Expr Global) (j : Option (Box code_expr.Expr Global)) (s : Span) → view_expr (make.Slice e (Some i) j s) ≡ tree.Slice (view_expr e.value) (tree.Present (view_expr i.value)) (view_part j)
view_expr-from e i j s = view_expr-Slice e (Some i) j s

pub ruleset the_views = (view_expr-Assign, view_expr-Load, view_expr-Binary, view_expr-Unary, view_expr-Bytes, view_expr-Filled, view_expr-Sized, view_expr-Channel, view_expr-Listed, view_expr-Call, view_expr-Index, view_expr-Slice, view_expr-Dot, view_expr-Arrow, view_expr-Postfix, view_expr-Number, view_expr-Chars, view_expr-Name, view_expr-Nil, view_expr-Group, view_expr-no_size, view_expr-from_start, view_expr-from)

pub view_init-Next : (e : Box code_expr.Expr Global) → view_init (make_init.Next e) ≡ tree.Next (view_expr e.value)
unfolding view_expr view_init
view_init-Next e = ap view_init (sym (make_init.rolls-Next e)) ∙ fold-roll-Init tree.Expr tree.Init expr_step init_step (Init-F.Next e)

pub view_init-At : (i e : Box code_expr.Expr Global) → view_init (make_init.At i e) ≡ tree.At (view_expr i.value) (view_expr e.value)
unfolding view_expr view_init
view_init-At i e = ap view_init (sym (make_init.rolls-At i e)) ∙ fold-roll-Init tree.Expr tree.Init expr_step init_step (Init-F.At i e)

pub view_init-Rest : (e : Box code_expr.Expr Global) → view_init (make_init.Rest e) ≡ tree.Rest (view_expr e.value)
unfolding view_expr view_init
view_init-Rest e = ap view_init (sym (make_init.rolls-Rest e)) ∙ fold-roll-Init tree.Expr tree.Init expr_step init_step (Init-F.Rest e)

pub ruleset the_init_views = (view_init-Next, view_init-At, view_init-Rest)
