-- The tables of operators, and the operator that is the first token.
use Rattle.std.specs.Prelude.{ℕ, List, nat_le, nat_lt, Option, Some, None, if◌then◌else◌}
use Rattle.limbo_lexer.specs.declared.token.Kind.{Kind}
use Rattle.limbo_lexer.specs.declared.token.Kind.TheVariants as kind
use Rattle.limbo_lexer.specs.declared.token.Mark.TheVariants as mark
use Rattle.limbo_lexer.specs.declared.token.Key.TheVariants as key
use Rattle.limbo_tree.specs.declared.operators.AssignOp.{AssignOp}
use Rattle.limbo_tree.specs.declared.operators.AssignOp.TheVariants as assign_op
use Rattle.limbo_tree.specs.declared.operators.BinaryOp.{BinaryOp}
use Rattle.limbo_tree.specs.declared.operators.BinaryOp.TheVariants as binary_op
use Rattle.limbo_tree.specs.declared.operators.UnaryOp.{UnaryOp}
use Rattle.limbo_tree.specs.declared.operators.UnaryOp.TheVariants as unary_op
use Rattle.limbo_tree.specs.declared.operators.PostfixOp.{PostfixOp}
use Rattle.limbo_tree.specs.declared.operators.PostfixOp.TheVariants as postfix_op
use Rattle.limbo_reading.specs.Reading.{choose, after_key}
use Rattle.limbo_tree.specs.Exprs.{Expr, level, is_unary}
use Rattle.limbo_expr_parts.specs.Front.{front}

abbrev pub binary_of : Kind → Option BinaryOp
binary_of (kind.Mark mark.OrOr) = Some binary_op.OrOr
binary_of (kind.Mark mark.AndAnd) = Some binary_op.AndAnd
binary_of (kind.Mark mark.Cons) = Some binary_op.Cons
binary_of (kind.Mark mark.Bar) = Some binary_op.Or
binary_of (kind.Mark mark.Caret) = Some binary_op.Xor
binary_of (kind.Mark mark.Ampersand) = Some binary_op.And
binary_of (kind.Mark mark.Equal) = Some binary_op.Equal
binary_of (kind.Mark mark.NotEqual) = Some binary_op.NotEqual
binary_of (kind.Mark mark.Less) = Some binary_op.Less
binary_of (kind.Mark mark.LessEqual) = Some binary_op.LessEqual
binary_of (kind.Mark mark.Greater) = Some binary_op.Greater
binary_of (kind.Mark mark.GreaterEqual) = Some binary_op.GreaterEqual
binary_of (kind.Mark mark.Shl) = Some binary_op.Shl
binary_of (kind.Mark mark.Shr) = Some binary_op.Shr
binary_of (kind.Mark mark.Plus) = Some binary_op.Add
binary_of (kind.Mark mark.Minus) = Some binary_op.Sub
binary_of (kind.Mark mark.Star) = Some binary_op.Mul
binary_of (kind.Mark mark.Slash) = Some binary_op.Div
binary_of (kind.Mark mark.Percent) = Some binary_op.Rem
binary_of _ = None

abbrev pub unary_of : Kind → Option UnaryOp
unary_of (kind.Mark mark.Plus) = Some unary_op.Plus
unary_of (kind.Mark mark.Minus) = Some unary_op.Minus
unary_of (kind.Mark mark.Bang) = Some unary_op.Not
unary_of (kind.Mark mark.Tilde) = Some unary_op.Complement
unary_of (kind.Mark mark.Increment) = Some unary_op.Increment
unary_of (kind.Mark mark.Decrement) = Some unary_op.Decrement
unary_of (kind.Mark mark.Receive) = Some unary_op.Receive
unary_of (kind.Mark mark.Star) = Some unary_op.Deref
unary_of (kind.Key key.Ref) = Some unary_op.Ref
unary_of (kind.Key key.Hd) = Some unary_op.Hd
unary_of (kind.Key key.Tl) = Some unary_op.Tl
unary_of (kind.Key key.Len) = Some unary_op.Len
unary_of (kind.Key key.Tagof) = Some unary_op.Tagof
unary_of (kind.Key key.Byte) = Some unary_op.Byte
unary_of (kind.Key key.Int) = Some unary_op.Int
unary_of (kind.Key key.Big) = Some unary_op.Big
unary_of (kind.Key key.String) = Some unary_op.String
unary_of _ = None

abbrev pub assign_of : Kind → Option AssignOp
assign_of (kind.Mark mark.Assign) = Some assign_op.Assign
assign_of (kind.Mark mark.Define) = Some assign_op.Define
assign_of (kind.Mark mark.Send) = Some assign_op.Send
assign_of (kind.Mark mark.AddAssign) = Some assign_op.Add
assign_of (kind.Mark mark.SubAssign) = Some assign_op.Sub
assign_of (kind.Mark mark.MulAssign) = Some assign_op.Mul
assign_of (kind.Mark mark.DivAssign) = Some assign_op.Div
assign_of (kind.Mark mark.RemAssign) = Some assign_op.Rem
assign_of (kind.Mark mark.AndAssign) = Some assign_op.And
assign_of (kind.Mark mark.OrAssign) = Some assign_op.Or
assign_of (kind.Mark mark.XorAssign) = Some assign_op.Xor
assign_of (kind.Mark mark.ShlAssign) = Some assign_op.Shl
assign_of (kind.Mark mark.ShrAssign) = Some assign_op.Shr
assign_of _ = None

-- the operator at the front that has this level or a tighter one
abbrev pub op_within : ℕ → List Kind → Option (BinaryOp × List Kind)
op_within k ts = choose (front binary_of ts) None λ o. if nat_le (level o.0) k then Some o else None

abbrev pub postfix_of : Kind → Option PostfixOp
postfix_of (kind.Mark mark.Increment) = Some postfix_op.Increment
postfix_of (kind.Mark mark.Decrement) = Some postfix_op.Decrement
postfix_of _ = None

-- "load", where a tree of that level may be a load
abbrev pub after_load : ℕ → List Kind → Option (List Kind)
after_load k ts = if nat_lt k 12 then None else after_key key.Load ts

-- an assignment's sign behind a tree, where the tree may be assigned to
abbrev pub assign_after : Expr → List Kind → Option (AssignOp × List Kind)
assign_after l ts = if is_unary l then front assign_of ts else None
