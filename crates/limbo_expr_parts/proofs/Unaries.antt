-- What is no assignment, no load and no operation of two operands is a unary.
use Rattle.std.proofs.Common.{◌≡◌, true, false, Box, Global, refl}
use Rattle.inf_text.specs.declared.span.Span.{Span}
use Rattle.limbo_tree.specs.declared.name.Name as code_name
use Rattle.limbo_tree.specs.declared.operators.AssignOp.{AssignOp}
use Rattle.limbo_tree.specs.declared.operators.BinaryOp.{BinaryOp}
use Rattle.limbo_tree.specs.declared.expr.Expr as code_expr
use Rattle.limbo_tree.specs.declared.expr.Expr.TheVariants as make
use Rattle.limbo_tree.specs.Exprs as tree
use Rattle.limbo_tree.specs.View.{view_expr}
use Rattle.limbo_tree.proofs.Others as others

pub unary : (e : code_expr.Expr)
    → ((o : AssignOp) (l r : Box code_expr.Expr Global) (s : Span) → e ≡ make.Assign o l r s → ⊥)
    → ((n : code_name.Name) (x : Box code_expr.Expr Global) (s : Span) → e ≡ make.Load n x s → ⊥)
    → ((o : BinaryOp) (l r : Box code_expr.Expr Global) (s : Span) → e ≡ make.Binary o l r s → ⊥)
    → true ≡ tree.is_unary (view_expr e)
unary e never0 never1 never2 = other (view_expr e) (others.no_expr-Assign e never0) (others.no_expr-Load e never1) (others.no_expr-Binary e never2)
  where
    other : (e : tree.Expr) → others.is_assign e ≡ false → others.is_load e ≡ false → others.is_binary e ≡ false → true ≡ tree.is_unary e
    other (tree.Assign o l r) h0 h1 h2 = absurd cc
    other (tree.Load n x) h0 h1 h2 = absurd cc
    other (tree.Binary o l r) h0 h1 h2 = absurd cc
    other _ h0 h1 h2 = refl
