-- Expressions that are `nil`.
use Rattle.std.proofs.Common.{◌≡◌, Bool, true, false, sym, ap, ◌∙◌}
use Rattle.inf_text.specs.declared.span.Span.{Span}
use Rattle.limbo_tree.specs.declared.expr.Expr as code_expr
use Rattle.limbo_tree.specs.declared.expr.Expr.{Expr-F, out-Expr, roll-Expr, roll-out-Expr, fold-roll-Expr}
use Rattle.limbo_tree.specs.declared.expr.Expr.TheVariants as make
use Rattle.limbo_tree.specs.declared.expr.Init as code_init
use Rattle.limbo_tree.specs.Exprs as tree
use Rattle.limbo_tree.specs.View.{expr_step, init_step, view_expr}

abbrev is_nil : tree.Expr → Bool
is_nil tree.Nil = true
is_nil _ = false

other : (e : code_expr.Expr) → ((s : Span) → e ≡ make.Nil s → ⊥) → is_nil (view_expr e) ≡ false
unfolding view_expr
other e not_nil = go (out-Expr e) (sym (roll-out-Expr e))
  where
    go : (y : Expr-F code_expr.Expr code_init.Init) → e ≡ roll-Expr y → is_nil (view_expr e) ≡ false
    go (Expr-F.Nil s) at = absurd (not_nil s (at ∙ make.rolls-Nil s))
    go y at = ap (λ x. is_nil (view_expr x)) at ∙ ap is_nil (fold-roll-Expr tree.Expr tree.Init expr_step init_step y)

pub no_nil : (e : code_expr.Expr) → ((s : Span) → e ≡ make.Nil s → ⊥) → view_expr e ≡ tree.Nil → ⊥
no_nil e f h = let z : false ≡ true = sym (other e f) ∙ ap is_nil h in absurd cc
