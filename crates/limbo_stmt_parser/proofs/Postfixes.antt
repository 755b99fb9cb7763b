-- Which expressions of the code are postfixes.
use Rattle.std.proofs.Common.{◌≡◌, Bool, true, false, Option, Vec, Box, Global, sym, ap, ◌∙◌}
use Rattle.inf_text.specs.declared.span.Span.{Span}
use Rattle.limbo_tree.specs.declared.name.Name as code_name
use Rattle.limbo_tree.specs.declared.types.TypeTree as code_type
use Rattle.limbo_tree.specs.declared.operators.AssignOp.{AssignOp}
use Rattle.limbo_tree.specs.declared.operators.BinaryOp.{BinaryOp}
use Rattle.limbo_tree.specs.declared.operators.UnaryOp.{UnaryOp}
use Rattle.limbo_tree.specs.declared.expr.Init as code_init
use Rattle.limbo_tree.specs.declared.expr.Expr as code_expr
use Rattle.limbo_tree.specs.declared.expr.Expr.{Expr-F, out-Expr, roll-Expr, roll-out-Expr, fold-roll-Expr}
use Rattle.limbo_tree.specs.declared.expr.Expr.TheVariants as make
use Rattle.limbo_tree.specs.Exprs.{Expr, Init, is_postfix}
use Rattle.limbo_tree.specs.View.{view_expr, view_init, expr_step, init_step}

pub postfix-Assign : (o : AssignOp) (l r : Box code_expr.Expr Global) (s : Span) → is_postfix (view_expr (make.Assign o l r s)) ≡ false
unfolding view_expr
postfix-Assign o l r s = ap (λ (x : code_expr.Expr). is_postfix (view_expr x)) (sym (make.rolls-Assign o l r s)) ∙ ap is_postfix (fold-roll-Expr Expr Init expr_step init_step (Expr-F.Assign o l r s))

pub postfix-Load : (n : code_name.Name) (e : Box code_expr.Expr Global) (s : Span) → is_postfix (view_expr (make.Load n e s)) ≡ false
unfolding view_expr
postfix-Load n e s = ap (λ (x : code_expr.Expr). is_postfix (view_expr x)) (sym (make.rolls-Load n e s)) ∙ ap is_postfix (fold-roll-Expr Expr Init expr_step init_step (Expr-F.Load n e s))

pub postfix-Binary : (o : BinaryOp) (l r : Box code_expr.Expr Global) (s : Span) → is_postfix (view_expr (make.Binary o l r s)) ≡ false
unfolding view_expr
postfix-Binary o l r s = ap (λ (x : code_expr.Expr). is_postfix (view_expr x)) (sym (make.rolls-Binary o l r s)) ∙ ap is_postfix (fold-roll-Expr Expr Init expr_step init_step (Expr-F.Binary o l r s))

pub postfix-Unary : (o : UnaryOp) (e : Box code_expr.Expr Global) (s : Span) → is_postfix (view_expr (make.Unary o e s)) ≡ false
unfolding view_expr
postfix-Unary o e s = ap (λ (x : code_expr.Expr). is_postfix (view_expr x)) (sym (make.rolls-Unary o e s)) ∙ ap is_postfix (fold-roll-Expr Expr Init expr_step init_step (Expr-F.Unary o e s))

pub postfix-Bytes : (e : Box code_expr.Expr Global) (s : Span) → is_postfix (view_expr (make.Bytes e s)) ≡ false
unfolding view_expr
postfix-Bytes e s = ap (λ (x : code_expr.Expr). is_postfix (view_expr x)) (sym (make.rolls-Bytes e s)) ∙ ap is_postfix (fold-roll-Expr Expr Init expr_step init_step (Expr-F.Bytes e s))

pub postfix-Filled : (n : Option (Box code_expr.Expr Global)) (is : Vec code_init.Init Global) (k : Bool) (s : Span) → is_postfix (view_expr (make.Filled n is k s)) ≡ false
unfolding view_expr
postfix-Filled n is k s = ap (λ (x : code_expr.Expr). is_postfix (view_expr x)) (sym (make.rolls-Filled n is k s)) ∙ ap is_postfix (fold-roll-Expr Expr Init expr_step init_step (Expr-F.Filled n is k s))

pub postfix-Sized : (e : Box code_expr.Expr Global) (t : Box code_type.TypeTree Global) (s : Span) → is_postfix (view_expr (make.Sized e t s)) ≡ false
unfolding view_expr
postfix-Sized e t s = ap (λ (x : code_expr.Expr). is_postfix (view_expr x)) (sym (make.rolls-Sized e t s)) ∙ ap is_postfix (fold-roll-Expr Expr Init expr_step init_step (Expr-F.Sized e t s))

pub postfix-Channel : (n : Option (Box code_expr.Expr Global)) (t : Box code_type.TypeTree Global) (s : Span) → is_postfix (view_expr (make.Channel n t s)) ≡ false
unfolding view_expr
postfix-Channel n t s = ap (λ (x : code_expr.Expr). is_postfix (view_expr x)) (sym (make.rolls-Channel n t s)) ∙ ap is_postfix (fold-roll-Expr Expr Init expr_step init_step (Expr-F.Channel n t s))

pub postfix-Listed : (es : Vec code_expr.Expr Global) (s : Span) → is_postfix (view_expr (make.Listed es s)) ≡ false
unfolding view_expr
postfix-Listed es s = ap (λ (x : code_expr.Expr). is_postfix (view_expr x)) (sym (make.rolls-Listed es s)) ∙ ap is_postfix (fold-roll-Expr Expr Init expr_step init_step (Expr-F.Listed es s))

-- what is none of these is a postfix
pub other_postfix : (e : code_expr.Expr)
    → ((o : AssignOp) (l r : Box code_expr.Expr Global) (s : Span) → e ≡ make.Assign o l r s → ⊥)
    → ((n : code_name.Name) (x : Box code_expr.Expr Global) (s : Span) → e ≡ make.Load n x s → ⊥)
    → ((o : BinaryOp) (l r : Box code_expr.Expr Global) (s : Span) → e ≡ make.Binary o l r s → ⊥)
    → ((o : UnaryOp) (x : Box code_expr.Expr Global) (s : Span) → e ≡ make.Unary o x s → ⊥)
    → ((x : Box code_expr.Expr Global) (s : Span) → e ≡ make.Bytes x s → ⊥)
    → ((n : Option (Box code_expr.Expr Global)) (is : Vec code_init.Init Global) (k : Bool) (s : Span) → e ≡ make.Filled n is k s → ⊥)
    → ((x : Box code_expr.Expr Global) (t : Box code_type.TypeTree Global) (s : Span) → e ≡ make.Sized x t s → ⊥)
    → ((n : Option (Box code_expr.Expr Global)) (t : Box code_type.TypeTree Global) (s : Span) → e ≡ make.Channel n t s → ⊥)
    → ((xs : Vec code_expr.Expr Global) (s : Span) → e ≡ make.Listed xs s → ⊥)
    → true ≡ is_postfix (view_expr e)
unfolding view_expr view_init
other_postfix e never0 never1 never2 never3 never4 never5 never6 never7 never8 = go (out-Expr e) (sym (roll-out-Expr e))
  where
    go : (y : Expr-F code_expr.Expr code_init.Init) → e ≡ roll-Expr y → true ≡ is_postfix (view_expr e)
    go (Expr-F.Assign o l r s) at = absurd (never0 o l r s (at ∙ make.rolls-Assign o l r s))
    go (Expr-F.Load n x s) at = absurd (never1 n x s (at ∙ make.rolls-Load n x s))
    go (Expr-F.Binary o l r s) at = absurd (never2 o l r s (at ∙ make.rolls-Binary o l r s))
    go (Expr-F.Unary o x s) at = absurd (never3 o x s (at ∙ make.rolls-Unary o x s))
    go (Expr-F.Bytes x s) at = absurd (never4 x s (at ∙ make.rolls-Bytes x s))
    go (Expr-F.Filled n is k s) at = absurd (never5 n is k s (at ∙ make.rolls-Filled n is k s))
    go (Expr-F.Sized x t s) at = absurd (never6 x t s (at ∙ make.rolls-Sized x t s))
    go (Expr-F.Channel n t s) at = absurd (never7 n t s (at ∙ make.rolls-Channel n t s))
    go (Expr-F.Listed xs s) at = absurd (never8 xs s (at ∙ make.rolls-Listed xs s))
    go y at = sym (ap (λ x. is_postfix (view_expr x)) at ∙ ap is_postfix (fold-roll-Expr Expr Init expr_step init_step y))

pub ruleset the_postfixes = (postfix-Assign, postfix-Load, postfix-Binary, postfix-Unary, postfix-Bytes, postfix-Filled, postfix-Sized, postfix-Channel, postfix-Listed, other_postfix)
