-- Expressions that are no names.
use Rattle.std.proofs.Common.{◌≡◌, None, Some, Box, Global, option_map, refl, ap, ◌∙◌}
use Rattle.inf_text.specs.declared.span.Span.{Span}
use Rattle.inf_text.specs.declared.text.Text.{Text}
use Rattle.limbo_tree.specs.declared.name.Name as code_name
use Rattle.limbo_tree.specs.declared.expr.Expr as code_expr
use Rattle.limbo_tree.specs.declared.expr.Expr.TheVariants as make
use Rattle.limbo_tree.specs.Exprs as tree
use Rattle.limbo_tree.specs.View.{view_expr}
use Rattle.limbo_tree.proofs.Exprs.{view_expr-Arrow, view_expr-Dot}
use Rattle.limbo_tree.proofs.Forms.{HasForm, has_form}
use Rattle.limbo_naming.specs.Qualified.{Qualified, Member, Part, of_expr}

pub no_name :
    (e : code_expr.Expr) → ((n : Text) (s : Span) → e ≡ make.Name n s → ⊥)
    → ((a : Box code_expr.Expr Global) (n : code_name.Name) (s : Span) → e ≡ make.Arrow a n s → ⊥)
    → ((a : Box code_expr.Expr Global) (n : code_name.Name) (s : Span) → e ≡ make.Dot a n s → ⊥)
    → of_expr (view_expr e) ≡ None
no_name e not_name not_arrow not_dot = go (view_expr e) (has_form e)
  where
    go : (t : tree.Expr) → HasForm e t → of_expr t ≡ None
    go (tree.Name n) h = absurd (not_name h.0 h.1 h.2)
    go (tree.Arrow x n) h = absurd (not_arrow h.0 h.1 h.2 h.3)
    go (tree.Dot x n) h = absurd (not_dot h.0 h.1 h.2 h.3)
    go _ h = refl

module _ (e : code_expr.Expr) (b : Box code_expr.Expr Global) (n : code_name.Name) (s : Span) where
  pub no_member : e ≡ make.Arrow b n s → of_expr (view_expr b.value) ≡ None → of_expr (view_expr e) ≡ None
  no_member i f = ap (λ x. of_expr (view_expr x)) i ∙ ap of_expr (view_expr-Arrow b n s) ∙ ap (option_map (λ q. Member q n.text)) f

  pub no_part : e ≡ make.Dot b n s → of_expr (view_expr b.value) ≡ None → of_expr (view_expr e) ≡ None
  no_part i f = ap (λ x. of_expr (view_expr x)) i ∙ ap of_expr (view_expr-Dot b n s) ∙ ap (option_map (λ q. Part q n.text)) f

  pub is_member : (q : Qualified) → e ≡ make.Arrow b n s → of_expr (view_expr b.value) ≡ Some q → of_expr (view_expr e) ≡ Some (Member q n.text)
  is_member q i f = ap (λ x. of_expr (view_expr x)) i ∙ ap of_expr (view_expr-Arrow b n s) ∙ ap (option_map (λ q. Member q n.text)) f

  pub is_part : (q : Qualified) → e ≡ make.Dot b n s → of_expr (view_expr b.value) ≡ Some q → of_expr (view_expr e) ≡ Some (Part q n.text)
  is_part q i f = ap (λ x. of_expr (view_expr x)) i ∙ ap of_expr (view_expr-Dot b n s) ∙ ap (option_map (λ q. Part q n.text)) f
