-- Trees without names.
use Rattle.std.proofs.Common.{◌≡◌, [], Bool, Vec, Box, Global, refl, sym, ap, ◌∙◌}
use Rattle.inf_text.specs.declared.span.Span.{Span}
use Rattle.inf_text.specs.declared.text.Text.{Text}
use Rattle.limbo_tree.specs.declared.name.Name as code_name
use Rattle.limbo_tree.specs.declared.name.Qual as code_qual
use Rattle.limbo_tree.specs.declared.types.TypeTree as code_type
use Rattle.limbo_tree.specs.declared.types.TypeTree.{TypeTree-F, out-TypeTree, roll-TypeTree, roll-out-TypeTree, fold-roll-TypeTree}
use Rattle.limbo_tree.specs.declared.types.TypeTree.TheVariants as make_type
use Rattle.limbo_tree.specs.declared.expr.Expr as code_expr
use Rattle.limbo_tree.specs.declared.expr.Expr.TheVariants as make
use Rattle.limbo_tree.specs.Types as types
use Rattle.limbo_tree.specs.Exprs as tree
use Rattle.limbo_tree.specs.View.{type_step, view_type, view_expr}
use Rattle.limbo_tree.proofs.Forms.{Boxed, HasForm, has_form}
use Rattle.limbo_unknown.specs.Written.{in_type, first}

pub no_names :
    (t : code_type.TypeTree)
    → ((x : Box code_type.TypeTree Global) (s : Span) → t ≡ make_type.Array x s → ⊥)
    → ((x : Box code_type.TypeTree Global) (s : Span) → t ≡ make_type.List x s → ⊥)
    → ((x : Box code_type.TypeTree Global) (s : Span) → t ≡ make_type.Chan x s → ⊥)
    → ((q : code_qual.Qual) (s : Span) → t ≡ make_type.Ref q s → ⊥)
    → ((q : code_qual.Qual) (s : Span) → t ≡ make_type.Named q s → ⊥)
    → ((ts : Vec code_type.TypeTree Global) (s : Span) → t ≡ make_type.Tuple ts s → ⊥)
    → in_type (view_type t) ≡ []
unfolding view_type
no_names t array list chan ref named tuple = go (out-TypeTree t) (sym (roll-out-TypeTree t))
  where
    go : (y : TypeTree-F code_type.TypeTree) → t ≡ roll-TypeTree y → in_type (view_type t) ≡ []
    go (TypeTree-F.Array x s) at = absurd (array x s (at ∙ make_type.rolls-Array x s))
    go (TypeTree-F.List x s) at = absurd (list x s (at ∙ make_type.rolls-List x s))
    go (TypeTree-F.Chan x s) at = absurd (chan x s (at ∙ make_type.rolls-Chan x s))
    go (TypeTree-F.Ref q s) at = absurd (ref q s (at ∙ make_type.rolls-Ref q s))
    go (TypeTree-F.Named q s) at = absurd (named q s (at ∙ make_type.rolls-Named q s))
    go (TypeTree-F.Tuple ts s) at = absurd (tuple ts s (at ∙ make_type.rolls-Tuple ts s))
    go y at = ap (λ x. in_type (view_type x)) at ∙ ap in_type (fold-roll-TypeTree types.Ty type_step y)

pub no_first :
    (c : Bool) (e : code_expr.Expr)
    → ((n : Text) (s : Span) → e ≡ make.Name n s → ⊥)
    → ((x : Boxed) (n : code_name.Name) (s : Span) → e ≡ make.Arrow x n s → ⊥)
    → ((x : Boxed) (n : code_name.Name) (s : Span) → e ≡ make.Dot x n s → ⊥)
    → first c (view_expr e) ≡ []
no_first c e name arrow dot = go (view_expr e) (has_form e)
  where
    go : (t : tree.Expr) → HasForm e t → first c t ≡ []
    go (tree.Name n) h = absurd (name h.0 h.1 h.2)
    go (tree.Arrow x n) h = absurd (arrow h.0 h.1 h.2 h.3)
    go (tree.Dot x n) h = absurd (dot h.0 h.1 h.2 h.3)
    go _ h = refl
