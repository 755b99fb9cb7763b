-- Types that are no names.
use Rattle.std.proofs.Common.{◌≡◌, None, sym, ap, ◌∙◌}
use Rattle.inf_text.specs.declared.span.Span.{Span}
use Rattle.limbo_tree.specs.declared.name.Qual as code_qual
use Rattle.limbo_tree.specs.declared.types.TypeTree as code_type
use Rattle.limbo_tree.specs.declared.types.TypeTree.{TypeTree-F, out-TypeTree, roll-TypeTree, roll-out-TypeTree, fold-roll-TypeTree}
use Rattle.limbo_tree.specs.declared.types.TypeTree.TheVariants as make_type
use Rattle.limbo_tree.specs.Types as types
use Rattle.limbo_tree.specs.View.{type_step, view_type}
use Rattle.limbo_naming.specs.Qualified.{named_type}

pub no_name :
    (t : code_type.TypeTree) → ((q : code_qual.Qual) (s : Span) → t ≡ make_type.Ref q s → ⊥)
    → ((q : code_qual.Qual) (s : Span) → t ≡ make_type.Named q s → ⊥) → named_type (view_type t) ≡ None
unfolding view_type
no_name t not_ref not_named = go (out-TypeTree t) (sym (roll-out-TypeTree t))
  where
    go : (y : TypeTree-F code_type.TypeTree) → t ≡ roll-TypeTree y → named_type (view_type t) ≡ None
    go (TypeTree-F.Ref q s) at = absurd (not_ref q s (at ∙ make_type.rolls-Ref q s))
    go (TypeTree-F.Named q s) at = absurd (not_named q s (at ∙ make_type.rolls-Named q s))
    go y at = ap (λ x. named_type (view_type x)) at ∙ ap named_type (fold-roll-TypeTree types.Ty type_step y)
