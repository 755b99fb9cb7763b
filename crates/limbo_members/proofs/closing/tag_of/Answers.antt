use Rattle.std.proofs.Common.{◌++◌, ◌∷◌, [], map, ap, sym, ◌∙◌}
use Rattle.limbo_types.specs.declared.ty.Ty.TheVariants as make
use Rattle.limbo_types.specs.View.{view_ty}
use Rattle.limbo_types.proofs.View.{view_ty-Int}
use Rattle.limbo_members.proofs.Closed.{tag_some}
use Rattle.limbo_members.proofs.closing.tag_of.Goals as goal

pub returns-in_ok-push-in-len1-up : goal.returns-in_ok-push-in-len1-up
returns-in_ok-push-in-len1-up c =
    ap (map view_ty) (c.in_ok-push-in-len1-up.ensures.items ∙ ap (λ ts. ts ++ make.Int ∷ []) c.new-types.ensures.items)
    ∙ ap (λ t. t ∷ []) view_ty-Int ∙ sym (tag_some c.args.picks.now c.in-len1-up.len_at_least)
