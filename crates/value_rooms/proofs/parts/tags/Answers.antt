use Rattle.std.proofs.Common.{◌++◌, ◌∷◌, [], List, Vec, Global, map, ap, ◌∙◌}
use Rattle.limbo_types.specs.Types.{Ty}
use Rattle.limbo_types.specs.View.{view_ty}
use Rattle.limbo_types.specs.declared.ty.Ty as code_ty
use Rattle.limbo_types.specs.declared.ty.Ty.TheVariants as make
use Rattle.limbo_types.proofs.View.{view_ty-Int}
use Rattle.value_rooms.proofs.Listed.{no_tag, one_tag}
use Rattle.value_rooms.proofs.parts.tags.Goals as goal
use Rattle.value_rooms.proofs.parts.tags.Goals.{then-not-is_empty+in_ok-push, else-not-is_empty}

pub returns : goal.returns
returns c = elim c.if-not-is_empty.branch [
  | then-not-is_empty+in_ok-push w ↦
      ap (λ (v : Vec code_ty.Ty Global). map view_ty v.items) w.types-is
      ∙ ap (λ (ts : List code_ty.Ty). map view_ty ts) w.in_ok-push.ensures.items
      ∙ ap (λ (ts : List code_ty.Ty). map view_ty (ts ++ (make.Int ∷ []))) c.new-types.ensures.items
      ∙ ap (λ (t : Ty). t ∷ []) view_ty-Int
      ∙ one_tag c.args.picks.now c.is_empty.result c.is_empty.ensures w.if-not-is_empty.true
  | else-not-is_empty w ↦
      ap (λ (v : Vec code_ty.Ty Global). map view_ty v.items) w.types-is
      ∙ ap (λ (ts : List code_ty.Ty). map view_ty ts) c.new-types.ensures.items
      ∙ no_tag c.args.picks.now c.is_empty.result c.is_empty.ensures w.if-not-is_empty.false
]
