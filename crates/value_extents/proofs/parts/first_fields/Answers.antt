use Rattle.std.proofs.Common.{List, ap, ◌∙◌, take}
use Rattle.std.proofs.lemmas.List.{take_min}
use Rattle.limbo_types.specs.Types.{Ty}
use Rattle.limbo_layout.specs.Adts.{types_of}
use Rattle.limbo_layout.specs.View.{view_fields}
use Rattle.limbo_layout.specs.declared.def.Field as code_field
use Rattle.value_extents.specs.Extent.{all_behind, extents_of}
use Rattle.value_extents.proofs.First.{types-take}
use Rattle.value_extents.proofs.parts.first_fields.Goals as goal

pub returns : goal.returns
returns c =
    let fields = c.args.fields.now in
    c.fields_behind.ensures
    ∙ ap (λ (fs : List code_field.Field). all_behind c.args.whole (extents_of c.args.table.now (types_of (view_fields fs))))
    (ap (λ k. take k fields) c.min.ensures ∙ take_min c.args.count fields)
    ∙ ap (λ (ts : List Ty). all_behind c.args.whole (extents_of c.args.table.now ts)) (types-take c.args.count fields)
