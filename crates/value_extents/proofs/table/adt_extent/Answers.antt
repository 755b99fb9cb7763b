use Rattle.std.proofs.Common.{List, ◌++◌, ap, sym, ◌∙◌, map}
use Rattle.limbo_layout.specs.Adts.{Def, tag, types_of, variant_types}
use Rattle.limbo_layout.specs.View.{view_def, view_fields, view_variant}
use Rattle.limbo_layout.specs.declared.def.Field as code_field
use Rattle.limbo_layout.specs.declared.def.Variant as code_variant
use Rattle.value_extents.specs.Extent.{Extent, all_behind, empty, extents_of, rounded}
use Rattle.value_extents.proofs.Rounds.{behind-types}
use Rattle.value_extents.proofs.table.adt_extent.Goals as goal

pub returns : goal.returns
returns c =
    let table = c.args.table.now in
    let d : Def = view_def c.args.def.now in
    c.rounded.ensures
    ∙ ap rounded (c.variants_behind.ensures
    ∙ ap (λ (vs : List code_variant.Variant). all_behind c.fields_behind-whole.result
    (extents_of table (variant_types (map view_variant vs))))
    c.deref-3.ensures.value
    ∙ ap (λ (w : Extent). all_behind w (extents_of table (variant_types d.picks)))
    (c.fields_behind-whole.ensures
    ∙ ap (λ (fs : List code_field.Field). all_behind c.tagged.result (extents_of table (types_of (view_fields fs)))) c.deref-2.ensures.value
    ∙ ap (λ (w : Extent). all_behind w (extents_of table (types_of d.fields)))
    (c.tagged.ensures table ∙ ap (λ (vs : List code_variant.Variant). all_behind empty (extents_of table (tag (map view_variant vs))))
    c.deref.ensures.value))
    ∙ sym (behind-types table empty (tag d.picks) (types_of d.fields ++ variant_types d.picks)
    ∙ behind-types table (all_behind empty (extents_of table (tag d.picks))) (types_of d.fields) (variant_types d.picks)))
