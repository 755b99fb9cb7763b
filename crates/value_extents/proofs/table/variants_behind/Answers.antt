use Rattle.std.proofs.Common.{List, ◌+◌, ap, sym, ◌∙◌, arith, drop, map}
use Rattle.limbo_layout.specs.Adts.{types_of, variant_types}
use Rattle.limbo_layout.specs.View.{view_fields, view_variant}
use Rattle.limbo_layout.specs.declared.def.Field as code_field
use Rattle.value_extents.specs.Extent.{Extent, all_behind, extents_of}
use Rattle.value_extents.proofs.First.{variant-whole}
use Rattle.value_extents.proofs.table.variants_behind.Goals as goal

pub loop-variant-preserved : goal.loop-variant-preserved
loop-variant-preserved c =
    let table = c.args.table.now in
    let i = c.loop-variant.variant-index in
    let picks = c.args.picks.now in
    ap (λ (w : Extent). all_behind w (extents_of table (variant_types (map view_variant (drop (i + 1) picks)))))
    (c.fields_behind-sum.ensures
    ∙ ap (λ (fs : List code_field.Field). all_behind c.loop-variant.sum (extents_of table (types_of (view_fields fs))))
    c.deref.ensures.value)
    ∙ sym (variant-whole table c.loop-variant.sum picks i c.variant-item.result (omega arith) c.variant-item.is)
    ∙ c.loop-variant.invariant
