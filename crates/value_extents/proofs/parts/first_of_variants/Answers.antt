use Rattle.std.proofs.Common.{List, ℕ, ◌-◌, ◌+◌, ap, sym, ◌∙◌, arith, take, drop, map, length}
use Rattle.limbo_layout.specs.Adts.{types_of, variant_types}
use Rattle.limbo_layout.specs.View.{view_fields, view_variant}
use Rattle.limbo_layout.specs.declared.def.Field as code_field
use Rattle.value_extents.specs.Extent.{Extent, all_behind, extents_of}
use Rattle.value_extents.proofs.First.{variant-next}
use Rattle.value_extents.proofs.parts.first_of_variants.Goals as goal

pub loop-variant-preserved : goal.loop-variant-preserved
loop-variant-preserved c =
    let table = c.args.table.now in
    let i = c.loop-variant.variant-index in
    let picks = c.args.picks.now in
    let rest = variant_types (map view_variant (drop (i + 1) picks)) in
    ap (λ (w : Extent). all_behind w (extents_of table (take c.saturating_sub-left.result rest)))
    (c.first_fields-sum.ensures
    ∙ ap (λ (fs : List code_field.Field). all_behind c.loop-variant.sum
    (extents_of table (take c.loop-variant.left (types_of (view_fields fs)))))
    c.deref.ensures.value)
    ∙ ap (λ (n : ℕ). all_behind (all_behind c.loop-variant.sum (extents_of table
    (take c.loop-variant.left (types_of (view_fields c.variant-item.result.fields.items))))) (extents_of table (take n rest)))
    (c.saturating_sub-left.ensures ∙ ap (λ (n : ℕ). c.loop-variant.left - n)
    (c.len.ensures ∙ sym c.deref.ensures.len ∙ ap length c.deref.ensures.value))
    ∙ sym (variant-next table c.loop-variant.sum picks i c.variant-item.result (omega arith) c.variant-item.is c.loop-variant.left)
    ∙ c.loop-variant.invariant
