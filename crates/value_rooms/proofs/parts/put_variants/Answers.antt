use Rattle.std.proofs.Common.{◌++◌, List, map, take, ap, ◌∙◌, append_assoc, arith}
use Rattle.limbo_types.specs.Types.{Ty}
use Rattle.limbo_types.specs.View.{view_ty}
use Rattle.limbo_layout.specs.Adts.{types_of, variant_types}
use Rattle.limbo_layout.specs.View.{view_fields, view_variant}
use Rattle.limbo_layout.specs.declared.def.Field as code_field
use Rattle.value_rooms.proofs.Listed.{variants-more}
use Rattle.value_rooms.proofs.parts.put_variants.Goals as goal

pub loop-variant-preserved : goal.loop-variant-preserved
loop-variant-preserved c =
    let v = c.variant-item.result in
    let before = map view_ty c.loop-variant.types.items in
    let own = map view_ty c.args.types.now.items in
    let i = c.loop-variant.variant-index in
    let vs = c.args.picks.now in
    c.in_ok-put_fields.ensures
    ∙ ap (λ (fs : List code_field.Field). before ++ types_of (view_fields fs)) c.deref.ensures.value
    ∙ ap (λ (ts : List Ty). ts ++ types_of (view_fields v.fields.items)) c.loop-variant.invariant
    ∙ append_assoc own (variant_types (map view_variant (take i vs))) (types_of (view_fields v.fields.items))
    ∙ ap (λ (ts : List Ty). own ++ ts) (variants-more vs i v (omega arith) c.variant-item.is)
