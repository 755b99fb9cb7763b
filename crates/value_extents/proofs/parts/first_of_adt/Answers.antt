use Rattle.std.proofs.Common.{List, ℕ, ◌≡◌, ◌-◌, ◌++◌, length, take, ap, sym, ◌∙◌, map}
use Rattle.limbo_layout.specs.Adts.{Def, tag, types_of, variant_types}
use Rattle.limbo_layout.specs.View.{view_def, view_fields, view_variant}
use Rattle.limbo_layout.specs.declared.def.Field as code_field
use Rattle.limbo_layout.specs.declared.def.Variant as code_variant
use Rattle.value_extents.specs.Extent.{Extent, all_behind, empty, extents_of}
use Rattle.value_extents.proofs.First.{behind-take, types-length}
use Rattle.value_extents.proofs.parts.first_of_adt.Goals as goal

pub returns : goal.returns
returns c =
    let table = c.args.table.now in
    let n = c.args.count in
    let d : Def = view_def c.args.def.now in
    let m = n - length (tag d.picks) in
    let tags : c.saturating_sub-left.result ≡ m =
    c.saturating_sub-left.ensures ∙ ap (λ (k : ℕ). n - k) (c.tags.ensures
    ∙ ap (λ (vs : List code_variant.Variant). length (tag (map view_variant vs))) c.deref-2.ensures.value) in
    let tagged : c.first_tag-tag.result ≡ all_behind empty (extents_of table (take n (tag d.picks))) =
    c.first_tag-tag.ensures table
    ∙ ap (λ (vs : List code_variant.Variant). all_behind empty (extents_of table (take n (tag (map view_variant vs)))))
    c.deref.ensures.value in
    let fields : c.first_fields-sum.result
    ≡ all_behind (all_behind empty (extents_of table (take n (tag d.picks)))) (extents_of table (take m (types_of d.fields))) =
    c.first_fields-sum.ensures
    ∙ ap (λ (fs : List code_field.Field). all_behind c.first_tag-tag.result
    (extents_of table (take c.saturating_sub-left.result (types_of (view_fields fs))))) c.deref-3.ensures.value
    ∙ ap (λ (k : ℕ). all_behind c.first_tag-tag.result (extents_of table (take k (types_of d.fields)))) tags
    ∙ ap (λ (w : Extent). all_behind w (extents_of table (take m (types_of d.fields)))) tagged in
    let left : c.saturating_sub.result ≡ m - length (types_of d.fields) =
    c.saturating_sub.ensures ∙ ap (λ (k : ℕ). k - c.len.result) tags
    ∙ ap (λ (k : ℕ). m - k) (c.len.ensures ∙ sym c.deref-3.ensures.len ∙ ap length c.deref-3.ensures.value
    ∙ sym (types-length c.args.def.now.fields.items)) in
    c.first_of_variants.ensures
    ∙ ap (λ (vs : List code_variant.Variant). all_behind c.first_fields-sum.result
    (extents_of table (take c.saturating_sub.result (variant_types (map view_variant vs))))) c.deref-4.ensures.value
    ∙ ap (λ (k : ℕ). all_behind c.first_fields-sum.result (extents_of table (take k (variant_types d.picks)))) left
    ∙ ap (λ (w : Extent). all_behind w (extents_of table (take (m - length (types_of d.fields)) (variant_types d.picks)))) fields
    ∙ sym (behind-take table empty n (tag d.picks) (types_of d.fields ++ variant_types d.picks)
    ∙ behind-take table (all_behind empty (extents_of table (take n (tag d.picks)))) m (types_of d.fields) (variant_types d.picks))
