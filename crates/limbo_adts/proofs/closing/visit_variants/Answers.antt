use Rattle.std.proofs.Common.{◌≡◌, ◌+◌, ◌++◌, take, map, sym, ap, ◌∙◌, arith}
use Rattle.std.proofs.lemmas.List.{take_more}
use Rattle.limbo_layout.specs.Adts.{types_of, variant_types}
use Rattle.limbo_layout.specs.View.{view_fields, view_variant}
use Rattle.limbo_adts.specs.Closed.{named_in, Visited}
use Rattle.limbo_adts.proofs.Found.{visited_more, variants-push}
use Rattle.limbo_adts.proofs.closing.visit_variants.Goals as goal

pub loop-variant-preserved : goal.loop-variant-preserved
loop-variant-preserved c =
    let vs = c.args.picks.now in
    let i = c.loop-variant.variant-index in
    let e : named_in (variant_types (map view_variant (take (i + 1) vs))) ≡ named_in (variant_types (map view_variant (take i vs))) ++ named_in (types_of (view_fields c.variant-item.result.fields.items)) =
    ap (λ xs. named_in (variant_types (map view_variant xs))) (take_more vs i c.variant-item.result (omega arith)) ∙ variants-push (take i vs) _
    ∙ ap (λ x. named_in (variant_types (map view_variant (take i vs))) ++ named_in (types_of (view_fields x.fields.items))) (sym c.variant-item.is) in
    let v : Visited (named_in (types_of (view_fields c.variant-item.result.fields.items))) c.loop-variant.search.marks.items c.loop-variant.search.found.items c.visit_fields.new.search.marks.items c.visit_fields.new.search.found.items =
    rw c.deref.ensures.value at c.in_ok-visit_fields.ensures in
    rw e (visited_more _ _ _ _ _ _ _ _ c.loop-variant.invariant v)
