use Rattle.std.proofs.Common.{◌++◌, [], map, take, sym, ap, ◌∙◌}
use Rattle.limbo_tree.specs.View as source
use Rattle.limbo_tree.specs.View.{names_of}
use Rattle.limbo_layout.specs.View.{view_variant}
use Rattle.limbo_locals.specs.limbo_local.Members.{bare, named_variants}
use Rattle.limbo_members.proofs.Fielded.{viewed_more, bare_push}
use Rattle.limbo_members.proofs.fields.bare_of.Goals as goal

pub loop-variant-preserved : goal.loop-variant-preserved
loop-variant-preserved c =
    c.in_ok-push_variants.ensures
    ∙ ap (λ ns. map view_variant c.loop-variant.variants.items ++ named_variants (names_of ns) []) c.deref.ensures.value
    ∙ ap (λ vs. vs ++ named_variants (names_of c.variant-item.result.names.items) []) c.loop-variant.invariant
    ∙ sym (bare_push (map source.view_variant (take c.loop-variant.variant-index c.args.all.now)) (source.view_variant
    c.variant-item.result))
    ∙ ap bare (sym (viewed_more source.view_variant c.args.all.now c.loop-variant.variant-index c.variant-item.result
    c.loop-variant-test.true c.variant-item.is))
