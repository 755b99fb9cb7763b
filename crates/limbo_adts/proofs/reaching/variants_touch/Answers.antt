use Rattle.std.proofs.Common.{◌≡◌, ℕ, ◌+◌, ◌++◌, ◌≤◌, ◌||◌, List, length, get_or, map, drop, sym, ap, ◌∙◌, arith}
use Rattle.std.proofs.lemmas.List.{at_drop_more}
use Rattle.limbo_types.specs.Types.{Ty}
use Rattle.limbo_types.specs.View.{view_ty}
use Rattle.limbo_layout.specs.declared.def.Variant as code_variant
use Rattle.limbo_layout.specs.Adts.{types_of, variant_types}
use Rattle.limbo_layout.specs.View.{view_fields, view_variant}
use Rattle.limbo_adts.specs.Reading.{any_touch}
use Rattle.limbo_adts.proofs.Reach.{any_touch-append}
use Rattle.limbo_adts.proofs.reaching.variants_touch.Goals as goal

next_variant : (u : Ty) (picks : List code_variant.Variant) (i : ℕ) (v : code_variant.Variant) → i + 1 ≤ length picks → v ≡ get_or picks i v
    → any_touch (variant_types (map view_variant (drop i picks))) u ≡ (any_touch (types_of (view_fields v.fields.items)) u || any_touch (variant_types (map view_variant (drop (i + 1) picks))) u)
next_variant u picks i v l e =
    let rest = variant_types (map view_variant (drop (i + 1) picks)) in
    at_drop_more (λ vs. any_touch (variant_types (map view_variant vs)) u) picks i v (omega arith)
    ∙ ap (λ x. any_touch (types_of (view_fields x.fields.items) ++ rest) u) (sym e)
    ∙ any_touch-append u (types_of (view_fields v.fields.items)) rest

pub returns-then-fields_touch : goal.returns-then-fields_touch
returns-then-fields_touch c =
    let u = view_ty c.args.u.now in
    let rest = any_touch (variant_types (map view_variant (drop (c.loop-variant.variant-index + 1) c.args.picks.now))) u in
    ap (λ b. b || rest) (c.if-fields_touch.ensures ∙ ap (λ fs. any_touch (types_of (view_fields fs)) u) c.deref.ensures.value)
    ∙ sym (next_variant u c.args.picks.now c.loop-variant.variant-index c.variant-item.result (omega arith) c.variant-item.is)
    ∙ c.loop-variant.invariant

pub loop-variant-preserved : goal.loop-variant-preserved
loop-variant-preserved c =
    let u = view_ty c.args.u.now in
    let rest = any_touch (variant_types (map view_variant (drop (c.loop-variant.variant-index + 1) c.args.picks.now))) u in
    ap (λ b. b || rest) (c.if-fields_touch.ensures ∙ ap (λ fs. any_touch (types_of (view_fields fs)) u) c.deref.ensures.value)
    ∙ sym (next_variant u c.args.picks.now c.loop-variant.variant-index c.variant-item.result (omega arith) c.variant-item.is)
    ∙ c.loop-variant.invariant
