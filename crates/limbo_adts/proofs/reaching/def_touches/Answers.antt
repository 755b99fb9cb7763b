use Rattle.std.proofs.Common.{◌≡◌, ◌||◌, true, false, map, sym, ap, ◌∙◌}
use Rattle.limbo_types.specs.View.{view_ty}
use Rattle.limbo_layout.specs.Adts.{Def, types_of, variant_types}
use Rattle.limbo_layout.specs.View.{view_def, view_fields, view_variant}
use Rattle.limbo_adts.specs.Reading.{any_touch}
use Rattle.limbo_adts.proofs.Reach.{any_touch-append}
use Rattle.limbo_adts.proofs.reaching.def_touches.Goals as goal

pub returns-then-fields_touch : goal.returns-then-fields_touch
returns-then-fields_touch c =
    let u = view_ty c.args.u.now in
    let d : Def = view_def c.args.def.now in
    let e : true ≡ any_touch (types_of d.fields) u = sym c.if-fields_touch.true ∙ c.fields_touch.ensures ∙ ap (λ fs. any_touch (types_of (view_fields fs)) u) c.deref.ensures.value in
    c.if-fields_touch.true ∙ ap (λ b. b || any_touch (variant_types d.picks) u) e ∙ sym (any_touch-append u (types_of d.fields) (variant_types d.picks))

pub returns-else-fields_touch : goal.returns-else-fields_touch
returns-else-fields_touch c =
    let u = view_ty c.args.u.now in
    let d : Def = view_def c.args.def.now in
    let e : false ≡ any_touch (types_of d.fields) u = sym c.if-fields_touch.false ∙ c.fields_touch.ensures ∙ ap (λ fs. any_touch (types_of (view_fields fs)) u) c.deref.ensures.value in
    c.variants_touch.ensures ∙ ap (λ vs. any_touch (variant_types (map view_variant vs)) u) c.deref-else-fields_touch.ensures.value
    ∙ ap (λ b. b || any_touch (variant_types d.picks) u) e ∙ sym (any_touch-append u (types_of d.fields) (variant_types d.picks))
